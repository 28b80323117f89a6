-- What a loop over the cases of a variant keeps.
use Rattle.std.proofs.Common.{◌≡◌, ℕ, ◌+◌, ◌<◌, max, List, [], ◌∷◌, ◌++◌, Option, None, Some, length, take, get_or, refl, ap, ◌∙◌, arith}
use Rattle.std.proofs.lemmas.List.{map-append, append-nil}
use Rattle.std.proofs.lemmas.List.Sums.{fold-append}
use Rattle.std.proofs.lemmas.Grind.{take_at_read}
use Rattle.std.specs.Option.{option_map}
use Rattle.canonical_abi.specs.Layout.{Extent}
use Rattle.tables.specs.declared.tables.ValType.{ValType}
use Rattle.layout.specs.Kinds.{kinds_of, join_kinds}
use Rattle.layout.specs.Layout.{IsSound}
use Rattle.layout.specs.Parts.{payloads}
use Rattle.layout.specs.Rows.{row_in, choices_at, extent_in, extents, joined_rows, AreJoined}
use Rattle.layout.specs.declared.rows.Row.{Row}
use Rattle.layout.specs.declared.kinds.Kinds.{Kinds}

payloads-push : {A : Type 0} (cs : List (Option A)) (c : Option A) → payloads (cs ++ c ∷ []) ≡ payloads cs ++ payloads (c ∷ [])
payloads-push [] c = refl
payloads-push (None ∷ cs) c = payloads-push cs c
payloads-push (Some x ∷ cs) c = ap (λ xs. x ∷ xs) (payloads-push cs c)

choices_at-more : {A : Type 0} (rows : List Row) (payload : A → Option ValType) (xs : List A) (i : ℕ) (d : A) → i < length xs
    → payloads (choices_at rows payload (take (i + 1) xs))
    ≡ payloads (choices_at rows payload (take i xs)) ++ payloads (option_map (row_in rows) (payload (get_or xs i d)) ∷ [])
choices_at-more rows payload xs i d h =
    rw ((take_at_read xs i d h).1, map-append (λ x. option_map (row_in rows) (payload x)) (take i xs) (get_or xs i d ∷ []))
    (payloads-push (choices_at rows payload (take i xs)) (option_map (row_in rows) (payload (get_or xs i d))))

pub variant_more : {rows rows' : List Row} (r : Row) {joined joined' : Row}
    → AreJoined rows joined → IsSound r → rows' ≡ rows ++ r ∷ [] → joined' ≡ joined_rows joined r
    → AreJoined rows' joined'
variant_more {rows} {rows'} r {joined} {joined'} so_far sound rows_are joined_is =
    let split : extents rows' ≡ extents rows ++ extent_in r ∷ [] = rw rows_are (map-append extent_in rows (r ∷ [])) in
    let depth' : joined'.depth ≡ max joined.depth r.depth = ap (λ (x : Row). x.depth) joined_is in
    let size' : joined'.size ≡ max joined.size r.size = ap (λ (x : Row). x.size) joined_is in
    let align' : joined'.align ≡ max joined.align r.align = ap (λ (x : Row). x.align) joined_is in
    let kinds' : joined'.kinds ≡ join_kinds joined.kinds r.kinds = ap (λ (x : Row). x.kinds) joined_is in
    record {
      depth_is = rw (rows_are, fold-append (λ (n : ℕ) (x : Row). max n x.depth) 0 rows (r ∷ []), ← so_far.depth_is) depth';
      depth_fits = omega (arith, so_far.depth_fits, sound.depth);
      size_is = rw (split, fold-append (λ (n : ℕ) (x : Extent). max n x.size) 0 (extents rows) (extent_in r ∷ []), ← so_far.size_is) size';
      size_fits = omega (arith, so_far.size_fits, sound.size);
      align_is = rw (split, fold-append (λ (n : ℕ) (x : Extent). max n x.align) 1 (extents rows) (extent_in r ∷ []), ← so_far.align_is) align';
      least = omega (arith, so_far.least);
      most = omega (arith, so_far.most, sound.most_align);
      kinds_is = rw (rows_are, fold-append (λ (ks : Kinds) (r : Row). join_kinds ks r.kinds) (kinds_of []) rows (r ∷ []), ← so_far.kinds_is) kinds';
    }

pub choices_at-some : {A : Type 0} (rows : List Row) (payload : A → Option ValType) (xs : List A) (i : ℕ) (d : A) (v : ValType) → i < length xs
    → payload (get_or xs i d) ≡ Some v
    → payloads (choices_at rows payload (take (i + 1) xs)) ≡ payloads (choices_at rows payload (take i xs)) ++ row_in rows v ∷ []
choices_at-some rows payload xs i d v h is =
    choices_at-more rows payload xs i d h
    ∙ ap (λ c. payloads (choices_at rows payload (take i xs)) ++ payloads (option_map (row_in rows) c ∷ [])) is

pub choices_at-none : {A : Type 0} (rows : List Row) (payload : A → Option ValType) (xs : List A) (i : ℕ) (d : A) → i < length xs
    → payload (get_or xs i d) ≡ None
    → payloads (choices_at rows payload (take (i + 1) xs)) ≡ payloads (choices_at rows payload (take i xs))
choices_at-none rows payload xs i d h is =
    choices_at-more rows payload xs i d h
    ∙ ap (λ c. payloads (choices_at rows payload (take i xs)) ++ payloads (option_map (row_in rows) c ∷ [])) is
    ∙ append-nil (payloads (choices_at rows payload (take i xs)))
