-- What a loop over the members of a record keeps.
use Rattle.std.proofs.Common.{◌≡◌, ℕ, ◌+◌, ◌<◌, ◌≤◌, inl, inr, max, min, List, [], ◌∷◌, ◌++◌, length, take, get_or, refl, ap, ◌∙◌, arith}
use Rattle.std.specs.Int.{next_multiple_of}
use Rattle.std.proofs.lemmas.Bool.{cases_lt}
use Rattle.std.proofs.lemmas.List.{map-append}
use Rattle.std.proofs.lemmas.List.Sums.{fold-append}
use Rattle.std.proofs.lemmas.Grind.{take_at_read}
use Rattle.canonical_abi.specs.Layout.{Extent, places_from, end_from}
use Rattle.canonical_abi.proofs.Layouts.LeastPlaces.{le-next_multiple_of}
use Rattle.tables.specs.declared.tables.ValType.{ValType}
use Rattle.layout.specs.Kinds.{kinds_of, append_kinds}
use Rattle.layout.specs.Layout.{IsSound}
use Rattle.layout.specs.Rows.{row_in, rows_at, extent_in, extents, row_with, AreLaid}
use Rattle.layout.specs.declared.rows.Row.{Row}
use Rattle.layout.specs.declared.kinds.Kinds.{Kinds}
use Rattle.layout.proofs.FlatKindsCutAtSixteen.{fits-append}

places_from-push : (n : ℕ) (xs : List Extent) (x : Extent) → places_from n (xs ++ x ∷ []) ≡ places_from n xs ++ next_multiple_of (end_from n xs) x.align ∷ []
places_from-push n [] x = refl
places_from-push n (y ∷ ys) x = ap (λ (ps : List ℕ). next_multiple_of n y.align ∷ ps) (places_from-push (next_multiple_of n y.align + y.size) ys x)

pub rows_at-more : {A : Type 0} (rows : List Row) (ty : A → ValType) (xs : List A) (i : ℕ) (d : A) → i < length xs
    → rows_at rows ty (take (i + 1) xs) ≡ rows_at rows ty (take i xs) ++ row_in rows (ty (get_or xs i d)) ∷ []
rows_at-more rows ty xs i d h = rw (take_at_read xs i d h).1 (map-append (λ a. row_in rows (ty a)) (take i xs) (get_or xs i d ∷ []))

capped-end : (e a s : ℕ) → min (next_multiple_of (min e 16777217) a + s) 16777217 ≡ min (next_multiple_of e a + s) 16777217
capped-end e a s = elim (cases_lt e 16777217) [
  | inl l ↦ let same : min e 16777217 ≡ e = omega arith in rw same refl
  | inr g ↦
      let low = le-next_multiple_of (min e 16777217) a in
      let high = le-next_multiple_of e a in
      omega arith
]

pub record_more : {rows rows' : List Row} (r : Row) {laid laid' : Row} (place : ℕ) {offsets offsets' : List ℕ}
    → AreLaid rows laid offsets → IsSound r
    → rows' ≡ rows ++ r ∷ [] → place ≡ next_multiple_of laid.size r.align → laid' ≡ row_with laid place r → offsets' ≡ offsets ++ place ∷ []
    → AreLaid rows' laid' offsets'
record_more {rows} {rows'} r {laid} {laid'} place {offsets} {offsets'} so_far sound rows_are place_is laid_is offsets_are =
    let split : extents rows' ≡ extents rows ++ extent_in r ∷ [] = rw rows_are (map-append extent_in rows (r ∷ [])) in
    let whole : end_from 0 (extents rows') ≡ next_multiple_of (end_from 0 (extents rows)) r.align + r.size =
    rw (split, fold-append (λ (end : ℕ) (f : Extent). next_multiple_of end f.align + f.size) 0 (extents rows) (extent_in r ∷ [])) refl in
    let depth' : laid'.depth ≡ max laid.depth r.depth = ap (λ (x : Row). x.depth) laid_is in
    let size' : laid'.size ≡ min (place + r.size) 16777217 = ap (λ (x : Row). x.size) laid_is in
    let align' : laid'.align ≡ max laid.align r.align = ap (λ (x : Row). x.align) laid_is in
    let kinds' : laid'.kinds ≡ append_kinds laid.kinds r.kinds = ap (λ (x : Row). x.kinds) laid_is in
    record {
      depth_is = rw (rows_are, fold-append (λ (n : ℕ) (x : Row). max n x.depth) 0 rows (r ∷ []), ← so_far.depth_is) depth';
      depth_fits = omega (arith, so_far.depth_fits, sound.depth);
      size_is = rw whole (size' ∙ ap (λ (p : ℕ). min (p + r.size) 16777217) (place_is ∙ ap (λ (e : ℕ). next_multiple_of e r.align) so_far.size_is) ∙ capped-end (end_from 0 (extents rows)) r.align r.size);
      align_is = rw (split, fold-append (λ (n : ℕ) (x : Extent). max n x.align) 1 (extents rows) (extent_in r ∷ []), ← so_far.align_is) align';
      least = omega (arith, so_far.least);
      most = omega (arith, so_far.most, sound.most_align);
      kinds_is = rw (rows_are, fold-append (λ (ks : Kinds) (r : Row). append_kinds ks r.kinds) (kinds_of []) rows (r ∷ []), ← so_far.kinds_is) kinds';
      fits = rw kinds' (fits-append laid.kinds r.kinds);
      offsets_are = λ h.
          let up = le-next_multiple_of laid.size r.align in
          let within : laid.size ≤ 16777216 = omega arith in
          let same : laid.size ≡ end_from 0 (extents rows) = omega (arith, so_far.size_is) in
          rw (split, places_from-push 0 (extents rows) (extent_in r), ← same, ← so_far.offsets_are within, ← place_is) offsets_are;
    }
