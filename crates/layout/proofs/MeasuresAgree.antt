-- Where two measures of room agree on the types before a place, what stands in a definition there is the same.
use Rattle.std.proofs.Common.{◌≡◌, ℕ, ◌+◌, ◌<◌, ◌≤◌, IsTrue, List, [], ◌∷◌, ◌++◌, Option, None, Some, length, map, take, get_or, refl, ap, ◌∙◌, arith}
use Rattle.std.specs.Option.{option_map}
use Rattle.std.specs.List.{list_all}
use Rattle.std.proofs.lemmas.List.{length-append}
use Rattle.std.proofs.lemmas.List.Folds.{list_all-map}
use Rattle.std.proofs.lemmas.Grind.{take_at_read}
use Rattle.canonical_abi.specs.Layout.{Extent, extent_of, places_from, payload_at}
use Rattle.tables.specs.Tables.{is_below, option_below, kind_below, definition_below}
use Rattle.tables.specs.Closed.{closed_type, closed_rows}
use Rattle.tables.specs.declared.tables.ValType.{ValType}
use Rattle.tables.specs.declared.tables.TypeDefKind.{TypeDefKind}
use Rattle.tables.specs.declared.tables.TypeDefKind.TheVariants as kind
use Rattle.tables.specs.declared.tables.Definition.{Definition}
use Rattle.tables.specs.declared.tables.Definition.TheVariants as row
use Rattle.tables.specs.declared.tables.Resolve.{Resolve}
use Rattle.tables.proofs.ClosedTypesRowByRow.{split, closed_val-stays}
use Rattle.layout.specs.Parts.{payloads, record_parts, variant_parts, kind_parts, definition_parts, parts_from}
use Rattle.layout.specs.Layout.{row_of}
use Rattle.layout.specs.Rows.{extent_in, extent_at}
use Rattle.layout.specs.Standing.{Parts}
use Rattle.layout.specs.Standing as parts
use Rattle.layout.specs.declared.rows.Row.{Row}
use Rattle.layout.proofs.RowsOfClosedTypes.{row_in-of}

-- below place n
abbrev pub Agree : {X : Type 0} → ℕ → (ValType → X) → (ValType → X) → Type 0
Agree n e f = (v : ValType) → IsTrue (is_below n v) → e v ≡ f v

module _ {X : Type 0} (n : ℕ) (e f : ValType → X) (agree : Agree n e f) where
  pub types-agree : (vs : List ValType) → IsTrue (list_all (is_below n) vs) → map e vs ≡ map f vs
  types-agree [] h = refl
  types-agree (v ∷ vs) h =
      let hs = split (is_below n v) (list_all (is_below n) vs) h in
      rw (agree v hs.0, types-agree vs hs.1) refl

  pub payload-agrees : (o : Option ValType) → IsTrue (option_below n o) → option_map e o ≡ option_map f o
  payload-agrees None h = refl
  payload-agrees (Some v) h = ap (λ (x : X). Some x) (agree v h)

  pub payloads-agree : (os : List (Option ValType)) → IsTrue (list_all (option_below n) os) → map (option_map e) os ≡ map (option_map f) os
  payloads-agree [] h = refl
  payloads-agree (o ∷ os) h =
      let hs = split (option_below n o) (list_all (option_below n) os) h in
      rw (payload-agrees o hs.0, payloads-agree os hs.1) refl

-- the types of members, one by one
pub mapped : (n : ℕ) {A : Type 0} (ty : A → ValType) (xs : List A) → IsTrue (list_all (λ x. is_below n (ty x)) xs) → IsTrue (list_all (is_below n) (map ty xs))
mapped n ty xs h = list_all-map (is_below n) ty xs ∙ h

pub mapped-options : (n : ℕ) {A : Type 0} (pay : A → Option ValType) (xs : List A) → IsTrue (list_all (λ x. option_below n (pay x)) xs) → IsTrue (list_all (option_below n) (map pay xs))
mapped-options n pay xs h = list_all-map (option_below n) pay xs ∙ h

pub no-payloads : (n : ℕ) {A : Type 0} (xs : List A) → IsTrue (list_all (option_below n) (map (λ x. None) xs))
no-payloads n [] = refl
no-payloads n (x ∷ xs) = no-payloads n xs

module _ (n : ℕ) (e f : ValType → Extent) (agree : Agree n e f) where
  record-agrees : (vs : List ValType) → IsTrue (list_all (is_below n) vs) → record_parts e vs ≡ record_parts f vs
  record-agrees vs h = ap (λ (xs : List Extent). parts.Record vs (places_from 0 xs)) (types-agree n e f agree vs h)

  variant-agrees : (os : List (Option ValType)) → IsTrue (list_all (option_below n) os) → variant_parts e os ≡ variant_parts f os
  variant-agrees os h = ap (λ (xs : List (Option Extent)). parts.Variant (payload_at (length os) (payloads xs)) os) (payloads-agree n e f agree os h)

  kind-agrees : (ps : List Parts) (k : TypeDefKind) → IsTrue (kind_below n k) → kind_parts e ps k ≡ kind_parts f ps k
  kind-agrees ps (kind.Use t) h = refl
  kind-agrees ps (kind.Alias v) h = refl
  kind-agrees ps (kind.List v) h = refl
  kind-agrees ps (kind.Option v) h = variant-agrees (None ∷ Some v ∷ []) (rw h refl)
  kind-agrees ps (kind.Result ok error) h =
      let hs = split (option_below n ok) (option_below n error) h in
      variant-agrees (ok ∷ error ∷ []) (rw (hs.0, hs.1) refl)
  kind-agrees ps (kind.Tuple vs) h = record-agrees vs h
  kind-agrees ps (kind.Record fs) h = record-agrees (map (λ f. f.ty) fs) (mapped n (λ f. f.ty) fs h)
  kind-agrees ps (kind.Variant cs) h = variant-agrees (map (λ c. c.ty) cs) (mapped-options n (λ c. c.ty) cs h)
  kind-agrees ps (kind.Enum names) h = variant-agrees (map (λ n. None) names) (no-payloads n names)
  kind-agrees ps (kind.Flags names) h = refl

  pub definition-agrees : (ps : List Parts) (d : Definition) → IsTrue (definition_below n d) → definition_parts e ps d ≡ definition_parts f ps d
  definition-agrees ps (row.Type d) h = kind-agrees ps d.kind h
  definition-agrees ps (row.Function g) h =
      record-agrees (map (λ p. p.ty) g.params) (mapped n (λ p. p.ty) g.params (split (list_all (λ p. is_below n p.ty) g.params) (option_below n g.result) h).0)

-- the first rows and the whole table agree on the types before them
pub rows-agree : (r : Resolve) (i : ℕ) (rows : List Row) → i ≤ length r.definitions → rows ≡ map row_of (closed_rows [] (take i r.definitions))
    → Agree i (extent_at rows) (λ v. extent_of (closed_type r v))
rows-agree r i rows h e v below =
    ap (λ (rs : List Row). extent_at rs v) e
    ∙ ap extent_in (row_in-of (closed_rows [] (take i r.definitions)) v)
    ∙ ap extent_of (closed_val-stays r.definitions i v h below)

pub parts_from-append : (e : ValType → Extent) (ps : List Parts) (ds es : List Definition) → parts_from e ps (ds ++ es) ≡ parts_from e (parts_from e ps ds) es
parts_from-append e ps [] es = refl
parts_from-append e ps (d ∷ ds) es = parts_from-append e (ps ++ definition_parts e ps d ∷ []) ds es

pub length-parts : (e : ValType → Extent) (ps : List Parts) (ds : List Definition) → length (parts_from e ps ds) ≡ length ps + length ds
length-parts e ps [] = omega arith
length-parts e ps (d ∷ ds) =
    let rest = length-parts e (ps ++ definition_parts e ps d ∷ []) ds in
    omega (arith, length-append ps (definition_parts e ps d ∷ []))

pub parts-more : (e : ValType → Extent) (ds : List Definition) (i : ℕ) (d : Definition) → i < length ds
    → parts_from e [] (take (i + 1) ds) ≡ parts_from e [] (take i ds) ++ definition_parts e (parts_from e [] (take i ds)) (get_or ds i d) ∷ []
parts-more e ds i d h = rw ((take_at_read ds i d h).1) (parts_from-append e [] (take i ds) (get_or ds i d ∷ []))
