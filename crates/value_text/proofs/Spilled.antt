-- Whole lists of values, by how they are passed.
use Rattle.std.proofs.Common.{◌≡◌, inl, inr, ◌≤◌, ◌+◌, ℕ, zero, suc, true, false, IsTrue, Option, None, Some, List, [], ◌∷◌, map, length, length-append, refl, sym, ap, ◌∙◌, subst, arith}
use Rattle.std.specs.Int.{next_multiple_of}
use Rattle.std.specs.List.{list_all}
use Rattle.std.specs.Prelude.{is_some, OnSome, IfNone}
use Rattle.std.proofs.lemmas.List.{length-map}
use Rattle.value_text.specs.Function.{json_of, members_json}
use Rattle.value_text.specs.Flats.{result_text}
use Rattle.value_text.proofs.Carried.{known-below}
use Rattle.canonical_abi.specs.Flat.{Denotes, Lifts, FieldsLift, SpilledHold}
use Rattle.canonical_abi.specs.Labelled.{LabelledType, closed, closed_members}
use Rattle.canonical_abi.specs.Layout.{flat_kinds, field_kinds, fits_flat, max_flat_results, size, align}
use Rattle.canonical_abi.specs.Memory.{Holds, FieldsHold}
use Rattle.canonical_abi.specs.Reading.{kind_of, number_of, low_bits}
use Rattle.canonical_abi.specs.Types.{Fields, record_type, nth_field}
use Rattle.canonical_abi.specs.Values.{Value}
use Rattle.canonical_abi.specs.declared.flat.CoreKind.TheVariants as core
use Rattle.canonical_abi.specs.declared.flat.Flat.{Flat}
use Rattle.lift_lower.proofs.OneFieldRecords.{first-place, alone-size}
use Rattle.lift_lower.proofs.PlacesOfFields.{end_before, end-whole}
use Rattle.serde_json.specs.Written.{compact_text}
use Rattle.tables.proofs.ClosedTypesRowByRow.{split}
use Rattle.tables.proofs.ErasesToClosed.{erases}
use Rattle.tables.specs.Closed.{closed_type}
use Rattle.tables.specs.Labelled.{labelled_val, labelled_type, labelled_types, labelled_members}
use Rattle.tables.specs.Tables.{is_below, is_type}
use Rattle.tables.specs.declared.tables.Definition.{Definition}
use Rattle.tables.specs.declared.tables.Resolve.{Resolve}
use Rattle.tables.specs.declared.tables.ValType.{ValType}
use Rattle.values.proofs.FieldsFromAPlace.{fields-inside}
use Rattle.values.proofs.TypesExtents.{fields-fit}
use Rattle.values.specs.Members.{fields_of_types}
use Rattle.value_text.proofs.Elements.{IsAt}

-- types side by side, with labels or without
pub types-erased : (r : Resolve) (ts : List ValType) → fields_of_types r ts ≡ closed_members (labelled_members (labelled_types r) ts)
types-erased r [] = refl
types-erased r (t ∷ ts) = rw (sym (erases r t), types-erased r ts) refl

module _ (limit : ℕ) (ts : Fields) (m : List ℕ) (flats : List Flat) (vs : List Value) where
  pub go-flat : fits_flat limit ts ≡ true → Denotes limit ts m flats vs → (length flats ≡ length (field_kinds ts)) × FieldsLift ts m (map number_of flats) vs
  go-flat fits (kinds, inl (_, lifts)) =
      let same : map kind_of flats ≡ field_kinds ts = rw fits at kinds in
      (sym (length-map flats kind_of) ∙ ap length same, lifts)
  go-flat fits (kinds, inr (other, spilled)) = let both : true ≡ false = sym fits ∙ other in absurd (cc)

  pub go-spilled : fits_flat limit ts ≡ false → Denotes limit ts m flats vs → (length flats ≡ 1) × SpilledHold ts m (map number_of flats) vs
  go-spilled fits (kinds, inr (_, spilled)) =
      let same : map kind_of flats ≡ core.I32 ∷ [] = rw fits at kinds in
      (sym (length-map flats kind_of) ∙ ap length same, spilled)
  go-spilled fits (kinds, inl (other, lifts)) = let both : true ≡ false = sym other ∙ fits in absurd (cc)

-- ---- the fields of a record in memory

module _ (rows : List LabelledType) where
  pub nth-member : (ts : List ValType) (i : ℕ) (t : ValType) → IsAt ts i t → nth_field (closed_members (labelled_members rows ts)) i ≡ Some (closed (labelled_val rows t))
  nth-member [] i t at = absurd at
  nth-member (u ∷ ts) zero t at = ap (λ x. Some (closed (labelled_val rows x))) at
  nth-member (u ∷ ts) (suc i) t at = nth-member ts i t at

  pub member-held : (ts : List ValType) (m : List ℕ) (a from : ℕ) (vs : List Value) (i : ℕ) (t : ValType) → IsAt ts i t → FieldsHold (closed_members (labelled_members rows ts)) m a from vs
      → (v : Value) × Holds (closed (labelled_val rows t)) m (a + next_multiple_of (end_before from i (closed_members (labelled_members rows ts))) (align (closed (labelled_val rows t)))) v × IsAt vs i v
  member-held [] m a from vs i t at h = absurd at
  member-held (u ∷ ts) m a from vs zero t at (v, rest, is, here, more) =
      (v, subst (λ x. Holds (closed (labelled_val rows x)) m (a + next_multiple_of from (align (closed (labelled_val rows x)))) v) at here, subst (λ xs. IsAt xs 0 v) (sym is) refl)
  member-held (u ∷ ts) m a from vs (suc i) t at (v, rest, is, here, more) =
      let c = closed (labelled_val rows u) in
      let (w, holds, there) = member-held ts m a (next_multiple_of from (align c) + size c) rest i t at more in
      (w, holds, subst (λ xs. IsAt xs (suc i) w) (sym is) there)

  -- a field ends inside the record
  pub member-inside : (ts : List ValType) (i : ℕ) (t : ValType) → IsAt ts i t
      → next_multiple_of (end_before 0 i (closed_members (labelled_members rows ts))) (align (closed (labelled_val rows t))) + size (closed (labelled_val rows t))
      ≤ size (record_type (closed_members (labelled_members rows ts)))
  member-inside ts i t at =
      let fs = closed_members (labelled_members rows ts) in
      let less = fields-inside fs i (closed (labelled_val rows t)) (end_before 0 i fs) _ (nth-member ts i t at) (end-whole 0 i fs) in
      omega (arith, less, fields-fit fs)

  pub held-many : (ts : List ValType) (m : List ℕ) (a from : ℕ) (vs : List Value) → FieldsHold (closed_members (labelled_members rows ts)) m a from vs → length (members_json (labelled_members rows ts) vs) ≡ length ts
  held-many [] m a from vs h = refl
  held-many (u ∷ ts) m a from vs (v, rest, is, here, more) =
      let c = closed (labelled_val rows u) in
      ap (λ xs. length (members_json (labelled_members rows (u ∷ ts)) xs)) is ∙ ap suc (held-many ts m a (next_multiple_of from (align c) + size c) rest more)

-- ---- tests of lists of types

pub all-below : (ds : List Definition) (ts : List ValType) → IsTrue (list_all (is_type ds) ts) → list_all (is_below (length ds)) ts ≡ true
all-below ds [] h = refl
all-below ds (t ∷ ts) h =
    let both = split (is_type ds t) (list_all (is_type ds) ts) h in
    rw (known-below ds t both.0, all-below ds ts both.1) refl

pub on-some : (o : Option ℕ) (P : Type 0) → is_some o ≡ true → OnSome o P → P
on-some None P e h = absurd (let n : false ≡ true = e in cc)
on-some (Some n) P e h = h

pub if-none : (o : Option ℕ) (P : Type 0) → is_some o ≡ false → IfNone o P → P
if-none None P e h = h
if-none (Some n) P e h = absurd (let n : true ≡ false = e in cc)

-- ---- one value alone

module _ (r : Resolve) (t : ValType) (m : List ℕ) (flats : List Flat) (vs : List Value) where
  pub alone-flat : fits_flat max_flat_results (fields_of_types r (t ∷ [])) ≡ true → Denotes max_flat_results (fields_of_types r (t ∷ [])) m flats vs
      → (length (flat_kinds (closed (labelled_type r t))) ≤ length flats)
      × ((v : Value) × Lifts (closed (labelled_type r t)) m (map number_of flats) v × (result_text r (Some t) vs ≡ compact_text (json_of (labelled_type r t) v)))
  alone-flat fits den =
      let (len, (v, rest, is, lifts, none)) = go-flat max_flat_results (fields_of_types r (t ∷ [])) m flats vs fits den in
      let kinds = ap (λ x. length (flat_kinds x)) (erases r t) in
      (omega (arith, len, kinds, length-append (flat_kinds (closed_type r t)) []), (v, subst (λ x. Lifts x m (map number_of flats) v) (sym (erases r t)) lifts, ap (result_text r (Some t)) is))

  pub alone-spilled : (n : ℕ) → n ≡ low_bits (map number_of flats) 0 32 → fits_flat max_flat_results (fields_of_types r (t ∷ [])) ≡ false → Denotes max_flat_results (fields_of_types r (t ∷ [])) m flats vs
      → (n + size (closed (labelled_type r t)) ≤ length m)
      × ((v : Value) × Holds (closed (labelled_type r t)) m n v × (result_text r (Some t) vs ≡ compact_text (json_of (labelled_type r t) v)))
  alone-spilled n low fits den =
      let (len, (block, (v, rest, is, holds, none))) = go-spilled max_flat_results (fields_of_types r (t ∷ [])) m flats vs fits den in
      let c = closed_type r t in
      let sized = ap size (erases r t) in
      let first = first-place c in
      let here : low_bits (map number_of flats) 0 32 + next_multiple_of 0 (align c) ≡ n = omega (arith, first, low) in
      (omega (arith, block.1, alone-size c, sized, low), (v, subst (λ x. Holds x m n v) (sym (erases r t)) (subst (λ a. Holds c m a v) here holds), ap (result_text r (Some t)) is))
