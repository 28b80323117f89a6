-- What is told of a type by its parts is true of its closed type.
use Rattle.std.proofs.Common.{◌≡◌, ℕ, zero, suc, ◌+◌, ◌≤◌, IsTrue, List, [], ◌∷◌, Option, None, Some, length, map, slice_get, refl, ap, sym, subst, ◌∙◌, arith}
use Rattle.std.specs.Option.{option_map}
use Rattle.std.specs.List.{list_all}
use Rattle.std.specs.Int.{next_multiple_of}
use Rattle.std.proofs.lemmas.Bool.{ltb-true}
use Rattle.std.proofs.lemmas.List.{length-map}
use Rattle.canonical_abi.specs.Types.{ClosedType, Fields, no_field, field, Cases, fields_of, cases_of, field_count, case_count, nth_field, nth_case, record_fields, variant_cases}
use Rattle.canonical_abi.specs.Layout.{extent_of, field_extents, places_from, field_places, payload_place}
use Rattle.tables.specs.Tables.{is_below, option_below}
use Rattle.tables.specs.Closed.{closed_type, closed_types}
use Rattle.tables.specs.declared.tables.ValType.{ValType}
use Rattle.tables.specs.declared.tables.ValType.TheVariants as val
use Rattle.tables.specs.declared.tables.Owner.TheVariants as owner
use Rattle.tables.specs.declared.tables.Definition.{Definition}
use Rattle.tables.specs.declared.tables.Definition.TheVariants as row
use Rattle.tables.specs.declared.tables.Resolve.{Resolve}
use Rattle.tables.proofs.ClosedTypesRowByRow.{split, is_below-later, option_below-later, length-closed_rows}
use Rattle.layout.specs.Parts.{final_type, is_end, is_no_name, AreEnded, parts_from}
use Rattle.layout.specs.Layout.{row_of, LayoutTable, layouts_of}
use Rattle.layout.specs.Queries.{IsShaped, TellsField, TellsCase, shape_by, shape_of, field_info_by, field_info_of, field_placed, case_info_by, case_at, case_info_of, PartsStand}
use Rattle.layout.specs.Standing.{Parts}
use Rattle.layout.specs.Standing as parts
use Rattle.layout.specs.declared.rows.Row.{Row}
use Rattle.layout.specs.declared.queries.Shape.{Shape}
use Rattle.layout.specs.declared.queries.FieldInfo.{FieldInfo}
use Rattle.layout.specs.declared.queries.CaseInfo.{CaseInfo}
use Rattle.layout.proofs.LaidSoFar.{end-ends}
use Rattle.layout.proofs.PartsStandForClosedTypes.{parts-stand, ends-whole}

module _ (c : ValType → ClosedType) where
  count-fields : (vs : List ValType) → field_count (fields_of (map c vs)) ≡ length vs
  count-fields [] = refl
  count-fields (v ∷ vs) = ap suc (count-fields vs)

  count-cases : (os : List (Option ValType)) → case_count (cases_of (map (option_map c) os)) ≡ length os
  count-cases [] = refl
  count-cases (None ∷ os) = ap suc (count-cases os)
  count-cases (Some v ∷ os) = ap suc (count-cases os)

  nth-fields : (vs : List ValType) (i : ℕ) → nth_field (fields_of (map c vs)) i ≡ option_map c (slice_get vs i)
  nth-fields [] i = refl
  nth-fields (v ∷ vs) zero = refl
  nth-fields (v ∷ vs) (suc i) = nth-fields vs i

  nth-cases : (os : List (Option ValType)) (i : ℕ) → nth_case (cases_of (map (option_map c) os)) i ≡ option_map (option_map c) (slice_get os i)
  nth-cases [] i = refl
  nth-cases (None ∷ os) zero = refl
  nth-cases (Some v ∷ os) zero = refl
  nth-cases (None ∷ os) (suc i) = nth-cases os i
  nth-cases (Some v ∷ os) (suc i) = nth-cases os i

  -- as many places as fields
  length-places : (n : ℕ) (vs : List ValType) → length (places_from n (field_extents (fields_of (map c vs)))) ≡ length vs
  length-places n [] = refl
  length-places n (v ∷ vs) = ap suc (length-places (next_multiple_of n (extent_of (c v)).align + (extent_of (c v)).size) vs)

below-all : (n : ℕ) (vs : List ValType) (i : ℕ) (v : ValType) → IsTrue (list_all (is_below n) vs) → slice_get vs i ≡ Some v → IsTrue (is_below n v)
below-all n [] i v h e = absurd (cc)
below-all n (w ∷ vs) zero v h e =
    let same : w ≡ v = cc in
    subst (λ (u : ValType). IsTrue (is_below n u)) same (split (is_below n w) (list_all (is_below n) vs) h).0
below-all n (w ∷ vs) (suc i) v h e = below-all n vs i v (split (is_below n w) (list_all (is_below n) vs) h).1 e

below-options : (n : ℕ) (os : List (Option ValType)) (i : ℕ) (o : Option ValType) → IsTrue (list_all (option_below n) os) → slice_get os i ≡ Some o → IsTrue (option_below n o)
below-options n [] i o h e = absurd (cc)
below-options n (p ∷ os) zero o h e =
    let same : p ≡ o = cc in
    subst (λ (u : Option ValType). IsTrue (option_below n u)) same (split (option_below n p) (list_all (option_below n) os) h).0
below-options n (p ∷ os) (suc i) o h e = below-options n os i o (split (option_below n p) (list_all (option_below n) os) h).1 e

get-none : {A B : Type 0} (xs : List A) (ys : List B) (i : ℕ) (x : A) → length xs ≡ length ys → slice_get xs i ≡ Some x → slice_get ys i ≡ None → ⊥
get-none [] ys i x h e q = absurd (cc)
get-none (z ∷ xs) [] i x h e q = absurd (omega arith)
get-none (z ∷ xs) (y ∷ ys) zero x h e q = absurd (cc)
get-none (z ∷ xs) (y ∷ ys) (suc i) x h e q = get-none xs ys i x (omega arith) e q

-- ---- by parts

shape-by : (c : ValType → ClosedType) (k n : ℕ) (p : Parts) (t : ClosedType) → k ≤ n → IsTrue (is_no_name p) → PartsStand c k p t → IsShaped c n t (shape_by p)
shape-by c k n (parts.Same v) t l h s = absurd (cc)
shape-by c k n (parts.List v) t l h s = (s.0, is_below-later k n v l s.1)
shape-by c k n (parts.Record vs ps) t l h s = (fields_of (map c vs), s.0, count-fields c vs)
shape-by c k n (parts.Variant p os) t l h s = (cases_of (map (option_map c) os), s.0, count-cases c os)
shape-by c k n (parts.Flags m) t l h s = s

record-field : (c : ValType → ClosedType) (k n : ℕ) (vs : List ValType) (ps : List ℕ) (t : ClosedType) (i : ℕ) → k ≤ n → PartsStand c k (parts.Record vs ps) t
    → TellsField c n t i (field_placed (slice_get vs i) (slice_get ps i))
record-field c k n vs ps t i l s = by (slice_get vs i) (slice_get ps i) refl refl
  where
    fields : record_fields t ≡ fields_of (map c vs)
    fields = ap record_fields s.0

    nth : nth_field (record_fields t) i ≡ option_map c (slice_get vs i)
    nth = ap (λ (fs : Fields). nth_field fs i) fields ∙ nth-fields c vs i

    places : slice_get (field_places (record_fields t)) i ≡ slice_get ps i
    places = ap (λ (fs : Fields). slice_get (field_places fs) i) fields ∙ ap (λ (qs : List ℕ). slice_get qs i) (sym s.1)

    count : length vs ≡ length ps
    count = sym (length-places c 0 vs) ∙ ap length (sym s.1)

    by : (o : Option ValType) (q : Option ℕ) → slice_get vs i ≡ o → slice_get ps i ≡ q → TellsField c n t i (field_placed o q)
    by None q e f = nth ∙ ap (option_map c) e
    by (Some v) None e f = absurd (get-none vs ps i v count e f)
    by (Some v) (Some p) e f = (nth ∙ ap (option_map c) e, places ∙ f, is_below-later k n v l (below-all k vs i v s.2 e))

field-by : (c : ValType → ClosedType) (k n : ℕ) (p : Parts) (t : ClosedType) (i : ℕ) → k ≤ n → IsTrue (is_no_name p) → PartsStand c k p t → TellsField c n t i (field_info_by p i)
field-by c k n (parts.Same v) t i l h s = absurd (cc)
field-by c k n (parts.List v) t i l h s = ap (λ (u : ClosedType). nth_field (record_fields u) i) s.0
field-by c k n (parts.Record vs ps) t i l h s = record-field c k n vs ps t i l s
field-by c k n (parts.Variant p os) t i l h s = ap (λ (u : ClosedType). nth_field (record_fields u) i) s.0
field-by c k n (parts.Flags m) t i l h s = ap (λ (u : ClosedType). nth_field (record_fields u) i) s

variant-case : (c : ValType → ClosedType) (k n : ℕ) (p : ℕ) (os : List (Option ValType)) (t : ClosedType) (i : ℕ) → k ≤ n → PartsStand c k (parts.Variant p os) t
    → TellsCase c n t i (option_map (case_at p) (slice_get os i))
variant-case c k n p os t i l s = by (slice_get os i) refl
  where
    cases : variant_cases t ≡ cases_of (map (option_map c) os)
    cases = ap variant_cases s.0

    nth : nth_case (variant_cases t) i ≡ option_map (option_map c) (slice_get os i)
    nth = ap (λ (cs : Cases). nth_case cs i) cases ∙ nth-cases c os i

    by : (o : Option (Option ValType)) → slice_get os i ≡ o → TellsCase c n t i (option_map (case_at p) o)
    by None e = nth ∙ ap (option_map (option_map c)) e
    by (Some o) e = (nth ∙ ap (option_map (option_map c)) e, s.1 ∙ ap payload_place (sym cases), option_below-later k n o l (below-options k os i o s.2 e))

case-by : (c : ValType → ClosedType) (k n : ℕ) (p : Parts) (t : ClosedType) (i : ℕ) → k ≤ n → IsTrue (is_no_name p) → PartsStand c k p t → TellsCase c n t i (case_info_by p i)
case-by c k n (parts.Same v) t i l h s = absurd (cc)
case-by c k n (parts.List v) t i l h s = ap (λ (u : ClosedType). nth_case (variant_cases u) i) s.0
case-by c k n (parts.Record vs ps) t i l h s = ap (λ (u : ClosedType). nth_case (variant_cases u) i) s.0
case-by c k n (parts.Variant p os) t i l h s = variant-case c k n p os t i l s
case-by c k n (parts.Flags m) t i l h s = ap (λ (u : ClosedType). nth_case (variant_cases u) i) s

-- ---- by tables

abbrev parts_of : Resolve → List Parts
parts_of r = parts_from (λ v. extent_of (closed_type r v)) [] r.definitions

module _ (r : Resolve) (n : ℕ) (count : length r.definitions ≡ n) (d : Definition) where
  pub shape-told : (v : ValType) → IsTrue (is_below n v) → IsTrue (is_end (parts_of r) v) → IsShaped (closed_type r) n (closed_type r v) (shape_of (parts_of r) v)
  shape-told (val.Primitive p) b h = refl
  shape-told val.String b h = refl
  shape-told (val.Id t) b h = shape-by (closed_type r) t.0 n _ _ (omega (arith, ltb-true t.0 n b)) h (parts-stand r t.0 d (omega (arith, ltb-true t.0 n b)))

  pub field-told : (v : ValType) (i : ℕ) → IsTrue (is_below n v) → IsTrue (is_end (parts_of r) v) → TellsField (closed_type r) n (closed_type r v) i (field_info_of (parts_of r) v i)
  field-told (val.Primitive p) i b h = refl
  field-told val.String i b h = refl
  field-told (val.Id t) i b h = field-by (closed_type r) t.0 n _ _ i (omega (arith, ltb-true t.0 n b)) h (parts-stand r t.0 d (omega (arith, ltb-true t.0 n b)))

  pub case-told : (v : ValType) (i : ℕ) → IsTrue (is_below n v) → IsTrue (is_end (parts_of r) v) → TellsCase (closed_type r) n (closed_type r v) i (case_info_of (parts_of r) v i)
  case-told (val.Primitive p) i b h = refl
  case-told val.String i b h = refl
  case-told (val.Id t) i b h = case-by (closed_type r) t.0 n _ _ i (omega (arith, ltb-true t.0 n b)) h (parts-stand r t.0 d (omega (arith, ltb-true t.0 n b)))

-- ---- answers of a made table

pub some_definition : Definition
some_definition = row.Function (record { owner = owner.Interface (record { 0 = 0 }); name = []; params = []; result = None })

-- the end of a type, by the fields of a table
pub end-told : (t : LayoutTable) (rows : List Row) (ps : List Parts) (v w : ValType) → rows ≡ t.rows → ps ≡ t.parts → length ps ≡ length rows → AreEnded ps
    → w ≡ final_type ps v → IsTrue (is_below (length t.rows) v) → IsTrue (is_below (length t.rows) w) × IsTrue (is_end t.parts w)
end-told t rows ps v w rows_are parts_are count ended is b =
    let same : length ps ≡ length t.rows = count ∙ ap length rows_are in
    let below : IsTrue (is_below (length ps) v) = subst (λ (n : ℕ). IsTrue (is_below n v)) (sym same) b in
    let ends = end-ends ps v ended below in
    let here : IsTrue (is_below (length t.rows) (final_type ps v)) = subst (λ (n : ℕ). IsTrue (is_below n (final_type ps v))) same ends.0 in
    let end : IsTrue (is_end t.parts (final_type ps v)) = subst (λ (qs : List Parts). IsTrue (is_end qs (final_type ps v))) parts_are ends.1 in
    (subst (λ (u : ValType). IsTrue (is_below (length t.rows) u)) (sym is) here, subst (λ (u : ValType). IsTrue (is_end t.parts u)) (sym is) end)

-- e is what v stands for in the end
pub record IsEndOf (t : LayoutTable) (v e : ValType) : Type 0 where
  pub is : e ≡ final_type t.parts v
  pub within : IsTrue (is_below (length t.rows) v)
  pub below : IsTrue (is_below (length t.rows) e)
  pub end : IsTrue (is_end t.parts e)

module _ (r : Resolve) where
  pub count-rows : length r.definitions ≡ length (layouts_of r).rows
  count-rows = sym (length-map (closed_types r) row_of ∙ length-closed_rows [] r.definitions ∙ omega arith)

  closed-end : (v e : ValType) → IsEndOf (layouts_of r) v e → closed_type r e ≡ closed_type r v
  closed-end v e h =
      let below : IsTrue (is_below (length r.definitions) v) = subst (λ (n : ℕ). IsTrue (is_below n v)) (sym count-rows) h.within in
      ap (closed_type r) h.is ∙ ends-whole r some_definition v below

  abbrev ShapeAnswer : LayoutTable → Type 0
  ShapeAnswer t = (v e : ValType) (s : Shape) → IsEndOf t v e → s ≡ shape_of t.parts e → IsShaped (closed_type r) (length t.rows) (closed_type r v) s

  shape-here : ShapeAnswer (layouts_of r)
  shape-here v e s h is =
      let n = length (layouts_of r).rows in
      let told = shape-told r n count-rows some_definition e h.below h.end in
      subst (λ (x : Shape). IsShaped (closed_type r) n (closed_type r v) x) (sym is)
      (subst (λ (t : ClosedType). IsShaped (closed_type r) n t (shape_of (layouts_of r).parts e)) (closed-end v e h) told)

  pub shape-answer : (t : LayoutTable) → t ≡ layouts_of r → ShapeAnswer t
  shape-answer t same = subst ShapeAnswer (sym same) shape-here

  abbrev FieldAnswer : LayoutTable → Type 0
  FieldAnswer t = (v e : ValType) (i : ℕ) (x : Option FieldInfo) → IsEndOf t v e → x ≡ field_info_of t.parts e i → TellsField (closed_type r) (length t.rows) (closed_type r v) i x

  field-here : FieldAnswer (layouts_of r)
  field-here v e i x h is =
      let n = length (layouts_of r).rows in
      let told = field-told r n count-rows some_definition e i h.below h.end in
      subst (λ (y : Option FieldInfo). TellsField (closed_type r) n (closed_type r v) i y) (sym is)
      (subst (λ (t : ClosedType). TellsField (closed_type r) n t i (field_info_of (layouts_of r).parts e i)) (closed-end v e h) told)

  pub field-answer : (t : LayoutTable) → t ≡ layouts_of r → FieldAnswer t
  field-answer t same = subst FieldAnswer (sym same) field-here

  abbrev CaseAnswer : LayoutTable → Type 0
  CaseAnswer t = (v e : ValType) (i : ℕ) (x : Option CaseInfo) → IsEndOf t v e → x ≡ case_info_of t.parts e i → TellsCase (closed_type r) (length t.rows) (closed_type r v) i x

  case-here : CaseAnswer (layouts_of r)
  case-here v e i x h is =
      let n = length (layouts_of r).rows in
      let told = case-told r n count-rows some_definition e i h.below h.end in
      subst (λ (y : Option CaseInfo). TellsCase (closed_type r) n (closed_type r v) i y) (sym is)
      (subst (λ (t : ClosedType). TellsCase (closed_type r) n t i (case_info_of (layouts_of r).parts e i)) (closed-end v e h) told)

  pub case-answer : (t : LayoutTable) → t ≡ layouts_of r → CaseAnswer t
  case-answer t same = subst CaseAnswer (sym same) case-here

-- a type without this field has no place for it
no-place : (fs : Fields) (n i : ℕ) → nth_field fs i ≡ None → slice_get (places_from n (field_extents fs)) i ≡ None
no-place no_field n i h = refl
no-place (field t fs) n zero h = absurd (cc)
no-place (field t fs) n (suc i) h = no-place fs (next_multiple_of n (extent_of t).align + (extent_of t).size) i h

pub offset-told : (c : ValType → ClosedType) (n : ℕ) (t : ClosedType) (i : ℕ) (x : Option FieldInfo) → TellsField c n t i x
    → option_map (λ f. f.offset) x ≡ slice_get (field_places (record_fields t)) i
offset-told c n t i None h = sym (no-place (record_fields t) 0 i h)
offset-told c n t i (Some f) h = sym h.1
