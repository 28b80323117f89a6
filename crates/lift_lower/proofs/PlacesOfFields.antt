-- Each field of a record stands at the next multiple of its alignment after the fields before it.
use Rattle.std.proofs.Common.{◌≡◌, ℕ, zero, suc, ◌+◌, ◌≤◌, length, slice_get, Option, Some, None, IfSome, option_map, refl, sym, ap, ◌∙◌, add-one}
use Rattle.std.specs.Int.{next_multiple_of}
use Rattle.std.proofs.lemmas.Option.{same_Some}
use Rattle.canonical_abi.specs.Types.{ClosedType, Fields, no_field, field, record_fields, nth_field}
use Rattle.canonical_abi.specs.Layout.{size, align, field_extents, field_places, places_from}
use Rattle.layout.specs.Layout.{LayoutTable, layouts_of}
use Rattle.layout.specs.Queries.{TellsField}
use Rattle.layout.specs.declared.queries.FieldInfo.{FieldInfo}
use Rattle.tables.specs.Closed.{closed_type}
use Rattle.tables.specs.declared.tables.Resolve.{Resolve}
use Rattle.values.specs.Types.{IsInside}
use Rattle.values.proofs.FieldsFromAPlace.{fields_from, fields_end, fields-inside}
use Rattle.values.proofs.TypesShapes.{inside-told}

-- ---- what a table tells of a field

pub field-found : (r : Resolve) (n i : ℕ) (t : ClosedType) (o : Option FieldInfo) → TellsField (closed_type r) n t i o
    → option_map (λ f. closed_type r f.ty) o ≡ nth_field (record_fields t) i
field-found r n i t None h = sym h
field-found r n i t (Some f) h = sym h.0

pub field-place : (r : Resolve) (n i : ℕ) (t : ClosedType) (o : Option FieldInfo) → TellsField (closed_type r) n t i o
    → IfSome o (λ f. slice_get (field_places (record_fields t)) i ≡ Some f.offset)
field-place r n i t None h = tt
field-place r n i t (Some f) h = h.1

pub field-inside : (r : Resolve) (table : LayoutTable) (i : ℕ) (t : ClosedType) (o : Option FieldInfo) → table ≡ layouts_of r
    → TellsField (closed_type r) (length table.rows) t i o → IfSome o (λ f. IsInside r f.ty)
field-inside r table i t None is h = tt
field-inside r table i t (Some f) is h = inside-told r table (Some f.ty) is h.2

-- ---- the fields before a place

-- the end of the first i fields, where what is before them ends at `from`
abbrev pub end_before : ℕ → ℕ → Fields → ℕ
end_before from zero fs = from
end_before from (suc i) no_field = from
end_before from (suc i) (field t fs) = end_before (next_multiple_of from (align t) + size t) i fs

end-suc : (from i : ℕ) (fs : Fields) (t : ClosedType) → nth_field fs i ≡ Some t → end_before from (suc i) fs ≡ next_multiple_of (end_before from i fs) (align t) + size t
end-suc from i no_field t e = absurd (let n : None ≡ Some t = e in cc)
end-suc from zero (field u fs) t e = ap (λ x. next_multiple_of from (align x) + size x) (same_Some _ _ e)
end-suc from (suc i) (field u fs) t e = end-suc (next_multiple_of from (align u) + size u) i fs t e

pub end-next : (from i : ℕ) (fs : Fields) (t : ClosedType) → nth_field fs i ≡ Some t → end_before from (i + 1) fs ≡ next_multiple_of (end_before from i fs) (align t) + size t
end-next from i fs t e = rw add-one (end-suc from i fs t e)

pub end-whole : (from i : ℕ) (fs : Fields) → fields_end (end_before from i fs) (fields_from i fs) ≡ fields_end from fs
end-whole from zero fs = refl
end-whole from (suc i) no_field = refl
end-whole from (suc i) (field t fs) = end-whole (next_multiple_of from (align t) + size t) i fs

place-from : (from i : ℕ) (fs : Fields) (t : ClosedType) (p : ℕ) → nth_field fs i ≡ Some t → slice_get (places_from from (field_extents fs)) i ≡ Some p → p ≡ next_multiple_of (end_before from i fs) (align t)
place-from from i no_field t p e h = absurd (let n : None ≡ Some t = e in cc)
place-from from zero (field u fs) t p e h = sym (same_Some _ _ h) ∙ ap (λ x. next_multiple_of from (align x)) (same_Some _ _ e)
place-from from (suc i) (field u fs) t p e h = place-from (next_multiple_of from (align u) + size u) i fs t p e h

pub place-of-field : (fs : Fields) (i : ℕ) (t : ClosedType) (p : ℕ) → nth_field fs i ≡ Some t → slice_get (field_places fs) i ≡ Some p → p ≡ next_multiple_of (end_before 0 i fs) (align t)
place-of-field fs i t p e h = place-from 0 i fs t p e h

-- a field ends inside the record
pub field-fits : (fs : Fields) (i : ℕ) (t : ClosedType) (p : ℕ) → nth_field fs i ≡ Some t → slice_get (field_places fs) i ≡ Some p → p + size t ≤ fields_end 0 fs
field-fits fs i t p e h =
    rw (place-of-field fs i t p e h) (fields-inside fs i t (end_before 0 i fs) _ e (end-whole 0 i fs))
