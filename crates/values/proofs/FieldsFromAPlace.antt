-- The fields of a record from a place on; types side by side and a function's parameters, as such fields.
use Rattle.std.proofs.Common.{◌≡◌, ◌≢◌, ℕ, zero, suc, ◌+◌, ◌<◌, ◌≤◌, max, true, IsTrue, List, [], ◌∷◌, length, fold, get_or, Some, None, refl, sym, ap, ◌∙◌, subst, add-one, arith}
use Rattle.std.specs.Prelude.{slice_index_or}
use Rattle.std.specs.Int.{next_multiple_of}
use Rattle.std.specs.List.{list_all}
use Rattle.std.proofs.lemmas.Bool.{and_parts}
use Rattle.std.proofs.lemmas.List.{length-map}
use Rattle.std.proofs.lemmas.Option.{same_Some}
use Rattle.canonical_abi.specs.Types.{ClosedType, string_type, record_type, record_fields, Fields, no_field, field, nth_field, field_count}
use Rattle.canonical_abi.specs.Layout.{size, align, end_from, field_extents}
use Rattle.canonical_abi.proofs.Layouts.AlignmentsAndSizes.{end-le}
use Rattle.layout.specs.Layout.{LayoutTable, layouts_of}
use Rattle.tables.specs.Closed.{closed_type, closed_types, closed_params, closed_val, function_at, function_type, type_of_function, IsFunction}
use Rattle.tables.specs.Tables.{is_below}
use Rattle.tables.specs.declared.tables.Function.{Function}
use Rattle.tables.specs.declared.tables.FunctionId.{FunctionId}
use Rattle.tables.specs.declared.tables.Resolve.{Resolve}
use Rattle.tables.specs.declared.tables.ValType.{ValType}
use Rattle.tables.proofs.ClosedTypesRowByRow.{stands, function-row, function-type}
use Rattle.tables.proofs.HasStandardTypes.{fields-count}
use Rattle.values.specs.Members.{fields_of_types, AreAllInside}
use Rattle.values.proofs.TypesExtents.{has-row}

-- the fields from place i on
abbrev pub fields_from : ℕ → Fields → Fields
fields_from zero fs = fs
fields_from (suc i) no_field = no_field
fields_from (suc i) (field t fs) = fields_from i fs

-- the end of the last field
abbrev pub fields_end : ℕ → Fields → ℕ
fields_end from fs = end_from from (field_extents fs)

pub fields-next : (fs : Fields) (i : ℕ) (t : ClosedType) → nth_field fs i ≡ Some t → fields_from i fs ≡ field t (fields_from (i + 1) fs)
fields-next no_field i t e = absurd (let n : None ≡ Some t = e in cc)
fields-next (field u fs) zero t e = ap (λ x. field x fs) (same_Some _ _ e)
fields-next (field u fs) (suc i) t e = rw (fields-next fs i t e, add-one, add-one) refl

pub fields-last : (fs : Fields) (n : ℕ) → field_count fs ≡ n → fields_from n fs ≡ no_field
fields-last no_field zero e = refl
fields-last no_field (suc n) e = refl
fields-last (field t fs) zero e = absurd (omega arith)
fields-last (field t fs) (suc n) e = fields-last fs n (omega arith)

fields_end-le : (from : ℕ) (fs : Fields) → from ≤ fields_end from fs
fields_end-le from fs = end-le from (field_extents fs)

pub nth_field-some : (fs : Fields) (i : ℕ) → i < field_count fs → nth_field fs i ≢ None
nth_field-some no_field i h e = omega (arith, h)
nth_field-some (field t fs) zero h e = cc
nth_field-some (field t fs) (suc i) h e = nth_field-some fs i (omega arith) e

pub fields-end : (fs : Fields) (from i : ℕ) (t : ClosedType) → nth_field fs i ≡ Some t → fields_end from (fields_from i fs) ≡ fields_end (next_multiple_of from (align t) + size t) (fields_from (i + 1) fs)
fields-end fs from i t h = ap (fields_end from) (fields-next fs i t h)

pub fields-inside : (fs : Fields) (i : ℕ) (t : ClosedType) (from whole : ℕ) → nth_field fs i ≡ Some t → fields_end from (fields_from i fs) ≡ whole → next_multiple_of from (align t) + size t ≤ whole
fields-inside fs i t from whole h w =
    subst (λ n. next_multiple_of from (align t) + size t ≤ n) (sym (ap (fields_end from) (fields-next fs i t h)) ∙ w) (fields_end-le (next_multiple_of from (align t) + size t) (fields_from (i + 1) fs))

-- ---- types side by side

pub count-types : (r : Resolve) (types : List ValType) → field_count (fields_of_types r types) ≡ length types
count-types r types = fields-count _ ∙ length-map types _

all-inside : (n : ℕ) (types : List ValType) → list_all (is_below n) types ≡ true → (k : ℕ) (d : ValType) → k < length types → IsTrue (is_below n (slice_index_or types k d))
all-inside n [] h k d below = absurd (omega arith)
all-inside n (v ∷ types) h zero d below = (and_parts _ _ h).0
all-inside n (v ∷ types) h (suc k) d below = all-inside n types (and_parts _ _ h).1 k d (omega arith)

pub have-rows : (r : Resolve) (table : LayoutTable) (types : List ValType) → table ≡ layouts_of r → AreAllInside r types → (k : ℕ) (d : ValType) → k < length types → IsTrue (is_below (length table.rows) (slice_index_or types k d))
have-rows r table types is inside k d below = has-row r table (slice_index_or types k d) is (all-inside (length r.definitions) types inside k d below)

pub nth-type : (r : Resolve) (types : List ValType) (i : ℕ) (d : ValType) → i < length types → nth_field (fields_of_types r types) i ≡ Some (closed_type r (get_or types i d))
nth-type r [] i d below = absurd (omega arith)
nth-type r (v ∷ types) zero d below = refl
nth-type r (v ∷ types) (suc i) d below = nth-type r types i d (omega arith)

-- the greatest alignment from a field on
pub align-next : (fs : Fields) (i n : ℕ) (t : ClosedType) → nth_field fs i ≡ Some t → fold (λ k x. max k x.align) n (field_extents (fields_from i fs)) ≡ fold (λ k x. max k x.align) (max n (align t)) (field_extents (fields_from (i + 1) fs))
align-next fs i n t h = ap (λ us. fold (λ k x. max k x.align) n (field_extents us)) (fields-next fs i t h)

pub end-last : (fs : Fields) (i end : ℕ) → field_count fs ≡ i → fields_end end (fields_from i fs) ≡ end
end-last fs i end h = ap (fields_end end) (fields-last fs i h)

pub align-last : (fs : Fields) (i n : ℕ) → field_count fs ≡ i → fold (λ k x. max k x.align) n (field_extents (fields_from i fs)) ≡ n
align-last fs i n h = ap (λ us. fold (λ k x. max k x.align) n (field_extents us)) (fields-last fs i h)

-- ---- a function's parameters

-- a function's row is the record of its parameters
pub closed-row : (r : Resolve) (f : FunctionId) → IsFunction r f → get_or (closed_types r) f.0 string_type ≡ record_type (function_type r f).params
closed-row r f h = let st = stands r f h in function-row r f st ∙ ap (λ t. record_type t.params) (sym (function-type r f st))

pub count-params : (r : Resolve) (f : FunctionId) (s : Function) → IsFunction r f → function_at r f ≡ Some s
    → field_count (record_fields (get_or (closed_types r) f.0 string_type)) ≡ length s.params
count-params r f s h found =
    ap (λ t. field_count (record_fields t)) (closed-row r f h)
    ∙ ap (λ o. field_count (type_of_function (closed_types r) o).params) found
    ∙ fields-count (closed_params (closed_types r) s.params)
    ∙ length-map s.params (λ p. closed_val (closed_types r) p.ty)
