-- CanonicalABI.md, "Flat Lifting": the text of the values that core values carry.
use Rattle.std.specs.Prelude.{ℕ, zero, suc, ◌+◌, List, [], ◌∷◌, length, Option, Some, Result}
use Rattle.canonical_abi.specs.Flat.{Lifts, FieldsLift}
use Rattle.canonical_abi.specs.Labelled.{LabelledType, LabelledTypes, LabelledFields, closed, closed_members, closed_fields}
use Rattle.canonical_abi.specs.Layout.{flat_kinds}
use Rattle.canonical_abi.specs.Values.{Value}
use Rattle.serde_json.specs.Data.{array, object}
use Rattle.serde_json.specs.View.{items_of}
use Rattle.serde_json.specs.Written.{compact_text}
use Rattle.tables.specs.Labelled.{labelled_type, labelled_val}
use Rattle.tables.specs.declared.tables.Resolve.{Resolve}
use Rattle.tables.specs.declared.tables.ValType.{ValType}
use Rattle.value_text.specs.Function.{json_of, members_json, fields_json}
use Rattle.value_text.specs.Puts.{PutsWithin}

-- these core values carry a value of the type; its texts and lists stand in m
abbrev pub IsCarried : LabelledType → List ℕ → List ℕ → Type 0
IsCarried t m ns = (v : Value) × Lifts (closed t) m ns v

-- the text of the value that they carry was put there, or it passes the limit
abbrev pub PutsCarried : {E : Type 0} → ℕ → LabelledType → List ℕ → List ℕ → List ℕ → ℕ → Result ℕ E → List ℕ → Type 0
PutsCarried limit t m ns old at done new = (v : Value) → Lifts (closed t) m ns v → PutsWithin limit (compact_text (json_of t v)) old at done new

-- these core values carry a value of each of the types, in turn
abbrev pub AreCarried : LabelledTypes → List ℕ → List ℕ → Type 0
AreCarried ts m ns = (vs : List Value) × FieldsLift (closed_members ts) m ns vs

-- the text of the values
abbrev pub values_text : LabelledTypes → List Value → List ℕ
values_text ts vs = compact_text (array (items_of (members_json ts vs)))

-- the text of the array of the values that they carry was put there, or it passes the limit
abbrev pub PutsAllCarried : {E : Type 0} → ℕ → LabelledTypes → List ℕ → List ℕ → List ℕ → ℕ → Result ℕ E → List ℕ → Type 0
PutsAllCarried limit ts m ns old at done new = (vs : List Value) → FieldsLift (closed_members ts) m ns vs → PutsWithin limit (values_text ts vs) old at done new

-- these core values carry a value of each field, in turn
abbrev pub FieldsAreCarried : LabelledFields → List ℕ → List ℕ → Type 0
FieldsAreCarried fs m ns = (vs : List Value) × FieldsLift (closed_fields fs) m ns vs

-- the text of the object of the values that they carry was put there, or it passes the limit
abbrev pub PutsFieldsCarried : {E : Type 0} → ℕ → LabelledFields → List ℕ → List ℕ → List ℕ → ℕ → Result ℕ E → List ℕ → Type 0
PutsFieldsCarried limit fs m ns old at done new =
    (vs : List Value) → FieldsLift (closed_fields fs) m ns vs → PutsWithin limit (compact_text (object (fields_json fs vs))) old at done new

-- how many core values carry the values of the types before type i
abbrev pub flats_before : List LabelledType → List ValType → ℕ → ℕ
flats_before rows [] i = 0
flats_before rows (t ∷ ts) zero = 0
flats_before rows (t ∷ ts) (suc i) = length (flat_kinds (closed (labelled_val rows t))) + flats_before rows ts i

-- the text of a function's result: no bytes without one
abbrev pub result_text : Resolve → Option ValType → List Value → List ℕ
result_text r (Some t) (v ∷ vs) = compact_text (json_of (labelled_type r t) v)
result_text r _ _ = []
