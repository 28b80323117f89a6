-- What a layout table tells of a type.
use Rattle.std.specs.Prelude.{◌≡◌, ℕ, IsTrue, List, length, map, slice_get, slice_index_or, Option, None, Some}
use Rattle.std.specs.Option.{option_map}
use Rattle.std.specs.List.{list_all}
use Rattle.canonical_abi.specs.Types.{ClosedType, prim_type, string_type, list_type, record_type, variant_type, flags_type, Fields, Cases, fields_of, cases_of, field_count, case_count, nth_field, nth_case, record_fields, variant_cases}
use Rattle.canonical_abi.specs.Layout.{field_places, payload_place}
use Rattle.tables.specs.Closed.{prim_of}
use Rattle.tables.specs.Tables.{is_below, option_below}
use Rattle.tables.specs.declared.tables.ValType.{ValType}
use Rattle.tables.specs.declared.tables.ValType.TheVariants as val
use Rattle.layout.specs.Standing.{Parts}
use Rattle.layout.specs.Standing as parts
use Rattle.layout.specs.declared.queries.Shape.{Shape}
use Rattle.layout.specs.declared.queries.Shape.TheVariants as shape
use Rattle.layout.specs.declared.queries.FieldInfo.{FieldInfo}
use Rattle.layout.specs.declared.queries.CaseInfo.{CaseInfo}

-- ---- by closed types: c is the closed type of each type, and types stand before place n

-- the closed type t has this shape, whose element type, if it is a list, is before place n
abbrev pub IsShaped : (ValType → ClosedType) → ℕ → ClosedType → Shape → Type 0
IsShaped c n t (shape.Primitive p) = t ≡ prim_type (prim_of p)
IsShaped c n t shape.String = t ≡ string_type
IsShaped c n t (shape.List element) = (t ≡ list_type (c element)) × IsTrue (is_below n element)
IsShaped c n t (shape.Record k) = (fs : Fields) × (t ≡ record_type fs) × (field_count fs ≡ k)
IsShaped c n t (shape.Variant k) = (cs : Cases) × (t ≡ variant_type cs) × (case_count cs ≡ k)
IsShaped c n t (shape.Flags k) = t ≡ flags_type k

-- field i of t has this type and offset, or there is no field i; a type that is no record has no fields
abbrev pub TellsField : (ValType → ClosedType) → ℕ → ClosedType → ℕ → Option FieldInfo → Type 0
TellsField c n t i None = nth_field (record_fields t) i ≡ None
TellsField c n t i (Some f) =
    (nth_field (record_fields t) i ≡ Some (c f.ty)) × (slice_get (field_places (record_fields t)) i ≡ Some f.offset) × IsTrue (is_below n f.ty)

-- case i of t has this payload and offset, or there is no case i; a type that is no variant has no cases
abbrev pub TellsCase : (ValType → ClosedType) → ℕ → ClosedType → ℕ → Option CaseInfo → Type 0
TellsCase c n t i None = nth_case (variant_cases t) i ≡ None
TellsCase c n t i (Some x) =
    (nth_case (variant_cases t) i ≡ Some (option_map c x.payload)) × (x.place ≡ payload_place (variant_cases t)) × IsTrue (option_below n x.payload)

-- ---- by what stands directly in a type

-- the shape of a type with these parts; a name, which has no shape of its own, counts as string
abbrev pub shape_by : Parts → Shape
shape_by (parts.Same v) = shape.String
shape_by (parts.List v) = shape.List v
shape_by (parts.Record vs ps) = shape.Record (length vs)
shape_by (parts.Variant p os) = shape.Variant (length os)
shape_by (parts.Flags n) = shape.Flags n

-- the field of this type at this offset, if there are both
abbrev pub field_placed : Option ValType → Option ℕ → Option FieldInfo
field_placed None p = None
field_placed (Some v) None = None
field_placed (Some v) (Some p) = Some (record { ty = v; offset = p })

-- the type and offset of field i, or none if there is no such field or the type is no record
abbrev pub field_info_by : Parts → ℕ → Option FieldInfo
field_info_by (parts.Record vs ps) i = field_placed (slice_get vs i) (slice_get ps i)
field_info_by _ i = None

-- a case with this offset of its payload
abbrev pub case_at : ℕ → Option ValType → CaseInfo
case_at p o = record { place = p; payload = o }

-- the payload of case i and its offset, or none if there is no such case or the type is no variant
abbrev pub case_info_by : Parts → ℕ → Option CaseInfo
case_info_by (parts.Variant p os) i = option_map (case_at p) (slice_get os i)
case_info_by _ i = None

-- the shape of a type that is no name, over the parts of all rows
abbrev pub shape_of : List Parts → ValType → Shape
shape_of ps (val.Primitive p) = shape.Primitive p
shape_of ps val.String = shape.String
shape_of ps (val.Id t) = shape_by (slice_index_or ps t.0 (parts.Same val.String))

-- the type and offset of field i of a type that is no name, over the parts of all rows
abbrev pub field_info_of : List Parts → ValType → ℕ → Option FieldInfo
field_info_of ps (val.Id t) i = field_info_by (slice_index_or ps t.0 (parts.Same val.String)) i
field_info_of ps _ i = None

-- the payload of case i of a type that is no name, and its offset, over the parts of all rows
abbrev pub case_info_of : List Parts → ValType → ℕ → Option CaseInfo
case_info_of ps (val.Id t) i = case_info_by (slice_index_or ps t.0 (parts.Same val.String)) i
case_info_of ps _ i = None

-- ---- the law between them
-- lemma: these parts are those of the closed type t: its elements, fields with offsets, or cases; types are before place n
abbrev pub PartsStand : (ValType → ClosedType) → ℕ → Parts → ClosedType → Type 0
PartsStand c n (parts.Same v) t = t ≡ c v
PartsStand c n (parts.List v) t = (t ≡ list_type (c v)) × IsTrue (is_below n v)
PartsStand c n (parts.Record vs ps) t =
    (t ≡ record_type (fields_of (map c vs))) × (ps ≡ field_places (fields_of (map c vs))) × IsTrue (list_all (is_below n) vs)
PartsStand c n (parts.Variant p os) t =
    (t ≡ variant_type (cases_of (map (option_map c) os))) × (p ≡ payload_place (cases_of (map (option_map c) os))) × IsTrue (list_all (option_below n) os)
PartsStand c n (parts.Flags k) t = t ≡ flags_type k
