-- What stands directly in definitions, where the fields of all records lie in one list and the payloads of all variants in another.
use Rattle.std.specs.Prelude.{◌≡◌, ℕ, ◌+◌, ◌≤◌, List, ◌++◌, length, map, take, drop, slice_index_or, Option}
use Rattle.tables.specs.declared.tables.ValType.{ValType}
use Rattle.tables.specs.declared.tables.ValType.TheVariants as val
use Rattle.layout.specs.Standing.{Parts}
use Rattle.layout.specs.Standing as parts
use Rattle.layout.specs.declared.parts.Head.{Head}
use Rattle.layout.specs.declared.parts.Head.TheVariants as head
use Rattle.layout.specs.declared.queries.FieldInfo.{FieldInfo}

-- so many elements from this place on
abbrev pub part_of : {A : Type 0} → ℕ → ℕ → List A → List A
part_of first count xs = take count (drop first xs)

-- the types of these fields
abbrev pub field_types : List FieldInfo → List ValType
field_types fields = map (λ f. f.ty) fields

-- the offsets of these fields
abbrev pub field_offsets : List FieldInfo → List ℕ
field_offsets fields = map (λ f. f.offset) fields

-- what stands in a definition with this head, where these are the fields of all records and the payloads of all variants
abbrev pub parts_by : List FieldInfo → List (Option ValType) → Head → Parts
parts_by fields payloads (head.Same v) = parts.Same v
parts_by fields payloads (head.List v) = parts.List v
parts_by fields payloads (head.Record first count) = parts.Record (field_types (part_of first count fields)) (field_offsets (part_of first count fields))
parts_by fields payloads (head.Variant place first count) = parts.Variant place (part_of first count payloads)
parts_by fields payloads (head.Flags n) = parts.Flags n

-- the fields or payloads of the head lie among so many fields and so many payloads
abbrev pub LiesWithin : ℕ → ℕ → Head → Type 0
LiesWithin fields payloads (head.Record first count) = first + count ≤ fields
LiesWithin fields payloads (head.Variant place first count) = first + count ≤ payloads
LiesWithin fields payloads _ = Unit {0}

-- what stands in the definition at this place; a definition that is not there counts as a name of string
abbrev pub standing : List Parts → ℕ → Parts
standing ps k = slice_index_or ps k (parts.Same val.String)

-- behind the old fields lie fields of these types at these offsets
pub record AreAdded (old new : List FieldInfo) (types : List ValType) (offsets : List ℕ) : Type 0 where
  pub kept : new ≡ old ++ drop (length old) new
  pub types_are : field_types (drop (length old) new) ≡ types
  pub offsets_are : field_offsets (drop (length old) new) ≡ offsets
