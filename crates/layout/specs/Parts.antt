-- What stands directly in each definition of a table, with the places of fields and payloads, where each type takes so much room.
use Rattle.std.specs.Prelude.{◌≡◌, ℕ, ◌<◌, Bool, true, false, IsTrue, List, [], ◌∷◌, ◌++◌, length, map, slice_index_or, Option, None, Some}
use Rattle.std.specs.Option.{option_map}
use Rattle.canonical_abi.specs.Layout.{Extent, places_from, payload_at}
use Rattle.tables.specs.Tables.{is_below}
use Rattle.tables.specs.declared.tables.TypeId.{TypeId}
use Rattle.tables.specs.declared.tables.ValType.{ValType}
use Rattle.tables.specs.declared.tables.ValType.TheVariants as val
use Rattle.tables.specs.declared.tables.TypeDefKind.{TypeDefKind}
use Rattle.tables.specs.declared.tables.TypeDefKind.TheVariants as kind
use Rattle.tables.specs.declared.tables.Definition.{Definition}
use Rattle.tables.specs.declared.tables.Definition.TheVariants as row
use Rattle.layout.specs.Standing.{Parts}
use Rattle.layout.specs.Standing as parts

-- the payloads of the cases that have one, in order
abbrev pub payloads : {A : Type 0} → List (Option A) → List A
payloads [] = []
payloads (None ∷ cs) = payloads cs
payloads (Some p ∷ cs) = p ∷ payloads cs

-- the type that this id is a name of in the end, or the id itself if it is no name
abbrev pub behind_alias : TypeId → Parts → ValType
behind_alias t (parts.Same v) = v
behind_alias t _ = val.Id t

-- the type that a type is once used names and new names are followed
abbrev pub final_type : List Parts → ValType → ValType
final_type ps (val.Primitive p) = val.Primitive p
final_type ps val.String = val.String
final_type ps (val.Id t) = behind_alias t (slice_index_or ps t.0 (parts.Same val.String))

-- the members of a record, with their offsets
abbrev pub record_parts : (ValType → Extent) → List ValType → Parts
record_parts extent vs = parts.Record vs (places_from 0 (map extent vs))

-- the payloads of a variant, with their offset
abbrev pub variant_parts : (ValType → Extent) → List (Option ValType) → Parts
variant_parts extent os = parts.Variant (payload_at (length os) (payloads (map (option_map extent) os))) os

-- what a type of this kind has directly in it, over the parts of the rows before it
abbrev pub kind_parts : (ValType → Extent) → List Parts → TypeDefKind → Parts
kind_parts extent ps (kind.Use t) = parts.Same (final_type ps (val.Id t))
kind_parts extent ps (kind.Alias v) = parts.Same (final_type ps v)
kind_parts extent ps (kind.List v) = parts.List v
kind_parts extent ps (kind.Option v) = variant_parts extent (None ∷ Some v ∷ [])
kind_parts extent ps (kind.Result ok error) = variant_parts extent (ok ∷ error ∷ [])
kind_parts extent ps (kind.Tuple vs) = record_parts extent vs
kind_parts extent ps (kind.Record fs) = record_parts extent (map (λ f. f.ty) fs)
kind_parts extent ps (kind.Variant cs) = variant_parts extent (map (λ c. c.ty) cs)
kind_parts extent ps (kind.Enum names) = variant_parts extent (map (λ n. None) names)
kind_parts extent ps (kind.Flags names) = parts.Flags (length names)

-- what a row has directly in it: a function, its parameters as a record
abbrev pub definition_parts : (ValType → Extent) → List Parts → Definition → Parts
definition_parts extent ps (row.Type d) = kind_parts extent ps d.kind
definition_parts extent ps (row.Function f) = record_parts extent (map (λ p. p.ty) f.params)

-- these parts, and then those of each of these rows in turn
abbrev pub parts_from : (ValType → Extent) → List Parts → List Definition → List Parts
parts_from extent ps [] = ps
parts_from extent ps (d ∷ ds) = parts_from extent (ps ++ definition_parts extent ps d ∷ []) ds

-- the type is no used name and no new name
abbrev pub is_no_name : Parts → Bool
is_no_name (parts.Same v) = false
is_no_name _ = true

-- the type is no used name and no new name
abbrev pub is_end : List Parts → ValType → Bool
is_end ps (val.Primitive p) = true
is_end ps val.String = true
is_end ps (val.Id t) = is_no_name (slice_index_or ps t.0 (parts.Same val.String))

-- each name's parts give a primitive, string, or a type of an earlier row that is no name itself
pub record AreEnded (ps : List Parts) : Type 0 where
  pub each : (k : ℕ) (v : ValType) → k < length ps → slice_index_or ps k (parts.Same val.String) ≡ parts.Same v → IsTrue (is_below k v) × IsTrue (is_end ps v)
