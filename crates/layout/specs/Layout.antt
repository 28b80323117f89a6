-- The layout table of a package: the row of each closed type, and which definition is refused.
use Rattle.std.specs.Prelude.{◌≡◌, ℕ, ◌<◌, ◌≤◌, min, List, [], ◌∷◌, length, map, slice_index_or, Option, None, Some}
use Rattle.std.specs.Option.{option_map}
use Rattle.canonical_abi.specs.Types.{ClosedType, string_type, depth, result_fields}
use Rattle.canonical_abi.specs.Layout.{extent_of, size, align, flat_kinds, field_kinds, CoreSignature}
use Rattle.canonical_abi.specs.declared.flat.CoreKind.{CoreKind}
use Rattle.canonical_abi.specs.Session.{max_block}
use Rattle.tables.specs.Closed.{closed_val, closed_types, closed_type}
use Rattle.tables.specs.declared.tables.Definition.{Definition}
use Rattle.tables.specs.declared.tables.Definition.TheVariants as row
use Rattle.tables.specs.declared.tables.Resolve.{Resolve}
use Rattle.layout.specs.Kinds.{kinds_of, passed}
use Rattle.layout.specs.Parts.{parts_from}
use Rattle.layout.specs.Standing.{Parts}
use Rattle.layout.specs.Work.{total_work, saturated}
use Rattle.layout.specs.declared.kinds.Kinds.{Kinds}
use Rattle.layout.specs.declared.rows.Row.{Row}
use Rattle.layout.specs.declared.signature.CoreSignature.{CoreSignature as Signature}
use Rattle.layout.specs.declared.error.LayoutError.{LayoutError}
use Rattle.layout.specs.declared.error.LayoutError.TheVariants.{TooDeep, TooLarge, NoMemory}

-- the greatest depth of a type that has a layout
abbrev pub max_depth : ℕ
max_depth = 64

-- the most bytes that a type may take in memory: those that a typed call asks for in one block
abbrev pub max_size : ℕ
max_size = max_block

-- a depth, or 65 if it is above the limit of 64
abbrev pub capped : ℕ → ℕ
capped n = min n 65

-- the row of a closed type: its depth up to 65, its size and alignment in bytes, and its flat kinds
abbrev pub row_of : ClosedType → Row
row_of t = record { depth = capped (depth t); size = size t; align = align t; kinds = kinds_of (flat_kinds t) }

-- the flat kinds of a function's result, and no kinds of a type
abbrev pub result_of : List ClosedType → Definition → Kinds
result_of ts (row.Type d) = kinds_of []
result_of ts (row.Function f) = kinds_of (field_kinds (result_fields (option_map (closed_val ts) f.result)))

-- what a layout table has: a row for each definition, a result for each, what stands directly in each, and the count of the steps that it takes
pub record LayoutTable : Type 0 where
  pub rows : List Row
  pub results : List Kinds
  pub parts : List Parts
  pub work : ℕ

-- the layout table of a package, from its closed types
abbrev pub layouts_of : Resolve → LayoutTable
layouts_of r = record {
  rows = map row_of (closed_types r);
  results = map (result_of (closed_types r)) r.definitions;
  parts = parts_from (λ v. extent_of (closed_type r v)) [] r.definitions;
  work = saturated (total_work r.definitions);
}

-- the row is one that a layout table may have: within the limits, with a depth of at most 65
pub record IsSound (r : Row) : Type 0 where
  pub depth : r.depth ≤ 65
  pub size : r.size ≤ max_size
  pub least_align : 1 ≤ r.align
  pub most_align : r.align ≤ 8
  pub fits : length (passed r.kinds) ≤ 16

-- a definition of this closed type is within the limits; a function's parameters have no limit of depth
abbrev pub IsDefinitionWithin : Definition → ClosedType → Type 0
IsDefinitionWithin (row.Type d) t = (depth t ≤ max_depth) × (size t ≤ max_size)
IsDefinitionWithin (row.Function f) t = size t ≤ max_size

-- the refusal is true of a definition of this closed type; out of memory may come at any time
abbrev pub LayoutRefuses : LayoutError → Definition → ClosedType → Type 0
LayoutRefuses TooDeep (row.Type d) t = max_depth < depth t
LayoutRefuses TooDeep (row.Function f) t = ⊥
LayoutRefuses TooLarge (row.Type d) t = (depth t ≤ max_depth) × (max_size < size t)
LayoutRefuses TooLarge (row.Function f) t = max_size < size t
LayoutRefuses NoMemory d t = Unit {0}

-- the refusal is true of definition k, and all definitions before it are within the limits
pub record RefusesAt (e : LayoutError) (r : Resolve) (k : ℕ) : Type 0 where
  pub definition : Definition
  pub is : slice_index_or r.definitions k definition ≡ definition
  pub in_range : k < length r.definitions
  pub refused : LayoutRefuses e definition (slice_index_or (closed_types r) k string_type)
  pub before : (i : ℕ) (d : Definition) → i < k → slice_index_or r.definitions i d ≡ d → IsDefinitionWithin d (slice_index_or (closed_types r) i string_type)

-- the refusal of the first definition that passes a limit; out of memory may come at any time
abbrev pub RefusesFirst : LayoutError → Resolve → Type 0
RefusesFirst TooDeep r = (k : ℕ) × RefusesAt TooDeep r k
RefusesFirst TooLarge r = (k : ℕ) × RefusesAt TooLarge r k
RefusesFirst NoMemory r = Unit {0}

-- all definitions of the table are within the limits of depth and size
pub record AreWithin (r : Resolve) : Type 0 where
  pub each : (i : ℕ) (d : Definition) → i < length r.definitions → slice_index_or r.definitions i d ≡ d → IsDefinitionWithin d (slice_index_or (closed_types r) i string_type)

-- the result of a core signature, as a list of one or none
abbrev pub results_of : Option CoreKind → List CoreKind
results_of None = []
results_of (Some k) = k ∷ []

-- the core signature that a program keeps, as lists of core value types
abbrev pub core_signature_of : Signature → CoreSignature
core_signature_of s = record { params = s.params.items; results = results_of s.result }
