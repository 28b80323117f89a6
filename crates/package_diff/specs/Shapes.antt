-- CanonicalABI.md, "Despecialization": shapes, which tell closed types apart. A shape is made of shapes before it.
use Rattle.std.specs.Prelude.{◌≡◌, ◌<◌, ℕ, List, [], ◌∷◌, ◌++◌, map, length, slice_get, slice_index_or, Option, Some, None, All}
use Rattle.std.specs.Option.{option_map, ForSome}
use Rattle.canonical_abi.specs.Types.{ClosedType, prim_type, string_type, list_type, record_type, variant_type, flags_type, fields_of, cases_of}
use Rattle.tables.specs.Closed.{prim_of, closed_val, closed_types}
use Rattle.tables.specs.declared.tables.Definition.{Definition}
use Rattle.tables.specs.declared.tables.Definition.TheVariants as row
use Rattle.tables.specs.declared.tables.Resolve.{Resolve}
use Rattle.package_diff.specs.declared.shapes.Shape.{Shape}
use Rattle.package_diff.specs.declared.shapes.Shape.TheVariants as shape
use Rattle.package_diff.specs.declared.shapes.RowShape.{RowShape}

-- the closed type of a shape, over those that its numbers stand for
abbrev pub shape_type : List ClosedType → Shape → ClosedType
shape_type ts (shape.Primitive p) = prim_type (prim_of p)
shape_type ts shape.String = string_type
shape_type ts (shape.List n) = list_type (slice_index_or ts n string_type)
shape_type ts (shape.Record ns) = record_type (fields_of (map (λ n. slice_index_or ts n string_type) ns.items))
shape_type ts (shape.Variant ns) = variant_type (cases_of (map (option_map (λ n. slice_index_or ts n string_type)) ns.items))
shape_type ts (shape.Flags n) = flags_type n

-- these closed types, and then those of these shapes, each over all before it
abbrev pub shape_types : List ClosedType → List Shape → List ClosedType
shape_types ts [] = ts
shape_types ts (s ∷ ss) = shape_types (ts ++ shape_type ts s ∷ []) ss

-- the closed type that a number stands for
abbrev pub type_at : List Shape → ℕ → ClosedType
type_at shapes n = slice_index_or (shape_types [] shapes) n string_type

-- the number is that of a shape of this closed type
abbrev pub IsNumberOf : List Shape → ClosedType → ℕ → Type 0
IsNumberOf shapes t n = (n < length shapes) × (type_at shapes n ≡ t)

-- the numbers in a shape, in order; none of a case without a payload
abbrev pub parts_of : Shape → List (Option ℕ)
parts_of (shape.List n) = Some n ∷ []
parts_of (shape.Record ns) = map (λ n. Some n) ns.items
parts_of (shape.Variant ns) = ns.items
parts_of _ = []

-- the number, if there is one, is below n
abbrev pub IsPartBelow : ℕ → Option ℕ → Type 0
IsPartBelow n part = ForSome part (λ k. k < n)

-- the numbers in a shape are below n
abbrev pub IsMadeBelow : ℕ → Shape → Type 0
IsMadeBelow n s = All (IsPartBelow n) (parts_of s)

-- each shape is made of shapes before it
abbrev pub AreMadeInOrder : List Shape → Type 0
AreMadeInOrder shapes = (n : ℕ) (s : Shape) → slice_get shapes n ≡ Some s → IsMadeBelow n s

-- no two numbers stand for one closed type
abbrev pub TellTypesApart : List Shape → Type 0
TellTypesApart shapes = (m n : ℕ) → m < length shapes → n < length shapes → type_at shapes m ≡ type_at shapes n → m ≡ n

-- these shapes and more
abbrev pub Extends : List Shape → List Shape → Type 0
Extends shapes more = (rest : List Shape) × (more ≡ shapes ++ rest)

-- the number, if there is one, stands for the closed type, if there is one
abbrev pub IsPartOf : List Shape → Option ClosedType → Option ℕ → Type 0
IsPartOf shapes t n = IsPartBelow (length shapes) n × (option_map (type_at shapes) n ≡ t)

-- the numbers in a row are among these shapes'
abbrev pub IsRowAmong : List Shape → RowShape → Type 0
IsRowAmong shapes r = (r.number < length shapes) × IsPartBelow (length shapes) r.result

-- the closed types that rows stand for
abbrev pub row_types : List Shape → List RowShape → List ClosedType
row_types shapes rows = map (λ r. type_at shapes r.number) rows

-- the closed type of a row's result, over the closed types of the rows; none of a type
abbrev pub result_type : List ClosedType → Definition → Option ClosedType
result_type ts (row.Type d) = None
result_type ts (row.Function f) = option_map (closed_val ts) f.result

-- the closed types that the results of rows stand for
abbrev pub row_results : List Shape → List RowShape → List (Option ClosedType)
row_results shapes rows = map (λ r. option_map (type_at shapes) r.result) rows

-- the rows are those of the table: each stands for its closed type, and for that of its result
pub record AreRowsOf (shapes : List Shape) (r : Resolve) (rows : List RowShape) : Type 0 where
  pub among : All (IsRowAmong shapes) rows
  pub types : row_types shapes rows ≡ closed_types r
  pub results : row_results shapes rows ≡ map (result_type (closed_types r)) r.definitions
