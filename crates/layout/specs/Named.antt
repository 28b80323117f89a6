-- What a type of a table is, by the definition that it stands for as the table has it: used names (WIT.md, "Interface Use") and new names
-- (WIT.md, "Item: `type` (alias)") are followed, and nothing else is.
use Rattle.std.specs.Prelude.{◌≡◌, ℕ, List, [], ◌∷◌, length, map, slice_get, Option, None, Some, option_and_then}
use Rattle.tables.specs.declared.tables.ValType.{ValType}
use Rattle.tables.specs.declared.tables.ValType.TheVariants as val
use Rattle.tables.specs.declared.tables.TypeDefKind.{TypeDefKind}
use Rattle.tables.specs.declared.tables.TypeDefKind.TheVariants as kind
use Rattle.tables.specs.declared.tables.Definition.{Definition}
use Rattle.tables.specs.declared.tables.Definition.TheVariants as row
use Rattle.tables.specs.declared.tables.Resolve.{Resolve}
use Rattle.layout.specs.declared.queries.Shape.{Shape}
use Rattle.layout.specs.declared.queries.Shape.TheVariants as shape

-- the type that a used name or a new name names
abbrev pub kind_named : TypeDefKind → Option ValType
kind_named (kind.Use t) = Some (val.Id t)
kind_named (kind.Alias v) = Some v
kind_named _ = None

-- the type that a row names, if it is a used or a new name (WIT.md, "Interface Use", "Item: `type` (alias)")
abbrev pub definition_named : Definition → Option ValType
definition_named (row.Type d) = kind_named d.kind
definition_named (row.Function f) = None

-- the type that a type of the table names, if its row is a used or a new name
abbrev pub named_in : List Definition → ValType → Option ValType
named_in ds (val.Id t) = option_and_then definition_named (slice_get ds t.0)
named_in ds _ = None

-- v stands for e in the end
pub data StandsFor (ds : List Definition) : ValType → ValType → Type 0 where
  itself : (v : ValType) → named_in ds v ≡ None → StandsFor ds v v
  named : (v w e : ValType) → named_in ds v ≡ Some w → StandsFor ds w e → StandsFor ds v e

-- the type that v stands for has the property
abbrev pub OfNamed : Resolve → ValType → (ValType → Type 0) → Type 0
OfNamed r v P = (e : ValType) × (StandsFor r.definitions v e × P e)

-- ---- what stands directly in a definition

-- the members of a record or of a tuple; those of a function's row are its parameters
abbrev pub kind_members : TypeDefKind → List ValType
kind_members (kind.Tuple vs) = vs
kind_members (kind.Record fs) = map (λ f. f.ty) fs
kind_members _ = []

-- the members of a row: a record's fields, a tuple's types, a function's parameters
abbrev pub definition_members : Definition → List ValType
definition_members (row.Type d) = kind_members d.kind
definition_members (row.Function f) = map (λ p. p.ty) f.params

-- the cases of a variant, of an enum, of an option or of a result, each with its payload if it has one
abbrev pub kind_cases : TypeDefKind → List (Option ValType)
kind_cases (kind.Option v) = None ∷ Some v ∷ []
kind_cases (kind.Result ok error) = ok ∷ error ∷ []
kind_cases (kind.Variant cs) = map (λ c. c.ty) cs
kind_cases (kind.Enum names) = map (λ n. None) names
kind_cases _ = []

-- the cases of a row, each with its payload if it has one
abbrev pub definition_cases : Definition → List (Option ValType)
definition_cases (row.Type d) = kind_cases d.kind
definition_cases (row.Function f) = []

-- a name has no shape of its own
abbrev pub kind_shape : TypeDefKind → Option Shape
kind_shape (kind.Use t) = None
kind_shape (kind.Alias v) = None
kind_shape (kind.List v) = Some (shape.List v)
kind_shape (kind.Option v) = Some (shape.Variant 2)
kind_shape (kind.Result ok error) = Some (shape.Variant 2)
kind_shape (kind.Tuple vs) = Some (shape.Record (length vs))
kind_shape (kind.Record fs) = Some (shape.Record (length fs))
kind_shape (kind.Variant cs) = Some (shape.Variant (length cs))
kind_shape (kind.Enum names) = Some (shape.Variant (length names))
kind_shape (kind.Flags names) = Some (shape.Flags (length names))

-- the shape of a row; that of a function is its parameters'
abbrev pub definition_shape : Definition → Option Shape
definition_shape (row.Type d) = kind_shape d.kind
definition_shape (row.Function f) = Some (shape.Record (length f.params))

-- ---- of a type of the table

-- the shape of a type of the table, names not followed
abbrev pub own_shape : List Definition → ValType → Option Shape
own_shape ds (val.Primitive p) = Some (shape.Primitive p)
own_shape ds val.String = Some shape.String
own_shape ds (val.Id t) = option_and_then definition_shape (slice_get ds t.0)

-- the i-th member of a type of the table, names not followed
abbrev pub own_member : List Definition → ValType → ℕ → Option ValType
own_member ds (val.Id t) i = option_and_then (λ d. slice_get (definition_members d) i) (slice_get ds t.0)
own_member ds _ i = None

-- the i-th case of a type of the table, with its payload if it has one, names not followed
abbrev pub own_case : List Definition → ValType → ℕ → Option (Option ValType)
own_case ds (val.Id t) i = option_and_then (λ d. slice_get (definition_cases d) i) (slice_get ds t.0)
own_case ds _ i = None

-- each type stands for one type alone
abbrev pub StandsForOne : Resolve → Type 0
StandsForOne r = (v e f : ValType) → StandsFor r.definitions v e → StandsFor r.definitions v f → e ≡ f
