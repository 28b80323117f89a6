-- Rows without names stand as in postfix notation: each is used once, in order, by the next definition that is made of it.
use Rattle.std.specs.Prelude.{ℕ, ◌≡◌, Bool, true, false, not, List, [], ◌∷◌, ◌++◌, flat_map, length, slice_get, Option, None, Some, is_some, if◌then◌else◌}
use Rattle.tables.specs.declared.tables.ValType.{ValType}
use Rattle.tables.specs.declared.tables.ValType.TheVariants as val
use Rattle.tables.specs.declared.tables.TypeDefKind.{TypeDefKind}
use Rattle.tables.specs.declared.tables.TypeDefKind.TheVariants as kind
use Rattle.tables.specs.declared.tables.Parameter.{Parameter}
use Rattle.tables.specs.declared.tables.Field.{Field}
use Rattle.tables.specs.declared.tables.Case.{Case}
use Rattle.tables.specs.declared.tables.Definition.{Definition}
use Rattle.tables.specs.declared.tables.Definition.TheVariants as row

-- the row is a type without a name
abbrev pub is_unnamed : Definition → Bool
is_unnamed (row.Type d) = not (is_some d.name)
is_unnamed (row.Function f) = false

-- there is a row, and it is a type without a name
abbrev pub is_unnamed_row : Option Definition → Bool
is_unnamed_row None = false
is_unnamed_row (Some d) = is_unnamed d

-- this number as a list, or none
abbrev pub one_if : Bool → ℕ → List ℕ
one_if b n = if b then n ∷ [] else []

-- the row of a type without a name, as a list of one; none of a named type, a primitive and string
abbrev pub unnamed : List Definition → ValType → List ℕ
unnamed rows (val.Primitive p) = []
unnamed rows val.String = []
unnamed rows (val.Id t) = one_if (is_unnamed_row (slice_get rows t.0)) t.0

-- the row of a type without a name, if there is such a type
abbrev pub unnamed_if : List Definition → Option ValType → List ℕ
unnamed_if rows None = []
unnamed_if rows (Some v) = unnamed rows v

-- the row of a field's type, if that has no name
abbrev pub unnamed_field : List Definition → Field → List ℕ
unnamed_field rows f = unnamed rows f.ty

-- the row of the type of a case's payload, if there is one and it has no name
abbrev pub unnamed_case : List Definition → Case → List ℕ
unnamed_case rows c = unnamed_if rows c.ty

-- the row of a parameter's type, if that has no name
abbrev pub unnamed_parameter : List Definition → Parameter → List ℕ
unnamed_parameter rows p = unnamed rows p.ty

-- the rows without names that a kind is made of, from the left
abbrev pub parts : List Definition → TypeDefKind → List ℕ
parts rows (kind.List v) = unnamed rows v
parts rows (kind.Option v) = unnamed rows v
parts rows (kind.Result ok error) = unnamed_if rows ok ++ unnamed_if rows error
parts rows (kind.Tuple vs) = flat_map (unnamed rows) vs
parts rows (kind.Record fs) = flat_map (unnamed_field rows) fs
parts rows (kind.Variant cs) = flat_map (unnamed_case rows) cs
parts rows _ = []

-- the rows without names that a row is made of, from the left; a function's result comes last
abbrev pub parts_of : List Definition → Definition → List ℕ
parts_of rows (row.Type d) = parts rows d.kind
parts_of rows (row.Function f) = flat_map (unnamed_parameter rows) f.params ++ unnamed_if rows f.result

-- the row without a name that a type of this kind is a new name of, which an alias must not be
abbrev pub aliased : List Definition → TypeDefKind → List ℕ
aliased rows (kind.Alias v) = unnamed rows v
aliased rows _ = []

-- the row without a name that a type is a new name of, which no table in form has
abbrev pub aliased_by : List Definition → Definition → List ℕ
aliased_by rows (row.Type d) = aliased rows d.kind
aliased_by rows (row.Function f) = []

-- a type of this kind may be without a name: a list, an option, a result or a tuple
abbrev pub is_inner : TypeDefKind → Bool
is_inner (kind.List v) = true
is_inner (kind.Option v) = true
is_inner (kind.Result ok error) = true
is_inner (kind.Tuple vs) = true
is_inner _ = false

-- the row of a type without a name
abbrev pub inner_row : TypeDefKind → Definition
inner_row k = row.Type (record { name = None; kind = k })

-- After these rows, the rows at these places are still to be used. A row takes those that it is made of from the end; with a name, it
-- takes all that are left.
pub data Leaves : List Definition → List ℕ → Type 0 where
  begin : Leaves [] []
  inner : (rows : List Definition) (unused : List ℕ) (k : TypeDefKind) → is_inner k ≡ true
      → Leaves rows (unused ++ parts rows k) → Leaves (rows ++ inner_row k ∷ []) (unused ++ length rows ∷ [])
  whole : (rows : List Definition) (d : Definition) → is_unnamed d ≡ false → aliased_by rows d ≡ []
      → Leaves rows (parts_of rows d) → Leaves (rows ++ d ∷ []) []

-- each row without a name is used exactly once, by the next definition, in order
abbrev pub IsPostfix : List Definition → Type 0
IsPostfix rows = Leaves rows []
