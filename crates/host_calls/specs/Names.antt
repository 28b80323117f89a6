-- WIT.md, "Types": the names of a table's rows, and the labels of what stands in them.
use Rattle.std.specs.Prelude.{ℕ, List, [], ◌∷◌, map, slice_get, Option, None, Some}
use Rattle.std.specs.Option.{option_map}
use Rattle.canonical_abi.specs.Labelled.{none_label, some_label, ok_label, error_label}
use Rattle.tables.specs.Names.{label_in}
use Rattle.tables.specs.declared.tables.TypeDefKind.{TypeDefKind}
use Rattle.tables.specs.declared.tables.TypeDefKind.TheVariants as kind
use Rattle.tables.specs.declared.tables.Definition.{Definition}
use Rattle.tables.specs.declared.tables.Definition.TheVariants as row
use Rattle.tables.specs.declared.tables.Resolve.{Resolve}

-- the name of a row: a type's or a function's; no bytes if it has none
abbrev pub definition_name : Definition → List ℕ
definition_name (row.Type d) = label_in d.name
definition_name (row.Function f) = f.name

-- a label for each member, in order; no bytes for an element of a tuple
abbrev pub member_labels : TypeDefKind → List (List ℕ)
member_labels (kind.Use t) = []
member_labels (kind.Alias v) = []
member_labels (kind.List v) = []
member_labels (kind.Option v) = none_label ∷ some_label ∷ []
member_labels (kind.Result ok error) = ok_label ∷ error_label ∷ []
member_labels (kind.Tuple vs) = map (λ v. []) vs
member_labels (kind.Record fs) = map (λ f. f.name) fs
member_labels (kind.Variant cs) = map (λ c. c.name) cs
member_labels (kind.Enum names) = names
member_labels (kind.Flags names) = names

-- a row's labels in order: those of a type's members, or a function's parameters
abbrev pub definition_labels : Definition → List (List ℕ)
definition_labels (row.Type d) = member_labels d.kind
definition_labels (row.Function f) = map (λ p. p.name) f.params

-- the name of the row of this number, if there is such a row; no bytes if it has no name
abbrev pub row_name_at : Resolve → ℕ → Option (List ℕ)
row_name_at r number = option_map definition_name (slice_get r.definitions number)

-- the label of member i of this row, if there is a row and it has that member
abbrev pub member_name_in : Option Definition → ℕ → Option (List ℕ)
member_name_in None i = None
member_name_in (Some d) i = slice_get (definition_labels d) i

-- the label of member i of the row of this number, if there are both
abbrev pub member_name_at : Resolve → ℕ → ℕ → Option (List ℕ)
member_name_at r number i = member_name_in (slice_get r.definitions number) i
