-- WIT.md, "Types": what a type of a table is spelled as, its labels and the types in it.
use Rattle.std.specs.Prelude.{◌≡◌, List, [], ◌∷◌, map, Option, Some, None}
use Rattle.canonical_abi.specs.Labelled.{Label, none_label, some_label, ok_label, error_label}
use Rattle.tables.specs.declared.tables.Parameter.{Parameter}
use Rattle.tables.specs.declared.tables.TypeDefKind.{TypeDefKind}
use Rattle.tables.specs.declared.tables.TypeDefKind.TheVariants as kind
use Rattle.tables.specs.declared.tables.ValType.{ValType}
use Rattle.tables.specs.declared.tables.ValType.TheVariants as val
use Rattle.package_changes.specs.declared.type_nodes.Node.{Node}
use Rattle.package_changes.specs.declared.type_nodes.Spelling.{Spelling}
use Rattle.package_changes.specs.declared.type_nodes.Spelling.TheVariants as spelled

-- what a type of this kind is spelled as; a name for another type is none of them, and counts as a list
abbrev pub spelling_of : TypeDefKind → Spelling
spelling_of (kind.Use t) = spelled.List
spelling_of (kind.Alias v) = spelled.List
spelling_of (kind.List v) = spelled.List
spelling_of (kind.Option v) = spelled.Option
spelling_of (kind.Result ok error) = spelled.Result
spelling_of (kind.Tuple vs) = spelled.Tuple
spelling_of (kind.Record fs) = spelled.Record
spelling_of (kind.Variant cs) = spelled.Variant
spelling_of (kind.Enum names) = spelled.Enum
spelling_of (kind.Flags names) = spelled.Flags

-- the labels of a type of this kind, in order
abbrev pub labels_of : TypeDefKind → List Label
labels_of (kind.Option v) = none_label ∷ some_label ∷ []
labels_of (kind.Result ok error) = ok_label ∷ error_label ∷ []
labels_of (kind.Record fs) = map (λ f. f.name) fs
labels_of (kind.Variant cs) = map (λ c. c.name) cs
labels_of (kind.Enum names) = names
labels_of (kind.Flags names) = names
labels_of _ = []

-- the types in a type of this kind, in order; none of a case without a payload
abbrev pub parts_of : TypeDefKind → List (Option ValType)
parts_of (kind.Use t) = Some (val.Id t) ∷ []
parts_of (kind.Alias v) = Some v ∷ []
parts_of (kind.List v) = Some v ∷ []
parts_of (kind.Option v) = None ∷ Some v ∷ []
parts_of (kind.Result ok error) = ok ∷ error ∷ []
parts_of (kind.Tuple vs) = map (λ v. Some v) vs
parts_of (kind.Record fs) = map (λ f. Some f.ty) fs
parts_of (kind.Variant cs) = map (λ c. c.ty) cs
parts_of (kind.Enum names) = map (λ n. None) names
parts_of (kind.Flags names) = []

-- the node has what a type of this kind has
pub record IsNodeOf (k : TypeDefKind) (n : Node) : Type 0 where
  pub spelling : n.spelling ≡ spelling_of k
  pub labels : n.labels.items ≡ labels_of k
  pub parts : n.parts.items ≡ parts_of k

-- the node has what a record with a field for each parameter has
pub record IsNodeOfParameters (ps : List Parameter) (n : Node) : Type 0 where
  pub spelling : n.spelling ≡ spelled.Record
  pub labels : n.labels.items ≡ map (λ p. p.name) ps
  pub parts : n.parts.items ≡ map (λ p. Some p.ty) ps
