-- CanonicalABI.md, "Despecialization": what stands in a definition, in order. An option has the cases `none` and `some`, a result `ok` and `error`.
use Rattle.std.specs.Prelude.{List, [], ◌∷◌, map, Option, None, Some}
use Rattle.tables.specs.declared.tables.ValType.{ValType}
use Rattle.tables.specs.declared.tables.ValType.TheVariants as val
use Rattle.tables.specs.declared.tables.TypeDefKind.{TypeDefKind}
use Rattle.tables.specs.declared.tables.TypeDefKind.TheVariants as kind
use Rattle.tables.specs.declared.tables.Definition.{Definition}
use Rattle.tables.specs.declared.tables.Definition.TheVariants as row

-- the types of fields, elements and payloads; a case may have none, and a label has none
abbrev pub member_types_in : TypeDefKind → List (Option ValType)
member_types_in (kind.Use t) = []
member_types_in (kind.Alias v) = []
member_types_in (kind.List v) = []
member_types_in (kind.Option v) = None ∷ Some v ∷ []
member_types_in (kind.Result ok error) = ok ∷ error ∷ []
member_types_in (kind.Tuple vs) = map (λ v. Some v) vs
member_types_in (kind.Record fs) = map (λ f. Some f.ty) fs
member_types_in (kind.Variant cs) = map (λ c. c.ty) cs
member_types_in (kind.Enum names) = map (λ n. None) names
member_types_in (kind.Flags names) = map (λ n. None) names

-- the types of a row's members in order: those of a type, or a function's parameters
abbrev pub types_of_members : Definition → List (Option ValType)
types_of_members (row.Type d) = member_types_in d.kind
types_of_members (row.Function f) = map (λ p. Some p.ty) f.params

-- the type that a type of this kind has besides members: a list's element, or what a name is a name of
abbrev pub target_in : TypeDefKind → Option ValType
target_in (kind.Use t) = Some (val.Id t)
target_in (kind.Alias v) = Some v
target_in (kind.List v) = Some v
target_in _ = None

-- the type that a row has besides members: a list's element, what a name is a name of, or a function's result
abbrev pub target_of : Definition → Option ValType
target_of (row.Type d) = target_in d.kind
target_of (row.Function f) = f.result
