-- Tables whose records have no label twice.
use Rattle.std.specs.Prelude.{◌≡◌, List, [], ◌∷◌}
use Rattle.std.specs.List.{AllByRecursion}
use Rattle.tables.specs.declared.tables.TypeDefKind.{TypeDefKind}
use Rattle.tables.specs.declared.tables.TypeDefKind.TheVariants as kind
use Rattle.tables.specs.declared.tables.Field.{Field}
use Rattle.tables.specs.declared.tables.Definition.{Definition}
use Rattle.tables.specs.declared.tables.Definition.TheVariants as row
use Rattle.tables.specs.declared.tables.Resolve.{Resolve}

-- the fields' labels differ
abbrev pub HaveLabelsApart : List Field → Type 0
HaveLabelsApart [] = Unit {0}
HaveLabelsApart (f ∷ fs) = AllByRecursion (λ g. g.name ≡ f.name → ⊥) fs × HaveLabelsApart fs

-- a type of this kind is no record, or its fields' labels differ
abbrev pub KindApart : TypeDefKind → Type 0
KindApart (kind.Record fs) = HaveLabelsApart fs
KindApart _ = Unit {0}

-- the row is no record, or its fields' labels differ
abbrev pub RowApart : Definition → Type 0
RowApart (row.Type d) = KindApart d.kind
RowApart (row.Function f) = Unit {0}

-- no record of the table has two fields of one label
abbrev pub HasApartLabels : Resolve → Type 0
HasApartLabels r = AllByRecursion RowApart r.definitions
