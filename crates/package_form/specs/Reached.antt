-- Which interfaces are reached: a use names a type of one, or an item of a world is one.
use Rattle.std.specs.Prelude.{◌==◌, ◌||◌, ◌&&◌, ◌+◌, ℕ, Bool, true, List, [], ◌∷◌, ◌++◌, flat_map, slice_get, Option, None, Some}
use Rattle.std.specs.List.{list_any}
use Rattle.tables.specs.Tables.{type_of}
use Rattle.tables.specs.declared.tables.TypeId.{TypeId}
use Rattle.tables.specs.declared.tables.TypeDef.{TypeDef}
use Rattle.tables.specs.declared.tables.TypeDefKind.{TypeDefKind}
use Rattle.tables.specs.declared.tables.TypeDefKind.TheVariants as kind
use Rattle.tables.specs.declared.tables.TypeName.{TypeName}
use Rattle.tables.specs.declared.tables.Definition.{Definition}
use Rattle.tables.specs.declared.tables.Definition.TheVariants as row
use Rattle.tables.specs.declared.tables.Interface.{Interface}
use Rattle.tables.specs.declared.tables.WorldItemKind.{WorldItemKind}
use Rattle.tables.specs.declared.tables.WorldItemKind.TheVariants as item
use Rattle.tables.specs.declared.tables.WorldItem.{WorldItem}
use Rattle.tables.specs.declared.tables.World.{World}

-- the row of the type that a `use` names, or none of a type of another kind
abbrev pub used_by : TypeDefKind → Option TypeId
used_by (kind.Use t) = Some t
used_by _ = None

-- the row of the type that a row names by `use`, or none of another row
abbrev pub used_in : Definition → Option TypeId
used_in (row.Type d) = used_by d.kind
used_in (row.Function f) = None

-- the name of a type, or none if there is no type or it has no name
abbrev pub name_of : Option TypeDef → Option TypeName
name_of None = None
name_of (Some d) = d.name

-- the name of the type in this row, or none if there is no such type or it has no name
abbrev pub name_at : List Definition → Option TypeId → Option TypeName
name_at rows None = None
name_at rows (Some t) = name_of (type_of (slice_get rows t.0))

-- the index of the interface that a type's name is of, as a list of one, or of none without a name
abbrev pub named_interface : Option TypeName → List ℕ
named_interface None = []
named_interface (Some n) = n.interface.0 ∷ []

-- the interface of the type that a row names by `use`, as a list of one or none
abbrev pub reached_by_row : List Definition → Definition → List ℕ
reached_by_row rows d = named_interface (name_at rows (used_in d))

-- the interface that an item imports or exports, as a list of one, or none of a function
abbrev pub reached_by_kind : WorldItemKind → List ℕ
reached_by_kind (item.Interface i) = i.0 ∷ []
reached_by_kind (item.Function f) = []

-- the interface that a world's item imports or exports, as a list of one, or none of a function
abbrev pub reached_by_item : WorldItem → List ℕ
reached_by_item i = reached_by_kind i.kind

-- the interfaces that a world imports and exports, in order of its items
abbrev pub reached_by_world : World → List ℕ
reached_by_world w = flat_map reached_by_item w.items

-- the interfaces that the rows and worlds of a table reach, by their indices
abbrev pub reached : List Definition → List World → List ℕ
reached rows ws = flat_map (reached_by_row rows) rows ++ flat_map reached_by_world ws

-- k is one of these places
abbrev pub is_among : List ℕ → ℕ → Bool
is_among places k = list_any (λ n. n == k) places

-- the interface is of package k
abbrev pub is_interface_of : ℕ → Interface → Bool
is_interface_of k i = i.«package».0 == k

-- each of these interfaces, the first of which is interface k, is of this package or reached
abbrev pub are_reached : ℕ → List ℕ → ℕ → List Interface → Bool
are_reached own places k [] = true
are_reached own places k (i ∷ is) = (is_interface_of own i || is_among places k) && are_reached own places (k + 1) is
