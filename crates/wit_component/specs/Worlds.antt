-- Binary.md, "Component Definitions" and "Type Definitions": a world as a component type. Of an interface among its items it has an outer alias
-- of the interface's instance type, and an instance of that type under the interface's full name; of a function its type, behind the types
-- without names that it is made of, and the function under its name.
use Rattle.std.specs.Prelude.{◌≤◌, ◌<◌, ℕ, ◌+◌, ◌-◌, List, [], ◌∷◌, ◌++◌, take, drop, length, IsTrue, slice_get, slice_index, slice_index_or, Option, None, Some}
use Rattle.ctype_format.specs.Raw.{Decl, Func, Entry, Import, Export}
use Rattle.ctype_format.specs.declared.raw.RawDescription.{RawDescription}
use Rattle.ctype_format.specs.declared.raw.RawDescription.TheVariants as described
use Rattle.tables.specs.Tables.{function_of, is_function_id}
use Rattle.tables.specs.declared.tables.Direction.{Direction}
use Rattle.tables.specs.declared.tables.Direction.TheVariants as direction
use Rattle.tables.specs.declared.tables.Function.{Function}
use Rattle.tables.specs.declared.tables.Definition.{Definition}
use Rattle.tables.specs.declared.tables.WorldItemKind.{WorldItemKind}
use Rattle.tables.specs.declared.tables.WorldItemKind.TheVariants as item
use Rattle.tables.specs.declared.tables.WorldItem.{WorldItem}
use Rattle.package_form.specs.Ends.{behind_item}
use Rattle.wit_component.specs.Rows.{Place, signature_of, outer_alias, declarations_of, places_after}

-- an import or an export of this name
abbrev pub directed : Direction → List ℕ → RawDescription → Decl
directed direction.Import name d = Import name d
directed direction.Export name d = Export name d

-- the rows from place start on, before place end
abbrev pub rows_between : List Definition → ℕ → ℕ → List Definition
rows_between rows start end = take (end - start) (drop start rows)

-- the function type of a function of a world, and its import or export under its name
abbrev pub function_declared : Place → Direction → Option Function → List Decl
function_declared at way None = []
function_declared at way (Some f) = Entry (Func (signature_of at.indices f)) ∷ directed way f.name (described.Function at.types) ∷ []

-- what the items of a world refer to: the rows of the table, the full name of each interface, and the type index of its
-- instance type
pub record Surroundings : Type 0 where
  pub rows : List Definition
  pub names : List (List ℕ)
  pub instances : List ℕ

-- what a world's component type declares for an item: an alias of the instance type and the instance, or the function's
-- rows and the function
abbrev pub item_declarations : Surroundings → Place → ℕ → Direction → WorldItemKind → List Decl
item_declarations p at start way (item.Interface i) =
    outer_alias (slice_index p.instances i.0) ∷ directed way (slice_index_or p.names i.0 []) (described.Instance at.types) ∷ []
item_declarations p at start way (item.Function f) =
    declarations_of at (rows_between p.rows start f.0)
    ++ function_declared (places_after at (rows_between p.rows start f.0)) way (function_of (slice_get p.rows f.0))

-- the place after an item of a world: an alias takes a type index, and so does each row of a function
abbrev pub item_place : List Definition → Place → ℕ → WorldItemKind → Place
item_place rows at start (item.Interface i) = record { indices = at.indices; types = at.types + 1; used = at.used }
item_place rows at start (item.Function f) = places_after at (rows_between rows start (f.0 + 1))

-- what a world's component type declares for these items; the rows of the first begin at start
abbrev pub items_declared : Surroundings → Place → ℕ → List WorldItem → List Decl
items_declared p at start [] = []
items_declared p at start (i ∷ is) =
    item_declarations p at start i.direction i.kind ++ items_declared p (item_place p.rows at start i.kind) (behind_item start i.kind) is

-- the place after these items of a world; the rows of the first begin at start
abbrev pub items_place : List Definition → Place → ℕ → List WorldItem → Place
items_place rows at start [] = at
items_place rows at start (i ∷ is) = items_place rows (item_place rows at start i.kind) (behind_item start i.kind) is

-- the item is one of so many interfaces, or a function in the table at or after place start
abbrev pub StandsFrom : ℕ → List Definition → ℕ → WorldItemKind → Type 0
StandsFrom interfaces rows start (item.Interface i) = i.0 < interfaces
StandsFrom interfaces rows start (item.Function f) = (start ≤ f.0) × (f.0 < length rows) × IsTrue (is_function_id rows f)

-- each of these items is one of so many interfaces or a function in the table, the functions in order from start on
abbrev pub StandFrom : ℕ → List Definition → ℕ → List WorldItem → Type 0
StandFrom interfaces rows start [] = Unit {0}
StandFrom interfaces rows start (i ∷ is) = StandsFrom interfaces rows start i.kind × StandFrom interfaces rows (behind_item start i.kind) is
