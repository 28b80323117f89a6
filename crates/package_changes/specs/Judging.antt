-- Verdicts by tests, the functions of a package, and what a host does with each.
use Rattle.std.specs.Prelude.{◌==◌, ◌+◌, ℕ, Bool, true, false, ◌&&◌, ◌||◌, not, List, [], ◌∷◌, ◌++◌, length, if◌then◌else◌}
use Rattle.std.specs.List.{list_any}
use Rattle.tables.specs.declared.tables.Direction.{Direction}
use Rattle.tables.specs.declared.tables.Direction.TheVariants as direction
use Rattle.tables.specs.declared.tables.FunctionId.{FunctionId}
use Rattle.tables.specs.declared.tables.Interface.{Interface}
use Rattle.tables.specs.declared.tables.PackageId.{PackageId}
use Rattle.tables.specs.declared.tables.Resolve.{Resolve}
use Rattle.tables.specs.declared.tables.World.{World}
use Rattle.tables.specs.declared.tables.WorldItem.{WorldItem}
use Rattle.tables.specs.declared.tables.WorldItemKind.{WorldItemKind}
use Rattle.tables.specs.declared.tables.WorldItemKind.TheVariants as kind
use Rattle.package_changes.specs.declared.likeness.Likeness.{Likeness}
use Rattle.package_changes.specs.declared.places.Place.{Place}
use Rattle.package_changes.specs.declared.places.Standing.{Standing}
use Rattle.package_changes.specs.declared.places.Standing.TheVariants as standing
use Rattle.package_changes.specs.declared.verdicts.Role.{Role}
use Rattle.package_changes.specs.declared.verdicts.Role.TheVariants as role
use Rattle.package_changes.specs.declared.verdicts.Verdict.{Verdict}
use Rattle.package_changes.specs.declared.verdicts.Verdict.TheVariants as verdict

-- ---- verdicts
-- a host in this role deals with the newer function's closed types by those of the older one
abbrev pub taken : Role → Likeness → Likeness → Bool
taken role.Called a b = a.wider && b.equal
taken role.Served a b = a.equal && b.wider
taken role.Both a b = a.equal && b.equal

-- the verdict by what is known: that the types are taken, the same, that a label moved, and that they are only wider
abbrev pub decided : Bool → Bool → Bool → Bool → Verdict
decided false is_same moved wider = verdict.Changed
decided true true moved wider = verdict.Same
decided true false true wider = verdict.Moved
decided true false false true = verdict.Wider
decided true false false false = verdict.Renamed

abbrev pub verdict_of : Role → Likeness → Likeness → Verdict
verdict_of x a b = decided (taken x a b) (a.same && b.same) (a.moved || b.moved) (not (a.equal && b.equal) && not (a.renamed || b.renamed))

-- ---- the functions of a package

-- the package is the last one of the table
abbrev pub is_last : Resolve → PackageId → Bool
is_last r p = (p.0 + 1) == length r.packages

-- these functions of the interface at place n
abbrev pub function_places : ℕ → List FunctionId → List Place
function_places n [] = []
function_places n (f ∷ fs) = record { standing = standing.Interface n; function = f } ∷ function_places n fs

-- the functions of the interface at place n, if it is one of the last package
abbrev pub interface_places : Resolve → ℕ → Interface → List Place
interface_places r n i = if is_last r i.«package» then function_places n i.functions else []

-- the same of these interfaces, of which the first is at place n
abbrev pub places_of_interfaces : Resolve → ℕ → List Interface → List Place
places_of_interfaces r n [] = []
places_of_interfaces r n (i ∷ is) = interface_places r n i ++ places_of_interfaces r (n + 1) is

-- the function that an item of the world at place n is, if it is one
abbrev pub item_place : ℕ → Direction → WorldItemKind → List Place
item_place n side (kind.Function f) = record { standing = standing.World n side; function = f } ∷ []
item_place n side (kind.Interface i) = []

-- the functions among these items of the world at place n
abbrev pub item_places : ℕ → List WorldItem → List Place
item_places n [] = []
item_places n (item ∷ items) = item_place n item.direction item.kind ++ item_places n items

-- the functions of the world at place n, if it is one of the last package
abbrev pub world_places : Resolve → ℕ → World → List Place
world_places r n w = if is_last r w.«package» then item_places n w.items else []

-- the same of these worlds, of which the first is at place n
abbrev pub places_of_worlds : Resolve → ℕ → List World → List Place
places_of_worlds r n [] = []
places_of_worlds r n (w ∷ ws) = world_places r n w ++ places_of_worlds r (n + 1) ws

-- the functions of the last package: those of its interfaces, and then those that are items of its worlds, each in table order
abbrev pub own_functions : Resolve → List Place
own_functions r = places_of_interfaces r 0 r.interfaces ++ places_of_worlds r 0 r.worlds

-- ---- what a host does with a function

abbrev pub is_side : Direction → Direction → Bool
is_side direction.Import direction.Import = true
is_side direction.Export direction.Export = true
is_side _ _ = false

-- the item is the interface at place n, on this side
abbrev pub is_item : Direction → ℕ → WorldItemKind → Direction → Bool
is_item side n (kind.Interface i) d = (i.0 == n) && is_side d side
is_item side n (kind.Function f) d = false

-- one of these items is the interface at place n, on this side
abbrev pub has_item : Direction → ℕ → List WorldItem → Bool
has_item side n items = list_any (λ i. is_item side n i.kind i.direction) items

-- the world is one of the last package, and has the interface at place n on this side
abbrev pub is_on_world : Resolve → Direction → ℕ → World → Bool
is_on_world r side n w = is_last r w.«package» && has_item side n w.items

-- a world of the last package has the interface at place n on this side
abbrev pub is_on : Resolve → Direction → ℕ → Bool
is_on r side n = list_any (is_on_world r side n) r.worlds

-- a host serves an interface that a world imports, and calls one that a world exports, or that is on no side
abbrev pub role_by : Bool → Bool → Role
role_by true true = role.Both
role_by true false = role.Served
role_by false exported = role.Called

abbrev pub role_of : Resolve → Standing → Role
role_of r (standing.Interface i) = role_by (is_on r direction.Import i) (is_on r direction.Export i)
role_of r (standing.World w direction.Import) = role.Served
role_of r (standing.World w direction.Export) = role.Called

-- ---- what is lost

-- a host in this role does without the function as it was
abbrev pub is_lost_by : Verdict → Role → Bool
is_lost_by verdict.Moved x = true
is_lost_by verdict.Changed x = true
is_lost_by verdict.Removed role.Served = false
is_lost_by verdict.Removed _ = true
is_lost_by _ x = false
