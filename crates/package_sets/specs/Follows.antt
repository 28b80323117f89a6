-- What follows for tables that are made of a set.
use Rattle.std.specs.Prelude.{◌≡◌, ◌⊎◌, ◌<◌, ◌≤◌, ◌==◌, ℕ, Bool, true, false, List, [], ◌∷◌, ◌++◌, length, map, slice_get, slice_index_or, Option, None, Some, Contains, All}
use Rattle.package_form.specs.Closed.{own_package, is_closed, are_of_a_set, has_each_package, is_world_of}
use Rattle.package_form.specs.Form.{IsInPackageForm, has_full_names}
use Rattle.package_form.specs.Naming.{package_scopes}
use Rattle.package_form.specs.Postfix.{IsPostfix}
use Rattle.package_form.specs.Reached.{reached}
use Rattle.package_form.specs.Scope.{AreDistinct}
use Rattle.package_sets.specs.Attached.{others, HasAll, Fits}
use Rattle.package_sets.specs.Imports.{IsImportsOf}
use Rattle.package_sets.specs.Joining.{own_interfaces}
use Rattle.tables.specs.Names.{owner_of}
use Rattle.package_sets.specs.Restricted.{definitions_where, reached_definitions, package_of_owner, IsReachedIn, NamesEarlierPackages, IsRestricted}
use Rattle.package_sets.specs.Set.{IsPackageByPackage, IsSet, HasRowsInForm}
use Rattle.package_sets.specs.SetForm.{HasNamesApart, IsInSetForm}
use Rattle.package_sets.specs.SetScopes.{HasDistinctScopes}
use Rattle.tables.specs.Closed.{function_type}
use Rattle.tables.specs.Names.{full_name, IsNamed}
use Rattle.tables.specs.Package.{interface_names, definitions, worlds, NamedDefinition}
use Rattle.tables.specs.PackageNames.{PackageParts}
use Rattle.tables.specs.declared.tables.Definition.{Definition}
use Rattle.tables.specs.declared.tables.FunctionId.{FunctionId}
use Rattle.tables.specs.declared.tables.Interface.{Interface}
use Rattle.tables.specs.declared.tables.Owner.{Owner}
use Rattle.tables.specs.declared.tables.Owner.TheVariants as owner
use Rattle.tables.specs.declared.tables.Resolve.{Resolve}
use Rattle.tables.specs.declared.tables.World.{World}
use Rattle.std.specs.List.{items_where_true}

-- ---- the table of imports

-- a row without an owner, or of one of the first `count` interfaces
abbrev pub IsOfInterfaces : ℕ → Option Owner → Type 0
IsOfInterfaces count None = Unit {0}
IsOfInterfaces count (Some (owner.World w)) = ⊥
IsOfInterfaces count (Some (owner.Interface i)) = i.0 < count

-- A closed table behind this one: its packages but the last, its first interfaces and its first rows are this one's, and the other interfaces are of
-- the last package.
pub record BeginsWith (r closed : Resolve) : Type 0 where
  pub own : PackageParts
  pub interfaces : List Interface
  pub rows : List Definition
  pub packages_are : closed.packages ≡ r.packages ++ own ∷ []
  pub interfaces_are : closed.interfaces ≡ r.interfaces ++ interfaces
  pub rows_are : closed.definitions ≡ r.definitions ++ rows
  pub of_last : (i : Interface) → Contains interfaces i → i.«package».0 ≡ length r.packages

-- the packages and interfaces that a closed table imports are in the set
pub record IsFoundIn (set closed : Resolve) : Type 0 where
  pub have : HasAll set (others closed)
  pub fits : Fits set closed

-- what follows for the table of imports of a set: the packages and interfaces with these marks
pub record OfImports (set : Resolve) (packages interfaces : List Bool) (r : Resolve) (n : IsImportsOf set packages interfaces r) : Type 0 where
  -- it is what the set's names say of the marked interfaces
  pub interfaces_are : interface_names r ≡ items_where_true n.kept.marks.interfaces (interface_names set)
  pub definitions_are : definitions r ≡ reached_definitions set n.kept.marks
  pub worlds_are : r.worlds ≡ []
  -- the rows of a set's package are as those of a package in form
  pub in_form : IsSet set → HasRowsInForm r
  -- each row is without a name, or of one of its interfaces
  pub owned : IsSet set → (k : ℕ) (d : Definition) → slice_get r.definitions k ≡ Some d → IsOfInterfaces (length r.interfaces) (owner_of d)
  -- rows in postfix order stay so
  pub postfix : IsPostfix set.definitions → IsPostfix r.definitions
  -- names of interfaces stay apart
  pub apart : HasNamesApart set → HasNamesApart r
  -- an interface of it was given, or a used name stands for a type of it
  pub used : IsSet set → IsPostfix set.definitions → HasNamesApart set → (k j : ℕ) (x i : Interface) → slice_get r.interfaces k ≡ Some x → slice_get set.interfaces j ≡ Some i
      → slice_get r.packages x.«package».0 ≡ slice_get set.packages i.«package».0 → x.name ≡ i.name → Contains (reached r.definitions []) k ⊎ (slice_index_or interfaces j false ≡ true)
  -- a closed table behind it is refused for its own package's name, for want of room or of memory alone
  pub found : IsSet set → HasNamesApart set → (closed : Resolve) → BeginsWith r closed → IsFoundIn set closed
  -- names that differ in each scope of the set do so in each of its own
  pub scopes : IsSet set → IsPostfix set.definitions → HasDistinctScopes set → All AreDistinct (package_scopes r)
  -- names of packages stay those of a set
  pub packages_of_set : are_of_a_set set.packages ≡ true → are_of_a_set r.packages ≡ true
  pub names : has_full_names set ≡ true → has_full_names r ≡ true
  -- where each package that is given has an interface which is reached, each of its packages has one
  pub each_package : ((k : ℕ) → k < length set.packages → slice_index_or packages k false ≡ true → IsReachedIn set n.kept.marks k) → has_each_package (length r.packages) 0 r.interfaces ≡ true

-- ---- the table of one package

-- what follows for the table of package `own` of a set
pub record OfRestricted (set : Resolve) (own : ℕ) (r : Resolve) (n : IsRestricted set own r) : Type 0 where
  -- it is what the set's names say of the marked interfaces
  pub interfaces_are : interface_names r ≡ items_where_true n.needed.marks.interfaces (interface_names set)
  pub definitions_are : definitions r ≡ reached_definitions set n.needed.marks
  pub worlds_are : worlds r ≡ items_where_true (map (is_world_of own) set.worlds) (worlds set)
  -- where each package stands behind those that it names, none that is needed stands behind the own one
  pub own_is_last : NamesEarlierPackages set → (k : ℕ) → slice_index_or n.to.packages k false ≡ true → k ≤ own
  -- the rows of a set's package are as those of a package in form
  pub in_form : IsSet set → NamesEarlierPackages set → HasRowsInForm r
  -- a function of it is the set's of that name, with the same type
  pub functions_are : (iface name : List ℕ) (f : FunctionId) → IsNamed r iface name f → (g : FunctionId) × IsNamed set iface name g × (function_type r f ≡ function_type set g)
  -- rows in postfix order stay so
  pub postfix : IsPostfix set.definitions → IsPostfix r.definitions

-- ---- a set with a package more

-- the owner, an interface or a world, is of the own package of a closed table
abbrev pub is_own_owner : Resolve → Option Owner → Bool
is_own_owner closed None = false
is_own_owner closed (Some o) = package_of_owner closed (Some o) == own_package closed.packages

-- the full names of the interfaces of the closed table's own package
abbrev pub own_interface_names : Resolve → List (List ℕ)
own_interface_names closed = map (full_name closed) (own_interfaces closed)

-- the types and functions of the own package of a closed table, by names
abbrev pub own_definitions : Resolve → List NamedDefinition
own_definitions closed = definitions_where (is_own_owner closed) (interface_names closed) [] closed.definitions

-- the set's interfaces, worlds and rows, and then others
pub record IsBehind (set r : Resolve) : Type 0 where
  pub interfaces : List Interface
  pub worlds : List World
  pub rows : List Definition
  pub interfaces_are : r.interfaces ≡ set.interfaces ++ interfaces
  pub worlds_are : r.worlds ≡ set.worlds ++ worlds
  pub rows_are : r.definitions ≡ set.definitions ++ rows

-- the rows of the set stand package by package, and those of the closed table as those of a package in form
pub record AreInForm (set closed : Resolve) : Type 0 where
  pub set_is : IsPackageByPackage set
  pub rows : HasRowsInForm closed
  pub closed_is : is_closed closed ≡ true

-- what follows for a set with the package of a closed table more
pub record OfAttached (set closed r : Resolve) : Type 0 where
  pub behind : IsBehind set r
  -- it is what the names of the set and of the closed table say
  pub interfaces_are : interface_names r ≡ interface_names set ++ own_interface_names closed
  pub definitions_are : AreInForm set closed → definitions r ≡ definitions set ++ own_definitions closed
  pub worlds_are : AreInForm set closed → worlds r ≡ worlds set ++ worlds closed
  pub stands : IsPackageByPackage set → HasRowsInForm closed → IsPackageByPackage r
  -- where the closed table is in form, and its names differ in each scope, the set stays in form
  pub in_form : IsInSetForm set → IsInPackageForm closed → All AreDistinct (package_scopes closed) → IsInSetForm r
