-- What a syntax tree stands for: the package that it resolves to, and when it is refused.
use Rattle.std.specs.Prelude.{◌≡◌, ◌≢◌, ◌<◌, ◌≤◌, ◌+◌, ℕ, suc, Bool, true, false, not, List, [], ◌∷◌, ◌++◌, map, flat_map, filter_map, length, All, Contains, Option, None, Some, is_some, ◌⊎◌, if◌then◌else◌, ◌&&◌, nat_le, nat_lt, IsTrue, Result, MatchResult}
use Rattle.std.specs.List.{list_all}
use Rattle.std.specs.Option.{option_map}
use Rattle.std.specs.Str.{bytes_eq}
use Rattle.wit_tokens.specs.Syntax.{Ty, Member, CaseOf, PathTo, TypeBody as Body, Alias, Record, Variant, Enumeration, FlagSet, Function as Signature, Entry, Uses, Defines, Declares, WorldEntry, Whole, Single, FileEntry, AnInterface, AWorld, File, ty_depth}
use Rattle.tables.specs.PackageNames.{PackageParts, own_name}
use Rattle.package_form.specs.Scope.{AreDistinct, IsDuplicate}
use Rattle.placement.specs.Order.{IsPlacement, IsCycle}
use Rattle.tables.specs.Tables.{are_earlier, name_types, are_standard}
use Rattle.tables.specs.Package.{Package, references, definitions_from, world_meaning as table_world, package_of}
use Rattle.package_form.specs.Entries.{Table, table_of, type_entries}
use Rattle.package_form.specs.Ids.{is_of_worlds, is_world_function, places_where, package_id, interfaces_from, interfaces_in}
use Rattle.package_form.specs.Form.{functions_of}
use Rattle.tables.specs.declared.tables.Interface.{Interface}
use Rattle.tables.specs.declared.tables.World.{World}
use Rattle.tables.specs.declared.tables.TypeName.{TypeName}
use Rattle.tables.specs.declared.tables.Owner.{Owner}
use Rattle.tables.specs.declared.tables.Owner.TheVariants as owner
use Rattle.tables.specs.declared.tables.Definition.{Definition}
use Rattle.tables.specs.declared.tables.Definition.TheVariants as row
use Rattle.package_form.specs.Postfix.{IsPostfix}
use Rattle.tree_meaning.specs.Declarations.{UsedItem, TypeItem, FunctionItem, InterfaceTree, ItemTree, InterfaceNamed, ForeignNamed, FunctionOf, WorldTree, path_package, path_interface, other_packages, interfaces, file_worlds, full_interfaces, full_worlds, package_named, interface_at, names_of_trees, own_use, type_names, own_types, named_definition, names_in_function}
use Rattle.tree_meaning.specs.Imports.{Import, Imports, no_package, no_imports, AreApart, HasImport, import_place, interfaces_of, imports_of}
use Rattle.tree_meaning.specs.Scopes.{scopes}
use Rattle.tree_meaning.specs.Resolved.{interface_meaning, meaning_of_world}
use Rattle.tables.specs.declared.error.ResolveError.{ResolveError}
use Rattle.tables.specs.declared.error.ResolveError.TheVariants as error
use Rattle.tables.specs.declared.tables.Resolve.{Resolve}
use Rattle.package_form.specs.Closed.{is_world_of}

-- ---- order

-- the first place of a name in a list of names
abbrev pub place_of : List (List ℕ) → List ℕ → Option ℕ
place_of [] n = None
place_of (m ∷ ms) n = if bytes_eq m n then Some 0 else option_map suc (place_of ms n)

-- the places of these names in the list; names that it doesn't have are left out
abbrev pub places : List (List ℕ) → List (List ℕ) → List ℕ
places ns wanted = filter_map (place_of ns) wanted

-- the names of the interfaces of the file's own package that an interface uses
abbrev pub own_uses : InterfaceTree → List (List ℕ)
own_uses i = filter_map own_use i.uses

-- the places in these names of the file's own interfaces that an interface uses; others are left out
abbrev pub uses_of_interface : List (List ℕ) → InterfaceTree → List ℕ
uses_of_interface ns i = places ns (own_uses i)

-- the places of the own interfaces that each interface uses; those of other packages come before all
abbrev pub interface_uses : List InterfaceTree → List (List ℕ)
interface_uses is = map (uses_of_interface (names_of_trees is)) is

-- the place of an interface of another package among the imports, or of an own one after them; none if it isn't there
abbrev pub used_place : List Import → List (List ℕ) → Option PackageParts → List ℕ → Option ℕ
used_place ks ns None i = option_map (λ j. length ks + j) (place_of ns i)
used_place ks ns (Some q) i = import_place ks q i

-- the place of the interface that a path names
abbrev pub path_place : List Import → List (List ℕ) → PathTo → Option ℕ
path_place ks ns p = used_place ks ns (path_package p) (path_interface p)

-- the places in these names of the interface's types that a declared type names; others are left out
abbrev pub uses_of_type : List (List ℕ) → TypeItem → List ℕ
uses_of_type ns t = places ns (named_definition t.definition)

-- which types of the interface each of its types names
abbrev pub type_uses : InterfaceTree → List (List ℕ)
type_uses i = map (uses_of_type (own_types i)) i.types

-- ---- the package

-- the names of the interfaces in this order of their places
abbrev pub names_in_order : List InterfaceTree → List ℕ → List (List ℕ)
names_in_order is order = map (λ k. (interface_at is k).name) order

-- after its imports, the package has the interfaces in the order in which each is placed, and each one's uses, its
-- types in the order in which each is placed, and its functions
pub record ResolvesBehind (before : Package) (is : List InterfaceTree) (ws : List WorldTree) (p : Package) : Type 0 where
  pub order : List ℕ
  pub placed : IsPlacement (interface_uses is) order
  pub types : ℕ → List ℕ
  pub types_placed : (k : ℕ) → k < length is → IsPlacement (type_uses (interface_at is k)) (types k)
  pub names : p.interfaces ≡ before.interfaces ++ names_in_order is order
  pub worlds : p.worlds ≡ map meaning_of_world ws
  pub definitions : p.definitions ≡ before.definitions ++ flat_map (λ k. interface_meaning (interface_at is k) (types k)) order

-- the package of a file that depends on no other package
abbrev pub Resolves : List InterfaceTree → List WorldTree → Package → Type 0
Resolves is ws p = ResolvesBehind no_package is ws p

-- the full names of a table's interfaces
abbrev pub full_names : PackageParts → Table → List (List ℕ)
full_names p t = map (own_name p) t.interfaces

-- the package that a table means, with these names of its interfaces
abbrev pub package_under : List (List ℕ) → PackageParts → Table → Package
package_under names p t = record {
  interfaces = names;
  worlds = map (λ w. table_world names (references names [] t.rows) t.rows (own_name p w.name) w) t.worlds;
  definitions = definitions_from names [] t.rows;
}

-- the package that a table of own interfaces means, after imports of these names
abbrev pub package_behind : List (List ℕ) → PackageParts → Table → Package
package_behind before p t = package_under (before ++ full_names p t) p t

-- the table with the names of its imports before those of its own interfaces
abbrev pub with_names : List (List ℕ) → Table → Table
with_names before t = record { interfaces = before ++ t.interfaces; worlds = t.worlds; rows = t.rows }

-- none of these rows is a function of a world
abbrev pub HasNoWorlds : List Definition → Type 0
HasNoWorlds rows = list_all (λ d. not (is_world_function d)) rows ≡ true

-- a type without a name, or a function of a world
abbrev pub is_behind : Definition → Bool
is_behind (row.Type d) = not (is_some d.name)
is_behind (row.Function f) = is_of_worlds f.owner

-- the rows of worlds come after those of interfaces
pub record HasWorldsBehind (rows : List Definition) : Type 0 where
  pub front : List Definition
  pub back : List Definition
  pub parts : rows ≡ front ++ back
  pub none : HasNoWorlds front
  pub all : list_all is_behind back ≡ true

-- the functions of worlds among these rows are the worlds' items, in order
abbrev pub HasItems : List Definition → List World → Type 0
HasItems rows ws = places_where is_world_function 0 rows ≡ flat_map functions_of ws

-- ---- limits

-- too many type entries, cases or labels; or a type without any, which no text has
abbrev pub PassesLimit : Table → Type 0
PassesLimit t = (65535 < type_entries t) ⊎ (are_standard t.rows ≡ false)

-- ---- faults

-- name n is met again in a scope of the file, up to the case of its letters
abbrev pub HasDuplicate : File → List ℕ → Type 0
HasDuplicate f n = (ns : List (List ℕ)) × Contains (scopes f) ns × IsDuplicate ns n

-- no scope of the file has a name twice, up to the case of its letters
abbrev pub HasDistinctNames : File → Type 0
HasDistinctNames f = All AreDistinct (scopes f)

-- p is the first of these packages that isn't there
pub record IsLacking (there ps : List PackageParts) (p : PackageParts) : Type 0 where
  pub before : List PackageParts
  pub after : List PackageParts
  pub are : ps ≡ before ++ p ∷ after
  pub have : All (Contains there) before
  pub lacks : ¬ Contains there p

-- the first package that the file names, in the order of its source, and that isn't there
abbrev pub LacksPackage : Imports → File → PackageParts → Type 0
LacksPackage m f p = IsLacking m.packages (other_packages f) p

-- each package that the file names is there
abbrev pub KnowsPackagesOf : Imports → File → Type 0
KnowsPackagesOf m f = All (Contains m.packages) (other_packages f)

-- the file names no other package
abbrev pub KnowsPackages : File → Type 0
KnowsPackages f = KnowsPackagesOf no_imports f

-- an interface of name i, of the file's own package or of another one, has a type of name n
abbrev pub IsKnownIn : Imports → List InterfaceTree → Option PackageParts → List ℕ → List ℕ → Type 0
IsKnownIn m is None i n = (j : InterfaceTree) × Contains is j × (j.name ≡ i) × Contains (type_names j) n
IsKnownIn m is (Some q) i n = (k : Import) × Contains m.interfaces k × (k.«package» ≡ q) × (k.name ≡ i) × Contains k.types n

-- the interface of a used name has a type of that name
abbrev pub IsKnownUseOf : Imports → List InterfaceTree → UsedItem → Type 0
IsKnownUseOf m is u = IsKnownIn m is u.«package» u.interface u.name

-- n is i, if there is no such interface, or the name that interface i doesn't have
abbrev pub IsLackingIn : Imports → List InterfaceTree → Option PackageParts → List ℕ → List ℕ → List ℕ → Type 0
IsLackingIn m is None i name n =
    ((n ≡ i) × (¬ Contains (names_of_trees is) n))
    ⊎ ((n ≡ name) × ((j : InterfaceTree) × Contains is j × (j.name ≡ i) × (¬ Contains (type_names j) n)))
IsLackingIn m is (Some q) i name n =
    ((n ≡ i) × (¬ HasImport m q n))
    ⊎ ((n ≡ name) × ((k : Import) × Contains m.interfaces k × (k.«package» ≡ q) × (k.name ≡ i) × (¬ Contains k.types n)))

-- n is not found for a used name: the interface that it is used of, or the name there
abbrev pub IsUnknownUse : Imports → List InterfaceTree → UsedItem → List ℕ → Type 0
IsUnknownUse m is u n = IsLackingIn m is u.«package» u.interface u.name n

-- n is one of these names, which a declaration of the interface has, and no type of the interface has this name
abbrev pub IsUnknownName : InterfaceTree → List (List ℕ) → List ℕ → Type 0
IsUnknownName i ns n = Contains ns n × (¬ Contains (type_names i) n)

-- n is a name in this interface that is not found: of a used name, or in a type or a function that it declares
abbrev pub IsUnknownIn : Imports → List InterfaceTree → InterfaceTree → List ℕ → Type 0
IsUnknownIn m is i n =
    ((u : UsedItem) × Contains i.uses u × IsUnknownUse m is u n)
    ⊎ (((t : TypeItem) × Contains i.types t × IsUnknownName i (named_definition t.definition) n)
    ⊎ ((f : FunctionItem) × Contains i.functions f × IsUnknownName i (names_in_function f.function) n))

-- an item of a world names an interface that is none of these or no import, or a type, of which a world declares none
abbrev pub IsUnknownItem : Imports → List (List ℕ) → ItemTree → List ℕ → Type 0
IsUnknownItem m names (InterfaceNamed way i) n = (n ≡ i) × (¬ Contains names n)
IsUnknownItem m names (ForeignNamed way q i) n = (n ≡ i) × (¬ HasImport m q n)
IsUnknownItem m names (FunctionOf way f) n = Contains (names_in_function f.function) n

-- n is a name in an item of this world that is not found
abbrev pub IsUnknownInWorld : Imports → List (List ℕ) → WorldTree → List ℕ → Type 0
IsUnknownInWorld m names w n = (i : ItemTree) × Contains w.items i × IsUnknownItem m names i n

-- n is a name in an interface or a world of the file that is not found
abbrev pub HasUnknown : Imports → File → List ℕ → Type 0
HasUnknown m f n =
    ((i : InterfaceTree) × Contains (interfaces f) i × IsUnknownIn m (interfaces f) i n)
    ⊎ ((w : WorldTree) × Contains (file_worlds f) w × IsUnknownInWorld m (names_of_trees (interfaces f)) w n)

-- each name in interface i is found: a used one in its interface, one in a type or a function in i
pub record HasKnownNamesOf (m : Imports) (is : List InterfaceTree) (i : InterfaceTree) : Type 0 where
  pub uses : All (IsKnownUseOf m is) i.uses
  pub types : All (λ t. All (Contains (type_names i)) (named_definition t.definition)) i.types
  pub functions : All (λ f. All (Contains (type_names i)) (names_in_function f.function)) i.functions

-- an item of a world names an interface that is one of these or an import, or has a function that names no type
abbrev pub IsKnownItemOf : Imports → List (List ℕ) → ItemTree → Type 0
IsKnownItemOf m names (InterfaceNamed way i) = Contains names i
IsKnownItemOf m names (ForeignNamed way q i) = HasImport m q i
IsKnownItemOf m names (FunctionOf way f) = names_in_function f.function ≡ []

-- each item of the world is one whose names are found
abbrev pub IsKnownWorldOf : Imports → List (List ℕ) → WorldTree → Type 0
IsKnownWorldOf m names w = All (IsKnownItemOf m names) w.items

-- each name in the file is found
pub record KnowsAllOf (m : Imports) (f : File) : Type 0 where
  pub in_interfaces : All (HasKnownNamesOf m (interfaces f)) (interfaces f)
  pub in_worlds : All (IsKnownWorldOf m (names_of_trees (interfaces f))) (file_worlds f)

-- interfaces that use each other, or types of one interface that name each other
abbrev pub HasCycle : File → Type 0
HasCycle f =
    ((group : ℕ → Bool) × IsCycle (interface_uses (interfaces f)) group)
    ⊎ ((i : InterfaceTree) × Contains (interfaces f) i × ((group : ℕ → Bool) × IsCycle (type_uses i) group))

-- a type is nested at most 64 deep, as in every text
abbrev pub fits : Ty → Bool
fits t = nat_le (ty_depth t) 64

-- a payload or a result is nested at most 64 deep, if there is one
abbrev pub fits_if : Option Ty → Bool
fits_if None = true
fits_if (Some t) = fits t

-- the type of a field or a parameter is nested at most 64 deep
abbrev pub member_fits : Member → Bool
member_fits m = fits m.ty

-- the payload of a case is nested at most 64 deep, if it has one
abbrev pub case_fits : CaseOf → Bool
case_fits c = fits_if c.payload

-- each type in what is written after a declared type's name is nested at most 64 deep
abbrev pub body_fits : Body → Bool
body_fits (Alias t) = fits t
body_fits (Record ms) = list_all member_fits ms
body_fits (Variant cs) = list_all case_fits cs
body_fits (Enumeration ns) = true
body_fits (FlagSet ns) = true

-- each type of a function's parameters and its result is nested at most 64 deep
abbrev pub signature_fits : Signature → Bool
signature_fits f = list_all member_fits f.params && fits_if f.result

-- each type in an interface's item is nested at most 64 deep
abbrev pub entry_fits : Entry → Bool
entry_fits (Uses at p us) = true
entry_fits (Defines at n d) = body_fits d
entry_fits (Declares at n f) = signature_fits f

-- each type in a world's item is nested at most 64 deep
abbrev pub world_entry_fits : WorldEntry → Bool
world_entry_fits (Whole way p) = true
world_entry_fits (Single way at n f) = signature_fits f

-- each type in an interface or a world of a file is nested at most 64 deep
abbrev pub interface_fits : FileEntry → Bool
interface_fits (AnInterface n es) = list_all entry_fits es
interface_fits (AWorld at n es) = list_all world_entry_fits es

-- each type in the file is nested at most 64 deep
abbrev pub file_fits : File → Bool
file_fits f = list_all interface_fits f.entries

-- ---- what is answered

-- The table of a file that depends on no other package. Rows without names, places of worlds' functions and ids are
-- fixed too, so that there is one answer alone.
pub record IsPackageOf (f : File) (r : Resolve) : Type 0 where
  pub earlier : KnowsPackages f
  pub packages : r.packages ≡ package_named f ∷ []
  pub resolves : Resolves (full_interfaces f) (full_worlds f) (package_of r)
  pub postfix : IsPostfix r.definitions
  pub behind : HasWorldsBehind r.definitions
  pub items : HasItems r.definitions r.worlds
  pub ids : r.interfaces ≡ interfaces_in (table_of r)
  pub within : type_entries (table_of r) ≤ 65535

-- the type has no name, or one in the first n interfaces
abbrev pub is_name_of : ℕ → Option TypeName → Bool
is_name_of n None = true
is_name_of n (Some m) = nat_lt m.interface.0 n

-- the function is of one of the first n interfaces, and of no world
abbrev pub is_owned_among : ℕ → Owner → Bool
is_owned_among n (owner.Interface i) = nat_lt i.0 n
is_owned_among n (owner.World w) = false

-- the row is a type without a name, or a type or a function of one of the first n interfaces
abbrev pub is_of_interfaces : ℕ → Definition → Bool
is_of_interfaces n (row.Type d) = is_name_of n d.name
is_of_interfaces n (row.Function f) = is_owned_among n f.owner

-- a table of interfaces alone, each of which has a name of its own
pub record AreImports (r : Resolve) : Type 0 where
  pub apart : AreApart (interfaces_of r)
  pub worlds : r.worlds ≡ []
  pub owned : list_all (is_of_interfaces (length r.interfaces)) r.definitions ≡ true
  pub postfix : IsPostfix r.definitions

-- the interface as one of this package
abbrev pub in_package : ℕ → Interface → Interface
in_package n i = record { «package» = package_id n; name = i.name; uses = i.uses; types = i.types; functions = i.functions }

-- the interfaces of these names with their rows, after so many packages and so many interfaces
abbrev pub interfaces_behind : ℕ → ℕ → List Definition → List (List ℕ) → List Interface
interfaces_behind packages interfaces rows names = map (in_package packages) (interfaces_from rows interfaces names)

-- the table of a file's package after its imports, which stay as in their table; closed if each import is reached
pub record IsClosedPackageOf (imports : Resolve) (f : File) (r : Resolve) : Type 0 where
  pub earlier : KnowsPackagesOf (imports_of imports) f
  pub packages : r.packages ≡ imports.packages ++ package_named f ∷ []
  pub resolves : ResolvesBehind (package_of imports) (full_interfaces f) (full_worlds f) (package_of r)
  pub postfix : IsPostfix r.definitions
  pub behind : HasWorldsBehind r.definitions
  pub items : HasItems r.definitions r.worlds
  pub rows : (own : List Definition) × (r.definitions ≡ imports.definitions ++ own)
  pub own : (names : List (List ℕ)) × (r.interfaces ≡ imports.interfaces ++ interfaces_behind (length imports.packages) (length imports.interfaces) r.definitions names)
  pub worlds : list_all (is_world_of (length imports.packages)) r.worlds ≡ true
  pub within : type_entries (table_of r) ≤ 65535

-- the tree has an interface or a world
abbrev pub HasEntries : File → Type 0
HasEntries f = f.entries ≢ []

-- the file has an interface or a world, no name twice in a scope, and each package and name in it is found
pub record HasNoFaultsOf (m : Imports) (f : File) : Type 0 where
  pub some : HasEntries f
  pub distinct : HasDistinctNames f
  pub packages : KnowsPackagesOf m f
  pub known : KnowsAllOf m f

-- a file that depends on no other package has an interface or a world, no name twice, and each name is found
abbrev pub HasNoFaults : File → Type 0
HasNoFaults f = HasNoFaultsOf no_imports f

-- a table that the tree resolves to passes a limit, its imports counted
pub record IsTooLargeBehind (before : Package) (f : File) : Type 0 where
  pub table : Table
  pub resolves : ResolvesBehind before (full_interfaces f) (full_worlds f) (package_behind before.interfaces (package_named f) table)
  pub postfix : IsPostfix table.rows
  pub behind : HasWorldsBehind table.rows
  pub items : HasItems table.rows table.worlds
  pub earlier : IsTrue (are_earlier 0 table.rows)
  pub typed : IsTrue (name_types table.rows)
  pub passes : PassesLimit (with_names before.interfaces table)

-- a refusal: its cause holds, and no cause of an earlier class does, except that types nested too deep may come with
-- any; or out of memory
abbrev pub ResolveRefusesOf : Imports → File → ResolveError → Type 0
ResolveRefusesOf m f error.EmptyPackage = f.entries ≡ []
ResolveRefusesOf m f error.NotThisShape = ⊥
ResolveRefusesOf m f (error.Duplicate n) = HasEntries f × HasDuplicate f n
ResolveRefusesOf m f (error.NoPackage p) = HasEntries f × HasDistinctNames f × LacksPackage m f p
ResolveRefusesOf m f (error.Unknown n) = HasEntries f × HasDistinctNames f × KnowsPackagesOf m f × HasUnknown m f n
ResolveRefusesOf m f error.Cycle = HasNoFaultsOf m f × HasCycle f
ResolveRefusesOf m f error.Limit = (HasEntries f × (file_fits f ≡ false)) ⊎ (HasNoFaultsOf m f × IsTooLargeBehind m.meaning f)
ResolveRefusesOf m f error.NoMemory = Unit {0}
ResolveRefusesOf m f (error.SamePackage p) = ⊥
ResolveRefusesOf m f error.SetLimit = ⊥

-- why a file that depends on no other package is refused, as with no imports
abbrev pub ResolveRefuses : File → ResolveError → Type 0
ResolveRefuses f e = ResolveRefusesOf no_imports f e

-- the tree has no faults, is nested as a text, and has this package
pub record HasPackage (f : File) (r : Resolve) : Type 0 where
  pub faults : HasNoFaults f
  pub fits : file_fits f ≡ true
  pub resolved : IsPackageOf f r

-- the file has no faults with these imports, is nested as a text, and its table after theirs is this
pub record HasClosedPackage (imports : Resolve) (f : File) (r : Resolve) : Type 0 where
  pub faults : HasNoFaultsOf (imports_of imports) f
  pub fits : file_fits f ≡ true
  pub resolved : IsClosedPackageOf imports f r

-- if the tree has a table after these imports, the answer is a table that means the same by names, or out of memory
abbrev pub AnswersOnlyBehind : Resolve → File → Result Resolve ResolveError → Type 0
AnswersOnlyBehind imports f answer = (r : Resolve) → HasClosedPackage imports f r → MatchResult answer (λ p. package_of p ≡ package_of r) (λ e. e ≡ error.NoMemory)
