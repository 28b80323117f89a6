-- Names that stand for something, item by item.
use Rattle.std.specs.Prelude.{◌≡◌, ◌⊎◌, ℕ, List, All, Contains}
use Rattle.std.specs.Map.{lookup}
use Rattle.std.specs.Str.{bytes_eq}
use Rattle.wit_tokens.specs.Syntax.{PathTo, Local, Foreign, Entry, Uses, Defines, Declares, FileEntry, AnInterface, AWorld}
use Rattle.tree_meaning.specs.Declarations.{UsedItem, InterfaceTree, ItemTree, WorldTree, interface_tree, world_tree, names_of_trees, path_uses, type_names, named_definition, names_in_function}
use Rattle.tree_meaning.specs.Imports.{Imports, HasImport}
use Rattle.tree_meaning.specs.Resolves.{place_of, IsKnownUseOf, IsUnknownUse, IsUnknownName, IsUnknownIn, HasKnownNamesOf, IsUnknownItem, IsUnknownInWorld, IsKnownWorldOf, IsLacking}
use Rattle.tables.specs.PackageNames.{PackageParts}
use Rattle.tables.specs.declared.error.ResolveError.{ResolveError}
use Rattle.tables.specs.declared.error.ResolveError.TheVariants as error

-- each name in this item of interface i is found: a used one in its interface, one in a type or a function in i
abbrev pub KnowsEntry : Imports → List InterfaceTree → InterfaceTree → Entry → Type 0
KnowsEntry m is i (Uses at p us) = All (IsKnownUseOf m is) (path_uses p us)
KnowsEntry m is i (Defines at n d) = All (Contains (type_names i)) (named_definition d)
KnowsEntry m is i (Declares at n f) = All (Contains (type_names i)) (names_in_function f)

-- n is not found for one of these used names: the interface that it is used of, or the name there
abbrev pub LacksUse : Imports → List InterfaceTree → List UsedItem → List ℕ → Type 0
LacksUse m is us n = (u : UsedItem) × Contains us u × IsUnknownUse m is u n

-- n is a name in this item of interface i that is not found
abbrev pub LacksEntry : Imports → List InterfaceTree → InterfaceTree → Entry → List ℕ → Type 0
LacksEntry m is i (Uses at p us) n = LacksUse m is (path_uses p us) n
LacksEntry m is i (Defines at name d) n = IsUnknownName i (named_definition d) n
LacksEntry m is i (Declares at name f) n = IsUnknownName i (names_in_function f) n

-- n is a name in one of these items of interface i that is not found
abbrev pub LacksAny : Imports → List InterfaceTree → InterfaceTree → List Entry → List ℕ → Type 0
LacksAny m is i es n = (e : Entry) × Contains es e × LacksEntry m is i e n

-- n is a name in one of these items of a world that is not found, with own interfaces of these names
abbrev pub LacksItem : Imports → List (List ℕ) → List ItemTree → List ℕ → Type 0
LacksItem m names is n = (i : ItemTree) × Contains is i × IsUnknownItem m names i n

-- the interface that a path names is there: among own interfaces of these names, or among the imports
abbrev pub IsThere : Imports → List (List ℕ) → PathTo → Type 0
IsThere m names (Local i) = Contains names i
IsThere m names (Foreign namespace name v i) = HasImport m (record { namespace = namespace; name = name; version = v }) i

-- each name in an interface or a world of a file is found
abbrev pub KnowsFileEntry : Imports → List InterfaceTree → FileEntry → Type 0
KnowsFileEntry m is (AnInterface n es) = HasKnownNamesOf m is (interface_tree n es)
KnowsFileEntry m is (AWorld at n es) = IsKnownWorldOf m (names_of_trees is) (world_tree n es)

-- n is a name in an interface or a world of a file that is not found
abbrev pub LacksFileEntry : Imports → List InterfaceTree → FileEntry → List ℕ → Type 0
LacksFileEntry m is (AnInterface name es) n = IsUnknownIn m is (interface_tree name es) n
LacksFileEntry m is (AWorld at name es) n = IsUnknownInWorld m (names_of_trees is) (world_tree name es) n

-- a refusal with unknown name n: an interface or a world has n, and it is not found; or out of memory
abbrev pub RefusesUnknown : Imports → List InterfaceTree → List WorldTree → ResolveError → Type 0
RefusesUnknown m is ws (error.Unknown n) =
    ((i : InterfaceTree) × Contains is i × IsUnknownIn m is i n) ⊎ ((w : WorldTree) × Contains ws w × IsUnknownInWorld m (names_of_trees is) w n)
RefusesUnknown m is ws error.NoMemory = Unit {0}
RefusesUnknown m is ws _ = ⊥

-- a refusal with no package p: p is the first of these packages that is not there; or out of memory
abbrev pub RefusesPackage : List PackageParts → List PackageParts → ResolveError → Type 0
RefusesPackage there ps (error.NoPackage p) = IsLacking there ps p
RefusesPackage there ps error.NoMemory = Unit {0}
RefusesPackage there ps _ = ⊥

-- the map gives the first place of each name in these names, and no place to other names
abbrev pub TellsPlaces : {V : Type 0} → (V → List ℕ) → List (V × ℕ) → List (List ℕ) → Type 0
TellsPlaces items entries names = (n : List ℕ) → lookup (λ v. bytes_eq n (items v)) entries ≡ place_of names n
