-- What the paths of a file name of a set: packages, and interfaces of theirs (WIT.md, "Item: `use`", "Item: `world`").
use Rattle.std.specs.Prelude.{◌⊎◌, ◌&&◌, ◌==◌, ℕ, Bool, false, not, List, length}
use Rattle.std.specs.List.{list_any}
use Rattle.std.specs.Str.{bytes_eq}
use Rattle.package_form.specs.Closed.{is_same_package}
use Rattle.tree_meaning.specs.ImportForms.{UsesImport, HasImportItem}
use Rattle.tables.specs.PackageNames.{PackageParts}
use Rattle.tables.specs.declared.tables.Resolve.{Resolve}
use Rattle.package_sets.specs.NamedIn.{AreMarksOf}
use Rattle.wit_tokens.specs.Syntax.{PathTo, Local, Foreign, Entry, Uses, Defines, Declares, WorldEntry, Whole, Single, FileEntry, AnInterface, AWorld, File}

-- the interface of this name of the package: an interface of the file uses a type of it, or it is an item of a world
abbrev pub NamesInterface : File → PackageParts → List ℕ → Type 0
NamesInterface f q i = UsesImport f q i ⊎ HasImportItem f q i

-- these marks are those of the packages and interfaces of the set that the file names
abbrev pub AreNamed : File → Resolve → List Bool → List Bool → Type 0
AreNamed f set packages interfaces = AreMarksOf (NamesInterface f) set packages interfaces

-- ---- as tests

-- a path is a full name, of this interface in this package; a local name names none
abbrev pub path_names : PathTo → PackageParts → List ℕ → Bool
path_names (Local n) q i = false
path_names (Foreign namespace name v n) q i = is_same_package q (record { namespace = namespace; name = name; version = v }) && bytes_eq i n

-- an item of an interface uses a type of the named interface; a `use` of no names names none
abbrev pub entry_names_interface : Entry → PackageParts → List ℕ → Bool
entry_names_interface (Uses at p us) q i = not (length us == 0) && path_names p q i
entry_names_interface (Defines at name d) q i = false
entry_names_interface (Declares at name f) q i = false

-- an item of a world is the named interface by its full name, imported or exported
abbrev pub world_entry_names : WorldEntry → PackageParts → List ℕ → Bool
world_entry_names (Whole way p) q i = path_names p q i
world_entry_names (Single way at name f) q i = false

-- an interface or a world of a file names the interface in one of its items
abbrev pub file_entry_names : FileEntry → PackageParts → List ℕ → Bool
file_entry_names (AnInterface name es) q i = list_any (λ e. entry_names_interface e q i) es
file_entry_names (AWorld at name es) q i = list_any (λ e. world_entry_names e q i) es

-- one of these items names the interface of this name in this package
abbrev pub any_names : {A : Type 0} → (A → PackageParts → List ℕ → Bool) → List A → PackageParts → List ℕ → Bool
any_names names xs q i = list_any (λ x. names x q i) xs
