-- The scopes of a syntax tree, in which names differ in more than the case of their letters.
use Rattle.std.specs.Prelude.{ℕ, List, ◌∷◌, map, flat_map}
use Rattle.wit_tokens.specs.Syntax.{FileEntry, AnInterface, AWorld, File}
use Rattle.tables.specs.PackageNames.{PackageParts}
use Rattle.package_form.specs.Naming.{world_scopes}
use Rattle.tree_meaning.specs.Declarations.{item_scopes, world_tree, full_world, package_named}
use Rattle.tree_meaning.specs.Resolved.{meaning_of_world}

-- those in an interface, or in a world of the package of this name: its imports, its exports, and the parameters of each function
abbrev pub interface_scopes : PackageParts → FileEntry → List (List (List ℕ))
interface_scopes p (AnInterface n es) = item_scopes es
interface_scopes p (AWorld at n es) = world_scopes (meaning_of_world (full_world p (world_tree n es)))

-- the own name of an interface or a world of a file
abbrev pub file_name : FileEntry → List ℕ
file_name (AnInterface n es) = n
file_name (AWorld at n es) = n

-- interfaces and worlds share one scope
abbrev pub scopes_in : PackageParts → List FileEntry → List (List (List ℕ))
scopes_in p es = map file_name es ∷ flat_map (interface_scopes p) es

-- all scopes of a file: that of its interfaces and worlds, then those in each
abbrev pub scopes : File → List (List (List ℕ))
scopes f = scopes_in (package_named f) f.entries
