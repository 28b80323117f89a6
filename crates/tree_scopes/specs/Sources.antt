-- What is declared by parts of a syntax tree that are lent.
use Rattle.std.specs.Prelude.{ℕ, List, [], map}
use Rattle.std.specs.Borrow.{Bor}
use Rattle.wit_tokens.specs.Syntax.{PathTo}
use Rattle.wit_tokens.specs.View.{function_view, world_entry_view}
use Rattle.wit_tokens.specs.declared.wit_syntax.ast.WorldItem.{WorldItem}
use Rattle.wit_tokens.specs.declared.wit_syntax.ast.World.{World}
use Rattle.tables.specs.PackageNames.{PackageParts}
use Rattle.wit_tokens.specs.declared.wit_syntax.ast.Func.{Func}
use Rattle.tables.specs.Package.{Key, ItemMeaning, WorldMeaning}
use Rattle.tree_meaning.specs.Resolved.{tree_item_meaning}
use Rattle.tree_meaning.specs.Declarations.{UsedItem, FunctionItem, InterfaceTree, ItemTree, WorldTree, item_tree, full_item, world_tree, path_package, path_interface, use_interface}
use Rattle.tree_scopes.specs.Lent.{declared_type, used_item_of}
use Rattle.tree_scopes.specs.declared.declared.Declarations.{Declarations}

-- what an import or an export of a world in the tree names
abbrev pub declared_item : WorldItem → ItemTree
declared_item i = item_tree (world_entry_view i)

-- a world of the tree with what it imports and exports
abbrev pub declared_world : World → WorldTree
declared_world w = world_tree w.name (map world_entry_view w.items.items)

-- an item of a world of this package, with interfaces under their full names
abbrev pub item_in : PackageParts → WorldItem → ItemMeaning
item_in p i = tree_item_meaning (full_item p (declared_item i))

-- a world of these items in this package, with interfaces under their full names, and itself without a name
abbrev pub world_in : PackageParts → List WorldItem → WorldMeaning
world_in p is = record { name = []; items = map (item_in p) is }

-- a name used by this path without `as`
abbrev pub use_of : PathTo → List ℕ → UsedItem
use_of p n = record { «package» = path_package p; interface = path_interface p; name = n; local = n }

-- the used name: the name that its interface goes by, and the name there
abbrev pub used_key : UsedItem → Key
used_key u = record { interface = use_interface u; name = u.name }

-- a function that an interface or a world declares, as the tree has it
abbrev pub function_in_tree : Func → FunctionItem
function_in_tree f = record { name = f.name; function = function_view f.ty }

-- a function that an interface declares, which is lent
abbrev pub declared_function : Bor Func → FunctionItem
declared_function f = function_in_tree f.now

-- an interface of the tree by its own name, with what it uses and declares
abbrev pub declared_tree : Declarations → InterfaceTree
declared_tree d = record {
  name = d.name.now;
  uses = map used_item_of d.uses.items;
  types = map declared_type d.types.items;
  functions = map declared_function d.functions.items;
}
