-- The order in which the definitions of a tree are made.
use Rattle.std.specs.Prelude.{ℕ, ◌<◌, ◌≡◌, List, [], map, length, slice_index_or, All}
use Rattle.atoms.specs.Label.{IsLabel}
use Rattle.wit_tokens.specs.Syntax.{File}
use Rattle.wit_tokens.specs.View.{file_view}
use Rattle.tables.specs.declared.tables.Resolve.{Resolve}
use Rattle.placement.specs.Order.{IsPlacement}
use Rattle.tree_meaning.specs.Declarations.{InterfaceTree, interfaces, interface_at, names_of_trees}
use Rattle.tree_meaning.specs.Imports.{imports_of}
use Rattle.tree_meaning.specs.Resolves.{interface_uses, type_uses, names_in_order, AreImports, HasNoFaultsOf}
use Rattle.tree_scopes.specs.Sources.{declared_tree}
use Rattle.tree_rows.specs.declared.plan.Plan.{Plan}

-- the table of the imports of a file
abbrev pub imported : Plan → Resolve
imported p = p.imports.now

-- the file whose table is made
abbrev pub planned_file : Plan → File
planned_file p = file_view p.ast.now

-- the interfaces of the file, in source order
abbrev pub planned_trees : Plan → List InterfaceTree
planned_trees p = map declared_tree p.all.now

-- a tree without faults, whose interfaces and types are in the order in which each is placed
pub record IsPlan (p : Plan) : Type 0 where
  pub imports : AreImports (imported p)
  pub declared : planned_trees p ≡ interfaces (planned_file p)
  pub faults : HasNoFaultsOf (imports_of (imported p)) (planned_file p)
  pub labelled : All IsLabel (names_of_trees (interfaces (planned_file p)))
  pub placed : IsPlacement (interface_uses (planned_trees p)) p.order.now
  pub count : length p.types.now ≡ length p.all.now
  pub types : (k : ℕ) → k < length p.all.now → IsPlacement (type_uses (interface_at (planned_trees p) k)) (slice_index_or p.types.now k [])
  pub names : p.names.now ≡ names_in_order (planned_trees p) p.order.now
  pub labels : p.labels.now ≡ names_in_order (planned_trees p) p.order.now
