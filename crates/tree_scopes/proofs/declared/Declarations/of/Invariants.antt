use Rattle.std.proofs.Common.{◌≡◌, map, flat_map, take}
use Rattle.wit_tokens.specs.View.{entry_view}
use Rattle.tree_meaning.specs.Declarations.{entry_uses, entry_types, entry_functions}
use Rattle.tree_scopes.specs.Lent.{used_item_of, declared_type}
use Rattle.tree_scopes.specs.Sources.{declared_function}
use Rattle.tree_scopes.proofs.declared.Declarations.of.Given as goal

abbrev pub invariant-loop-item : goal.invariant-loop-item
invariant-loop-item l = record {
  uses : map used_item_of l.uses.items ≡ flat_map entry_uses (map entry_view (take l.item-index l.item-items));
  types : map declared_type l.types.items ≡ flat_map entry_types (map entry_view (take l.item-index l.item-items));
  functions : map declared_function l.functions.items ≡ flat_map entry_functions (map entry_view (take l.item-index l.item-items));
}
