use Rattle.std.proofs.Common.{map, take}
use Rattle.tree_meaning.specs.Resolved.{use_meaning}
use Rattle.tree_scopes.specs.Lent.{used_item_of}
use Rattle.tree_rows.specs.Defining.{Grows}
use Rattle.tree_scopes.specs.KnownScopes.{scope_name}
use Rattle.tree_rows.proofs.define.define_uses.Given as goal

abbrev pub invariant-loop-used : goal.invariant-loop-used
invariant-loop-used l =
    Grows l.initial.builder l.initial.scope l.builder l.scope (map (use_meaning (scope_name l.initial.builder l.initial.scope)) (map used_item_of (take l.used-index l.uses)))
