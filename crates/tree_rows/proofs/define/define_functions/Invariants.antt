use Rattle.std.proofs.Common.{map, take}
use Rattle.tree_meaning.specs.Resolved.{meaning_of_function}
use Rattle.tree_scopes.specs.Sources.{declared_function}
use Rattle.tree_meaning.specs.Building.{AddsDefinitions}
use Rattle.tree_scopes.specs.KnownScopes.{scope_name}
use Rattle.tree_rows.proofs.define.define_functions.Given as goal

abbrev pub invariant-loop-function : goal.invariant-loop-function
invariant-loop-function l =
    AddsDefinitions l.initial.builder l.builder (map (meaning_of_function (scope_name l.initial.builder l.scope)) (map declared_function (take l.function-index l.functions)))
