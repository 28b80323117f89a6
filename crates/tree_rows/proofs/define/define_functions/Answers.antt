use Rattle.std.proofs.Common.{arith}
use Rattle.tree_meaning.specs.Declarations.{FunctionItem, names_in_function}
use Rattle.tree_scopes.specs.Sources.{declared_function}
use Rattle.tree_scopes.specs.KnownScopes.{KnowsNames}
use Rattle.package_form.proofs.AllAndContains.{all_map-at}
use Rattle.tree_rows.proofs.LoweredTypesStay.{scope-later}
use Rattle.tree_rows.proofs.define.define_functions.Goals as goal

pub define_function-requires-clause-scoped : goal.define_function-requires-clause-scoped
define_function-requires-clause-scoped c = scope-later c.args.builder.now c.loop-function.builder c.args.scope.now c.loop-function.invariant.front c.requires.scoped

pub define_function-requires-clause-known : goal.define_function-requires-clause-known
define_function-requires-clause-known c =
    all_map-at (λ (f : FunctionItem). KnowsNames c.args.scope.now (names_in_function f.function)) declared_function c.args.functions.now c.loop-function.function-index c.function-item.result
    c.requires.known (omega arith) c.function-item.is
