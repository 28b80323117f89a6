-- The text that is filled has the bytes that were given.
use Rattle.std.proofs.Common.{ℕ, List, inl, subst}
use Rattle.package_values.specs.Calls.{TextFilled}
use Rattle.tables.specs.Closed.{function_type}
use Rattle.c_border.specs.Json.{parameters_of}
use Rattle.c_border.proofs.CallsOfFunctions.{of-function}
use Rattle.c_border.proofs.json.JsonCall.fill.Goals as goal

pub returns : goal.returns
returns c =
    let r = c.in_ok-package.package.now.resolve in
    let f = c.in_ok-package.func in
    let said = c.in-Ok.ensures.cases in
    let filled = subst (λ (bytes : List ℕ). TextFilled r (parameters_of r f) (function_type r f) bytes c.args.memory.now c.args.blocks.now c.args.handed.now
    c.fill.result c.fill.new.memory c.fill.new.handed) said.0 c.fill.ensures in
    of-function _ _ c.in_ok-package.package.now f _ _ _ c.in_ok-package.ensures.ok (inl (said.1, filled))
