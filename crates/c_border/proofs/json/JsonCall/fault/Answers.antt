-- The text whose fault is told has the bytes that were given.
use Rattle.std.proofs.Common.{ℕ, List, inl, subst}
use Rattle.c_border.specs.Json.{TellsFault}
use Rattle.c_border.proofs.CallsOfFunctions.{of-function}
use Rattle.c_border.proofs.json.JsonCall.fault.Goals as goal

pub returns : goal.returns
returns c =
    let r = c.in_ok-package.package.now.resolve in
    let f = c.in_ok-package.func in
    let said = c.in-Ok.ensures.cases in
    let told = subst (λ (bytes : List ℕ). TellsFault r f bytes c.args.out.now c.tell_fault.result c.tell_fault.new.out) said.0 c.tell_fault.ensures in
    of-function _ _ c.in_ok-package.package.now f _ _ _ c.in_ok-package.ensures.ok (inl (said.1, told))
