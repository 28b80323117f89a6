use Rattle.std.proofs.Common.{◌≡◌, true, take}
use Rattle.package_form.specs.Scope.{lowered}
use Rattle.package_names.proofs.scope.is_lower.Given as goal

abbrev pub invariant-loop-byte : goal.invariant-loop-byte
invariant-loop-byte l = l.is_lower ≡ true → lowered (take l.byte-index l.byte-items) ≡ take l.byte-index l.byte-items
