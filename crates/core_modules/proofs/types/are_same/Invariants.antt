use Rattle.std.proofs.Common.{◌≡◌, take}
use Rattle.core_modules.proofs.types.are_same.Given as goal

abbrev pub invariant-loop-i : goal.invariant-loop-i
invariant-loop-i l = take l.i l.types ≡ take l.i l.others
