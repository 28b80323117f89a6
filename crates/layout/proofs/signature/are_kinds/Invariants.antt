use Rattle.std.proofs.Common.{◌≡◌, map, take}
use Rattle.canonical_abi.specs.Reading.{kind_of}
use Rattle.layout.proofs.signature.are_kinds.Given as goal

abbrev pub invariant-loop-i : goal.invariant-loop-i
invariant-loop-i l = map kind_of (take l.i l.flats) ≡ take l.i l.kinds
