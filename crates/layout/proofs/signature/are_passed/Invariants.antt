use Rattle.std.proofs.Common.{◌≡◌, ◌++◌, ◌-◌, map, take, length}
use Rattle.canonical_abi.specs.Reading.{kind_of}
use Rattle.layout.specs.Packed.{kinds_by_bits}
use Rattle.layout.proofs.signature.are_passed.Given as goal

abbrev pub invariant-loop-flat : goal.invariant-loop-flat
invariant-loop-flat l = map kind_of (take l.flat-index l.flats) ++ kinds_by_bits (length l.flats - l.flat-index) l.wide ≡ kinds_by_bits (length l.flats) l.initial.wide
