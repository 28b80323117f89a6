use Rattle.std.proofs.Common.{◌≡◌, map, take}
use Rattle.canonical_abi.specs.Reading.{kind_of}
use Rattle.canonical_abi.specs.Layout.{prim_kind}
use Rattle.values.specs.Scalars.{prim_of_type}
use Rattle.values.proofs.scalars.kinds_fit.Given as goal

abbrev pub invariant-loop-i : goal.invariant-loop-i
invariant-loop-i l = map kind_of (take l.i l.flats) ≡ map (λ t. prim_kind (prim_of_type t)) (take l.i l.types)
