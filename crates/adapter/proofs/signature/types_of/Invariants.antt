use Rattle.std.proofs.Common.{◌≡◌, map, take}
use Rattle.adapter.proofs.signature.types_of.Given as goal

abbrev pub invariant-loop-parameter : goal.invariant-loop-parameter
invariant-loop-parameter l = l.types.items ≡ map (λ p. p.ty) (take l.parameter-index l.params)
