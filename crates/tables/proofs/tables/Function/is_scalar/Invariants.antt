use Rattle.std.proofs.Common.{◌≡◌, true, take}
use Rattle.std.specs.List.{list_all}
use Rattle.tables.specs.Closed.{is_scalar_type}
use Rattle.tables.proofs.tables.Function.is_scalar.Given as goal

abbrev pub invariant-loop-parameter : goal.invariant-loop-parameter
invariant-loop-parameter l = list_all (λ p. is_scalar_type p.ty) (take l.parameter-index l.parameter-items) ≡ true
