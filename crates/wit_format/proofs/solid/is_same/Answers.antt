use Rattle.std.proofs.Common.{sym, ◌∙◌}
use Rattle.wit_format.proofs.SameKinds.{kind_one}
use Rattle.wit_format.proofs.SameSolids.{same_solid}
use Rattle.wit_format.proofs.solid.is_same.Goals as goal

pub returns-then-eq : goal.returns-then-eq
returns-then-eq c = λ yes. same_solid _ _ c.args.piece c.args.other (kind_one _ _ (sym c.eq.ensures ∙ c.if-eq.true)) (c.have_same_bytes.ensures yes)
