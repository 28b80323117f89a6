use Rattle.std.proofs.Common.{sym, ◌∙◌}
use Rattle.std.proofs.lemmas.Bool.{eqb-true}
use Rattle.adapter.proofs.NestedValuesCrossAsTheyAre.{flags-alone}
use Rattle.adapter.proofs.nested.are_own_flags.Goals as goal

pub returns-in-I32 : goal.returns-in-I32
returns-in-I32 c = λ same. flags-alone c.args.labels c.in-I32.bits c.args.flat c.in-I32.is (sym c.low_flags.ensures ∙ eqb-true _ _ same)
