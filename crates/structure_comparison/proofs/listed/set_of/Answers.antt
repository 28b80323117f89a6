use Rattle.std.proofs.Common.{arith}
use Rattle.std.specs.Prelude.{Contains}
use Rattle.std.proofs.lemmas.List.Elements.{Contains-get_or}
use Rattle.structure_comparison.proofs.Sets.{ids_more}
use Rattle.structure_comparison.proofs.listed.set_of.Goals as goal

pub loop-id-preserved : goal.loop-id-preserved
loop-id-preserved c =
    ids_more (Contains c.args.ids.now) c.loop-id.set.keys c.insert.new.self.keys _ (Contains-get_or c.args.ids.now c.loop-id.id-index _ (omega arith)) c.in_ok-insert.ensures.keys c.loop-id.invariant
