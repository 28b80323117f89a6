use Rattle.std.proofs.Common.{subst, All}
use Rattle.std.proofs.lemmas.List.{take_all}
use Rattle.atoms.specs.Label.{IsLabel}
use Rattle.package_text.proofs.PrintableTrees.LabelsOneByOne.{listed-more}
use Rattle.package_text.proofs.labels.labels.Goals as goal

pub loop-label-preserved : goal.loop-label-preserved
loop-label-preserved c = listed-more c.args.labels.now c.loop-label.label-index c.label-item.result c.loop-label-test.true c.label-item.is c.loop-label.invariant c.as_bytes.ensures.label

pub returns : goal.returns
returns c = subst (All IsLabel) (take_all c.loop-label.label-index c.args.labels.now c.loop-label-test.false) c.loop-label.invariant
