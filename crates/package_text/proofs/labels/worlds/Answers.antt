use Rattle.package_form.specs.Naming.{label_of}
use Rattle.package_text.proofs.PrintableTrees.LabelsOneByOne.{labels-more, labels-whole}
use Rattle.package_text.proofs.labels.worlds.Goals as goal

pub loop-world-preserved : goal.loop-world-preserved
loop-world-preserved c = labels-more c.args.worlds.now c.loop-world.world-index label_of c.world-item.result c.loop-world-test.true c.world-item.is c.loop-world.invariant c.as_bytes.ensures.label

pub returns : goal.returns
returns c = labels-whole c.args.worlds.now c.loop-world.world-index label_of c.loop-world-test.false c.loop-world.invariant
