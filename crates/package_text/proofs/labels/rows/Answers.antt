use Rattle.package_text.specs.Writable.{row_labels}
use Rattle.package_text.proofs.PrintableTrees.LabelsOneByOne.{lists-more, lists-whole}
use Rattle.package_text.proofs.labels.rows.Goals as goal

pub loop-definition-preserved : goal.loop-definition-preserved
loop-definition-preserved c = lists-more c.args.rows.now c.loop-definition.definition-index row_labels c.definition-item.result c.loop-definition-test.true c.definition-item.is c.loop-definition.invariant c.row.ensures

pub returns : goal.returns
returns c = lists-whole c.args.rows.now c.loop-definition.definition-index row_labels c.loop-definition-test.false c.loop-definition.invariant
