use Rattle.package_form.specs.Naming.{case_name}
use Rattle.package_text.proofs.PrintableTrees.LabelsOneByOne.{labels-more, labels-whole}
use Rattle.package_text.proofs.labels.cases.Goals as goal

pub loop-case-preserved : goal.loop-case-preserved
loop-case-preserved c = labels-more c.args.cases.now c.loop-case.case-index case_name c.case-item.result c.loop-case-test.true c.case-item.is c.loop-case.invariant c.as_bytes.ensures.label

pub returns : goal.returns
returns c = labels-whole c.args.cases.now c.loop-case.case-index case_name c.loop-case-test.false c.loop-case.invariant
