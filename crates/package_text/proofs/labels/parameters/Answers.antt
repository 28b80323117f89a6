use Rattle.package_form.specs.Naming.{parameter_name}
use Rattle.package_text.proofs.PrintableTrees.LabelsOneByOne.{labels-more, labels-whole}
use Rattle.package_text.proofs.labels.parameters.Goals as goal

pub loop-parameter-preserved : goal.loop-parameter-preserved
loop-parameter-preserved c = labels-more c.args.parameters.now c.loop-parameter.parameter-index parameter_name c.parameter-item.result c.loop-parameter-test.true c.parameter-item.is c.loop-parameter.invariant c.as_bytes.ensures.label

pub returns : goal.returns
returns c = labels-whole c.args.parameters.now c.loop-parameter.parameter-index parameter_name c.loop-parameter-test.false c.loop-parameter.invariant
