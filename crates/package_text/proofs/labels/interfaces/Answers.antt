use Rattle.package_form.specs.Naming.{interface_name}
use Rattle.package_text.proofs.PrintableTrees.LabelsOneByOne.{labels-more, labels-whole}
use Rattle.package_text.proofs.labels.interfaces.Goals as goal

pub loop-interface-preserved : goal.loop-interface-preserved
loop-interface-preserved c = labels-more c.args.interfaces.now c.loop-interface.interface-index interface_name c.interface-item.result c.loop-interface-test.true c.interface-item.is c.loop-interface.invariant c.as_bytes.ensures.label

pub returns : goal.returns
returns c = labels-whole c.args.interfaces.now c.loop-interface.interface-index interface_name c.loop-interface-test.false c.loop-interface.invariant
