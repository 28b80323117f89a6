use Rattle.package_form.specs.Naming.{field_name}
use Rattle.package_text.proofs.PrintableTrees.LabelsOneByOne.{labels-more, labels-whole}
use Rattle.package_text.proofs.labels.fields.Goals as goal

pub loop-field-preserved : goal.loop-field-preserved
loop-field-preserved c = labels-more c.args.fields.now c.loop-field.field-index field_name c.field-item.result c.loop-field-test.true c.field-item.is c.loop-field.invariant c.as_bytes.ensures.label

pub returns : goal.returns
returns c = labels-whole c.args.fields.now c.loop-field.field-index field_name c.loop-field-test.false c.loop-field.invariant
