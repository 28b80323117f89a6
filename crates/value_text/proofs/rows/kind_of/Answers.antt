use Rattle.value_json.proofs.LabelledTypesRowByRow.{kind-row, kind-apart}
use Rattle.value_text.proofs.RowsInOrder.{kind-there, in-range}
use Rattle.value_text.proofs.rows.kind_of.Goals as goal

pub returns-clause-is : goal.returns-clause-is
returns-clause-is c = (kind-row c.args.resolve.now c.args.id c.in-Type.definition c.requires.inside (cc)).0

pub returns-clause-below : goal.returns-clause-below
returns-clause-below c = (kind-row c.args.resolve.now c.args.id c.in-Type.definition c.requires.inside (cc)).1

pub returns-clause-typed : goal.returns-clause-typed
returns-clause-typed c = (kind-row c.args.resolve.now c.args.id c.in-Type.definition c.requires.inside (cc)).2

pub returns-clause-standard : goal.returns-clause-standard
returns-clause-standard c = (kind-row c.args.resolve.now c.args.id c.in-Type.definition c.requires.inside (cc)).3

pub returns-clause-apart : goal.returns-clause-apart
returns-clause-apart c = kind-apart c.args.resolve.now c.args.id c.in-Type.definition c.requires.inside (cc) c.requires.labels

pub returns-clause-stands : goal.returns-clause-stands
returns-clause-stands c = kind-there c.args.resolve.now.definitions c.args.id.0 c.in-Type.definition (in-range c.args.resolve.now.definitions c.args.id.0 c.requires.inside) (cc)
