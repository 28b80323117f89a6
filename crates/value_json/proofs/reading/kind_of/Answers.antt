use Rattle.value_json.proofs.LabelledTypesRowByRow.{kind-row, kind-apart}
use Rattle.value_json.proofs.reading.kind_of.Goals as goal

pub returns-clause-is : goal.returns-clause-is
returns-clause-is c = (kind-row c.args.resolve.now c.args.id c.in-Type.definition c.requires.inside (cc)).0

pub returns-clause-below : goal.returns-clause-below
returns-clause-below c = (kind-row c.args.resolve.now c.args.id c.in-Type.definition c.requires.inside (cc)).1

pub returns-clause-typed : goal.returns-clause-typed
returns-clause-typed c = (kind-row c.args.resolve.now c.args.id c.in-Type.definition c.requires.inside (cc)).2

pub returns-clause-standard : goal.returns-clause-standard
returns-clause-standard c = (kind-row c.args.resolve.now c.args.id c.in-Type.definition c.requires.inside (cc)).3

pub returns-clause-apart : goal.returns-clause-apart
returns-clause-apart c = kind-apart c.args.resolve.now c.args.id c.in-Type.definition c.requires.inside (cc) c.requires.labels
