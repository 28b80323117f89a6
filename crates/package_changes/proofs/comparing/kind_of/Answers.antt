use Rattle.package_changes.proofs.LabelledRows.{kind-row}
use Rattle.package_changes.proofs.comparing.kind_of.Goals as goal

pub returns-clause-is : goal.returns-clause-is
returns-clause-is c = (kind-row c.args.table.now c.args.id c.in-Type.definition c.requires (cc)).0

pub returns-clause-below : goal.returns-clause-below
returns-clause-below c = (kind-row c.args.table.now c.args.id c.in-Type.definition c.requires (cc)).1

pub returns-clause-typed : goal.returns-clause-typed
returns-clause-typed c = (kind-row c.args.table.now c.args.id c.in-Type.definition c.requires (cc)).2
