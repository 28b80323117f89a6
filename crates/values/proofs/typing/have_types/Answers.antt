use Rattle.values.proofs.FieldsFromAPlace.{count-types}
use Rattle.values.proofs.typing.have_types.Goals as goal

pub members_have_types-requires-clause-counted : goal.members_have_types-requires-clause-counted
members_have_types-requires-clause-counted c = count-types c.args.table.now c.args.types.now
