use Rattle.values.proofs.FieldsFromAPlace.{have-rows}
use Rattle.values.proofs.types.Types.kinds_within.Goals as goal

pub flat-requires : goal.flat-requires
flat-requires c = have-rows c.args.self.now c.layouts.result.now c.args.types.now c.layouts.ensures c.requires.inside
