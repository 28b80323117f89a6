use Rattle.values.proofs.FieldsFromAPlace.{have-rows}
use Rattle.values.proofs.types.Types.count_within.Goals as goal

pub flat_count-requires : goal.flat_count-requires
flat_count-requires c = have-rows c.args.self.now c.layouts.result.now c.args.types.now c.layouts.ensures c.requires.inside
