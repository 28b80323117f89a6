use Rattle.value_json.proofs.JsonNestingDepth.{json-depth}
use Rattle.value_json.proofs.laws.nests_as_its_type.Goals as goal

pub returns : goal.returns
returns c = json-depth
