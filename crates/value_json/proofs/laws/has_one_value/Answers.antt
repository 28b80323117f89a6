use Rattle.value_json.proofs.OneValue.{one-value}
use Rattle.value_json.proofs.laws.has_one_value.Goals as goal

pub returns : goal.returns
returns c = one-value
