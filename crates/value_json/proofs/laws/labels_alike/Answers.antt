use Rattle.value_json.proofs.LabelledByNames.{labels_alike}
use Rattle.value_json.proofs.laws.labels_alike.Goals as goal

pub returns : goal.returns
returns c = labels_alike c.args._resolve.now
