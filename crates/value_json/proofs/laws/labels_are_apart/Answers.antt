use Rattle.value_json.proofs.LabelsAreApart.{labels-apart}
use Rattle.value_json.proofs.laws.labels_are_apart.Goals as goal

pub returns : goal.returns
returns c = labels-apart c.args._resolve.now
