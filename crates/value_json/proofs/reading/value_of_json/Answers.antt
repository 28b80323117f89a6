use Rattle.values.specs.Val.{value_of}
use Rattle.values.proofs.WeakerAnswers.{if-ok-as}
use Rattle.serde_json.specs.View.{view}
use Rattle.value_json.proofs.JsonValuesAreTyped.{value-typed}
use Rattle.value_json.proofs.reading.value_of_json.Goals as goal

pub returns-clause-typed : goal.returns-clause-typed
returns-clause-typed c =
    if-ok-as c.read_value.result _ _ (λ v stands. value-typed c.args.resolve.now c.args.ty (value_of v) (view c.args.json.now) stands) c.read_value.ensures.ok
