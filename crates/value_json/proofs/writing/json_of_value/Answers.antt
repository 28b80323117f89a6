use Rattle.std.proofs.Common.{◌≡◌, ◌≤◌, sym, subst}
use Rattle.canonical_abi.specs.Types.{depth}
use Rattle.canonical_abi.specs.Values.{HasType}
use Rattle.values.specs.Val.{value_of}
use Rattle.values.proofs.WeakerAnswers.{if-ok-as}
use Rattle.serde_json.specs.Data as json
use Rattle.serde_json.specs.View.{view}
use Rattle.tables.proofs.ErasesToClosed.{erases}
use Rattle.tables.specs.Labelled.{labelled_type}
use Rattle.value_json.proofs.JsonNestingDepth.{json-depth}
use Rattle.value_json.proofs.JsonHasNoFloats.{json-whole}
use Rattle.value_json.proofs.writing.json_of_value.Goals as goal

pub write_value-requires-clause-typed : goal.write_value-requires-clause-typed
write_value-requires-clause-typed c = subst (HasType (value_of c.args.value.now)) (sym (erases c.args.resolve.now c.args.ty)) c.requires.typed

pub returns-clause-whole : goal.returns-clause-whole
returns-clause-whole c =
    if-ok-as c.write_value.result _ _ (λ j stands. json-whole (labelled_type c.args.resolve.now c.args.ty) (value_of c.args.value.now) (view j) stands) c.write_value.ensures

pub returns-clause-nests : goal.returns-clause-nests
returns-clause-nests c =
    let t = labelled_type c.args.resolve.now c.args.ty in
    if-ok-as c.write_value.result _ _
    (λ j stands. subst (λ u. json.depth (view j) ≤ depth u) (erases c.args.resolve.now c.args.ty) (json-depth t (value_of c.args.value.now) (view j) stands)) c.write_value.ensures
