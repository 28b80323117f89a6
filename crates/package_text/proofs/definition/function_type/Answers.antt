use Rattle.std.proofs.Common.{map, ap, sym, ◌∙◌}
use Rattle.package_text.specs.Tree.{own_trees}
use Rattle.package_text.specs.Pieces.{parameter_by}
use Rattle.package_text.proofs.WrittenTrees.ExpressionsOfKinds.{parameters-written, optional-written}
use Rattle.package_text.proofs.definition.function_type.Goals as goal

pub returns : goal.returns
returns c =
    let trees = own_trees c.args.resolve.now in
    let f = c.args.function.now in
    let params = c.in_ok-parameters.ensures ∙ ap (map (parameter_by trees)) c.as_slice.ensures ∙ sym (parameters-written trees f.params) in
    let result = c.in_ok-optional.ensures ∙ sym (optional-written trees f.result) in
    λ j. record { params = params j; result = result j }
