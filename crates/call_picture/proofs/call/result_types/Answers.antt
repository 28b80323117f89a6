use Rattle.std.proofs.Common.{◌∙◌, ◌≤◌, ◌++◌, ◌∷◌, [], Some, ap, sym, subst}
use Rattle.adapter.proofs.FunctionsInLayouts.{result-small}
use Rattle.canonical_abi.specs.Layout.{size}
use Rattle.canonical_abi.specs.Types.{record_type}
use Rattle.values.specs.Members.{fields_of_types}
use Rattle.call_picture.proofs.call.result_types.Goals as goal

pub returns-clause-fields : goal.returns-clause-fields
returns-clause-fields c =
    let r = c.args.resolve.now in
    let ty = c.in-Some.ty in
    let is = c.in_ok-push.ensures.items ∙ ap (λ xs. xs ++ ty ∷ []) c.new-types.ensures.items in
    ap (fields_of_types r) is ∙ c.in-Some.ensures.fields

pub returns-clause-small : goal.returns-clause-small
returns-clause-small c =
    let r = c.args.resolve.now in
    let ty = c.in-Some.ty in
    let is = c.in_ok-push.ensures.items ∙ ap (λ xs. xs ++ ty ∷ []) c.new-types.ensures.items in
    subst (λ ts. size (record_type (fields_of_types r ts)) ≤ 16777216) (sym is) (result-small r c.requires.within (Some ty) c.in-Some.ensures.known)
