use Rattle.std.proofs.Common.{◌≡◌, Some, map, ◌∙◌, subst}
use Rattle.std.specs.Prelude.{IfErr}
use Rattle.tables.specs.Closed.{function_at}
use Rattle.tables.specs.declared.tables.Function.{Function}
use Rattle.package_values.specs.Json.{RefusesArray}
use Rattle.package_values.proofs.FunctionTypesAsFields.{own_params}
use Rattle.package_values.proofs.json.arguments_from_json.Goals as goal

pub returns-clause-err : goal.returns-clause-err
returns-clause-err c =
    let r = c.args.«package».now.resolve in
    let func = c.args.func in
    let items = c.in_ok-types.types.items in
    let named = subst (λ q. (f : Function) → function_at q func ≡ Some f → items ≡ map (λ p. p.ty) f.params) c.types.ensures.types c.in_ok-types.ensures.named in
    let own = c.as_slice.ensures.value ∙ own_params (function_at r func) items c.requires named in
    subst (λ ts. IfErr c.values_from_json.result (RefusesArray r ts c.args.text.now)) own c.values_from_json.ensures.err
