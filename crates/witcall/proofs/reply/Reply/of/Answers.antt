use Rattle.std.proofs.Common.{◌≡◌, ◌≤◌, ◌<◌, Some, length, map, sym, ap, ◌∙◌, subst, arith}
use Rattle.std.proofs.lemmas.List.{length-map}
use Rattle.std.specs.Prelude.{option_to_list, IsSome, ◌↔◌}
use Rattle.canonical_abi.specs.Types.{result_fields}
use Rattle.canonical_abi.specs.Values.{HaveTypes}
use Rattle.tables.specs.Closed.{closed_types, function_at, function_type}
use Rattle.tables.specs.declared.tables.Function.{Function}
use Rattle.values.specs.Members.{fields_of_types}
use Rattle.values.specs.Val.{value_of}
use Rattle.package_values.specs.Json.{IsArrayTextOf}
use Rattle.adapter.specs.Signature.{function_signature}
use Rattle.package_values.proofs.FunctionTypesAsFields.{own_params, same_function, same_is_function}
use Rattle.witcall.proofs.AnswersOfTheBody.{lent}
use Rattle.witcall.proofs.ScalarResults.{popped, at_most_one}
use Rattle.witcall.proofs.reply.Reply.of.Goals as goal

pub invariant_of-result : goal.invariant_of-result
invariant_of-result c =
    let r = c.args.«package».now.resolve in
    let f = c.in_ok-func.func in
    let o = c.result_type-ty.result in
    let q = c.in_ok-package.«package».resolve in
    let items = c.in_ok-values.values.items in
    let vs = map value_of items in
    let lists = lent o c.as_slice.result.now c.as_slice.ensures in
    let typed = subst (λ ts. HaveTypes vs (fields_of_types r ts)) lists c.in_ok-values.ensures.typed in
    let few : length items ≤ 1 = omega (arith, at_most_one (closed_types r) o vs typed, length-map items value_of) in
    let some = subst (λ n. IsSome c.pop.result ↔ (0 < n)) c.in_ok-values.values.ok.0 c.pop.ensures.variant in
    let all = popped c.pop.result items _ few c.pop.ensures.items some in
    let results = subst (λ x. fields_of_types x (option_to_list o) ≡ result_fields (function_type x f).result) c.resolve.ensures c.result_type-ty.ensures.fields in
    let own = results ∙ ap (λ t. result_fields t.result) (same_function q r f c.in_ok-package.ensures) in
    let there = same_is_function q r f c.in_ok-package.ensures c.in_ok-func.ensures.function in
    let named = subst (λ x. (g : Function) → function_at x f ≡ Some g → c.in_ok-params.params.items ≡ map (λ p. p.ty) g.params) c.types.ensures.types c.in_ok-params.ensures.named in
    record {
      function = there;
      named = own_params (function_at q f) c.in_ok-params.params.items there named;
      typed = ∣ subst (λ xs. HaveTypes (map value_of xs) (result_fields (function_type q f).result)) (sym all) (subst (HaveTypes vs) own typed) ∣₁;
    }

pub returns-clause-ok : goal.returns-clause-ok
returns-clause-ok c =
    let r = c.args.«package».now.resolve in
    let f = c.in_ok-func.func in
    let o = c.result_type-ty.result in
    let items = c.in_ok-values.values.items in
    let vs = map value_of items in
    let lists = lent o c.as_slice.result.now c.as_slice.ensures in
    let typed = subst (λ ts. HaveTypes vs (fields_of_types r ts)) lists c.in_ok-values.ensures.typed in
    let few : length items ≤ 1 = omega (arith, at_most_one (closed_types r) o vs typed, length-map items value_of) in
    let some = subst (λ n. IsSome c.pop.result ↔ (0 < n)) c.in_ok-values.values.ok.0 c.pop.ensures.variant in
    let all = popped c.pop.result items _ few c.pop.ensures.items some in
    let results = lists ∙ ap option_to_list (c.result_type-ty.ensures.ty ∙ ap (λ x. (function_signature (function_at x f)).result) c.resolve.ensures) in
    let read = subst (λ ts. IsArrayTextOf r ts c.args.reply.now vs) results c.in_ok-values.ensures.ok in
    record {
      own = c.in_ok-package.ensures;
      named = c.in_ok-func.ensures.named;
      are_read = subst (λ xs. IsArrayTextOf r (option_to_list (function_signature (function_at r f)).result) c.args.reply.now (map value_of xs)) (sym all) read;
    }
