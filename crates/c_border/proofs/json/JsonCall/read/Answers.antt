-- The text of the value that was read stands in the array.
use Rattle.std.proofs.Common.{◌≡◌, ◌∙◌, ℕ, List, inl, subst, sym}
use Rattle.std.specs.Prelude.{option_to_list, string_bytes}
use Rattle.std.specs.Option.{option_map}
use Rattle.adapter.specs.Signature.{function_signature}
use Rattle.host_values.specs.Reading.{IsReadResult, AsksWithin}
use Rattle.tables.specs.Closed.{function_at, function_type}
use Rattle.tables.specs.declared.tables.Resolve.{Resolve}
use Rattle.values.specs.Val.{value_of}
use Rattle.c_border.specs.Json.{IsResultText}
use Rattle.c_border.proofs.CallsOfFunctions.{of-function}
use Rattle.c_border.proofs.json.JsonCall.read.Goals as goal

pub returns-in-Ok-clause-done : goal.returns-in-Ok-clause-done
returns-in-Ok-clause-done c =
    let r = c.in_ok-package.package.now.resolve in
    let f = c.in_ok-package.func in
    let vs = option_to_list (option_map value_of c.in_ok-value.value) in
    let same = c.types.ensures.types in
    let whole : c.as_bytes.result.now ≡ string_bytes c.in-Ok.text = c.as_bytes.ensures.value ∙ c.as_str.ensures.value in
    let read = subst (λ (x : Resolve). IsReadResult (function_type x f) c.args.answer.now c.args.memory.now vs) same c.in_ok-value.ensures.value in
    let few = subst (λ (x : Resolve). AsksWithin (function_type x f) c.args.answer.now c.args.memory.now c.args.limit) same c.in_ok-value.ensures.few in
    let text = subst (λ (bytes : List ℕ). IsResultText r (function_signature (function_at r f)).result vs bytes) (sym whole) c.in-Ok.ensures in
    of-function _ _ c.in_ok-package.package.now f _ _ _ c.in_ok-package.ensures.ok (inl (vs, c.as_bytes.result.now, read, few, text, c.tell_bytes.ensures))
