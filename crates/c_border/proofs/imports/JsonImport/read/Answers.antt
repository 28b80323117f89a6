-- The text of the arguments that were read stands in the array.
use Rattle.std.proofs.Common.{◌≡◌, ◌∙◌, ℕ, List, map, inl, subst, sym}
use Rattle.std.specs.Prelude.{string_bytes}
use Rattle.host_values.specs.Arguments.{AreReadArguments, AskWithin}
use Rattle.tables.specs.Closed.{function_type}
use Rattle.tables.specs.declared.tables.Resolve.{Resolve}
use Rattle.values.specs.Val.{value_of}
use Rattle.values.specs.declared.val.Val.{Val}
use Rattle.c_border.specs.Imports.{AreArgumentsText}
use Rattle.c_border.specs.Json.{parameters_of}
use Rattle.c_border.proofs.CallsOfFunctions.{of-function}
use Rattle.c_border.proofs.imports.JsonImport.read.Goals as goal

pub returns-in-Ok-clause-done : goal.returns-in-Ok-clause-done
returns-in-Ok-clause-done c =
    let r = c.in_ok-package.package.now.resolve in
    let f = c.in_ok-package.func in
    let flats = c.args.self.now.flats.now in
    let vs = map value_of c.in_ok-values.values.items in
    let same = c.types.ensures.types in
    let whole : c.as_bytes.result.now ≡ string_bytes c.in-Ok.text = c.as_bytes.ensures.value ∙ c.as_str.ensures.value in
    let read = subst (λ (x : Resolve). AreReadArguments (function_type x f) flats c.args.memory.now vs) same c.in_ok-values.ensures.values in
    let few = subst (λ (x : Resolve). AskWithin (function_type x f) flats c.args.memory.now c.args.limit) same c.in_ok-values.ensures.few in
    let told = subst (λ (xs : List Val). AreArgumentsText r (parameters_of r f) (map value_of xs) (string_bytes c.in-Ok.text)) c.as_slice.ensures.value c.in-Ok.ensures in
    let text = subst (λ (bytes : List ℕ). AreArgumentsText r (parameters_of r f) vs bytes) (sym whole) told in
    of-function _ _ c.in_ok-package.package.now f _ _ _ c.in_ok-package.ensures.ok (inl (vs, c.as_bytes.result.now, read, few, text, c.tell_bytes.ensures))
