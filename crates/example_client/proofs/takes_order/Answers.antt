use Rattle.std.proofs.Common.{◌≡◌, true, List, subst, sym, arith, string_bytes}
use Rattle.std.specs.Str.{is_utf8}
use Rattle.std.proofs.lemmas.Str.{is_utf8-from_IsUtf8, IsUtf8-string_bytes}
use Rattle.canonical_abi.specs.Values.{Value, HaveTypes}
use Rattle.tables.specs.Closed.{function_type}
use Rattle.example_client.proofs.PromiseOfAnOrder.{takes, typed, values}
use Rattle.example_client.proofs.takes_order.Goals as goal

-- two arguments of these types are taken just where the parameters are these
pub returns : goal.returns
returns c =
    let f = function_type c.args.package.now.resolve c.args.func in
    let item = c.new.result in
    let text = string_bytes item in
    let utf8 : is_utf8 text ≡ true = is_utf8-from_IsUtf8 text (IsUtf8-string_bytes item) in
    let have = λ (vs : List Value). HaveTypes vs f.params in (
      λ yes. takes f text 0 (subst have (values item 0) (c.takes.ensures.0 yes)),
      λ is. c.takes.ensures.1 (subst have (sym (values item 0)) (typed f text 0 utf8 (omega arith) is)),
    )
