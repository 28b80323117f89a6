use Rattle.std.proofs.Common.{◌≡◌, true, List, subst, sym, arith, string_bytes}
use Rattle.std.specs.Str.{is_utf8}
use Rattle.std.proofs.lemmas.Str.{is_utf8-from_IsUtf8, IsUtf8-string_bytes}
use Rattle.canonical_abi.specs.Values.{Value, HaveTypes}
use Rattle.canonical_abi.specs.Call.{Parties, CallState, exact}
use Rattle.canonical_abi.specs.Tame.{KeepsLivePromise}
use Rattle.tables.specs.Closed.{function_type}
use Rattle.witcall.specs.Session.{typed_answer}
use Rattle.example_client.proofs.PromiseOfAnOrder.{typed, values, found, kept}
use Rattle.example_client.proofs.order.Goals as goal

-- the item and the count are of the parameters' types
pub call-requires-clause-typed : goal.call-requires-clause-typed
call-requires-clause-typed g c =
    let f = function_type c.args.session.now.package.now.resolve c.args.func in
    let text = string_bytes c.args.item in
    let utf8 : is_utf8 text ≡ true = is_utf8-from_IsUtf8 text (IsUtf8-string_bytes c.args.item) in
    subst (λ (vs : List Value). HaveTypes vs f.params) (sym (values c.args.item c.args.count)) (typed f text c.args.count utf8 (omega (arith, c.ranges.count)) c.requires.takes)

pub returns-clause-found : goal.returns-clause-found
returns-clause-found g c =
    let before = c.args.session.now in
    let after = c.call.new.self in
    let parties : Parties = record {
      caller_allocates = g.C.Guest.allocates;
      callee_allocates = g.E.Guest.allocates;
      runs = g.B.Body.runs before.body;
      posts = g.B.Body.posts before.body;
    } in
    let old : CallState = record { caller = g.C.Guest.memory before.caller; callee = g.E.Guest.memory before.callee; body = g.B.Body.state before.body } in
    let new : CallState = record { caller = g.C.Guest.memory after.caller; callee = g.E.Guest.memory after.callee; body = g.B.Body.state after.body } in
    let f = function_type before.package.now.resolve c.args.func in
    let promise = c.call.ensures.promise_live (record { caller = g.met.C.Tame.is_tame; callee = g.met.E.Tame.is_tame }) in
    found parties f (string_bytes c.args.item) c.args.count old new c.call.result c.requires.takes
    (subst (λ (vs : List Value). KeepsLivePromise parties exact f vs old (typed_answer c.call.result) new) (values c.args.item c.args.count) promise)

pub returns-clause-kept : goal.returns-clause-kept
returns-clause-kept g c = kept _ _ (c.call.ensures.promise_live (record { caller = g.met.C.Tame.is_tame; callee = g.met.E.Tame.is_tame })).unchanged
