use Rattle.std.proofs.Common.{ap, sym, map, subst, ◌∙◌, List, Option, None, Some, Ok, Err}
use Rattle.std.proofs.lemmas.Result.{err_from_is_err_and}
use Rattle.std.specs.Option.{option_map}
use Rattle.std.specs.Prelude.{IfOk, IfSome, option_to_list}
use Rattle.canonical_abi.specs.Session.{HasResult, HasResultFault}
use Rattle.canonical_abi.specs.Types.{ClosedType, Fields, IsPlain, result_fields}
use Rattle.canonical_abi.specs.Call.{exact, Parties, Calls}
use Rattle.canonical_abi.specs.Values.{HaveTypes}
use Rattle.canonical_abi.specs.declared.flat.Flat.{Flat}
use Rattle.canonical_abi.specs.declared.trap.Step.TheVariants.{Take}
use Rattle.tables.specs.Closed.{closed_type, function_type, IsFunction}
use Rattle.tables.specs.declared.tables.ValType.{ValType}
use Rattle.lift_lower.specs.NoValue.{AnswerStands}
use Rattle.lift_lower.specs.Placing.{area_at, IsAreaIn}
use Rattle.values.specs.Val.{value_of}
use Rattle.adapter.proofs.FunctionsInLayouts.{result-inside, result-is}
use Rattle.canonical_abi.specs.Halves.{as_state}
use Rattle.witcall.specs.Session.{IsReady, IsNotReady}
use Rattle.witcall.proofs.CallerBeforeTypedCalls.{area_stays}
use Rattle.witcall.proofs.TypedCallsKeepPromise.{promised, promised-live}
use Rattle.witcall.proofs.TypedCalls.{placed, place_fails, link_fails, came_back, takes}
use Rattle.witcall.proofs.session.call_typed.Goals as goal

pub returns-in_err-area-clause-call : goal.returns-in_err-area-clause-call
returns-in_err-area-clause-call g c =
    let f = function_type c.args.package.now.resolve c.args.func in
    let parties : Parties = record { caller_allocates = g.C.Guest.allocates; callee_allocates = g.E.Guest.allocates; runs = g.B.Body.runs c.args.body.now; posts = g.B.Body.posts c.args.body.now } in
    let caller = g.C.Guest.memory c.args.caller.now in
    let callee = g.E.Guest.memory c.args.callee.now in
    let body = g.B.Body.state c.args.body.now in
    let caller' = g.C.Guest.memory c.place_call.new.caller in
    let arguments = map value_of c.args.arguments.now in
    let fault = c.in_err-area.field-0.0 in
    let fails = subst (λ q. IsNotReady g.C.Guest.allocates (function_type q c.args.func) arguments caller fault caller') c.types-table.ensures.types c.in_err-area.ensures.fault in
    let p = err_from_is_err_and c.from_residual.result c.from_residual.ensures.1 in
    rw (p.1, p.2) (place_fails parties f arguments caller caller' callee body fault fails)

pub returns-in_err-back-clause-call : goal.returns-in_err-back-clause-call
returns-in_err-back-clause-call g c =
    let f = function_type c.args.package.now.resolve c.args.func in
    let parties : Parties = record { caller_allocates = g.C.Guest.allocates; callee_allocates = g.E.Guest.allocates; runs = g.B.Body.runs c.args.body.now; posts = g.B.Body.posts c.args.body.now } in
    let caller = g.C.Guest.memory c.args.caller.now in
    let callee = g.E.Guest.memory c.args.callee.now in
    let body = g.B.Body.state c.args.body.now in
    let caller' = g.C.Guest.memory c.place_call.new.caller in
    let arguments = map value_of c.args.arguments.now in
    let flats = c.as_slice.result.now in
    let area = c.in_ok-area.area in
    let ready = subst (λ q. IsReady g.C.Guest.allocates (function_type q c.args.func) arguments caller c.place_call.new.flats.items area caller') c.types-table.ensures.types c.in_ok-area.ensures.placed in
    let handed = subst (λ fs. IsReady g.C.Guest.allocates f arguments caller fs area caller') (sym c.as_slice.ensures.value) ready in
    let places = placed parties f arguments caller caller' callee body flats area handed c.in_ok-area.ensures.small in
    let new = as_state (g.C.Guest.memory c.call.new.caller) (g.E.Guest.memory c.call.new.callee) (g.B.Body.state c.call.new.body) in
    let told = c.in_err-back.ensures.call in
    let calls = subst (λ q. Calls parties exact (function_type q c.args.func) flats (as_state caller' callee body) (Err c.in_err-back.field-0.0) told.0 new)
    (c.new-link.ensures.package ∙ c.resolve-resolve.ensures ∙ c.types-table.ensures.types) told.1 in
    let p = err_from_is_err_and c.from_residual-in_err-back.result c.from_residual-in_err-back.ensures.1 in
    rw (p.1, p.2) (link_fails parties f arguments (area_at area) (as_state caller callee body) (as_state caller' callee body) new flats c.in_err-back.field-0.0 places (told.0, calls))

pub take_result-requires-clause-inside : goal.take_result-requires-clause-inside
take_result-requires-clause-inside g c =
    let own = c.types-table.result in
    let is = subst (λ q. IsFunction q c.args.func) (sym c.types-table.ensures.types) c.requires.function in
    result-inside own c.args.func is c.signature.result.now (rw c.resolve-resolve.ensures at c.signature.ensures)

pub take_result-requires-clause-area : goal.take_result-requires-clause-area
take_result-requires-clause-area g c =
    let own = c.types-table.result in
    let is = subst (λ q. IsFunction q c.args.func) (sym c.types-table.ensures.types) c.requires.function in
    let same = ap result_fields (result-is own c.args.func is c.signature.result.now (rw c.resolve-resolve.ensures at c.signature.ensures)) in
    let before = (g.C.Guest.memory c.place_call.new.caller).bytes in
    let after = (g.C.Guest.memory c.call.new.caller).bytes in
    let ts = result_fields (option_map (closed_type own) c.signature.result.now.result) in
    area_stays ts before after c.in_ok-area.area c.in_ok-back.ensures.no_shorter (subst (λ ts. IsAreaIn ts before c.in_ok-area.area) same c.in_ok-area.ensures.area)

pub returns-clause-call : goal.returns-clause-call
returns-clause-call g c =
    let r = c.args.package.now.resolve in
    let f = function_type r c.args.func in
    let parties : Parties = record { caller_allocates = g.C.Guest.allocates; callee_allocates = g.E.Guest.allocates; runs = g.B.Body.runs c.args.body.now; posts = g.B.Body.posts c.args.body.now } in
    let caller = g.C.Guest.memory c.args.caller.now in
    let callee = g.E.Guest.memory c.args.callee.now in
    let body = g.B.Body.state c.args.body.now in
    let caller' = g.C.Guest.memory c.place_call.new.caller in
    let arguments = map value_of c.args.arguments.now in
    let flats = c.as_slice.result.now in
    let area = c.in_ok-area.area in
    let ready = subst (λ q. IsReady g.C.Guest.allocates (function_type q c.args.func) arguments caller c.place_call.new.flats.items area caller') c.types-table.ensures.types c.in_ok-area.ensures.placed in
    let handed = subst (λ fs. IsReady g.C.Guest.allocates f arguments caller fs area caller') (sym c.as_slice.ensures.value) ready in
    let places = placed parties f arguments caller caller' callee body flats area handed c.in_ok-area.ensures.small in
    let new = as_state (g.C.Guest.memory c.call.new.caller) (g.E.Guest.memory c.call.new.callee) (g.B.Body.state c.call.new.body) in
    let back = c.in_ok-back.back.items in
    let told = c.in_ok-back.ensures.call in
    let calls = subst (λ q. Calls parties exact (function_type q c.args.func) flats (as_state caller' callee body) (Ok back) told.0 new)
    (c.new-link.ensures.package ∙ c.resolve-resolve.ensures ∙ c.types-table.ensures.types) told.1 in
    let came = came_back parties f arguments (area_at area) (as_state caller callee body) (as_state caller' callee body) new flats back places (told.0, calls) in
    let own = c.types-table.result in
    let is = subst (λ q. IsFunction q c.args.func) (sym c.types-table.ensures.types) c.requires.function in
    let same = ap result_fields (sym (result-is own c.args.func is c.signature.result.now (rw c.resolve-resolve.ensures at c.signature.ensures))) ∙ ap (λ q. result_fields (function_type q c.args.func).result) c.types-table.ensures.types in
    let m = (g.C.Guest.memory c.call.new.caller).bytes in
    let P : Fields → List Flat → Type 0 = λ ts fs. AnswerStands Take (λ v. HasResult ts m fs (area_at area) (option_to_list (option_map value_of v))) (HasResultFault ts m fs (area_at area)) c.take_result.result in
    let stands = subst (P (result_fields f.result)) c.as_slice-2.ensures.value (subst (λ ts. P ts c.as_slice-2.result.now) same c.take_result.ensures.value) in
    takes parties f arguments (area_at area) (as_state caller callee body) new back c.take_result.result came stands

pub returns-clause-typed : goal.returns-clause-typed
returns-clause-typed g c =
    let own = c.types-table.result in
    let is = subst (λ q. IsFunction q c.args.func) (sym c.types-table.ensures.types) c.requires.function in
    let same = ap result_fields (sym (result-is own c.args.func is c.signature.result.now (rw c.resolve-resolve.ensures at c.signature.ensures))) ∙ ap (λ q. result_fields (function_type q c.args.func).result) c.types-table.ensures.types in
    subst (λ ts. IfOk c.take_result.result (λ v. HaveTypes (option_to_list (option_map value_of v)) ts)) same c.take_result.ensures.typed

-- a result of a plain type
plain-of : (g : ValType → ClosedType) (o : Option ValType) → IfSome (option_map g o) IsPlain → IfSome o (λ t. IsPlain (g t))
plain-of g None h = tt
plain-of g (Some t) h = h

pub returns-clause-no_memory : goal.returns-clause-no_memory
returns-clause-no_memory g c = λ plain.
    let own = c.types-table.result in
    let is = subst (λ q. IsFunction q c.args.func) (sym c.types-table.ensures.types) c.requires.function in
    let same = result-is own c.args.func is c.signature.result.now (rw c.resolve-resolve.ensures at c.signature.ensures) in
    let here = subst (λ q. IfSome (function_type q c.args.func).result IsPlain) (sym c.types-table.ensures.types) plain in
    c.take_result.ensures.plain (plain-of (closed_type own) c.signature.result.now.result (subst (λ o. IfSome o IsPlain) same here))

pub returns-in_err-area-clause-promise : goal.returns-in_err-area-clause-promise
returns-in_err-area-clause-promise g c = promised _ _ _ c.args.package.now.resolve c.args.func _ _ _ _ c.requires.function (returns-in_err-area-clause-call g c)

pub returns-in_err-back-clause-promise : goal.returns-in_err-back-clause-promise
returns-in_err-back-clause-promise g c = promised _ _ _ c.args.package.now.resolve c.args.func _ _ _ _ c.requires.function (returns-in_err-back-clause-call g c)

pub returns-clause-promise : goal.returns-clause-promise
returns-clause-promise g c = promised _ _ _ c.args.package.now.resolve c.args.func _ _ _ _ c.requires.function (returns-clause-call g c)

pub returns-in_err-area-clause-promise_live : goal.returns-in_err-area-clause-promise_live
returns-in_err-area-clause-promise_live g c = promised-live _ _ _ c.args.package.now.resolve c.args.func _ _ _ _ c.requires.function (returns-in_err-area-clause-call g c)

pub returns-in_err-back-clause-promise_live : goal.returns-in_err-back-clause-promise_live
returns-in_err-back-clause-promise_live g c = promised-live _ _ _ c.args.package.now.resolve c.args.func _ _ _ _ c.requires.function (returns-in_err-back-clause-call g c)

pub returns-clause-promise_live : goal.returns-clause-promise_live
returns-clause-promise_live g c = promised-live _ _ _ c.args.package.now.resolve c.args.func _ _ _ _ c.requires.function (returns-clause-call g c)
