use Rattle.std.proofs.Common.{Some, map, sym, ap, subst}
use Rattle.std.proofs.lemmas.Result.{err_from_is_err_and}
use Rattle.canonical_abi.specs.Types.{result_fields}
use Rattle.tables.specs.Closed.{function_type}
use Rattle.lift_lower.specs.Placing.{IsAreaIn, IsAreaAsked, AreaFails}
use Rattle.values.specs.Val.{value_of}
use Rattle.adapter.proofs.FunctionsInLayouts.{result-inside, result-is}
use Rattle.witcall.proofs.CallerBeforeTypedCalls.{ready_flat, ready_with_area, arguments_fail, area_fails}
use Rattle.witcall.proofs.placing.place_call.Goals as goal

pub returns-in_err-lower_arguments-clause-fault : goal.returns-in_err-lower_arguments-clause-fault
returns-in_err-lower_arguments-clause-fault g c =
    let f = function_type c.args.table.now c.args.func in
    let p = err_from_is_err_and c.from_residual.result c.from_residual.ensures.1 in
    rw (p.1, p.2) (arguments_fail g.C.Guest.allocates f (map value_of c.args.arguments.now) (g.C.Guest.memory c.args.caller.now) c.in_err-lower_arguments.field-0.0 (g.C.Guest.memory c.lower_arguments.new.guest) c.in_err-lower_arguments.ensures.fault)

pub ask_area-requires : goal.ask_area-requires
ask_area-requires g c = record { inside = result-inside c.args.table.now c.args.func c.requires.function c.signature.result.now (rw c.resolve.ensures at c.signature.ensures) }

pub returns-in_err-area-clause-fault : goal.returns-in_err-area-clause-fault
returns-in_err-area-clause-fault g c =
    let r = c.args.table.now in
    let f = function_type r c.args.func in
    let mid = g.C.Guest.memory c.lower_arguments.new.guest in
    let new = g.C.Guest.memory c.ask_area.new.guest in
    let own = ap result_fields (sym (result-is r c.args.func c.requires.function c.signature.result.now (rw c.resolve.ensures at c.signature.ensures))) in
    let p = err_from_is_err_and c.from_residual-in_err-area.result c.from_residual-in_err-area.ensures.1 in
    let fails = subst (λ ts. AreaFails g.C.Guest.allocates ts mid c.in_err-area.field-0.0 new) own c.in_err-area.ensures.fault in
    rw (p.1, p.2) (area_fails g.C.Guest.allocates f (map value_of c.args.arguments.now) (g.C.Guest.memory c.args.caller.now) mid c.lower_arguments.new.flats.items c.in_err-area.field-0.0 new c.in_ok-lower_arguments.ensures.flats fails)

pub returns-in_default-clause-placed : goal.returns-in_default-clause-placed
returns-in_default-clause-placed g c =
    let r = c.args.table.now in
    let f = function_type r c.args.func in
    let mid = g.C.Guest.memory c.lower_arguments.new.guest in
    let new = g.C.Guest.memory c.ask_area.new.guest in
    let own = ap result_fields (sym (result-is r c.args.func c.requires.function c.signature.result.now (rw c.resolve.ensures at c.signature.ensures))) in
    let area = subst (λ ts. IsAreaIn ts new.bytes c.in_ok-area.area) own c.in_ok-area.ensures.area in
    let asked = subst (λ ts. IsAreaAsked g.C.Guest.allocates ts mid c.in_ok-area.area new) own c.in_ok-area.ensures.asked in
    let old = g.C.Guest.memory c.args.caller.now in
    rw c.in_default.is (ready_flat g.C.Guest.allocates f (map value_of c.args.arguments.now) old mid c.lower_arguments.new.flats.items new c.in_ok-lower_arguments.ensures.flats (rw c.in_default.is at area) (rw c.in_default.is at asked))

pub returns-clause-placed : goal.returns-clause-placed
returns-clause-placed g c =
    let r = c.args.table.now in
    let f = function_type r c.args.func in
    let mid = g.C.Guest.memory c.lower_arguments.new.guest in
    let new = g.C.Guest.memory c.ask_area.new.guest in
    let own = ap result_fields (sym (result-is r c.args.func c.requires.function c.signature.result.now (rw c.resolve.ensures at c.signature.ensures))) in
    let area = subst (λ ts. IsAreaIn ts new.bytes c.in_ok-area.area) own c.in_ok-area.ensures.area in
    let asked = subst (λ ts. IsAreaAsked g.C.Guest.allocates ts mid c.in_ok-area.area new) own c.in_ok-area.ensures.asked in
    let given = c.push.new.self.items in
    let at = c.in-Some.at in
    let old = g.C.Guest.memory c.args.caller.now in
    let arguments = map value_of c.args.arguments.now in
    let here : IsAreaIn (result_fields f.result) new.bytes (Some at) = subst (λ o. IsAreaIn (result_fields f.result) new.bytes o) c.in-Some.is area in
    let granted : IsAreaAsked g.C.Guest.allocates (result_fields f.result) mid (Some at) new = subst (λ o. IsAreaAsked g.C.Guest.allocates (result_fields f.result) mid o new) c.in-Some.is asked in
    ready_with_area g.C.Guest.allocates f arguments old mid c.lower_arguments.new.flats.items given at new c.in_ok-lower_arguments.ensures.flats here.0 granted c.push.ensures.items
