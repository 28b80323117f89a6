-- The function's result is one type of the table, or none.
use Rattle.std.proofs.Common.{sym, ap, subst}
use Rattle.std.specs.Prelude.{IfOk, option_to_list}
use Rattle.std.specs.Option.{option_map}
use Rattle.canonical_abi.specs.Types.{result_fields}
use Rattle.canonical_abi.specs.Values.{HaveTypes}
use Rattle.values.specs.Val.{value_of}
use Rattle.adapter.proofs.FunctionsInLayouts.{result-inside, result-is}
use Rattle.tables.specs.Closed.{function_type}
use Rattle.host_values.proofs.WhatIsToldCanBeRead.{lifted-or-faulty}
use Rattle.host_values.proofs.reading.lift_lent.Goals as goal

pub lift_result-requires : goal.lift_result-requires
lift_result-requires c =
    record { inside = result-inside c.args.types.now c.args.func c.requires.function c.signature.result.now (rw c.resolve.ensures at c.signature.ensures) }

pub returns-clause-value : goal.returns-clause-value
returns-clause-value c =
    let f = function_type c.args.types.now c.args.func in
    let is = result-is c.args.types.now c.args.func c.requires.function c.signature.result.now (rw c.resolve.ensures at c.signature.ensures) in
    (lifted-or-faulty f c.args.memory.now c.args.flats.now _ c.lift_result.result (sym (ap result_fields is)) (rw (ap (λ memory. memory.bytes) c.new-guest.ensures.memory) at c.lift_result.ensures.value)).0

pub returns-clause-fault : goal.returns-clause-fault
returns-clause-fault c =
    let f = function_type c.args.types.now c.args.func in
    let is = result-is c.args.types.now c.args.func c.requires.function c.signature.result.now (rw c.resolve.ensures at c.signature.ensures) in
    (lifted-or-faulty f c.args.memory.now c.args.flats.now _ c.lift_result.result (sym (ap result_fields is)) (rw (ap (λ memory. memory.bytes) c.new-guest.ensures.memory) at c.lift_result.ensures.value)).1

pub returns-clause-typed : goal.returns-clause-typed
returns-clause-typed c =
    let r = c.args.types.now in
    let is = result-is r c.args.func c.requires.function c.signature.result.now (rw c.resolve.ensures at c.signature.ensures) in
    subst (λ o. IfOk c.lift_result.result (λ v. HaveTypes (option_to_list (option_map value_of v)) (result_fields o))) (sym is) c.lift_result.ensures.typed
