use Rattle.std.proofs.Common.{ℕ, Option, Some, Err, sym, subst}
use Rattle.std.specs.Option.{option_map}
use Rattle.canonical_abi.specs.Memory.{HoldsInBlock, FaultyInBlock}
use Rattle.canonical_abi.specs.Session.{HasResult, HasResultFault}
use Rattle.canonical_abi.specs.Types.{result_fields}
use Rattle.canonical_abi.specs.declared.trap.Step.TheVariants.{Take}
use Rattle.tables.specs.Closed.{closed_type}
use Rattle.lift_lower.specs.NoValue.{AnswerStands}
use Rattle.lift_lower.specs.Placing.{area_at}
use Rattle.values.specs.Val.{value_of}
use Rattle.tables.specs.declared.tables.ValType.{ValType}
use Rattle.values.specs.declared.val.Val.{Val}
use Rattle.lift_lower.proofs.CallerSideOfTypedCalls.{value-block, value-taken, fault-taken}
use Rattle.std.specs.Prelude.{option_to_list}
use Rattle.lift_lower.proofs.placing.take_result.Goals as goal

pub returns-in-Ok-clause-value : goal.returns-in-Ok-clause-value
returns-in-Ok-clause-value g c =
    let t = closed_type c.args.table.now c.in-Some-Some.ty in
    let m = (g.G.Guest.memory c.args.guest.now).bytes in
    let area = rw (c.in-Some-Some.is-0, c.in-Some-Some.is-1) at c.requires.area in
    rw (c.in-Some-Some.is-0, c.in-Some-Some.is-1) (value-taken t m c.in-Some-Some.at area.0 c.args.flats.now c.in-Ok.value area.1 (subst (λ q. HoldsInBlock (closed_type q c.in-Some-Some.ty) m c.in-Some-Some.at (value_of c.in-Ok.value)) c.resolve.ensures c.in-Ok.ensures.value))

pub returns-in-Err-clause-value : goal.returns-in-Err-clause-value
returns-in-Err-clause-value g c =
    let t = closed_type c.args.table.now c.in-Some-Some.ty in
    let m = (g.G.Guest.memory c.args.guest.now).bytes in
    let area = rw (c.in-Some-Some.is-0, c.in-Some-Some.is-1) at c.requires.area in
    let block = value-block t m c.in-Some-Some.at area.0 c.args.flats.now area.1 in
    let P : Option ValType → Option ℕ → Type 0 = λ o a. AnswerStands {X = Option Val} Take (λ v. HasResult (result_fields (option_map (closed_type c.args.table.now) o)) m c.args.flats.now (area_at a) (option_to_list (option_map value_of v)))
    (HasResultFault (result_fields (option_map (closed_type c.args.table.now) o)) m c.args.flats.now (area_at a)) (Err c.in-Err.fault) in
    subst (λ o. P o c.args.area) (sym c.in-Some-Some.is-0) (subst (P (Some c.in-Some-Some.ty)) (sym c.in-Some-Some.is-1) (fault-taken t m c.in-Some-Some.at area.0 c.args.flats.now c.in-Err.fault block (subst (λ q. AnswerStands {X = Val} Take (λ v. HoldsInBlock (closed_type q c.in-Some-Some.ty) m c.in-Some-Some.at (value_of v)) (FaultyInBlock (closed_type q c.in-Some-Some.ty) m c.in-Some-Some.at) (Err c.in-Err.fault)) c.resolve.ensures c.in-Err.ensures.value)))
