-- What is said of the flat values is said of the core values that they are.
use Rattle.std.proofs.Common.{◌≡◌, ◌<◌, ℕ, true, map, length, refl, sym, ◌∙◌, subst, rules}
use Rattle.canonical_abi.specs.Call.{KindsFit}
use Rattle.host_calls.specs.Halves.{ReturnsLent, ReturnOfLentFails}
use Rattle.host_calls.specs.Values.{flat_of}
use Rattle.memory.specs.Blocks.{can_lend}
use Rattle.tables.specs.Closed.{function_type}
use Rattle.host_calls.specs.Calling.{area_block, AnswerFits, AnswerCanReturn, LeaveRefuses}
use Rattle.host_calls.proofs.ReturnAreaIsLive.{keeps-area}
use Rattle.host_calls.proofs.BrokenHalvesAreRefused.{leave-refuses}
use Rattle.host_calls.proofs.half.Half.leave_values.Goals as goal

pub returns-in-Ok-clause-done : goal.returns-in-Ok-clause-done
returns-in-Ok-clause-done c values answers is answered =
    let f = function_type c.args.self.now.types.now c.args.self.now.func in
    let flats = map flat_of values in
    let blocks = c.args.self.now.blocks.now in
    let short : length c.args.callee.now < 4294967296 = search rules in
    let can = subst (λ fl. can_lend (length c.args.caller.now) (area_block f fl) blocks ≡ true) is (sym c.in_ok-can_return.ensures.can ∙ c.if-not-branch.false) in
    let P : _ → _ → Type 0 = λ fl an. (name : ℕ) × ReturnsLent name f fl c.args.callee.now an c.args.caller.now blocks c.leave_flats.new.back.items c.leave_flats.new.caller in
    let returned = subst (P flats) answered (subst (λ fl. P fl c.args.answer.now) is c.in-Ok.ensures.returned) in
    let kinds = subst (KindsFit f) is c.requires.kinds in
    let fits = subst (AnswerFits f) answered c.in_ok-fit_answer.ensures.ok in (
      ((c.requires.room, kinds, fits), (short, can), keeps-area f flats c.args.caller.now blocks can),
      (c.leave_flats.new.back.items, search rules, returned),
    )

pub returns-in-Err-clause-done : goal.returns-in-Err-clause-done
returns-in-Err-clause-done c values answers is answered =
    let f = function_type c.args.self.now.types.now c.args.self.now.func in
    let flats = map flat_of values in
    let blocks = c.args.self.now.blocks.now in
    let now = c.leave_flats.new.caller in
    let short : length c.args.callee.now < 4294967296 = search rules in
    let can = subst (λ fl. can_lend (length c.args.caller.now) (area_block f fl) blocks ≡ true) is (sym c.in_ok-can_return.ensures.can ∙ c.if-not-branch.false) in
    let P : _ → _ → Type 0 = λ fl an. (name : ℕ) × ReturnOfLentFails name f fl c.args.callee.now an c.args.caller.now blocks c.in-Err.error now in
    let failed = subst (P flats) answered (subst (λ fl. P fl c.args.answer.now) is c.in-Err.ensures.error) in
    let kinds = subst (KindsFit f) is c.requires.kinds in
    let fits = subst (AnswerFits f) answered c.in_ok-fit_answer.ensures.ok in
    let can_return : AnswerCanReturn f values c.args.callee.now answers c.args.caller.now blocks c.args.back.now =
    ((c.requires.room, kinds, fits), (short, can), keeps-area f flats c.args.caller.now blocks can) in (
      subst (λ e. LeaveRefuses f values c.args.callee.now answers c.args.caller.now blocks c.args.back.now e now) (sym c.of_half.ensures)
          (leave-refuses f values c.args.callee.now c.args.caller.now blocks c.args.back.now now answers c.in-Err.error can_return failed),
      refl,
    )
