-- What is said of the flat values is said of the core values of the call.
use Rattle.std.proofs.Common.{◌≡◌, ℕ, true, map, length, refl, sym, ap, ◌∙◌, subst, rules}
use Rattle.canonical_abi.specs.Types.{result_fields}
use Rattle.host_calls.specs.Calling.{area_block}
use Rattle.host_calls.specs.Values.{flat_of}
use Rattle.host_calls.proofs.ReturnAreaIsLive.{keeps-area}
use Rattle.memory.specs.Blocks.{can_lend}
use Rattle.tables.specs.Closed.{function_type}
use Rattle.values.specs.Val.{value_of}
use Rattle.host_values.specs.Results.{AnswersLent, AnswerOfLentFails, AnswerRefuses, CanAnswer}
use Rattle.host_values.proofs.import_values.RefusedAnswers.{answer-refuses}
use Rattle.host_values.proofs.import_values.call.ImportCall.answer.Goals as goal

pub returns-in-Ok : goal.returns-in-Ok
returns-in-Ok c =
    let f = function_type c.args.self.now.types.now c.args.self.now.func in
    let flats = map flat_of c.args.self.now.flats.now in
    let blocks = c.args.blocks.now in
    let memory = c.args.memory.now in
    let area : c.return_area-area.result ≡ area_block f flats = c.return_area-area.ensures ∙ ap (area_block f) (c.as_slice.ensures.value ∙ c.if-not-put_flats.ensures.flats refl) in
    let can : can_lend (length memory) (area_block f flats) blocks ≡ true = ap (λ b. can_lend (length memory) b blocks) (sym area) ∙ sym c.in_ok-can_lend.ensures.can ∙ c.if-not-branch.false in
    let given = subst (λ (a : ℕ). (name : ℕ) × AnswersLent name (result_fields f.result) a (map value_of c.args.values.now) memory blocks c.in-Ok.given.items c.put_lent.new.memory)
    (ap (λ b. b.at) area) c.in-Ok.ensures.given in (
      ((c.in_ok-room_in.ensures.ok, c.in_ok-begin.ensures.ok), can, keeps-area f flats memory blocks can),
      (c.in-Ok.given.items, search rules, given),
    )

pub returns-in-Err : goal.returns-in-Err
returns-in-Err c =
    let f = function_type c.args.self.now.types.now c.args.self.now.func in
    let flats = map flat_of c.args.self.now.flats.now in
    let blocks = c.args.blocks.now in
    let memory = c.args.memory.now in
    let new = c.put_lent.new.memory in
    let vs = map value_of c.args.values.now in
    let area : c.return_area-area.result ≡ area_block f flats = c.return_area-area.ensures ∙ ap (area_block f) (c.as_slice.ensures.value ∙ c.if-not-put_flats.ensures.flats refl) in
    let can : can_lend (length memory) (area_block f flats) blocks ≡ true = ap (λ b. can_lend (length memory) b blocks) (sym area) ∙ sym c.in_ok-can_lend.ensures.can ∙ c.if-not-branch.false in
    let failed = subst (λ (a : ℕ). (name : ℕ) × AnswerOfLentFails name (result_fields f.result) a vs memory blocks c.in-Err.error new) (ap (λ b. b.at) area) c.in-Err.ensures.error in
    let can_answer : CanAnswer f c.args.self.now.flats.now memory blocks c.args.back.now = ((c.in_ok-room_in.ensures.ok, c.in_ok-begin.ensures.ok), can, keeps-area f flats memory blocks can) in (
      subst (λ e. AnswerRefuses f c.args.self.now.flats.now vs memory blocks c.args.back.now e new) (sym c.of_half.ensures)
          (answer-refuses f c.args.self.now.flats.now vs memory blocks c.args.back.now new c.in-Err.error can_answer failed),
      refl,
    )
