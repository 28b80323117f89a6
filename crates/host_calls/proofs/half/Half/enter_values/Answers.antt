-- What is said of the flat values is said of the core values that they are.
use Rattle.std.proofs.Common.{◌≡◌, ◌<◌, ℕ, true, length, refl, sym, ◌∙◌, subst, rules}
use Rattle.canonical_abi.specs.Call.{KindsFit}
use Rattle.host_calls.specs.Halves.{EntryOfLentFails}
use Rattle.memory.specs.Blocks.{can_lend}
use Rattle.tables.specs.Closed.{function_type}
use Rattle.host_calls.specs.Calling.{no_block, EnterRefuses}
use Rattle.host_calls.proofs.BrokenHalvesAreRefused.{enter-refuses}
use Rattle.host_calls.proofs.half.Half.enter_values.Goals as goal

pub returns-in-Err-clause-done : goal.returns-in-Err-clause-done
returns-in-Err-clause-done c values is =
    let f = function_type c.args.self.now.types.now c.args.self.now.func in
    let blocks = c.args.self.now.blocks.now in
    let P : _ → Type 0 = λ fl. (name : ℕ) × EntryOfLentFails name f fl c.args.caller.now c.args.callee.now blocks c.in-Err.error c.enter_flats.new.callee in
    let failed = subst P is c.in-Err.ensures.error in
    let short : length c.args.caller.now < 4294967296 = search rules in
    let can : can_lend (length c.args.callee.now) no_block blocks ≡ true = sym c.in_ok-can_lend.ensures.can ∙ c.if-not-branch.false in
    let kinds = subst (KindsFit f) is c.in_ok-fit.ensures.ok in (
      subst (λ e. EnterRefuses f values c.args.caller.now c.args.callee.now blocks c.args.handed.now e c.enter_flats.new.callee) (sym c.of_half.ensures)
          (enter-refuses f values c.args.caller.now c.args.callee.now blocks c.args.handed.now c.enter_flats.new.callee c.in-Err.error ((c.requires.room, kinds), (short, can)) failed),
      refl,
    )
