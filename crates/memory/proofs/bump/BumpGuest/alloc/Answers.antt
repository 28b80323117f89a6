use Rattle.std.proofs.Common.{◌≡◌, ◌+◌, refl, rules}
use Rattle.std.proofs.lemmas.Result.{err_from_is_err_and}
use Rattle.memory.specs.Bump.{IsRoundedUp}
use Rattle.memory.proofs.bump.BumpGuest.alloc.Goals as goal

pub returns-in_err-reach-clause-step : goal.returns-in_err-reach-clause-step
returns-in_err-reach-clause-step c =
    let b = c.args.self.now in
    let at = c.next_multiple_of-start.result in
    let rounded : IsRoundedUp b.top c.args.align at = search rules in
    let p = err_from_is_err_and c.from_residual.result c.from_residual.ensures.1 in
    rw (p.1, c.in_err-reach.ensures.kept, c.in_err-reach.ensures.max) (b.pages.max, b.top, at, refl, rounded, rw c.from-3.ensures at c.in_err-reach.ensures.full, refl)
