use Rattle.std.proofs.Common.{◌≡◌, ◌+◌, ◌*◌, ◌/◌, length, arith}
use Rattle.memory.specs.HolesView.{listed_holes}
use Rattle.memory.proofs.FirstFitSteps.{releases, keeps}
use Rattle.memory.proofs.first_fit.FirstFitGuest.free.Goals as goal

pub returns-then-not-give-clause-step : goal.returns-then-not-give-clause-step
returns-then-not-give-clause-step c =
    let s = c.args.self.now in
    let whole : s.holes.limit ≡ length s.pages.bytes.items / 8 * 8 = s.usable in
    let back = rw c.if-not-give.true at c.give.ensures.back in
    rw c.give.ensures.limit (keeps s.pages.bytes.items s.pages.max s.holes.limit (listed_holes s.holes) whole s.holes.apart c.args.at c.args.size (c.from.result + c.whole_units.result) (listed_holes c.give.new.self) (omega arith) back)

pub returns-clause-step : goal.returns-clause-step
returns-clause-step c =
    let s = c.args.self.now in
    let whole : s.holes.limit ≡ length s.pages.bytes.items / 8 * 8 = s.usable in
    let back = rw c.if-not-give.false at c.give.ensures.back in
    rw c.give.ensures.limit (releases s.pages.bytes.items s.pages.max s.holes.limit (listed_holes s.holes) whole s.holes.apart c.args.at c.args.size (c.from.result + c.whole_units.result) (listed_holes c.give.new.self) (omega arith) (omega arith) (omega arith) back)
