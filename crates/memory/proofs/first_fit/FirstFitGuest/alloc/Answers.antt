use Rattle.std.proofs.Common.{◌≡◌, ◌<◌, ◌≤◌, ◌+◌, ◌*◌, ◌/◌, ◌%◌, length, true, ap, ◌∙◌, subst, arith}
use Rattle.std.proofs.lemmas.Result.{err_from_is_err_and}
use Rattle.memory.specs.Growth.{HasNoGrowth, ReachesEnd, GrowsTo}
use Rattle.memory.specs.GrowthLaws.{length-with_pages}
use Rattle.memory.specs.Holes.{IsTail, GivesHoleBack}
use Rattle.memory.specs.HolesView.{listed_holes}
use Rattle.memory.proofs.FirstFitGrowth.{here, is_full, grows_longer, answered, never_refused}
use Rattle.memory.proofs.first_fit.FirstFitGuest.alloc.Goals as goal

pub returns-in-Some-clause-step : goal.returns-in-Some-clause-step
returns-in-Some-clause-step c =
    let s = c.args.self.now in
    let asked : 0 < c.args.size = omega arith in
    let is = c.whole_units-wanted.ensures in
    rw c.in-Some.ensures.limit (here s.pages.bytes.items s.pages.max s.holes.limit (listed_holes s.holes) s.usable s.holes.apart c.whole_units-wanted.result (omega arith)
    c.args._align c.args.size c.in-Some.at (listed_holes c.take.new.self) asked is (omega (arith, s.pages.within, s.pages.bytes.ok.0)) s.pages.limited c.in-Some.ensures.front)

pub returns-in_err-reach-clause-step : goal.returns-in_err-reach-clause-step
returns-in_err-reach-clause-step c =
    let s = c.args.self.now in
    let asked : 0 < c.args.size = omega arith in
    let is = c.whole_units-wanted.ensures in
    let front = c.in_default.ensures.front in
    let bound = c.in_default.ensures.limit in
    let tail : IsTail (listed_holes s.holes) s.holes.limit c.tail.result = subst (λ l. IsTail (listed_holes s.holes) l c.tail.result) bound (subst (λ h. IsTail h c.take.new.self.limit c.tail.result) front.1 c.tail.ensures) in
    let none : HasNoGrowth (length s.pages.bytes.items) s.pages.max (ReachesEnd (length s.pages.bytes.items) (c.tail.result + c.whole_units-wanted.result)) = rw c.from.ensures at c.in_err-reach.ensures.full in
    let p = err_from_is_err_and c.from_residual.result c.from_residual.ensures.1 in
    rw (p.1, c.in_err-reach.ensures.kept, c.in_err-reach.ensures.max, bound)
    (is_full s.pages.bytes.items s.pages.max s.holes.limit (listed_holes s.holes) s.usable s.holes.apart c.whole_units-wanted.result (omega arith)
    c.tail.result tail (omega arith) front.0 c.args._align c.args.size (listed_holes c.take.new.self) asked is front.1 none)

pub grow-requires-clause-more : goal.grow-requires-clause-more
grow-requires-clause-more c =
    let s = c.args.self.now in
    let is = c.whole_units-wanted.ensures in
    let front = c.in_default.ensures.front in
    let bound = c.in_default.ensures.limit in
    let tail : IsTail (listed_holes s.holes) s.holes.limit c.tail.result = subst (λ l. IsTail (listed_holes s.holes) l c.tail.result) bound (subst (λ h. IsTail h c.take.new.self.limit c.tail.result) front.1 c.tail.ensures) in
    let growth : GrowsTo s.pages.bytes.items s.pages.max (c.tail.result + c.whole_units-wanted.result) c.reach.new.self.bytes.items = rw c.from.ensures at c.in_ok-reach.ensures.grown in
    let some : 0 < growth.0 =
    grows_longer s.pages.bytes.items s.pages.max s.holes.limit (listed_holes s.holes) s.usable s.holes.apart c.whole_units-wanted.result (omega arith)
    c.tail.result tail (omega arith) front.0 growth.0 growth.1.enough in
    let long : length c.reach.new.self.bytes.items ≡ length s.pages.bytes.items + growth.0 * 65536 = ap (λ bytes. length bytes) growth.2 ∙ length-with_pages s.pages.bytes.items growth.0 in
    omega (arith, s.usable, c.len.ensures)

pub returns-clause-step : goal.returns-clause-step
returns-clause-step c =
    let s = c.args.self.now in
    let asked : 0 < c.args.size = omega arith in
    let is = c.whole_units-wanted.ensures in
    let front = c.in_default.ensures.front in
    let bound = c.in_default.ensures.limit in
    let to = c.grow.new.self.limit in
    let tail : IsTail (listed_holes s.holes) s.holes.limit c.tail.result = subst (λ l. IsTail (listed_holes s.holes) l c.tail.result) bound (subst (λ h. IsTail h c.take.new.self.limit c.tail.result) front.1 c.tail.ensures) in
    let growth : GrowsTo s.pages.bytes.items s.pages.max (c.tail.result + c.whole_units-wanted.result) c.reach.new.self.bytes.items = rw c.from.ensures at c.in_ok-reach.ensures.grown in
    let long : length c.reach.new.self.bytes.items ≡ length s.pages.bytes.items + growth.0 * 65536 = ap (λ bytes. length bytes) growth.2 ∙ length-with_pages s.pages.bytes.items growth.0 in
    let to_is : to ≡ s.holes.limit + growth.0 * 65536 = omega (arith, s.usable, c.len.ensures, c.grow.ensures.limit) in
    let far : GivesHoleBack (listed_holes s.holes) s.holes.limit to true (listed_holes c.grow.new.self) =
    rw (← c.grow.ensures.limit) at (subst (λ l. GivesHoleBack (listed_holes s.holes) l (c.len.result / 8 * 8) true (listed_holes c.grow.new.self)) bound
    (subst (λ h. GivesHoleBack h c.take.new.self.limit (c.len.result / 8 * 8) true (listed_holes c.grow.new.self)) front.1 c.grow.ensures.longer)) in
    rw (c.ok_or.ensures.value, c.take-2.ensures.limit, c.in_ok-reach.ensures.max, growth.2)
    (answered s.pages.bytes.items s.pages.max s.holes.limit (listed_holes s.holes) s.usable s.holes.apart c.whole_units-wanted.result (omega arith)
    c.tail.result tail (omega arith) front.0 c.args._align c.args.size to growth.0 (listed_holes c.grow.new.self) (listed_holes c.take-2.new.self) c.take-2.result _ asked is s.pages.limited growth.1 to_is
    c.grow.new.self.apart far c.take-2.ensures.front)

pub returns-clause-refused : goal.returns-clause-refused
returns-clause-refused c =
    let s = c.args.self.now in
    let is = c.whole_units-wanted.ensures in
    let front = c.in_default.ensures.front in
    let bound = c.in_default.ensures.limit in
    let to = c.grow.new.self.limit in
    let tail : IsTail (listed_holes s.holes) s.holes.limit c.tail.result = subst (λ l. IsTail (listed_holes s.holes) l c.tail.result) bound (subst (λ h. IsTail h c.take.new.self.limit c.tail.result) front.1 c.tail.ensures) in
    let growth : GrowsTo s.pages.bytes.items s.pages.max (c.tail.result + c.whole_units-wanted.result) c.reach.new.self.bytes.items = rw c.from.ensures at c.in_ok-reach.ensures.grown in
    let long : length c.reach.new.self.bytes.items ≡ length s.pages.bytes.items + growth.0 * 65536 = ap (λ bytes. length bytes) growth.2 ∙ length-with_pages s.pages.bytes.items growth.0 in
    let to_is : to ≡ s.holes.limit + growth.0 * 65536 = omega (arith, s.usable, c.len.ensures, c.grow.ensures.limit) in
    let far : GivesHoleBack (listed_holes s.holes) s.holes.limit to true (listed_holes c.grow.new.self) =
    rw (← c.grow.ensures.limit) at (subst (λ l. GivesHoleBack (listed_holes s.holes) l (c.len.result / 8 * 8) true (listed_holes c.grow.new.self)) bound
    (subst (λ h. GivesHoleBack h c.take.new.self.limit (c.len.result / 8 * 8) true (listed_holes c.grow.new.self)) front.1 c.grow.ensures.longer)) in
    rw c.ok_or.ensures.value (never_refused s.pages.bytes.items s.pages.max s.holes.limit (listed_holes s.holes) s.usable s.holes.apart c.whole_units-wanted.result (omega arith)
    c.tail.result tail (omega arith) front.0 to growth.0 (listed_holes c.grow.new.self) (listed_holes c.take-2.new.self) c.take-2.result _ _ growth.1 to_is c.grow.new.self.apart far c.take-2.ensures.front)
