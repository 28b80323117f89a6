use Rattle.std.proofs.Common.{◌≡◌, ◌*◌, sym, ap, ◌∙◌, arith}
use Rattle.std.proofs.lemmas.Bool.Decides.{nat_tests}
use Rattle.ranges.proofs.ColumnsLaidOverCaps.{planned-visited}
use Rattle.ranges.proofs.PlansOneByOne.{planned-plain}
use Rattle.ranges.proofs.VariantsMerged.{word-tested, word-caps, word-cases}
use Rattle.ranges.proofs.planned.cross_planned.Goals as goal

pub returns-then-is_empty-clause-crosses : goal.returns-then-is_empty-clause-crosses
returns-then-is_empty-clause-crosses g c = λ t has. c.cross_plain.ensures.crosses t (planned-plain t c.args.plan.now (grind (arith, nat_tests, c.is_empty.ensures, c.if-is_empty.true)) has)

pub returns-then-is_empty-clause-visited : goal.returns-then-is_empty-clause-visited
returns-then-is_empty-clause-visited g c = λ t has. c.cross_plain.ensures.visited t (planned-plain t c.args.plan.now (grind (arith, nat_tests, c.is_empty.ensures, c.if-is_empty.true)) has)

pub returns-clause-crosses : goal.returns-clause-crosses
returns-clause-crosses g c = λ t has.
    let plan = c.args.plan.now in
    let column = c.in-Some.column.now in
    let told = c.in-Some.ensures in
    let m = c.args.source.now in
    c.cross_words-front.ensures.crosses t has.bytewise (sym has.step_is ∙ told.whole) (word-tested t plan column has told.one m) (word-caps t plan column has told.one m told.front)

pub returns-clause-visited : goal.returns-clause-visited
returns-clause-visited g c = λ t has.
    let plan = c.args.plan.now in
    let told = c.in-Some.ensures in
    let m = c.args.source.now in
    let a = c.args.elements.from in
    let front = c.cross_words-front in
    let n = front.result.count in
    let one = told.one in
    let whole = told.whole in
    let v = planned-visited t plan has m a n (word-cases t plan c.in-Some.column.now has one m a n front.ensures.good whole) in
    let visited = rw (one, whole) at v in
    let own : n * c.from.result ≡ n * plan.plain.nodes = ap (λ k. n * k) c.from.ensures in
    omega (arith, own, visited, front.ensures.seen, c.saturating_add.ensures)
