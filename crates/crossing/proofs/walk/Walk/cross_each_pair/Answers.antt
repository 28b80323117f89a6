use Rattle.std.proofs.Common.{◌+◌, ◌*◌, Ok, Err, sym, subst, arith}
use Rattle.std.proofs.lemmas.Result.{err_from_is_err_and}
use Rattle.canonical_abi.specs.Types.{record_fields}
use Rattle.canonical_abi.specs.Layout.{size}
use Rattle.tables.specs.Closed.{closed_type}
use Rattle.crossing.specs.Outcome.{Walks, Ends}
use Rattle.crossing.proofs.ElementsCrossedTogether.{none-done, each-ahead}
use Rattle.crossing.proofs.OneNodeOfAWay.{at-record, each-next, each-stopped, each-done}
use Rattle.crossing.proofs.walk.Walk.cross_each_pair.Goals as goal

pub loop-index-init : goal.loop-index-init
loop-index-init g c =
    let A = g.G.Guest.allocates in
    let t = closed_type c.args.self.now.types.now c.args.pair.ty in
    let m = c.args.self.now.source.now in
    let old = g.G.Guest.memory c.args.guest.now in
    each-ahead A t m c.args.elements.from c.args.elements.to c.args.elements.count 0 (omega arith) old old c.args.nodes.now c.args.nodes.now (none-done A t m c.args.elements.from c.args.elements.to old c.args.nodes.now)

pub loop-index-preserved : goal.loop-index-preserved
loop-index-preserved g c =
    let A = g.G.Guest.allocates in
    let t = closed_type c.args.self.now.types.now c.args.pair.ty in
    let m = c.args.self.now.source.now in
    let i = c.loop-index.index in
    let mid = g.G.Guest.memory c.loop-index.guest in
    let new = g.G.Guest.memory c.cross_two.new.guest in
    let d = c.saturating_add.result in
    let e = c.cross_two.new.nodes in
    let from = c.args.elements.from + i * size t in
    let to = c.args.elements.to + i * size t in
    let fields = rw c.size_of-step.ensures.value at c.in_ok-cross_two.ensures in
    let here = subst (λ x. Ends A (Walks x m from to) mid c.loop-index.nodes (Ok tt) new e) (sym c.requires.stepped.0)
    (at-record A (record_fields t) m from to mid (Ok tt) new c.loop-index.nodes d e (omega (arith, c.saturating_add.ensures)) fields) in
    each-next A t m c.args.elements.from c.args.elements.to c.args.elements.count i c.loop-index-test.true (g.G.Guest.memory c.args.guest.now) mid new c.args.nodes.now c.loop-index.nodes e c.loop-index.invariant here

pub returns-in_err-cross_two : goal.returns-in_err-cross_two
returns-in_err-cross_two g c =
    let A = g.G.Guest.allocates in
    let t = closed_type c.args.self.now.types.now c.args.pair.ty in
    let m = c.args.self.now.source.now in
    let i = c.loop-index.index in
    let mid = g.G.Guest.memory c.loop-index.guest in
    let new = g.G.Guest.memory c.cross_two.new.guest in
    let d = c.saturating_add.result in
    let e = c.cross_two.new.nodes in
    let from = c.args.elements.from + i * size t in
    let to = c.args.elements.to + i * size t in
    let s = c.in_err-cross_two.field-0.0 in
    let fields = rw c.size_of-step.ensures.value at c.in_err-cross_two.ensures in
    let here = subst (λ x. Ends A (Walks x m from to) mid c.loop-index.nodes (Err s) new e) (sym c.requires.stepped.0)
    (at-record A (record_fields t) m from to mid (Err s) new c.loop-index.nodes d e (omega (arith, c.saturating_add.ensures)) fields) in
    let p = err_from_is_err_and c.from_residual.result c.from_residual.ensures.1 in
    rw (p.1, p.2) (each-stopped A t m c.args.elements.from c.args.elements.to c.args.elements.count c.are_bytes.ensures c.requires.short c.reads_exactly.ensures i c.loop-index-test.true
    (g.G.Guest.memory c.args.guest.now) mid s new c.args.nodes.now c.loop-index.nodes e c.loop-index.invariant here)

pub returns : goal.returns
returns g c =
    let t = closed_type c.args.self.now.types.now c.args.pair.ty in
    each-done g.G.Guest.allocates t c.args.self.now.source.now c.args.elements.from c.args.elements.to c.args.elements.count c.loop-index.index (omega (arith, c.loop-index-test.false))
    (g.G.Guest.memory c.args.guest.now) (g.G.Guest.memory c.loop-index.guest) c.args.nodes.now c.loop-index.nodes c.loop-index.invariant
