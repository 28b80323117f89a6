use Rattle.std.proofs.Common.{◌+◌, ◌*◌, Ok, Err, arith}
use Rattle.std.proofs.lemmas.Result.{err_from_is_err_and}
use Rattle.canonical_abi.specs.Types.{string_type}
use Rattle.values.specs.Bytes.{AreBytes}
use Rattle.crossing.specs.Outcome.{Walks}
use Rattle.crossing.proofs.ElementsCrossedTogether.{none-done, each-ahead}
use Rattle.crossing.proofs.OneNodeOfAWay.{at-node, each-next, each-stopped, each-done}
use Rattle.crossing.proofs.texts.cross_each_text.Goals as goal

pub loop-index-init : goal.loop-index-init
loop-index-init g c =
    let A = g.G.Guest.allocates in
    let m = c.args.source.now in
    let old = g.G.Guest.memory c.args.guest.now in
    each-ahead A string_type m c.args.elements.from c.args.elements.to c.args.elements.count 0 (omega arith) old old c.args.nodes.now c.args.nodes.now (none-done A string_type m c.args.elements.from c.args.elements.to old c.args.nodes.now)

pub loop-index-preserved : goal.loop-index-preserved
loop-index-preserved g c =
    let A = g.G.Guest.allocates in
    let m = c.args.source.now in
    let i = c.loop-index.index in
    let mid = g.G.Guest.memory c.loop-index.guest in
    let new = g.G.Guest.memory c.cross_text.new.guest in
    let d = c.saturating_add.result in
    let here = at-node A (Walks string_type m (c.args.elements.from + i * 8) (c.args.elements.to + i * 8)) mid (Ok tt) new c.loop-index.nodes d d (omega (arith, c.saturating_add.ensures)) (c.in_ok-cross_text.ensures d) in
    each-next A string_type m c.args.elements.from c.args.elements.to c.args.elements.count i c.loop-index-test.true (g.G.Guest.memory c.args.guest.now) mid new c.args.nodes.now c.loop-index.nodes d c.loop-index.invariant here

pub returns-in_err-cross_text : goal.returns-in_err-cross_text
returns-in_err-cross_text g c =
    let A = g.G.Guest.allocates in
    let m = c.args.source.now in
    let i = c.loop-index.index in
    let s = c.in_err-cross_text.field-0.0 in
    let bytes : AreBytes m = λ j. (c.type_inv.source j).fits in
    let mid = g.G.Guest.memory c.loop-index.guest in
    let new = g.G.Guest.memory c.cross_text.new.guest in
    let d = c.saturating_add.result in
    let here = at-node A (Walks string_type m (c.args.elements.from + i * 8) (c.args.elements.to + i * 8)) mid (Err s) new c.loop-index.nodes d d (omega (arith, c.saturating_add.ensures)) (c.in_err-cross_text.ensures d) in
    let p = err_from_is_err_and c.from_residual.result c.from_residual.ensures.1 in
    rw (p.1, p.2) (each-stopped A string_type m c.args.elements.from c.args.elements.to c.args.elements.count bytes c.requires.short c.reads_exactly.ensures i c.loop-index-test.true
    (g.G.Guest.memory c.args.guest.now) mid s new c.args.nodes.now c.loop-index.nodes d c.loop-index.invariant here)

pub returns : goal.returns
returns g c =
    each-done g.G.Guest.allocates string_type c.args.source.now c.args.elements.from c.args.elements.to c.args.elements.count c.loop-index.index (omega (arith, c.loop-index-test.false))
    (g.G.Guest.memory c.args.guest.now) (g.G.Guest.memory c.loop-index.guest) c.args.nodes.now c.loop-index.nodes c.loop-index.invariant
