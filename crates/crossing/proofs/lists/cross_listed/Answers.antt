use Rattle.std.proofs.Common.{◌≡◌, ℕ, ◌*◌, ◌^◌, ◌<◌, Ok, sym, subst, arith}
use Rattle.canonical_abi.specs.Types.{prim_type}
use Rattle.canonical_abi.specs.Layout.{size, align}
use Rattle.canonical_abi.specs.Storing.{pointer_pair}
use Rattle.canonical_abi.specs.Trace.{write, EventLeads}
use Rattle.canonical_abi.proofs.Layouts.AlignmentsAndSizes.{is-alignment}
use Rattle.values.specs.Bytes.{AreBytes}
use Rattle.lift_lower.proofs.OnlyAllocatorsRefuse.{request-fails}
use Rattle.tables.specs.Closed.{prim_of}
use Rattle.ranges.proofs.CrossedElementsAppend.{prims-visited}
use Rattle.crossing.specs.Outcome.{IsCrossed, EachWalks}
use Rattle.crossing.proofs.ElementsCrossedTogether.{crossed-done}
use Rattle.crossing.proofs.OneNodeOfAWay.{granted-led, list-refused, list-ends}
use Rattle.crossing.proofs.lists.cross_listed.Goals as goal

pub ask_block-requires : goal.ask_block-requires
ask_block-requires g c = record { aligned = rw c.requires.width (is-alignment (prim_type (prim_of c.args.primitive))) }

pub returns-in-Err-ask_block : goal.returns-in-Err-ask_block
returns-in-Err-ask_block g c =
    let A = g.G.Guest.allocates in
    let u = prim_type (prim_of c.args.primitive) in
    let m = c.args.source.now in
    let bytes : AreBytes m = λ i. (c.type_inv.source i).fits in
    let n = c.u32_at-count.result in
    let is : c.args.width ≡ size u = c.requires.width in
    let stands = rw is at c.in_default.ensures.ok in
    let fault = rw is at c.in-Err-ask_block.ensures.fault in
    let old = g.G.Guest.memory c.args.guest.now in
    let new = g.G.Guest.memory c.ask_block.new.guest in
    let k = c.in-Err-ask_block.kind in
    let few : n * size u < 2 ^ 32 = omega (arith, stands.1, c.requires.short) in
    list-refused A u m c.args.at.from c.args.at.to c.u32_at-start.result n c.u32_at-start.ensures c.u32_at-count.ensures stands bytes c.requires.short c.reads_exactly.ensures old k new c.args.nodes.now
    (request-fails A old (align u) (n * size u) k new few fault)

pub returns : goal.returns
returns g c =
    let A = g.G.Guest.allocates in
    let p = prim_of c.args.primitive in
    let u = prim_type p in
    let m = c.args.source.now in
    let n = c.u32_at-count.result in
    let start = c.u32_at-start.result in
    let is : c.args.width ≡ size u = c.requires.width in
    let stands = rw is at c.in_default.ensures.ok in
    let ok = rw is at c.in-Ok.ensures.ok in
    let old = g.G.Guest.memory c.args.guest.now in
    let mid = g.G.Guest.memory c.ask_block.new.guest in
    let next = g.G.Guest.memory c.write_header.new.guest in
    let new = g.G.Guest.memory c.cross_numbers.new.guest in
    let gr = granted-led 4294967295 A (align u) (n * size u) c.in-Ok.place old mid ok in
    let crossed = crossed-done A u m start c.in-Ok.place n n next new c.cross_numbers.ensures.same_length (c.cross_numbers.ensures.crosses p c.requires.number is) (prims-visited p m start n)
    c.args.nodes.now c.saturating_add.result (omega (arith, c.saturating_add.ensures)) in
    let P : ℕ → Type 0 = λ q. EventLeads A mid (write c.args.at.to (pointer_pair q n)) next in
    let Q : ℕ → Type 0 = λ q. IsCrossed A (EachWalks u m start q n) next c.args.nodes.now new c.saturating_add.result in
    list-ends A u m c.args.at.from c.args.at.to start n c.u32_at-start.ensures c.u32_at-count.ensures stands gr.0 gr.1 old mid next (Ok tt) new c.args.nodes.now c.saturating_add.result gr.3 ok.no_shorter
    (subst P (sym gr.2) c.write_header.ensures.led) c.write_header.ensures.same_length (subst Q (sym gr.2) crossed)
