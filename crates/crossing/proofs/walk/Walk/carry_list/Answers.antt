use Rattle.std.proofs.Common.{◌≡◌, ℕ, ◌*◌, ◌^◌, ◌<◌, List, map, sym, ap, ◌∙◌, subst, arith}
use Rattle.std.proofs.lemmas.Result.{err_from_is_err_and}
use Rattle.std.specs.Prelude.{Ok, Err}
use Rattle.canonical_abi.specs.Layout.{size, align}
use Rattle.canonical_abi.specs.Reading.{number_of}
use Rattle.canonical_abi.specs.declared.flat.Flat.{Flat}
use Rattle.canonical_abi.proofs.Layouts.AlignmentsAndSizes.{is-alignment}
use Rattle.tables.specs.Closed.{closed_type}
use Rattle.values.specs.Bytes.{AreBytes}
use Rattle.lift_lower.proofs.OnlyAllocatorsRefuse.{request-fails}
use Rattle.crossing.specs.Outcome.{EachWalks, Ends, IsCrossed}
use Rattle.crossing.proofs.OneNodeOfAWay.{granted-led}
use Rattle.crossing.proofs.ScriptsOfFlatValues.{header_behind, ListFlat, list-flat-refused, list-flat-ends}
use Rattle.crossing.proofs.walk.Walk.carry_list.Goals as goal

pub ask_block-requires : goal.ask_block-requires
ask_block-requires g c = record { aligned = rw c.align_of-align.ensures.value (is-alignment (closed_type c.args.self.now.types.now c.args.element)) }

pub returns-in-Err-ask_block : goal.returns-in-Err-ask_block
returns-in-Err-ask_block g c =
    let A = g.G.Guest.allocates in
    let u = closed_type c.args.self.now.types.now c.args.element in
    let m = c.args.self.now.source.now in
    let ns = map number_of c.args.flats.now in
    let bytes : AreBytes m = c.are_bytes.ensures in
    let n = c.low_word-count.result in
    let stands = rw (c.align_of-align.ensures.value, c.size_of.ensures.value) at c.in_default.ensures.ok in
    let fault = rw (c.align_of-align.ensures.value, c.size_of.ensures.value) at c.in-Err-ask_block.ensures.fault in
    let old = g.G.Guest.memory c.args.guest.now in
    let new = g.G.Guest.memory c.ask_block.new.guest in
    let k = c.in-Err-ask_block.kind in
    let few : n * size u < 2 ^ 32 = omega (arith, stands.1, c.requires.short) in
    list-flat-refused A u m ns c.args.out.now.items c.low_word-start.result n c.low_word-start.ensures c.low_word-count.ensures stands bytes c.requires.short c.reads_exactly.ensures old k new c.args.nodes.now
    (request-fails A old (align u) (n * size u) k new few fault)

pub returns-in_err-cross_elements : goal.returns-in_err-cross_elements
returns-in_err-cross_elements g c =
    let A = g.G.Guest.allocates in
    let u = closed_type c.args.self.now.types.now c.args.element in
    let m = c.args.self.now.source.now in
    let ns = map number_of c.args.flats.now in
    let n = c.low_word-count.result in
    let start = c.low_word-start.result in
    let stands = rw (c.align_of-align.ensures.value, c.size_of.ensures.value) at c.in_default.ensures.ok in
    let ok = rw (c.align_of-align.ensures.value, c.size_of.ensures.value) at c.in-Ok.ensures.ok in
    let old = g.G.Guest.memory c.args.guest.now in
    let mid = g.G.Guest.memory c.ask_block.new.guest in
    let new = g.G.Guest.memory c.cross_elements.new.guest in
    let gr = granted-led 4294967295 A (align u) (n * size u) c.in-Ok.place old mid ok in
    let s = c.in_err-cross_elements.field-0.0 in
    let Q : ℕ → Type 0 = λ p. Ends A (EachWalks u m start p n) mid c.args.nodes.now (Err s) new c.cross_elements.new.nodes in
    let p = err_from_is_err_and c.from_residual.result c.from_residual.ensures.1 in
    rw (p.1, p.2) (
      header_behind c.args.out.now.items gr.0.at n,
      list-flat-ends A u m ns c.args.out.now.items start n c.low_word-start.ensures c.low_word-count.ensures stands gr.0 gr.1 old mid (Err s) new c.args.nodes.now c.cross_elements.new.nodes gr.3 ok.no_shorter (subst Q (sym gr.2) c.in_err-cross_elements.ensures),
    )

pub returns : goal.returns
returns g c =
    let A = g.G.Guest.allocates in
    let u = closed_type c.args.self.now.types.now c.args.element in
    let m = c.args.self.now.source.now in
    let ns = map number_of c.args.flats.now in
    let front = c.args.out.now.items in
    let n = c.low_word-count.result in
    let start = c.low_word-start.result in
    let stands = rw (c.align_of-align.ensures.value, c.size_of.ensures.value) at c.in_default.ensures.ok in
    let ok = rw (c.align_of-align.ensures.value, c.size_of.ensures.value) at c.in-Ok.ensures.ok in
    let old = g.G.Guest.memory c.args.guest.now in
    let mid = g.G.Guest.memory c.ask_block.new.guest in
    let new = g.G.Guest.memory c.cross_elements.new.guest in
    let gr = granted-led 4294967295 A (align u) (n * size u) c.in-Ok.place old mid ok in
    let Q : ℕ → Type 0 = λ p. Ends A (EachWalks u m start p n) mid c.args.nodes.now (Ok tt) new c.cross_elements.new.nodes in
    let ends : c.push_header.new.out.items ≡ header_behind front gr.0.at n = c.push_header.ensures ∙ ap (λ p. header_behind front p n) (sym gr.2) in
    let R : List Flat → Type 0 = λ f. IsCrossed A (ListFlat A u m ns front start n c.low_word-start.ensures c.low_word-count.ensures stands f) old c.args.nodes.now new c.cross_elements.new.nodes in
    subst R (sym ends) (list-flat-ends A u m ns front start n c.low_word-start.ensures c.low_word-count.ensures stands gr.0 gr.1 old mid (Ok tt) new c.args.nodes.now c.cross_elements.new.nodes gr.3 ok.no_shorter (subst Q (sym gr.2) c.in_ok-cross_elements.ensures))
