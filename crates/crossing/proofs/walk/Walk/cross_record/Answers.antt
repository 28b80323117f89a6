use Rattle.std.proofs.Common.{◌≡◌, inr, ℕ, ◌^◌, ◌<◌, [], ◌∷◌, ◌++◌, sym, ap, ◌∙◌, subst, arith}
use Rattle.std.proofs.lemmas.Result.{err_from_is_err_and}
use Rattle.canonical_abi.specs.Types.{record_type, record_fields}
use Rattle.canonical_abi.specs.Layout.{size, align, max_flat_params}
use Rattle.canonical_abi.specs.Script.{AddressFaulty}
use Rattle.canonical_abi.specs.declared.flat.Flat.TheVariants.{I32}
use Rattle.canonical_abi.proofs.Layouts.AlignmentsAndSizes.{is-alignment}
use Rattle.tables.specs.Closed.{closed_type}
use Rattle.values.specs.Bytes.{AreBytes}
use Rattle.lift_lower.proofs.OnlyAllocatorsRefuse.{request-fails}
use Rattle.crossing.specs.Outcome.{FieldsWalk, IsCrossed, HasStopped}
use Rattle.crossing.proofs.OneNodeOfAWay.{granted-led}
use Rattle.crossing.proofs.ScriptsOfWholeWays.{record-refused, record-done, record-stopped}
use Rattle.crossing.proofs.walk.Walk.cross_record.Goals as goal

pub ask_block-requires : goal.ask_block-requires
ask_block-requires g c = record { aligned = rw c.align_of-align.ensures.value (is-alignment (closed_type c.args.self.now.types.now c.args.params)) }

pub returns-in-Err-ask_block : goal.returns-in-Err-ask_block
returns-in-Err-ask_block g c =
    let A = g.G.Guest.allocates in
    let fs = record_fields (closed_type c.args.self.now.types.now c.args.params) in
    let m = c.args.self.now.source.now in
    let bytes : AreBytes m = c.are_bytes.ensures in
    let al : c.align_of-align.result ≡ align (record_type fs) = c.align_of-align.ensures.value ∙ ap align c.requires.is_record in
    let sz : c.size_of-size.result ≡ size (record_type fs) = c.size_of-size.ensures.value ∙ ap size c.requires.is_record in
    let stands = rw (al, sz) at c.in_default.ensures.ok in
    let fault = rw (al, sz) at c.in-Err-ask_block.ensures.fault in
    let old = g.G.Guest.memory c.args.guest.now in
    let new = g.G.Guest.memory c.ask_block.new.guest in
    let k = c.in-Err-ask_block.kind in
    let few : size (record_type fs) < 2 ^ 32 = omega (arith, stands.1, c.requires.short) in
    inr (record-refused A max_flat_params fs m c.args.flats.now c.requires.kinds c.requires.spilled c.low_word-from.result c.low_word-from.ensures stands bytes c.requires.short c.reads_exactly.ensures old c.args.nodes.now k new
    (request-fails A old (align (record_type fs)) (size (record_type fs)) k new few fault))

pub returns-in_err-cross_fields : goal.returns-in_err-cross_fields
returns-in_err-cross_fields g c =
    let A = g.G.Guest.allocates in
    let fs = record_fields (closed_type c.args.self.now.types.now c.args.params) in
    let m = c.args.self.now.source.now in
    let al : c.align_of-align.result ≡ align (record_type fs) = c.align_of-align.ensures.value ∙ ap align c.requires.is_record in
    let sz : c.size_of-size.result ≡ size (record_type fs) = c.size_of-size.ensures.value ∙ ap size c.requires.is_record in
    let stands = rw (al, sz) at c.in_default.ensures.ok in
    let ok = rw (al, sz) at c.in-Ok.ensures.ok in
    let old = g.G.Guest.memory c.args.guest.now in
    let mid = g.G.Guest.memory c.ask_block.new.guest in
    let new = g.G.Guest.memory c.cross_fields.new.guest in
    let s = c.in_err-cross_fields.field-0.0 in
    let gr = granted-led 4294967295 A (align (record_type fs)) (size (record_type fs)) c.in-Ok.place old mid ok in
    let Q : ℕ → Type 0 = λ p. HasStopped A (FieldsWalk fs m c.low_word-from.result p 0) mid c.args.nodes.now s new c.cross_fields.new.nodes in
    let p = err_from_is_err_and c.from_residual.result c.from_residual.ensures.1 in
    rw (p.1, p.2) (record-stopped A max_flat_params fs m c.args.flats.now c.requires.kinds c.requires.spilled c.low_word-from.result c.low_word-from.ensures stands gr.0 gr.1
    (AddressFaulty max_flat_params fs m c.args.flats.now) (λ k. ⊥) old mid c.args.nodes.now s new c.cross_fields.new.nodes gr.3 ok.no_shorter (subst Q (sym gr.2) (rw c.fields_of-fields.ensures.members at c.in_err-cross_fields.ensures)) c.args.out.now.items)

pub returns : goal.returns
returns g c =
    let A = g.G.Guest.allocates in
    let fs = record_fields (closed_type c.args.self.now.types.now c.args.params) in
    let m = c.args.self.now.source.now in
    let al : c.align_of-align.result ≡ align (record_type fs) = c.align_of-align.ensures.value ∙ ap align c.requires.is_record in
    let sz : c.size_of-size.result ≡ size (record_type fs) = c.size_of-size.ensures.value ∙ ap size c.requires.is_record in
    let stands = rw (al, sz) at c.in_default.ensures.ok in
    let ok = rw (al, sz) at c.in-Ok.ensures.ok in
    let old = g.G.Guest.memory c.args.guest.now in
    let mid = g.G.Guest.memory c.ask_block.new.guest in
    let new = g.G.Guest.memory c.cross_fields.new.guest in
    let gr = granted-led 4294967295 A (align (record_type fs)) (size (record_type fs)) c.in-Ok.place old mid ok in
    let Q : ℕ → Type 0 = λ p. IsCrossed A (FieldsWalk fs m c.low_word-from.result p 0) mid c.args.nodes.now new c.cross_fields.new.nodes in
    let told : c.push.new.self.items ≡ I32 gr.0.at ∷ [] = c.push.ensures.items ∙ ap (λ l. l ++ (I32 c.in-Ok.place ∷ [])) c.requires.empty ∙ ap (λ p. I32 p ∷ []) (sym gr.2) in
    record-done A max_flat_params fs m c.args.flats.now c.requires.kinds c.requires.spilled c.low_word-from.result c.low_word-from.ensures stands gr.0 gr.1 c.push.new.self.items told
    old mid c.args.nodes.now new c.cross_fields.new.nodes gr.3 ok.no_shorter (subst Q (sym gr.2) (rw c.fields_of-fields.ensures.members at c.in_ok-cross_fields.ensures))
