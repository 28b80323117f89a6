use Rattle.std.proofs.Common.{◌≡◌, ℕ, ◌+◌, ◌-◌, ◌<◌, ◌^◌, List, length, map, drop, ap, sym, ◌∙◌, subst, arith}
use Rattle.std.specs.Prelude.{slice_range}
use Rattle.std.proofs.lemmas.List.{length-take}
use Rattle.canonical_abi.specs.Reading.{number_of}
use Rattle.canonical_abi.specs.Requests.{text_of_value}
use Rattle.canonical_abi.specs.Trace.{write, EventLeads}
use Rattle.canonical_abi.specs.declared.flat.Flat.{Flat}
use Rattle.crossing.specs.Outcome.{IsCrossed}
use Rattle.crossing.proofs.OneNodeOfAWay.{granted-led}
use Rattle.crossing.proofs.ScriptsOfFlatValues.{header_behind, TextFlat, text-flat-refused, text-flat-done}
use Rattle.crossing.proofs.flat.carry_text.Goals as goal
use Rattle.lift_lower.proofs.OnlyAllocatorsRefuse.{request-fails}

pub returns-in-Err-ask_block : goal.returns-in-Err-ask_block
returns-in-Err-ask_block g c =
    let A = g.G.Guest.allocates in
    let m = c.args.source.now in
    let ns = map number_of c.args.flats.now in
    let text = c.in-Ok.text.now in
    let held = c.in-Ok.ensures.text in
    let start = c.low_word-start.result in
    let len = c.low_word-len.result in
    let same : length text ≡ length (slice_range m start (start + len)) = ap (λ w. length (text_of_value w)) held.2 in
    let long = length-take (start + len - start) (drop start m) in
    let few : length text < 2 ^ 32 = omega (arith, same, long, c.low_word-len.type_inv) in
    let old = g.G.Guest.memory c.args.guest.now in
    let new = g.G.Guest.memory c.ask_block.new.guest in
    let k = c.in-Err-ask_block.kind in
    λ n. text-flat-refused A m ns c.args.out.now.items start len text c.low_word-start.ensures c.low_word-len.ensures held old k new n (request-fails A old 1 (length text) k new few c.in-Err-ask_block.ensures.fault)

pub returns : goal.returns
returns g c =
    let A = g.G.Guest.allocates in
    let m = c.args.source.now in
    let ns = map number_of c.args.flats.now in
    let front = c.args.out.now.items in
    let start = c.low_word-start.result in
    let len = c.low_word-len.result in
    let text = c.in-Ok.text.now in
    let held = c.in-Ok.ensures.text in
    let old = g.G.Guest.memory c.args.guest.now in
    let mid = g.G.Guest.memory c.ask_block.new.guest in
    let new = g.G.Guest.memory c.write_bytes.new.guest in
    let ok = c.in-Ok-ask_block.ensures.ok in
    let place = c.in-Ok-ask_block.place in
    let gr = granted-led 4294967295 A 1 (length text) place old mid ok in
    let led = rw c.as_bytes.ensures.value at c.write_bytes.ensures.led in
    let P : ℕ → Type 0 = λ p. EventLeads A mid (write p text) new in
    let ends : c.push_header.new.out.items ≡ header_behind front gr.0.at (length text) = c.push_header.ensures ∙ ap (λ p. header_behind front p (length text)) (sym gr.2) in
    λ n.
    let Q : List Flat → Type 0 = λ f. IsCrossed A (TextFlat A m ns front start len text c.low_word-start.ensures c.low_word-len.ensures held f) old n new n in
    subst Q (sym ends) (text-flat-done A m ns front start len text c.low_word-start.ensures c.low_word-len.ensures held gr.0 gr.1 old mid new n gr.3 ok.no_shorter (subst P (sym gr.2) led) c.write_bytes.ensures.same_length)
