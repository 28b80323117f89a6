use Rattle.std.proofs.Common.{◌≡◌, ℕ, ◌+◌, ◌-◌, ◌<◌, ◌^◌, length, drop, ap, sym, subst, arith}
use Rattle.std.specs.Prelude.{slice_range}
use Rattle.std.proofs.lemmas.List.{length-take}
use Rattle.canonical_abi.specs.Requests.{text_of_value}
use Rattle.canonical_abi.specs.Storing.{pointer_pair}
use Rattle.canonical_abi.specs.Trace.{write, EventLeads}
use Rattle.crossing.proofs.OneNodeOfAWay.{granted-led, text-refused, text-done}
use Rattle.crossing.proofs.leaves.cross_text.Goals as goal
use Rattle.lift_lower.proofs.OnlyAllocatorsRefuse.{request-fails}

pub returns-in-Err-ask_block : goal.returns-in-Err-ask_block
returns-in-Err-ask_block g c =
    let A = g.G.Guest.allocates in
    let m = c.args.source.now in
    let text = c.in-Ok.text.now in
    let held = c.in-Ok.ensures.text in
    let start = c.u32_at-start.result in
    let len = c.u32_at-len.result in
    let same : length text ≡ length (slice_range m start (start + len)) = ap (λ w. length (text_of_value w)) held.2 in
    let long = length-take (start + len - start) (drop start m) in
    let few : length text < 2 ^ 32 = omega (arith, same, long, c.u32_at-len.type_inv) in
    let old = g.G.Guest.memory c.args.guest.now in
    let new = g.G.Guest.memory c.ask_block.new.guest in
    let k = c.in-Err-ask_block.kind in
    λ n. text-refused A m c.args.at.from c.args.at.to start len text c.u32_at-start.ensures c.u32_at-len.ensures held old k new n (request-fails A old 1 (length text) k new few c.in-Err-ask_block.ensures.fault)

pub returns : goal.returns
returns g c =
    let A = g.G.Guest.allocates in
    let m = c.args.source.now in
    let text = c.in-Ok.text.now in
    let old = g.G.Guest.memory c.args.guest.now in
    let mid = g.G.Guest.memory c.ask_block.new.guest in
    let next = g.G.Guest.memory c.write_bytes.new.guest in
    let new = g.G.Guest.memory c.write_header.new.guest in
    let ok = c.in-Ok-ask_block.ensures.ok in
    let gr = granted-led 4294967295 A 1 (length text) c.in-Ok-ask_block.place old mid ok in
    let led = rw c.as_bytes.ensures.value at c.write_bytes.ensures.led in
    let P : ℕ → Type 0 = λ p. EventLeads A mid (write p text) next in
    let Q : ℕ → Type 0 = λ p. EventLeads A next (write c.args.at.to (pointer_pair p (length text))) new in
    λ n. text-done A m c.args.at.from c.args.at.to c.u32_at-start.result c.u32_at-len.result text c.u32_at-start.ensures c.u32_at-len.ensures c.in-Ok.ensures.text gr.0 gr.1 old mid next new n gr.3 ok.no_shorter
    (subst P (sym gr.2) led) c.write_bytes.ensures.same_length (subst Q (sym gr.2) c.write_header.ensures.led) c.write_header.ensures.same_length
