use Rattle.std.proofs.Common.{◌≡◌, ◌+◌, ◌≤◌, length, take, get_or, ap, ◌∙◌, arith}
use Rattle.std.specs.Int.{w64, to_le_bytes}
use Rattle.std.proofs.lemmas.List.{get_or-take, length-take-le}
use Rattle.std.proofs.lemmas.Slice.{take-put_mid}
use Rattle.ranges.proofs.FrontsThatCrossed.{mid-get}
use Rattle.ranges.proofs.cases.put_word.Goals as goal

pub returns-clause-put : goal.returns-clause-put
returns-clause-put c = λ j h.
    let width = c.args.width in
    let all = to_le_bytes w64 c.args.word in
    let a : c.copy_from_slice.new.self ≡ take width all = c.copy_from_slice.ensures.after ∙ ap (take width) c.to_le_bytes-bytes.ensures in
    let inside : c.args.at ≤ length c.args.caps.now = omega (arith, c.told-caps, c.requires.room) in
    let long : length c.copy_from_slice.new.self ≡ width = ap length a ∙ length-take-le width all (omega (arith, c.requires.short)) in
    mid-get c.args.at width c.args.caps.now c.copy_from_slice.new.self _ j h inside (take-put_mid c.args.at _ c.args.caps.now c.copy_from_slice.new.self (c.args.at + width) (omega (arith, long)) inside)
    ∙ ap (λ l. get_or l j 0) a ∙ get_or-take width all j 0 h
