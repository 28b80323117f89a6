-- A memory that cannot grow to the end has no room for it; one that has grown has the header, the note of the new top and the block.
use Rattle.std.proofs.Common.{rules, ◌≡◌, ◌+◌, ◌%◌, ◌≤◌, ℕ, false, true, length, subst, ap, ◌∙◌, arith}
use Rattle.std.specs.Int.{w32, to_le_bytes}
use Rattle.std.proofs.lemmas.Result.{err_from_is_err_and}
use Rattle.canonical_abi.specs.Guest.{overwrite}
use Rattle.memory.specs.Headers.{headers, top}
use Rattle.memory.specs.Units.{AreUnits}
use Rattle.memory.proofs.HeaderLists.{grows_within, topped}
use Rattle.memory.proofs.headers.Headers.take_top.Goals as goal

pub returns-in_err-reach-clause-full : goal.returns-in_err-reach-clause-full
returns-in_err-reach-clause-full c =
    let s = c.args.self.now in
    let top_is : c.max-top.result ≡ top (headers s.pages.bytes.items s.units.live.items s.pages.max) = search rules in
    let p = err_from_is_err_and c.from_residual.result c.from_residual.ensures.1 in
    rw p.1 (λ room.
    grows_within (length s.pages.bytes.items) s.pages.max (c.from.result + c.from-2.result + c.args.size) (omega (arith, s.pages.within, s.pages.bytes.ok.0)) (search rules)
    (omega (arith, room.within, top_is, c.from.ensures, c.from-2.ensures)) c.in_err-reach.ensures.full)

pub returns-clause-ok : goal.returns-clause-ok
returns-clause-ok c =
    let s = c.args.self.now in
    let end = c.from.result + c.from-2.result + c.args.size in
    let top_is : c.max-top.result ≡ top (headers s.pages.bytes.items s.units.live.items s.pages.max) = search rules in
    let end_is : c.from.result + c.from-2.result + c.args.size ≡ c.max-top.result + 8 + c.args.size = omega (arith, c.from.ensures, c.from-2.ensures) in
    let yes : c.are_all.result ≡ true = search rules in
    let free : AreUnits s.units.live.items c.max-top.result end false = subst (λ t. AreUnits s.units.live.items t end false) c.from-else-top-ne0.ensures (c.are_all.ensures.0 yes) in
    topped s.pages.bytes.items c.reach.new.self.bytes.items c.put_word-2.new.self.bytes.items s.units.live.items c.set.new.self.live.items s.pages.max c.put_word-2.new.self.max c.args.size c.max-top.result end
    top_is end_is (search rules) s.pages.limited free c.in_ok-reach.ensures.grown
    (c.put_word-2.ensures.bytes ∙ ap (λ bs. overwrite bs 12 (to_le_bytes w32 end)) c.put_word.ensures.bytes)
    (c.put_word-2.ensures.max ∙ c.put_word.ensures.max ∙ c.in_ok-reach.ensures.max) c.set.ensures.set
