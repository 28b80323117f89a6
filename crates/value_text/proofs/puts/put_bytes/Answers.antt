use Rattle.std.proofs.Common.{◌≡◌, ℕ, ◌+◌, ◌<◌, List, [], ◌∷◌, ◌++◌, length, take, get_or, sym, subst, arith, length-append, rules}
use Rattle.std.proofs.lemmas.List.{take_all}
use Rattle.std.proofs.lemmas.List.Folds.{length-flat_map-take}
use Rattle.std.proofs.lemmas.Grind.{common_steps}
use Rattle.json.specs.Print.{escape_byte, escape, quoted}
use Rattle.value_text.specs.Puts.{Puts}
use Rattle.value_text.proofs.PutsInTurn.{puts-then, within-then}
use Rattle.value_text.proofs.puts.put_bytes.Goals as goal

more : (bs : List ℕ) (i b : ℕ) → i < length bs → b ≡ get_or bs i 0 → escape (take (i + 1) bs) ≡ escape (take i bs) ++ escape_byte b
more bs i b h is = grind (arith, common_steps)

pub returns-in_err-end-2 : goal.returns-in_err-end-2
returns-in_err-end-2 c =
    let bs = c.args.bytes.now in
    let less = c.in_err-end-2.ensures in
    let front = length-flat_map-take escape_byte bs c.loop-byte.byte-index 0 c.loop-byte-test.true in
    let whole : c.args.limit < c.args.at + length (quoted bs) = omega (arith, less, front, c.loop-byte.invariant.0.0, length-append (escape bs) (34 ∷ [])) in
    search (rules, whole)

pub loop-byte-preserved : goal.loop-byte-preserved
loop-byte-preserved c =
    let bs = c.args.bytes.now in
    let i = c.loop-byte.byte-index in
    let b = get_or bs i 0 in
    let step = c.in_ok-end-2.ensures in
    let both = puts-then c.args.room.now c.args.at (34 ∷ escape (take i bs)) c.loop-byte.room c.loop-byte.end (escape_byte b) c.put_escaped.new.room c.in_ok-end-2.end
    c.loop-byte.invariant.0 step.0 in
    (subst (λ xs. Puts (34 ∷ xs) c.args.room.now c.args.at c.put_escaped.new.room c.in_ok-end-2.end) (sym (more bs i b c.loop-byte-test.true (search rules))) both, step.1)

pub returns : goal.returns
returns c =
    let bs = c.args.bytes.now in
    let i = c.loop-byte.byte-index in
    let front = subst (λ xs. Puts (34 ∷ escape xs) c.args.room.now c.args.at c.loop-byte.room c.loop-byte.end) (take_all i bs c.loop-byte-test.false) c.loop-byte.invariant.0 in
    within-then c.args.limit c.args.room.now c.args.at (34 ∷ escape bs) c.loop-byte.room c.loop-byte.end (34 ∷ []) c.put-2.new.room c.put-2.result front c.put-2.ensures
