-- Each step passes a block that is too small; the list ends at an address that is no free block's, and at a header that says more than is free.
use Rattle.std.proofs.Common.{rules, ◌≡◌, ◌-◌, ◌<◌, ◌≤◌, ◌∙◌, ℕ, Bool, true, false, subst, sym, arith, inr}
use Rattle.canonical_abi.specs.Guest.{Memory}
use Rattle.memory.specs.Headers.{headers, HasRoom, IsFree, Leads, word}
use Rattle.memory.proofs.HeaderLists.{passed, passing, stuck, ended, reached}
use Rattle.memory.proofs.headers.Headers.link_to.Goals as goal

-- what a test answers of a fact
told : {P : Type 0} (b : Bool) → (b ≡ true → P) × (P → b ≡ true) → b ≡ true → P
told b is t = is.0 t

denied : {P : Type 0} (b : Bool) → (b ≡ true → P) × (P → b ≡ true) → b ≡ false → P → ⊥
denied b is f p = let e : true ≡ false = sym (is.1 p) ∙ f in cc

pub returns-then-not-is_free : goal.returns-then-not-is_free
returns-then-not-is_free c = λ found leads.
    let s = c.args.self.now in
    let m : Memory = headers s.pages.bytes.items s.units.live.items s.pages.max in
    let no : c.is_free.result ≡ false = search rules in
    let other = subst (λ at. IsFree m at 8 → ⊥) c.word-at.ensures (denied c.is_free.result c.is_free.ensures no) in
    ended m c.args.size c.loop-left.link c.loop-left.left found (omega (arith, c.loop-left-test.true)) other (c.loop-left.invariant.from found leads)

pub returns-then-not-is_free-2 : goal.returns-then-not-is_free-2
returns-then-not-is_free-2 c = λ found leads.
    let s = c.args.self.now in
    let m : Memory = headers s.pages.bytes.items s.units.live.items s.pages.max in
    let no : c.is_free-then-size-from.result ≡ false = search rules in
    let here : c.args.size ≤ word m (c.word-at.result - 8) = omega (arith, c.if-size-from.true, c.from.ensures, c.word.ensures) in
    let enough = subst (λ at. c.args.size ≤ word m (at - 8)) c.word-at.ensures here in
    let other = subst (λ at. IsFree m at c.args.size → ⊥) c.word-at.ensures (denied c.is_free-then-size-from.result c.is_free-then-size-from.ensures no) in
    stuck m c.args.size c.loop-left.link c.loop-left.left found (omega (arith, c.loop-left-test.true)) enough other (c.loop-left.invariant.from found leads)

pub returns-then-size-from : goal.returns-then-size-from
returns-then-size-from c =
    let s = c.args.self.now in
    let m : Memory = headers s.pages.bytes.items s.units.live.items s.pages.max in
    let yes : c.is_free.result ≡ true = search rules in
    let too : c.is_free-then-size-from.result ≡ true = search rules in
    let here : c.args.size ≤ word m (c.word-at.result - 8) = omega (arith, c.if-size-from.true, c.from.ensures, c.word.ensures) in
    let free = subst (λ at. IsFree m at 8) c.word-at.ensures (told c.is_free.result c.is_free.ensures yes) in
    let room : HasRoom m c.word-at.result c.args.size = record { told = here; block = told c.is_free-then-size-from.result c.is_free-then-size-from.ensures too } in
    c.loop-left.invariant.to c.loop-left.link
    (reached m c.args.size c.loop-left.link c.loop-left.left (omega (arith, c.loop-left-test.true)) free (subst (λ at. HasRoom m at c.args.size) c.word-at.ensures room))

pub loop-left-preserved : goal.loop-left-preserved
loop-left-preserved c =
    let s = c.args.self.now in
    let m : Memory = headers s.pages.bytes.items s.units.live.items s.pages.max in
    let yes : c.is_free.result ≡ true = search rules in
    let here = told c.is_free.result c.is_free.ensures yes in
    let free = subst (λ at. IsFree m at 8) c.word-at.ensures here in
    let small : word m (c.word-at.result - 8) < c.args.size = omega (arith, c.if-size-from.false, c.from.ensures, c.word.ensures) in
    let less = subst (λ at. word m (at - 8) < c.args.size) c.word-at.ensures small in
    let some : 0 < c.loop-left.left = omega (arith, c.loop-left-test.true) in
    record {
      link = inr here;
      from = λ found leads.
          subst (λ at. Leads m c.args.size (c.loop-left.left - 1) at found) (sym c.word-at.ensures)
          (passed m c.args.size c.loop-left.link c.loop-left.left found some less (c.loop-left.invariant.from found leads));
      to = λ found leads.
          c.loop-left.invariant.to found (passing m c.args.size c.loop-left.link c.loop-left.left found some free less
          (subst (λ at. Leads m c.args.size (c.loop-left.left - 1) at found) c.word-at.ensures leads));
    }
