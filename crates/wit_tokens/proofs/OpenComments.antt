-- Open comments.
use Rattle.std.proofs.Common.{◌≡◌, ℕ, zero, suc, ◌+◌, ◌-◌, ◌<◌, ◌≤◌, false, cond, ltb, length, List, [], ◌∷◌, drop, Option, Some, None, refl, ap, ◌∙◌, arith, add-one, sub-one}
use Rattle.std.proofs.lemmas.Bool.{le-ltb}
use Rattle.wit_tokens.specs.Lexing.{comment_run, plus, begins_pair}

long : (c d : ℕ) (cs : List ℕ) → ltb (length (c ∷ d ∷ cs)) 2 ≡ false
long c d cs = le-ltb _ _ (omega arith)

pub plus_plus : (a b : ℕ) (o : Option ℕ) → plus a (plus b o) ≡ plus (a + b) o
plus_plus a b None = refl
plus_plus a b (Some n) = ap Some (omega arith)

pub none_left : (level : ℕ) (cs : List ℕ) → level ≤ 0 → comment_run level cs ≡ Some 0
unfolding comment_run
none_left zero cs h = refl
none_left (suc n) cs h = absurd (omega arith)

pub comment_at : (level : ℕ) (cs : List ℕ) → 0 < level → comment_run level cs ≡ cond (begins_pair 47 42 cs) (plus 2 (comment_run (level + 1) (drop 2 cs))) (cond (begins_pair 42 47 cs) (plus 2 (comment_run (level - 1) (drop 2 cs))) (cond (ltb (length cs) 2) None (plus 1 (comment_run level (drop 1 cs)))))
unfolding comment_run
comment_at zero cs h = absurd (omega arith)
comment_at (suc n) [] h = refl
comment_at (suc n) (c ∷ []) h = refl
comment_at (suc n) (c ∷ d ∷ cs) h = rw (long c d cs, add-one, sub-one) refl

pub one_more : (level : ℕ) (cs : List ℕ) → 0 < level → begins_pair 47 42 cs ≡ false → begins_pair 42 47 cs ≡ false → 2 ≤ length cs → comment_run level cs ≡ plus 1 (comment_run level (drop 1 cs))
one_more level cs h a b l = comment_at level cs h ∙ rw (a, b, le-ltb (length cs) 2 l) refl
