-- A text is compared with one that is made of parts, part by part.
use Rattle.std.proofs.Common.{◌≡◌, ◌≢◌, ℕ, List, ◌∷◌, ◌++◌, Option, Some, None, MatchOption, Bor, ap, sym, ◌∙◌}
use Rattle.std.proofs.lemmas.List.{append_cancel_left}

-- P stands exactly where the two texts are the same
abbrev pub Tells : Type 0 → List ℕ → List ℕ → Type 0
Tells P t f = (P → t ≡ f) × (t ≡ f → P)

pub tells-behind : {P : Type 0} {t p q r f : List ℕ} → t ≡ p ++ r → p ≡ q → Tells P r f → Tells P t (q ++ f)
tells-behind {P = P} {t = t} {p = p} {q = q} {r = r} {f = f} e same h =
    let whole : t ≡ q ++ r = e ∙ ap (λ x. x ++ r) same in
    (λ b. whole ∙ ap (λ x. q ++ x) (h.0 b), λ g. h.1 (append_cancel_left q r f (sym whole ∙ g)))

pub tells-part : {P : Type 0} {t p q r f : List ℕ} (mark : ℕ) → t ≡ p ++ mark ∷ r → p ≡ q → Tells P r f → Tells P t (q ++ mark ∷ f)
tells-part {P = P} {t = t} {p = p} {q = q} {r = r} {f = f} mark e same h =
    tells-behind {P = P} {t = t} {p = p} {q = q} {r = mark ∷ r} {f = mark ∷ f} e same (λ b. ap (λ x. mark ∷ x) (h.0 b), λ g. h.1 (cc))

-- a front, and then a mark
pub both_behind : (t p : List ℕ) (mark : ℕ) (r : List ℕ) (o : Option (Bor (List ℕ))) → t ≡ p ++ r
    → MatchOption o ((rest : List ℕ) → r ≢ mark ∷ rest) (λ x. r ≡ mark ∷ x.now)
    → MatchOption o ((rest : List ℕ) → t ≢ p ++ mark ∷ rest) (λ x. t ≡ p ++ mark ∷ x.now)
both_behind t p mark r None e h = λ rest q. h rest (append_cancel_left p r (mark ∷ rest) (sym e ∙ q))
both_behind t p mark r (Some x) e h = e ∙ ap (λ y. p ++ y) h
