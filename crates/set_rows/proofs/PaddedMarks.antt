-- So many marks.
use Rattle.std.proofs.Common.{◌≡◌, ◌<◌, ℕ, zero, suc, ◌+◌, Bool, true, false, List, [], ◌∷◌, ◌++◌, get_or, refl, ap, sym, ◌∙◌, arith, true≢false}
use Rattle.set_rows.specs.Reaches.{padded}

padded-suc : (n : ℕ) (bs : List Bool) → padded (suc n) bs ≡ padded n bs ++ get_or bs n false ∷ []
padded-suc zero [] = refl
padded-suc zero (b ∷ bs) = refl
padded-suc (suc n) [] = ap (λ xs. false ∷ xs) (padded-suc n [])
padded-suc (suc n) (b ∷ bs) = ap (λ xs. b ∷ xs) (padded-suc n bs)

-- one more mark
pub padded-more : (n m : ℕ) (b : Bool) (bs old new : List Bool) → m ≡ n + 1 → b ≡ get_or bs n false → old ≡ padded n bs → new ≡ old ++ b ∷ [] → new ≡ padded m bs
padded-more n m b bs old new e is a p =
    let next : m ≡ suc n = omega (arith, e) in
    p ∙ (ap (λ xs. xs ++ b ∷ []) a ∙ (ap (λ x. padded n bs ++ x ∷ []) is ∙ (sym (padded-suc n bs) ∙ ap (λ k. padded k bs) (sym next))))

pub padded-none : (n k : ℕ) → get_or (padded n []) k false ≡ false
padded-none zero k = refl
padded-none (suc n) zero = refl
padded-none (suc n) (suc k) = padded-none n k

pub padded-get : (n : ℕ) (bs : List Bool) (k : ℕ) → k < n → get_or bs k false ≡ true → get_or (padded n bs) k false ≡ true
padded-get zero bs k h e = absurd (omega arith)
padded-get (suc n) [] k h e = absurd (true≢false (sym e))
padded-get (suc n) (b ∷ bs) zero h e = e
padded-get (suc n) (b ∷ bs) (suc k) h e = padded-get n bs k (omega (arith, h)) e

pub padded-only : (n : ℕ) (bs : List Bool) (k : ℕ) → get_or (padded n bs) k false ≡ true → get_or bs k false ≡ true
padded-only zero bs k e = absurd (true≢false (sym e))
padded-only (suc n) [] k e = absurd (true≢false (sym (sym (padded-none (suc n) k) ∙ e)))
padded-only (suc n) (b ∷ bs) zero e = e
padded-only (suc n) (b ∷ bs) (suc k) e = padded-only n bs k e
