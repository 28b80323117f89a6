-- The places of the elements with a mark.
use Rattle.std.proofs.Common.{◌≡◌, ◌≤◌, ◌<◌, ◌⊎◌, inl, inr, ℕ, zero, suc, ◌+◌, Bool, true, false, List, [], ◌∷◌, ◌++◌, length, get_or, min, refl, ap, sym, ◌∙◌, arith, true≢false}
use Rattle.std.proofs.lemmas.List.{length_push, get_or_append_left, get_or_default}
use Rattle.std.proofs.Math.Seq.{get_or-append_seam}
use Rattle.set_rows.specs.Places.{place}

up : (n m : ℕ) → n ≤ m → 1 + n ≤ suc m
up n m h = omega arith

over : (n m : ℕ) → n ≤ m → n ≤ suc m
over n m h = omega arith

pub place-none : (marks : List Bool) → place marks 0 ≡ 0
place-none [] = refl
place-none (b ∷ bs) = refl

pub place-le : (marks : List Bool) (k : ℕ) → place marks k ≤ k
place-le [] k = omega arith
place-le (b ∷ bs) zero = omega arith
place-le (true ∷ bs) (suc k) = up (place bs k) k (place-le bs k)
place-le (false ∷ bs) (suc k) = over (place bs k) k (place-le bs k)

pub place-yes : (marks : List Bool) (k : ℕ) → get_or marks k false ≡ true → place marks (suc k) ≡ place marks k + 1
place-yes [] k e = absurd (true≢false (sym e))
place-yes (true ∷ []) zero e = refl
place-yes (true ∷ c ∷ bs) zero e = refl
place-yes (false ∷ bs) zero e = absurd (true≢false (sym e))
place-yes (true ∷ bs) (suc k) e = ap (λ n. 1 + n) (place-yes bs k e) ∙ out (place bs k)
  where
    out : (n : ℕ) → 1 + (n + 1) ≡ 1 + n + 1
    out n = omega arith
place-yes (false ∷ bs) (suc k) e = place-yes bs k e

pub place-no : (marks : List Bool) (k : ℕ) → get_or marks k false ≡ false → place marks (suc k) ≡ place marks k
place-no [] k e = refl
place-no (true ∷ bs) zero e = absurd (true≢false e)
place-no (false ∷ []) zero e = refl
place-no (false ∷ c ∷ bs) zero e = refl
place-no (true ∷ bs) (suc k) e = ap (λ n. 1 + n) (place-no bs k e)
place-no (false ∷ bs) (suc k) e = place-no bs k e

pub place-past : (marks : List Bool) (k : ℕ) → length marks ≤ k → place marks k ≡ place marks (length marks)
place-past [] k h = refl
place-past (b ∷ bs) zero h = absurd (omega arith)
place-past (true ∷ bs) (suc k) h = ap (λ n. 1 + n) (place-past bs k (omega arith))
place-past (false ∷ bs) (suc k) h = place-past bs k (omega arith)

-- the places before and at index i
pub record ArePlaced (marks : List Bool) (i count : ℕ) (before : List ℕ) : Type 0 where
  pub each : (k : ℕ) → k ≤ i → get_or before k 0 ≡ place marks k
  pub counted : length before ≡ i + 1
  pub now : count ≡ place marks i

pub placed-none : (marks : List Bool) (before : List ℕ) → before ≡ 0 ∷ [] → ArePlaced marks 0 0 before
placed-none marks before e = record {
  each = λ k h. let z : k ≡ 0 = omega arith in rw (z, e) (sym (place-none marks));
  counted = ap length e;
  now = sym (place-none marks);
}

pub placed-more : (marks : List Bool) (i count next : ℕ) (b : Bool) (before after : List ℕ) → i < length marks → get_or marks i b ≡ b → ArePlaced marks i count before
    → ((b ≡ true) × (next ≡ count + 1)) ⊎ ((b ≡ false) × (next ≡ count)) → after ≡ before ++ next ∷ [] → ArePlaced marks (i + 1) next after
placed-more marks i count next b before after h at p e g = record {
  each = λ k l. rw g (old k (cases k l));
  counted = ap length g ∙ (length_push before next ∙ ap (λ n. n + 1) p.counted);
  now = here e;
}
  where
    marked : get_or marks i false ≡ b
    marked = get_or_default marks i false b h ∙ at

    step : suc i ≡ i + 1
    step = omega arith

    here : ((b ≡ true) × (next ≡ count + 1)) ⊎ ((b ≡ false) × (next ≡ count)) → next ≡ place marks (i + 1)
    here (inl q) = q.1 ∙ (ap (λ n. n + 1) p.now ∙ (sym (place-yes marks i (marked ∙ q.0)) ∙ ap (place marks) step))
    here (inr q) = q.1 ∙ (p.now ∙ (sym (place-no marks i (marked ∙ q.0)) ∙ ap (place marks) step))

    cases : (k : ℕ) → k ≤ i + 1 → (k ≤ i) ⊎ (k ≡ i + 1)
    cases k l = grind arith

    old : (k : ℕ) → (k ≤ i) ⊎ (k ≡ i + 1) → get_or (before ++ next ∷ []) k 0 ≡ place marks k
    old k (inl l) = get_or_append_left before (next ∷ []) 0 k (omega (arith, p.counted)) ∙ p.each k l
    old k (inr q) =
        let last : k ≡ length before = omega (arith, p.counted) in
        ap (λ n. get_or (before ++ next ∷ []) n 0) last ∙ (get_or-append_seam before next [] 0 ∙ (here e ∙ ap (place marks) (sym q)))

-- a place past the end is the place behind the last
pub place-min : (marks : List Bool) (k : ℕ) → place marks (min k (length marks)) ≡ place marks k
place-min marks k = by (nat_le_total k (length marks))
  where
    by : (k ≤ length marks) ⊎ (length marks ≤ k) → place marks (min k (length marks)) ≡ place marks k
    by (inl h) = ap (place marks) (omega arith)
    by (inr h) = ap (place marks) (omega arith) ∙ sym (place-past marks k h)

    nat_le_total : (n m : ℕ) → (n ≤ m) ⊎ (m ≤ n)
    nat_le_total n m = grind arith
