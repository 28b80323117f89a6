-- Memories that are alike grow alike.
use Rattle.std.proofs.Common.{◌≡◌, ◌+◌, ◌*◌, ◌<◌, ◌∷◌, List, [], ℕ, length, inl, inr, sym, ap, ◌∙◌, arith}
use Rattle.std.proofs.lemmas.Bool.{cases_order}
use Rattle.canonical_abi.specs.Guest.{Memory}
use Rattle.memory.specs.Alike.{AreAlike}
use Rattle.memory.specs.Growth.{grown, IsLeastGrowth, HasNoGrowth, most_bytes}
use Rattle.memory.specs.GrowthLaws.{length-with_pages}

-- the least number is one, where what is enough for one is enough for the other
pub one_growth : (len far max most : ℕ) (A B : ℕ → Type 0) (p q : ℕ) → ((k : ℕ) → A k → B k) → ((k : ℕ) → B k → A k) → IsLeastGrowth len max A p → IsLeastGrowth far most B q → p ≡ q
one_growth len far max most A B p q there back g h = elim (cases_order p q) [
  | inl same ↦ same
  | inr (inl below) ↦ absurd (h.least p below (there p g.enough))
  | inr (inr above) ↦ absurd (g.least q above (back q h.enough))
]

-- and where there is one, there is not none
pub no_growth : (len far max most : ℕ) (A B : ℕ → Type 0) (p : ℕ) → len ≡ far → max ≡ most → ((k : ℕ) → A k → B k) → IsLeastGrowth len max A p → HasNoGrowth far most B → ⊥
no_growth len far max most A B p long bound there g none = let within = g.within in none p (omega arith) (there p g.enough)

-- what was given is the most bytes, with which the state begins
pub one_most : (m n : Memory) (max most : ℕ) (rest others : List ℕ) → most_bytes m.state ≡ most_bytes n.state → m.state ≡ max ∷ rest → n.state ≡ most ∷ others → max ≡ most
one_most m n max most rest others same m_is n_is = first (sym (ap most_bytes m_is) ∙ same ∙ ap most_bytes n_is)
  where
    first : max ∷ [] ≡ most ∷ [] → max ≡ most
    first e = cc

pub grown_alike : (m n : Memory) (pages : ℕ) → AreAlike most_bytes m n → AreAlike most_bytes (grown m pages) (grown n pages)
grown_alike m n pages alike = record {
  same_make = alike.same_make;
  same_length = length-with_pages m.bytes pages ∙ ap (λ len. len + pages * 65536) alike.same_length ∙ sym (length-with_pages n.bytes pages);
  same_live = alike.same_live;
}

-- they are alike after a step that changes neither
pub unchanged : (m n m' n' : Memory) → AreAlike most_bytes m n → m' ≡ m → n' ≡ n → AreAlike most_bytes m' n'
unchanged m n m' n' alike m'_is n'_is = record {
  same_make = ap (λ w. most_bytes w.state) m'_is ∙ alike.same_make ∙ sym (ap (λ w. most_bytes w.state) n'_is);
  same_length = ap (λ w. length w.bytes) m'_is ∙ alike.same_length ∙ sym (ap (λ w. length w.bytes) n'_is);
  same_live = λ a. ap (λ w. w.live a) m'_is ∙ alike.same_live a ∙ sym (ap (λ w. w.live a) n'_is);
}
