-- What a bump allocator answers is told by its length, its most bytes and its top, and the top by the live addresses.
use Rattle.std.proofs.Common.{◌≡◌, inl, inr, ◌+◌, ◌*◌, ◌%◌, ◌<◌, ℕ, [], ◌∷◌, true, false, Some, None, length, nat_lt, refl, sym, ap, ◌∙◌, subst, arith}
use Rattle.std.proofs.lemmas.Bool.{lt-ltb, both_ways, le-ltb, cases_order}
use Rattle.canonical_abi.specs.Guest.{Memory, IsAlignment}
use Rattle.memory.specs.Alike.{AreAlike, AnswersAlike, ReleasesAlike}
use Rattle.memory.specs.Bump.{bump, IsRoundedUp, BumpAllocates, BumpReleases}
use Rattle.memory.specs.Growth.{ReachesEnd, most_bytes}
use Rattle.memory.specs.GrowthLaws.{length-with_pages}
use Rattle.memory.proofs.AlikeMemoriesGrowAlike.{one_growth, no_growth, one_most, unchanged}

-- the same addresses lie below two tops: they are one
same_top : (s t : ℕ) → ((a : ℕ) → nat_lt a s ≡ nat_lt a t) → s ≡ t
same_top s t h = elim (cases_order s t) [
  | inl e ↦ e
  | inr (inl below) ↦ absurd (both_ways _ (le-ltb s s (omega arith)) (h s ∙ lt-ltb s t below))
  | inr (inr above) ↦ absurd (both_ways _ (le-ltb t t (omega arith)) (sym (h t) ∙ lt-ltb t s above))
]

-- a top is rounded up to one address
rounded_to : (align top a b : ℕ) → IsAlignment align → IsRoundedUp top align a → IsRoundedUp top align b → a ≡ b
rounded_to align top a b (inl is) r s =
    let near : (a < top + 1) × (b < top + 1) = (rw is at r.least, rw is at s.least) in
    omega (arith, r.from_top, s.from_top)
rounded_to align top a b (inr (inl is)) r s =
    let near : (a < top + 2) × (b < top + 2) = (rw is at r.least, rw is at s.least) in
    let even : (a % 2 ≡ 0) × (b % 2 ≡ 0) = (rw is at r.aligned, rw is at s.aligned) in
    omega (arith, r.from_top, s.from_top)
rounded_to align top a b (inr (inr (inl is))) r s =
    let near : (a < top + 4) × (b < top + 4) = (rw is at r.least, rw is at s.least) in
    let even : (a % 4 ≡ 0) × (b % 4 ≡ 0) = (rw is at r.aligned, rw is at s.aligned) in
    omega (arith, r.from_top, s.from_top)
rounded_to align top a b (inr (inr (inr is))) r s =
    let near : (a < top + 8) × (b < top + 8) = (rw is at r.least, rw is at s.least) in
    let even : (a % 8 ≡ 0) × (b % 8 ≡ 0) = (rw is at r.aligned, rw is at s.aligned) in
    omega (arith, r.from_top, s.from_top)

-- the tops of memories that are alike round up to one address
same_address : (m n : Memory) (align s t x y max most : ℕ) → IsAlignment align → AreAlike most_bytes m n → m ≡ bump m.bytes max s → n ≡ bump n.bytes most t → IsRoundedUp s align x → IsRoundedUp t align y → x ≡ y
same_address m n align s t x y max most alignment alike m_is n_is r q =
    let tops : s ≡ t = same_top s t (λ a. sym (ap (λ w. w.live a) m_is) ∙ alike.same_live a ∙ ap (λ w. w.live a) n_is) in
    let P : ℕ → Type 0 = λ u. IsRoundedUp u align y in
    rounded_to align s x y alignment r (subst P (sym tops) q)

same_most : (m n : Memory) (s t max most : ℕ) → AreAlike most_bytes m n → m ≡ bump m.bytes max s → n ≡ bump n.bytes most t → max ≡ most
same_most m n s t max most alike m_is n_is = one_most m n max most (s ∷ []) (t ∷ []) alike.same_make (ap (λ w. w.state) m_is) (ap (λ w. w.state) n_is)

pub bumps_alike : AnswersAlike most_bytes BumpAllocates
bumps_alike m n align size (Some x) (Some y) m' n' alignment alike (max, s, m_is, few, r, (p, g, m'_bytes), m'_is) (most, t, n_is, fewer, q, (u, h, n'_bytes), n'_is) =
    let same = same_address m n align s t x y max most alignment alike m_is n_is r q in
    let bound = same_most m n s t max most alike m_is n_is in
    let ends : x + size ≡ y + size = omega arith in
    let far = alike.same_length in
    let pages : p ≡ u = one_growth (length m.bytes) (length n.bytes) max most (ReachesEnd (length m.bytes) (x + size)) (ReachesEnd (length n.bytes) (y + size)) p u (λ k enough. omega arith) (λ k enough. omega arith) g h in
    let long : length m'.bytes ≡ length m.bytes + p * 65536 = ap (λ bytes. length bytes) m'_bytes ∙ length-with_pages m.bytes p in
    let tall : length n'.bytes ≡ length n.bytes + u * 65536 = ap (λ bytes. length bytes) n'_bytes ∙ length-with_pages n.bytes u in (
      ap Some same,
      record {
        same_make = ap (λ w. most_bytes w.state) m'_is ∙ ap (λ b. b ∷ []) bound ∙ sym (ap (λ w. most_bytes w.state) n'_is);
        same_length = omega arith;
        same_live = λ a. ap (λ w. w.live a) m'_is ∙ ap (λ u. nat_lt a (u + size)) same ∙ sym (ap (λ w. w.live a) n'_is);
      },
    )
bumps_alike m n align size (Some x) None m' n' alignment alike (max, s, m_is, few, r, (p, g, m'_bytes), m'_is) (most, t, y, n_is, q, none, n'_is) =
    let same = same_address m n align s t x y max most alignment alike m_is n_is r q in
    let ends : x + size ≡ y + size = omega arith in
    let far = alike.same_length in
    absurd (no_growth (length m.bytes) (length n.bytes) max most (ReachesEnd (length m.bytes) (x + size)) (ReachesEnd (length n.bytes) (y + size)) p far (same_most m n s t max most alike m_is n_is) (λ k enough. omega arith) g none)
bumps_alike m n align size None (Some y) m' n' alignment alike (max, s, x, m_is, r, none, m'_is) (most, t, n_is, few, q, (u, h, n'_bytes), n'_is) =
    let same = same_address m n align s t x y max most alignment alike m_is n_is r q in
    let ends : x + size ≡ y + size = omega arith in
    let far = alike.same_length in
    absurd (no_growth (length n.bytes) (length m.bytes) most max (ReachesEnd (length n.bytes) (y + size)) (ReachesEnd (length m.bytes) (x + size)) u (sym far) (sym (same_most m n s t max most alike m_is n_is)) (λ k enough. omega arith) h none)
bumps_alike m n align size None None m' n' alignment alike (max, s, x, m_is, r, m_full, m'_is) (most, t, y, n_is, q, n_full, n'_is) = (refl, unchanged m n m' n' alike m'_is n'_is)

pub bumps_free_alike : ReleasesAlike most_bytes BumpReleases
bumps_free_alike m n at size true b m' n' alike taken other = absurd taken
bumps_free_alike m n at size false true m' n' alike not taken = absurd taken
bumps_free_alike m n at size false false m' n' alike m'_is n'_is = (refl, unchanged m n m' n' alike m'_is n'_is)
