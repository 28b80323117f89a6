-- What a first-fit allocator answers is told by its holes and its most bytes, and the holes by its length and the live addresses.
use Rattle.std.proofs.Common.{◌≡◌, inl, inr, ◌+◌, ◌*◌, ◌<◌, ◌||◌, ◌&&◌, not, ℕ, [], true, false, Some, None, length, refl, sym, ap, ◌∙◌, subst, arith}
use Rattle.std.proofs.lemmas.Bool.{cases_order}
use Rattle.canonical_abi.specs.Guest.{Memory, rounded_to_eight}
use Rattle.memory.specs.Alike.{AreAlike, AnswersAlike, ReleasesAlike}
use Rattle.memory.specs.FirstFit.{IsHole, IsFirstWith, HasRoomGrown, CanBeFreed, is_address_within, FirstFitAllocates, FirstFitReleases}
use Rattle.memory.specs.Growth.{grown, most_bytes}
use Rattle.memory.specs.GrowthLaws.{length-with_pages}
use Rattle.memory.proofs.AlikeMemoriesGrowAlike.{one_growth, no_growth, one_most, grown_alike, unchanged}

-- a hole of one memory is a hole of one that is alike
same_hole : (m n : Memory) → AreAlike most_bytes m n → (s e : ℕ) → IsHole m s e → IsHole n s e
same_hole m n alike s e h =
    let long = alike.same_length in
    record {
      some = h.some;
      inside = let i = h.inside in omega arith;
      free = λ a p q. sym (alike.same_live a) ∙ h.free a p q;
      begins = λ a p. sym (alike.same_live a) ∙ h.begins a p;
      ends = λ p. sym (alike.same_live e) ∙ h.ends (omega arith);
    }

turned : (m n : Memory) → AreAlike most_bytes m n → AreAlike most_bytes n m
turned m n alike = record { same_make = sym alike.same_make; same_length = sym alike.same_length; same_live = λ a. sym (alike.same_live a) }

same_room : (m n : Memory) (size : ℕ) → AreAlike most_bytes m n → (pages : ℕ) → HasRoomGrown m size pages → HasRoomGrown n size pages
same_room m n size alike pages (s, e, h, room) = (s, e, same_hole (grown m pages) (grown n pages) (grown_alike m n pages alike) s e h, room)

-- the first hole that has so many bytes begins at one address in both
not_before : (m n : Memory) (size x y d e : ℕ) → AreAlike most_bytes m n → IsFirstWith m size x d → IsFirstWith n size y e → x < y → ⊥
not_before m n size x y d e alike f g less =
    let short = g.first x d (same_hole m n alike x d f.hole) less in
    let room = f.enough in
    omega arith

one_first : (m n : Memory) (size x y d e : ℕ) → AreAlike most_bytes m n → IsFirstWith m size x d → IsFirstWith n size y e → x ≡ y
one_first m n size x y d e alike f g = elim (cases_order x y) [
  | inl same ↦ same
  | inr (inl below) ↦ absurd (not_before m n size x y d e alike f g below)
  | inr (inr above) ↦ absurd (not_before n m size y x e d (turned m n alike) g f above)
]

pub first_fits_alike : AnswersAlike most_bytes FirstFitAllocates
first_fits_alike m n align size (Some x) (Some y) m' n' alignment alike (inl (none, at, m'_is)) (inl (nil, to, n'_is)) =
    (ap Some (at ∙ sym to), unchanged m n m' n' alike m'_is n'_is)
first_fits_alike m n align size (Some x) (Some y) m' n' alignment alike (inl (none, at, m'_is)) (inr (some, most, q, e, n_state, fewer, h, g, takes)) = absurd (omega arith)
first_fits_alike m n align size (Some x) (Some y) m' n' alignment alike (inr (some, max, p, d, m_state, few, least, f, takes)) (inl (none, at, n'_is)) = absurd (omega arith)
first_fits_alike m n align size (Some x) (Some y) m' n' alignment alike (inr (some, max, p, d, m_state, few, least, f, takes)) (inr (more, most, q, e, n_state, fewer, h, g, seizes)) =
    let wanted = rounded_to_eight size in
    let far = alike.same_length in
    let pages : p ≡ q = one_growth (length m.bytes) (length n.bytes) max most (HasRoomGrown m wanted) (HasRoomGrown n wanted) p q (same_room m n wanted alike) (same_room n m wanted (turned m n alike)) least h in
    let same = one_first (grown m p) (grown n p) wanted x y d e (grown_alike m n p alike) f (subst (λ k. IsFirstWith (grown n k) wanted y e) (sym pages) g) in
    let long : length m'.bytes ≡ length m.bytes + p * 65536 = ap (λ bytes. length bytes) takes.same_bytes ∙ length-with_pages m.bytes p in
    let tall : length n'.bytes ≡ length n.bytes + q * 65536 = ap (λ bytes. length bytes) seizes.same_bytes ∙ length-with_pages n.bytes q in (
      ap Some same,
      record {
        same_make = ap most_bytes takes.same_state ∙ alike.same_make ∙ sym (ap most_bytes seizes.same_state);
        same_length = omega arith;
        same_live = λ a. takes.live a ∙ ap (λ b. b || is_address_within a x wanted) (alike.same_live a) ∙ ap (λ z. n.live a || is_address_within a z wanted) same ∙ sym (seizes.live a);
      },
    )
first_fits_alike m n align size (Some x) None m' n' alignment alike (inl (none, at, m'_is)) (some, most, n_state, never, n'_is) = absurd (omega arith)
first_fits_alike m n align size (Some x) None m' n' alignment alike (inr (some, max, p, d, m_state, few, least, f, takes)) (more, most, n_state, never, n'_is) =
    let wanted = rounded_to_eight size in
    absurd (no_growth (length m.bytes) (length n.bytes) max most (HasRoomGrown m wanted) (HasRoomGrown n wanted) p alike.same_length (one_most m n max most [] [] alike.same_make m_state n_state) (same_room m n wanted alike) least never)
first_fits_alike m n align size None (Some y) m' n' alignment alike (some, max, m_state, never, m'_is) (inl (none, at, n'_is)) = absurd (omega arith)
first_fits_alike m n align size None (Some y) m' n' alignment alike (some, max, m_state, never, m'_is) (inr (more, most, q, e, n_state, few, least, g, takes)) =
    let wanted = rounded_to_eight size in
    absurd (no_growth (length n.bytes) (length m.bytes) most max (HasRoomGrown n wanted) (HasRoomGrown m wanted) q (sym alike.same_length) (sym (one_most m n max most [] [] alike.same_make m_state n_state)) (same_room n m wanted (turned m n alike)) least never)
first_fits_alike m n align size None None m' n' alignment alike (some, max, m_state, never, m'_is) (more, most, n_state, nor, n'_is) = (refl, unchanged m n m' n' alike m'_is n'_is)

-- what can be freed in one can be freed in the other
same_freeing : (m n : Memory) (at size : ℕ) → AreAlike most_bytes m n → CanBeFreed m at size → CanBeFreed n at size
same_freeing m n at size alike can =
    let long = alike.same_length in
    record {
      unit = can.unit;
      inside = let i = can.inside in omega arith;
      apart = λ s e h a p q w. can.apart s e (same_hole n m (turned m n alike) s e h) a p q w;
    }

pub first_fits_free_alike : ReleasesAlike most_bytes FirstFitReleases
first_fits_free_alike m n at size true true m' n' alike (can, frees) (could, gives) = (
  refl,
  record {
    same_make = ap most_bytes frees.same_state ∙ alike.same_make ∙ sym (ap most_bytes gives.same_state);
    same_length = ap length frees.same_bytes ∙ alike.same_length ∙ sym (ap length gives.same_bytes);
    same_live = λ a. frees.live a ∙ ap (λ b. b && not (is_address_within a at (rounded_to_eight size))) (alike.same_live a) ∙ sym (gives.live a);
  },
)
first_fits_free_alike m n at size true false m' n' alike (can, frees) (never, n'_is) = absurd (never (same_freeing m n at (rounded_to_eight size) alike can))
first_fits_free_alike m n at size false true m' n' alike (never, m'_is) (can, gives) = absurd (never (same_freeing n m at (rounded_to_eight size) (turned m n alike) can))
first_fits_free_alike m n at size false false m' n' alike (never, m'_is) (nor, n'_is) = (refl, unchanged m n m' n' alike m'_is n'_is)
