-- What answers alike does so under the number of a kind.
use Rattle.std.proofs.Common.{◌≡◌, inl, inr, ℕ, ◌∷◌, length, sym, ap, ◌∙◌, arith}
use Rattle.canonical_abi.specs.Guest.{Memory, Allocation, Release}
use Rattle.memory.specs.Alike.{AreAlike, AnswersAlike, ReleasesAlike}
use Rattle.memory.specs.Bump.{BumpAllocates, BumpReleases}
use Rattle.memory.specs.FirstFit.{FirstFitAllocates, FirstFitReleases}
use Rattle.memory.specs.Growth.{most_bytes}
use Rattle.memory.specs.Space.{of_kind, kind_and_most_bytes, AllocatesAs, ReleasesAs, SpaceAllocates, SpaceReleases}
use Rattle.memory.proofs.BumpAlike.{bumps_alike, bumps_free_alike}
use Rattle.memory.proofs.FirstFitAlike.{first_fits_alike, first_fits_free_alike}

inner_alike : (kind : ℕ) (m n before before' : Memory) → AreAlike kind_and_most_bytes m n → m ≡ of_kind kind before → n ≡ of_kind kind before' → AreAlike most_bytes before before'
inner_alike kind m n before before' alike m_is n_is = record {
  same_make = rest (sym (ap (λ w. kind_and_most_bytes w.state) m_is) ∙ alike.same_make ∙ ap (λ w. kind_and_most_bytes w.state) n_is);
  same_length = sym (ap (λ w. length w.bytes) m_is) ∙ alike.same_length ∙ ap (λ w. length w.bytes) n_is;
  same_live = λ x. sym (ap (λ w. w.live x) m_is) ∙ alike.same_live x ∙ ap (λ w. w.live x) n_is;
}
  where
    rest : kind ∷ most_bytes before.state ≡ kind ∷ most_bytes before'.state → most_bytes before.state ≡ most_bytes before'.state
    rest e = cc

outer_alike : (kind : ℕ) (m' n' after after' : Memory) → AreAlike most_bytes after after' → m' ≡ of_kind kind after → n' ≡ of_kind kind after' → AreAlike kind_and_most_bytes m' n'
outer_alike kind m' n' after after' alike m'_is n'_is = record {
  same_make = ap (λ w. kind_and_most_bytes w.state) m'_is ∙ ap (λ most. kind ∷ most) alike.same_make ∙ sym (ap (λ w. kind_and_most_bytes w.state) n'_is);
  same_length = ap (λ w. length w.bytes) m'_is ∙ alike.same_length ∙ sym (ap (λ w. length w.bytes) n'_is);
  same_live = λ x. ap (λ w. w.live x) m'_is ∙ alike.same_live x ∙ sym (ap (λ w. w.live x) n'_is);
}

kind_alike : (kind : ℕ) (allocates : Allocation) → AnswersAlike most_bytes allocates → AnswersAlike kind_and_most_bytes (AllocatesAs kind allocates)
kind_alike kind allocates h m n align size a b m' n' alignment alike (before, after, m_is, step, m'_is) (before', after', n_is, step', n'_is) =
    let then = h before before' align size a b after after' alignment (inner_alike kind m n before before' alike m_is n_is) step step' in
    (then.0, outer_alike kind m' n' after after' then.1 m'_is n'_is)

kind_free_alike : (kind : ℕ) (releases : Release) → ReleasesAlike most_bytes releases → ReleasesAlike kind_and_most_bytes (ReleasesAs kind releases)
kind_free_alike kind releases h m n at size a b m' n' alike (before, after, m_is, step, m'_is) (before', after', n_is, step', n'_is) =
    let then = h before before' at size a b after after' (inner_alike kind m n before before' alike m_is n_is) step step' in
    (then.0, outer_alike kind m' n' after after' then.1 m'_is n'_is)

-- memories that were made alike are of one kind
one_kind : (m n before after : Memory) (i j : ℕ) → AreAlike kind_and_most_bytes m n → m ≡ of_kind i before → n ≡ of_kind j after → i ≡ j
one_kind m n before after i j alike m_is n_is = first (sym (ap (λ w. kind_and_most_bytes w.state) m_is) ∙ alike.same_make ∙ ap (λ w. kind_and_most_bytes w.state) n_is)
  where
    first : kind_and_most_bytes (of_kind i before).state ≡ kind_and_most_bytes (of_kind j after).state → i ≡ j
    first e = cc

pub spaces_alike : AnswersAlike kind_and_most_bytes SpaceAllocates
spaces_alike m n align size a b m' n' alignment alike (inl p) (inl q) = kind_alike 0 BumpAllocates bumps_alike m n align size a b m' n' alignment alike p q
spaces_alike m n align size a b m' n' alignment alike (inr p) (inr q) = kind_alike 1 FirstFitAllocates first_fits_alike m n align size a b m' n' alignment alike p q
spaces_alike m n align size a b m' n' alignment alike (inl (before, after, m_is, step, m'_is)) (inr (early, late, n_is, move, n'_is)) =
    absurd (omega (arith, one_kind m n before early 0 1 alike m_is n_is))
spaces_alike m n align size a b m' n' alignment alike (inr (before, after, m_is, step, m'_is)) (inl (early, late, n_is, move, n'_is)) =
    absurd (omega (arith, one_kind m n before early 1 0 alike m_is n_is))

pub spaces_free_alike : ReleasesAlike kind_and_most_bytes SpaceReleases
spaces_free_alike m n at size a b m' n' alike (inl p) (inl q) = kind_free_alike 0 BumpReleases bumps_free_alike m n at size a b m' n' alike p q
spaces_free_alike m n at size a b m' n' alike (inr p) (inr q) = kind_free_alike 1 FirstFitReleases first_fits_free_alike m n at size a b m' n' alike p q
spaces_free_alike m n at size a b m' n' alike (inl (before, after, m_is, step, m'_is)) (inr (early, late, n_is, move, n'_is)) =
    absurd (omega (arith, one_kind m n before early 0 1 alike m_is n_is))
spaces_free_alike m n at size a b m' n' alike (inr (before, after, m_is, step, m'_is)) (inl (early, late, n_is, move, n'_is)) =
    absurd (omega (arith, one_kind m n before early 1 0 alike m_is n_is))
