-- The allocators answer in one way, and look at no byte.
use Rattle.std.proofs.Common.{◌≡◌, inl, inr, ◌+◌, ◌*◌, ℕ, Bool, List, [], ◌∷◌, length, Option, Some, None, refl, sym, ap, ◌∙◌, subst, arith}
use mathlib.Core.Path.{fun_ext}
use Rattle.canonical_abi.specs.Guest.{Memory, Allocation}
use Rattle.canonical_abi.specs.Told.{AllocatesInOneWay, IgnoresBytes, SameButBytes}
use Rattle.memory.specs.Alike.{Make, AreAlike}
use Rattle.memory.specs.Bump.{BumpAllocates}
use Rattle.memory.specs.FirstFit.{FirstFitAllocates}
use Rattle.memory.specs.Growth.{with_pages, most_bytes}
use Rattle.memory.specs.GrowthLaws.{length-with_pages}
use Rattle.memory.specs.Space.{of_kind, AllocatesAs, SpaceAllocates}
use Rattle.memory.proofs.BumpAlike.{bumps_alike}
use Rattle.memory.proofs.FirstFitAlike.{first_fits_alike}
use Rattle.memory.proofs.AlikeMemoriesGrowAlike.{one_most}

-- a memory is told by its parts
made_of : (bs cs : List ℕ) (f g : ℕ → Bool) (s t : List ℕ) → bs ≡ cs → f ≡ g → s ≡ t → ◌≡◌ {A = Memory} (record { bytes = bs; live = f; state = s }) (record { bytes = cs; live = g; state = t })
made_of bs cs f g s t p q r = rw (p, q, r) refl

some_same : {a b : ℕ} → Some a ≡ Some b → a ≡ b
some_same e = cc

like_itself : (make : Make) (m : Memory) → AreAlike make m m
like_itself make m = record { same_make = refl; same_length = refl; same_live = λ a. refl }

-- so many pages come to one length
same_pages : (old m n : List ℕ) (p q : ℕ) → m ≡ with_pages old p → n ≡ with_pages old q → length m ≡ length n → m ≡ n
same_pages old m n p q m_is n_is same =
    let long : length m ≡ length old + p * 65536 = ap (λ bytes. length bytes) m_is ∙ length-with_pages old p in
    let tall : length n ≡ length old + q * 65536 = ap (λ bytes. length bytes) n_is ∙ length-with_pages old q in
    let pages : p ≡ q = omega arith in
    m_is ∙ ap (with_pages old) pages ∙ sym n_is

pub bumps_in_one_way : AllocatesInOneWay BumpAllocates
bumps_in_one_way old align size (Some a) (Some b) m n alignment (max, s, old_is, few, r, (p, g, m_bytes), m_is) (most, t, as_is, fewer, q, (u, h, n_bytes), n_is) =
    let both = bumps_alike old old align size (Some a) (Some b) m n alignment (like_itself most_bytes old) (max, s, old_is, few, r, (p, g, m_bytes), m_is) (most, t, as_is, fewer, q, (u, h, n_bytes), n_is) in
    let same : a ≡ b = some_same both.0 in
    let bound = one_most old old max most (s ∷ []) (t ∷ []) refl (ap (λ w. w.state) old_is) (ap (λ w. w.state) as_is) in
    let state = ap (λ w. w.state) m_is ∙ ap (λ z. z ∷ (a + size) ∷ []) bound ∙ ap (λ z. most ∷ (z + size) ∷ []) same ∙ sym (ap (λ w. w.state) n_is) in
    (both.0, made_of m.bytes n.bytes m.live n.live m.state n.state (same_pages old.bytes m.bytes n.bytes p u m_bytes n_bytes both.1.same_length) (fun_ext both.1.same_live) state)
bumps_in_one_way old align size (Some a) None m n alignment step stop =
    (let one = (bumps_alike old old align size (Some a) None m n alignment (like_itself most_bytes old) step stop).0 in absurd (cc))
bumps_in_one_way old align size None (Some b) m n alignment stop step =
    (let one = (bumps_alike old old align size None (Some b) m n alignment (like_itself most_bytes old) stop step).0 in absurd (cc))
bumps_in_one_way old align size None None m n alignment (max, s, x, old_is, r, none, m_is) (most, t, y, as_is, q, never, n_is) = (refl, m_is ∙ sym n_is)

pub first_fits_in_one_way : AllocatesInOneWay FirstFitAllocates
first_fits_in_one_way old align size (Some a) (Some b) m n alignment (inl (none, at, m_is)) (inl (nil, to, n_is)) = (ap Some (at ∙ sym to), m_is ∙ sym n_is)
first_fits_in_one_way old align size (Some a) (Some b) m n alignment (inl (none, at, m_is)) (inr (some, most, q, e, as_is, few, h, g, takes)) = absurd (omega arith)
first_fits_in_one_way old align size (Some a) (Some b) m n alignment (inr (some, max, p, d, old_is, few, least, f, takes)) (inl (none, at, n_is)) = absurd (omega arith)
first_fits_in_one_way old align size (Some a) (Some b) m n alignment (inr (some, max, p, d, old_is, few, least, f, takes)) (inr (more, most, q, e, as_is, fewer, h, g, seizes)) =
    let both = first_fits_alike old old align size (Some a) (Some b) m n alignment (like_itself most_bytes old) (inr (some, max, p, d, old_is, few, least, f, takes)) (inr (more, most, q, e, as_is, fewer, h, g, seizes)) in
    let bytes = same_pages old.bytes m.bytes n.bytes p q takes.same_bytes seizes.same_bytes both.1.same_length in
    (both.0, made_of m.bytes n.bytes m.live n.live m.state n.state bytes (fun_ext both.1.same_live) (takes.same_state ∙ sym seizes.same_state))
first_fits_in_one_way old align size (Some a) None m n alignment step stop =
    (let one = (first_fits_alike old old align size (Some a) None m n alignment (like_itself most_bytes old) step stop).0 in absurd (cc))
first_fits_in_one_way old align size None (Some b) m n alignment stop step =
    (let one = (first_fits_alike old old align size None (Some b) m n alignment (like_itself most_bytes old) stop step).0 in absurd (cc))
first_fits_in_one_way old align size None None m n alignment (some, max, old_is, none, m_is) (more, most, as_is, never, n_is) = (refl, m_is ∙ sym n_is)

-- ---- and look at no byte

state_kept : (old : Memory) (align size : ℕ) (a : Option ℕ) (new : Memory) → FirstFitAllocates old align size a new → new.state ≡ old.state
state_kept old align size (Some a) new (inl (none, at, is)) = ap (λ m. m.state) is
state_kept old align size (Some a) new (inr (some, max, p, e, old_is, few, least, g, takes)) = takes.same_state
state_kept old align size None new (some, max, old_is, none, is) = ap (λ m. m.state) is

pub first_fits_ignore_bytes : IgnoresBytes FirstFitAllocates
first_fits_ignore_bytes m n align size a b m' n' alignment s p q =
    let alike : AreAlike most_bytes m n = record { same_make = ap most_bytes s.same_state; same_length = s.same_length; same_live = s.same_live } in
    let both = first_fits_alike m n align size a b m' n' alignment alike p q in
    (both.0, record { same_length = both.1.same_length; same_live = both.1.same_live; same_state = state_kept m align size a m' p ∙ s.same_state ∙ sym (state_kept n align size b n' q) })

pub bumps_ignore_bytes : IgnoresBytes BumpAllocates
bumps_ignore_bytes m n align size a b m' n' alignment s p q =
    let alike : AreAlike most_bytes m n = record { same_make = ap most_bytes s.same_state; same_length = s.same_length; same_live = s.same_live } in
    let both = bumps_alike m n align size a b m' n' alignment alike p q in
    (both.0, record { same_length = both.1.same_length; same_live = both.1.same_live; same_state = state a b both.0 p q })
  where
    state : (a b : Option ℕ) → a ≡ b → BumpAllocates m align size a m' → BumpAllocates n align size b n' → m'.state ≡ n'.state
    state (Some x) (Some y) e p q =
        let bound = one_most m n p.0 q.0 (p.1 ∷ []) (q.1 ∷ []) (ap most_bytes s.same_state) (ap (λ k. k.state) p.2) (ap (λ k. k.state) q.2) in
        ap (λ k. k.state) p.6 ∙ ap (λ z. z ∷ (x + size) ∷ []) bound ∙ ap (λ z. q.0 ∷ (z + size) ∷ []) (some_same e) ∙ sym (ap (λ k. k.state) q.6)
    state (Some x) None e p q = absurd (cc)
    state None (Some y) e p q = absurd (cc)
    state None None e p q = ap (λ k. k.state) p.6 ∙ s.same_state ∙ sym (ap (λ k. k.state) q.6)

-- ---- the same under the number of a kind

kind_in_one_way : (kind : ℕ) (allocates : Allocation) → AllocatesInOneWay allocates → AllocatesInOneWay (AllocatesAs kind allocates)
kind_in_one_way kind allocates h old align size a b m n alignment (before, after, old_is, step, m_is) (earlier, later, as_is, move, n_is) =
    let same : earlier ≡ before = unkind (sym as_is ∙ old_is) in
    let both = h before align size a b after later alignment step (subst (λ k. allocates k align size b later) same move) in
    (both.0, m_is ∙ ap (of_kind kind) both.1 ∙ sym n_is)
  where
    unkind : {x y : Memory} → of_kind kind x ≡ of_kind kind y → x ≡ y
    unkind {x} {y} e = made_of x.bytes y.bytes x.live y.live x.state y.state (ap (λ k. k.bytes) e) (ap (λ k. k.live) e) (tail (ap (λ k. k.state) e))
      where
        tail : kind ∷ x.state ≡ kind ∷ y.state → x.state ≡ y.state
        tail e = cc

kind_ignores_bytes : (kind : ℕ) (allocates : Allocation) → IgnoresBytes allocates → IgnoresBytes (AllocatesAs kind allocates)
kind_ignores_bytes kind allocates h m n align size a b m' n' alignment s (before, after, m_is, step, m'_is) (earlier, later, n_is, move, n'_is) =
    let inner : SameButBytes before earlier = record {
      same_length = sym (ap (λ w. length w.bytes) m_is) ∙ s.same_length ∙ ap (λ w. length w.bytes) n_is;
      same_live = λ x. sym (ap (λ w. w.live x) m_is) ∙ s.same_live x ∙ ap (λ w. w.live x) n_is;
      same_state = tail (sym (ap (λ w. w.state) m_is) ∙ s.same_state ∙ ap (λ w. w.state) n_is);
    } in
    let both = h before earlier align size a b after later alignment inner step move in (
      both.0,
      record {
        same_length = ap (λ w. length w.bytes) m'_is ∙ both.1.same_length ∙ sym (ap (λ w. length w.bytes) n'_is);
        same_live = λ x. ap (λ w. w.live x) m'_is ∙ both.1.same_live x ∙ sym (ap (λ w. w.live x) n'_is);
        same_state = ap (λ w. w.state) m'_is ∙ ap (λ l. kind ∷ l) both.1.same_state ∙ sym (ap (λ w. w.state) n'_is);
      },
    )
  where
    tail : kind ∷ before.state ≡ kind ∷ earlier.state → before.state ≡ earlier.state
    tail e = cc

-- memories of one state are of one kind
one_kind : (m n before after : Memory) (i j : ℕ) → m.state ≡ n.state → m ≡ of_kind i before → n ≡ of_kind j after → i ≡ j
one_kind m n before after i j s m_is n_is = first (sym (ap (λ w. w.state) m_is) ∙ s ∙ ap (λ w. w.state) n_is)
  where
    first : i ∷ before.state ≡ j ∷ after.state → i ≡ j
    first e = cc

pub spaces_in_one_way : AllocatesInOneWay SpaceAllocates
spaces_in_one_way old align size a b m n alignment (inl p) (inl q) = kind_in_one_way 0 BumpAllocates bumps_in_one_way old align size a b m n alignment p q
spaces_in_one_way old align size a b m n alignment (inr p) (inr q) = kind_in_one_way 1 FirstFitAllocates first_fits_in_one_way old align size a b m n alignment p q
spaces_in_one_way old align size a b m n alignment (inl (before, after, m_is, step, m'_is)) (inr (early, late, n_is, move, n'_is)) =
    absurd (omega (arith, one_kind old old before early 0 1 refl m_is n_is))
spaces_in_one_way old align size a b m n alignment (inr (before, after, m_is, step, m'_is)) (inl (early, late, n_is, move, n'_is)) =
    absurd (omega (arith, one_kind old old before early 1 0 refl m_is n_is))

pub spaces_ignore_bytes : IgnoresBytes SpaceAllocates
spaces_ignore_bytes m n align size a b m' n' alignment s (inl p) (inl q) = kind_ignores_bytes 0 BumpAllocates bumps_ignore_bytes m n align size a b m' n' alignment s p q
spaces_ignore_bytes m n align size a b m' n' alignment s (inr p) (inr q) = kind_ignores_bytes 1 FirstFitAllocates first_fits_ignore_bytes m n align size a b m' n' alignment s p q
spaces_ignore_bytes m n align size a b m' n' alignment s (inl (before, after, m_is, step, m'_is)) (inr (early, late, n_is, move, n'_is)) =
    absurd (omega (arith, one_kind m n before early 0 1 s.same_state m_is n_is))
spaces_ignore_bytes m n align size a b m' n' alignment s (inr (before, after, m_is, step, m'_is)) (inl (early, late, n_is, move, n'_is)) =
    absurd (omega (arith, one_kind m n before early 1 0 s.same_state m_is n_is))
