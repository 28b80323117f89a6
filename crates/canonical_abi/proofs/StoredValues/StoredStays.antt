-- What was stored is held as long as its bytes stay, and so after later traces that write to their own blocks alone.
use Rattle.std.proofs.Common.{◌≡◌, inl, inr, ℕ, true}
use Rattle.canonical_abi.specs.Guest.{Allocation, Release, IsHonest}
use Rattle.canonical_abi.specs.Stands.{IsWritten, Carries, Keeps}
use Rattle.canonical_abi.specs.Laws.{StoredStays, StaysHeld}
use Rattle.canonical_abi.proofs.Traces.WhatTracesKeep.{not-both, runs-keep, carries-on}
use Rattle.canonical_abi.proofs.StoredValues.WritesOwnPlaceAndBlocks.{stores-own}
use Rattle.canonical_abi.proofs.StoredValues.StandingIsHeld.{stores-held}

pub stored-stays : StoredStays
stored-stays t a v es m n standard small stores c long same = let d = carries-on m n es long same c in (d, stores-held n small t standard a v es stores d)

pub stays-held : (allocates : Allocation) (releases : Release) → IsHonest allocates releases → StaysHeld allocates
stays-held allocates releases honest t v at es fs old mid new standard small live stores stored aligned leads own = (c, stores-held new.bytes small t standard at v es stores c)
  where
    l : Keeps mid fs new
    l = runs-keep allocates releases honest fs mid new aligned leads

    k : Keeps old es mid
    k = stored.keeps

    is_live : (x : ℕ) → IsWritten es x → mid.live x ≡ true
    is_live x w = elim (stores-own t at v es stores x w) [ inl i ↦ k.stays_live x (live x i) | inr g ↦ k.is_live x g ]

    c : Carries new.bytes es
    c = carries-on mid.bytes new.bytes es l.no_shorter (λ x below w. l.same x below (λ g. not-both (is_live x w) (l.was_free x g)) (λ u. not-both (is_live x w) (l.was_free x (own x u)))) stored.carries
