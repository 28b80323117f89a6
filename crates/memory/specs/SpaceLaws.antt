-- What is honest stays so under the number of a kind.
use Rattle.std.specs.Prelude.{◌≡◌, ◌⊎◌, ◌≤◌, ℕ, true, Some, length, slice_get}
use Rattle.std.proofs.Common.{sym, ap, ◌∙◌, arith, inl, inr}
use Rattle.canonical_abi.specs.Guest.{Memory, Allocation, Release, IsAlignment, IsGrant, IsRelease, IsHonest, IsLimited, KeepsLimit}
use Rattle.memory.specs.BumpLaws.{BumpIsHonest, BumpKeepsLimit}
use Rattle.memory.specs.FirstFitLaws.{FirstFitIsHonest, FirstFitKeepsLimit}
use Rattle.memory.specs.Space.{of_kind, AllocatesAs, ReleasesAs, SpaceAllocates, SpaceReleases, bump_kind, first_fit_kind}

-- a grant of the kind's allocator is a grant
grants : (kind : ℕ) (allocates : Allocation) (releases : Release) → IsHonest allocates releases → (old : Memory) (align size at : ℕ) (new : Memory) → IsAlignment align → AllocatesAs kind allocates old align size (Some at) new → IsGrant old align size at new
grants kind allocates releases honest old align size at new pos (before, after, old_is, step, new_is) =
    let g = honest.granted before align size at after pos step in
    let was : (a : ℕ) → old.live a ≡ before.live a = λ a. ap (λ m. m.live a) old_is in
    let now : (a : ℕ) → new.live a ≡ after.live a = λ a. ap (λ m. m.live a) new_is in
    let had : old.bytes ≡ before.bytes = ap (λ m. m.bytes) old_is in
    let has : new.bytes ≡ after.bytes = ap (λ m. m.bytes) new_is in
    record {
      aligned = g.aligned;
      inside = rw has g.inside;
      was_free = λ a h. was a ∙ g.was_free a h;
      is_live = λ a h. now a ∙ g.is_live a h;
      stays_live = λ a h. now a ∙ g.stays_live a (sym (was a) ∙ h);
      same_outside = λ a h o. ap (λ bytes. slice_get bytes a) has ∙ g.same_outside a (rw had at h) o ∙ sym (ap (λ bytes. slice_get bytes a) had);
      added = λ a past below o. ap (λ bytes. slice_get bytes a) has ∙ g.added a (rw had at past) (rw has at below) o;
    }

-- a release of it is a release
takes : (kind : ℕ) (allocates : Allocation) (releases : Release) → IsHonest allocates releases → (old : Memory) (at size : ℕ) (new : Memory) → ReleasesAs kind releases old at size true new → IsRelease old at size new
takes kind allocates releases honest old at size new (before, after, old_is, step, new_is) =
    let r = honest.taken before at size after step in
    let was : (a : ℕ) → old.live a ≡ before.live a = λ a. ap (λ m. m.live a) old_is in
    let now : (a : ℕ) → new.live a ≡ after.live a = λ a. ap (λ m. m.live a) new_is in
    record {
      same_bytes = ap (λ m. m.bytes) new_is ∙ r.same_bytes ∙ sym (ap (λ m. m.bytes) old_is);
      none_new = λ a h. was a ∙ r.none_new a (sym (now a) ∙ h);
      stays_live = λ a h o. now a ∙ r.stays_live a (sym (was a) ∙ h) o;
    }

-- an honest allocator stays honest as one kind of several
pub kind_is_honest : (kind : ℕ) (allocates : Allocation) (releases : Release) → IsHonest allocates releases → IsHonest (AllocatesAs kind allocates) (ReleasesAs kind releases)
kind_is_honest kind allocates releases honest = record {
  granted = grants kind allocates releases honest;
  full = λ old align size new step. step.4 ∙ ap (of_kind kind) (honest.full _ align size _ step.3) ∙ sym step.2;
  taken = takes kind allocates releases honest;
  not_taken = λ old at size new step. step.4 ∙ ap (of_kind kind) (honest.not_taken _ at size _ step.3) ∙ sym step.2;
}

-- steps of one of two kinds are honest where those of both are
pub either_is_honest : (allocates others : Allocation) (releases returns : Release) → IsHonest allocates releases → IsHonest others returns
    → IsHonest (λ old align size answer new. allocates old align size answer new ⊎ others old align size answer new) (λ old at size answer new. releases old at size answer new ⊎ returns old at size answer new)
either_is_honest allocates others releases returns one two = record {
  granted = λ old align size at new pos step. elim step [ inl s ↦ one.granted old align size at new pos s | inr s ↦ two.granted old align size at new pos s ];
  full = λ old align size new step. elim step [ inl s ↦ one.full old align size new s | inr s ↦ two.full old align size new s ];
  taken = λ old at size new step. elim step [ inl s ↦ one.taken old at size new s | inr s ↦ two.taken old at size new s ];
  not_taken = λ old at size new step. elim step [ inl s ↦ one.not_taken old at size new s | inr s ↦ two.not_taken old at size new s ];
}

-- a `Space` is honest, whichever kind it has
pub SpaceIsHonest : IsHonest SpaceAllocates SpaceReleases
SpaceIsHonest = either_is_honest _ _ _ _ (kind_is_honest bump_kind _ _ BumpIsHonest) (kind_is_honest first_fit_kind _ _ FirstFitIsHonest)

-- a memory of any kind whose allocator keeps the limit keeps it
pub kind_keeps_limit : (kind : ℕ) (allocates : Allocation) → KeepsLimit allocates → KeepsLimit (AllocatesAs kind allocates)
kind_keeps_limit kind allocates keeps old new align size at (before, after, old_is, step, new_is) few =
    let was : length old.bytes ≡ length before.bytes = ap (λ m. length m.bytes) old_is in
    let now : length new.bytes ≡ length after.bytes = ap (λ m. length m.bytes) new_is in
    let kept : IsLimited after = keeps before after align size at step (omega arith) in omega arith

-- no allocation of a `Space` makes a memory 2^32 bytes long or longer
pub SpaceKeepsLimit : KeepsLimit SpaceAllocates
SpaceKeepsLimit old new align size at (inl step) few = kind_keeps_limit bump_kind _ BumpKeepsLimit old new align size at step few
SpaceKeepsLimit old new align size at (inr step) few = kind_keeps_limit first_fit_kind _ FirstFitKeepsLimit old new align size at step few
