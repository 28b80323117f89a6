-- The steps of a first-fit allocator keep what it has granted.
use Rattle.std.specs.Prelude.{◌≡◌, ◌+◌, ◌*◌, ◌%◌, ◌≤◌, ℕ, true, Some, None, length, slice_get}
use Rattle.std.proofs.Common.{refl, sym, ap, ◌∙◌, subst, arith, inl, inr}
use Rattle.std.proofs.lemmas.Bool.Decides.{nat_tests}
use Rattle.canonical_abi.specs.Guest.{Memory, IsAlignment, IsGrant, IsRelease, IsHonest, IsLimited, KeepsLimit, rounded_to_eight}
use Rattle.memory.specs.FirstFit.{FirstFitAllocates, FirstFitReleases}
use Rattle.memory.specs.Growth.{with_pages}
use Rattle.memory.specs.GrowthLaws.{length-with_pages, same_bytes, zero_bytes}

takes_back : (old : Memory) (at size : ℕ) (new : Memory) → FirstFitReleases old at size true new → IsRelease old at size new
takes_back old at size new step = record {
  same_bytes = step.1.same_bytes;
  none_new = λ a h. let is = step.1.live a in grind (arith, nat_tests);
  stays_live = λ a h o. let is = step.1.live a in grind (arith, nat_tests);
}

-- a multiple of eight is one of each alignment
pub divides : (align at : ℕ) → IsAlignment align → at % 8 ≡ 0 → at % align ≡ 0
divides align at (inl one) h = rw one (omega arith)
divides align at (inr (inl two)) h = rw two (omega arith)
divides align at (inr (inr (inl four))) h = rw four (omega arith)
divides align at (inr (inr (inr eight))) h = rw eight h

grants : (old : Memory) (align size at : ℕ) (new : Memory) → IsAlignment align → FirstFitAllocates old align size (Some at) new → IsGrant old align size at new
grants old align size at new legal (inl (none, start, same)) = record {
  aligned = divides align at legal (rw start refl);
  inside = rw (none, start) (omega arith);
  was_free = λ a w. absurd (omega (arith, w.0, w.1));
  is_live = λ a w. absurd (omega (arith, w.0, w.1));
  stays_live = λ a h. ap (λ m. m.live a) same ∙ h;
  same_outside = λ a h o. ap (λ m. slice_get m.bytes a) same;
  added = λ a past below o. (let l : length new.bytes ≡ length old.bytes = ap (λ m. length m.bytes) same in absurd (omega arith));
}
grants old align size at new legal (inr (some, max, pages, end, state_is, few, least, first, takes)) =
    let same = takes.same_bytes in
    let enough : size ≤ rounded_to_eight size = omega arith in
    let room = first.hole.inside in
    let has = first.enough in
    record {
      aligned = divides align at legal first.unit;
      inside = rw same (omega arith);
      was_free = λ a w. first.hole.free a w.0 (omega (arith, w.1));
      is_live = λ a w. let is = takes.live a in let p = w.0 in let q = w.1 in grind (arith, nat_tests);
      stays_live = λ a h. let is = takes.live a in grind (arith, nat_tests);
      same_outside = λ a h o. ap (λ bytes. slice_get bytes a) same ∙ same_bytes old.bytes pages a h;
      added = λ a past below o. ap (λ bytes. slice_get bytes a) same ∙ zero_bytes old.bytes pages a past (let l : length new.bytes ≡ length (with_pages old.bytes pages) = ap (λ bytes. length bytes) same in omega arith);
    }

-- a first-fit allocator is honest
pub FirstFitIsHonest : IsHonest FirstFitAllocates FirstFitReleases
FirstFitIsHonest = record {
  granted = λ old align size at new pos step. grants old align size at new pos step;
  full = λ old align size new step. step.4;
  taken = takes_back;
  not_taken = λ old at size new step. step.1;
}

-- no step of a first-fit allocator makes a memory 2^32 bytes long or longer
pub FirstFitKeepsLimit : KeepsLimit FirstFitAllocates
FirstFitKeepsLimit old new align size (Some at) (inl (none, start, same)) limited = subst IsLimited (sym same) limited
FirstFitKeepsLimit old new align size (Some at) (inr (some, max, pages, end, state_is, few, least, first, takes)) limited =
    let long : length new.bytes ≡ length old.bytes + pages * 65536 = ap (λ bytes. length bytes) takes.same_bytes ∙ length-with_pages old.bytes pages in
    let within = least.within in
    omega arith
FirstFitKeepsLimit old new align size None (some, max, state_is, none, same) limited = subst IsLimited (sym same) limited
