-- An honest guest is tame.
use Rattle.std.specs.Prelude.{◌≡◌, ◌⊎◌, ℕ, ◌+◌, ◌≤◌, true, false, length, slice_get}
use Rattle.std.proofs.Common.{inl, inr, get_or, refl, sym, ap, ◌∙◌, subst, arith}
use Rattle.std.proofs.lemmas.Bool.{cases_lt}
use Rattle.std.proofs.lemmas.Option.{slice_get_within, slice_get-get_or}
use Rattle.canonical_abi.specs.Guest.{Memory, Allocation, Release, IsHonest, IsGrant, IsWithin, IsOutside}
use Rattle.canonical_abi.specs.Tame.{LeavesLive, IsTame}

within_or_outside : (x at size : ℕ) → IsWithin x at size ⊎ IsOutside x at size
within_or_outside x at size = elim (cases_lt x at) [ inl h ↦ inr (inl h) | inr h ↦ elim (cases_lt x (at + size)) [ inl g ↦ inl (h, g) | inr g ↦ inr (inr g) ] ]

-- a memory gets no shorter by an honest grant, since the last byte of the old one is in the new one, too
grows : (old new : Memory) (align size at : ℕ) → IsGrant old align size at new → length old.bytes ≤ length new.bytes
grows old new align size at g = elim (cases_lt (length new.bytes) (length old.bytes)) [
  | inl l ↦ elim (within_or_outside (length new.bytes) at size) [
    | inl w ↦ absurd (omega (arith, w.1, g.inside))
    | inr o ↦
        let was = slice_get-get_or old.bytes (length new.bytes) 0 l in
        absurd (omega (arith, slice_get_within new.bytes (length new.bytes) (get_or old.bytes (length new.bytes) 0) (g.same_outside (length new.bytes) l o ∙ was)))
  ]
  | inr q ↦ q
]

same_leaves : (m : Memory) → LeavesLive 0 0 m m
same_leaves m = record { no_shorter = omega arith; live = λ a l. l; bytes = λ a l below out. refl }

-- what is live is in no block that is granted
apart : (old new : Memory) (align size at : ℕ) → IsGrant old align size at new → (a : ℕ) → old.live a ≡ true → IsOutside a at size
apart old new align size at g a live = elim (within_or_outside a at size) [
  | inl w ↦ let e : true ≡ false = sym live ∙ g.was_free a w in cc
  | inr o ↦ o
]

-- every step of an honest guest is one of a tame guest
pub HonestIsTame : (allocates : Allocation) (releases : Release) → IsHonest allocates releases → IsTame allocates releases
HonestIsTame allocates releases honest = record {
  granted = λ old align size at new al step.
      let g = honest.granted old align size at new al step in
      record {
        aligned = g.aligned;
        inside = g.inside;
        was_free = g.was_free;
        is_live = g.is_live;
        leaves = record {
          no_shorter = grows old new align size at g;
          live = g.stays_live;
          bytes = λ a live below out. g.same_outside a below (apart old new align size at g a live);
        };
      };
  full = λ old align size new step. subst (λ m. LeavesLive 0 0 old m) (sym (honest.full old align size new step)) (same_leaves old);
  taken = λ old at size new step.
      let r = honest.taken old at size new step in
      record {
        no_shorter = subst (λ bs. length old.bytes ≤ length bs) (sym r.same_bytes) (omega arith);
        stays_live = r.stays_live;
        bytes = λ a live still below. ap (λ bs. slice_get bs a) r.same_bytes;
      };
  not_taken = λ old at size new step. subst (λ m. LeavesLive 0 0 old m) (sym (honest.not_taken old at size new step)) (same_leaves old);
}
