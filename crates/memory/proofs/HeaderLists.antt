-- One step along the list of free blocks, and the room at the top.
use Rattle.std.proofs.Common.{◌≡◌, ◌⊎◌, inl, inr, ◌+◌, ◌-◌, ◌*◌, ◌/◌, ◌%◌, ◌<◌, ◌≤◌, ◌&&◌, ℕ, zero, suc, Bool, true, false, List, [], ◌∷◌, refl, subst, sym, ap, ◌∙◌, arith}
use Rattle.std.specs.Prelude.{nat_le}
use Rattle.std.specs.Int.{w32, to_le_bytes}
use Rattle.std.proofs.lemmas.Bool.Decides.{nat_tests}
use Rattle.canonical_abi.specs.Guest.{Memory, overwrite}
use Rattle.memory.specs.Growth.{HasNoGrowth, ReachesEnd, GrowsTo}
use Rattle.memory.specs.Headers.{headers, word, top, IsFree, HasRoom, Leads, TakesTop}
use Rattle.memory.specs.Units.{is_unit_live, AreUnits, with_units}

module _ (m : Memory) (size link : ℕ) where
  one_less : (n : ℕ) → suc n - 1 ≡ n
  one_less n = omega arith

  -- a block that is too small by its header is passed
  pub passed : (left found : ℕ) → 0 < left → word m (word m link - 8) < size → Leads m size left link found → Leads m size (left - 1) (word m link) found
  passed zero found some less leads = absurd (omega arith)
  passed (suc n) found some less (free, inl (room, is)) = absurd (omega (arith, less, room.told))
  passed (suc n) found some less (free, inr (other, more)) = subst (λ k. Leads m size k (word m link) found) (sym (one_less n)) more

  pub passing : (left found : ℕ) → 0 < left → IsFree m (word m link) 8 → word m (word m link - 8) < size → Leads m size (left - 1) (word m link) found → Leads m size left link found
  passing zero found some free less more = absurd (omega arith)
  passing (suc n) found some free less more = (free, inr (less, subst (λ k. Leads m size k (word m link) found) (one_less n) more))

  -- the list ends at a header that says more than is free
  pub stuck : (left found : ℕ) → 0 < left → size ≤ word m (word m link - 8) → (IsFree m (word m link) size → ⊥) → Leads m size left link found → ⊥
  stuck zero found some enough other leads = absurd (omega arith)
  stuck (suc n) found some enough other (free, inl (room, is)) = other room.block
  stuck (suc n) found some enough other (free, inr (less, more)) = absurd (omega (arith, less, enough))

  -- the list ends at what is not free
  pub ended : (left found : ℕ) → 0 < left → (IsFree m (word m link) 8 → ⊥) → Leads m size left link found → ⊥
  ended zero found some other leads = absurd (omega arith)
  ended (suc n) found some other (free, more) = other free

  pub reached : (left : ℕ) → 0 < left → IsFree m (word m link) 8 → HasRoom m (word m link) size → Leads m size left link link
  reached zero some free room = absurd (omega arith)
  reached (suc n) some free room = (free, inl (room, refl))

  pub none_left : (left found : ℕ) → left ≤ 0 → Leads m size left link found → ⊥
  none_left zero found none leads = leads
  none_left (suc n) found none leads = absurd (omega arith)

-- a memory can grow to all that it may have
pub grows_within : (len most end : ℕ) → len ≤ most → (most - len) % 65536 ≡ 0 → end ≤ most → HasNoGrowth len most (ReachesEnd len end) → ⊥
grows_within len most end within whole below none =
    let pages : (most - len) / 65536 * 65536 ≡ most - len = omega arith in none ((most - len) / 65536) (omega arith) (omega arith)

and_false : (b : Bool) → (b && false) ≡ false
and_false true = refl
and_false false = refl

-- the header, the note of the new top and the block, where the memory has grown to the end and no unit up to there was live
pub topped : (bytes between noted : List ℕ) (units after : List Bool) (most still size at end : ℕ) → at ≡ top (headers bytes units most) → end ≡ at + 8 + size → at % 8 ≡ 0
    → most ≤ 16777216 → AreUnits units at end false → GrowsTo bytes most end between
    → noted ≡ overwrite (overwrite between at (to_le_bytes w32 size)) 12 (to_le_bytes w32 end) → still ≡ most
    → ((a : ℕ) → is_unit_live after a ≡ with_units (is_unit_live units) (at + 8) end true a) → TakesTop (headers bytes units most) size (at + 8) (headers noted after still)
topped bytes between noted units after most still size at end is end_is unit few free grown noted_is same set = record {
  most = most;
  state = refl;
  few = few;
  room = record {
    unit = subst (λ t. t % 8 ≡ 0) is unit;
    within = subst (λ t. t + 8 + size ≤ most) is (omega (arith, grown.1.within, grown.1.enough));
    free = λ a low high. ap (λ x. nat_le 16 a && x) (free a (omega (arith, low, is)) (omega (arith, high, is))) ∙ and_false (nat_le 16 a);
  };
  bytes = between;
  grown = subst (λ t. GrowsTo bytes most t between) (end_is ∙ ap (λ t. t + 8 + size) is) grown;
  there = ap (λ t. t + 8) is;
  takes = record {
    same_bytes = noted_is ∙ ap (λ t. overwrite (overwrite between at (to_le_bytes w32 size)) 12 (to_le_bytes w32 t)) end_is ∙ ap (λ t. overwrite (overwrite between t (to_le_bytes w32 size)) 12 (to_le_bytes w32 (at + 8 + size))) is;
    same_state = ap (λ n. n ∷ []) same;
    live = λ a. let s = set a in let low : 16 ≤ at = omega (arith, is) in grind (arith, nat_tests);
  };
}
