-- Worked examples: what a grant adds to a memory.
use Rattle.std.proofs.Common.{◌≡◌, inl, inr, ℕ, zero, suc, ◌<◌, false, [], ◌∷◌, Option, Some, refl, arith}
use Rattle.std.specs.Prelude.{slice_get, nat_lt}
use Rattle.std.proofs.lemmas.Bool.{lt-ltb}
use Rattle.canonical_abi.specs.Guest.{Memory, IsOutside, IsGrant}

abbrev empty : Memory
empty = record { bytes = []; live = λ a. false; state = [] }

-- four bytes, the first two of which are a block
abbrev grown : ℕ → Memory
grown x = record { bytes = 1 ∷ 2 ∷ x ∷ 0 ∷ []; live = λ a. nat_lt a 2; state = [] }

zeros-added : (a : ℕ) → a < 4 → IsOutside a 0 2 → slice_get (grown 0).bytes a ≡ Some 0
zeros-added zero below (inl o) = absurd (omega arith)
zeros-added zero below (inr o) = absurd (omega arith)
zeros-added (suc zero) below (inl o) = absurd (omega arith)
zeros-added (suc zero) below (inr o) = absurd (omega arith)
zeros-added (suc (suc zero)) below o = refl
zeros-added (suc (suc (suc zero))) below o = refl
zeros-added (suc (suc (suc (suc a)))) below o = absurd (omega arith)

grows-by-zeros : IsGrant empty 1 2 0 (grown 0)
grows-by-zeros = record {
  aligned = refl;
  inside = omega arith;
  was_free = λ a w. refl;
  is_live = λ a w. lt-ltb a 2 w.1;
  stays_live = λ a is. let e : false ≡ false = refl in cc;
  same_outside = λ a below o. absurd (omega arith);
  added = λ a past below o. zeros-added a below o;
}

-- ---- what is not so

-- another byte beside the block
grows-by-others : IsGrant empty 1 2 0 (grown 0xee) → ⊥
grows-by-others g = let e : ◌≡◌ {A = Option ℕ} (Some 0xee) (Some 0) = g.added 2 (omega arith) (omega arith) (inr (omega arith)) in cc
