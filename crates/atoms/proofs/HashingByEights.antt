-- Bytes are taken in eight at a time, and fewer than eight as one number.
use Rattle.std.proofs.Common.{◌≡◌, ℕ, ◌<◌, ◌≤◌, List, [], ◌∷◌, length, drop, slice_index, refl, arith}
use Rattle.std.specs.Int.{w64, from_le_bytes}
use Rattle.atoms.specs.declared.hasher.NameHasher.{NameHasher}
use Rattle.atoms.specs.Hashing.{mixed, tail_word, write}

pub written_tail : (s : NameHasher) (bytes : List ℕ) → length bytes < 8 → write s bytes ≡ mixed s (tail_word bytes)
unfolding write
written_tail s [] lt = refl
written_tail s (a ∷ []) lt = refl
written_tail s (a ∷ b ∷ []) lt = refl
written_tail s (a ∷ b ∷ c ∷ []) lt = refl
written_tail s (a ∷ b ∷ c ∷ d ∷ []) lt = refl
written_tail s (a ∷ b ∷ c ∷ d ∷ e ∷ []) lt = refl
written_tail s (a ∷ b ∷ c ∷ d ∷ e ∷ f ∷ []) lt = refl
written_tail s (a ∷ b ∷ c ∷ d ∷ e ∷ f ∷ g ∷ []) lt = refl
written_tail s (a ∷ b ∷ c ∷ d ∷ e ∷ f ∷ g ∷ h ∷ rest) lt = absurd (omega (arith, lt))

-- eight bytes and more are taken in as a number, and the others behind it
pub written_word : (s : NameHasher) (bytes : List ℕ) → 8 ≤ length bytes → write s bytes ≡ write (mixed s (from_le_bytes w64 (slice_index bytes 0 ∷ slice_index bytes 1 ∷ slice_index bytes 2 ∷ slice_index bytes 3 ∷ slice_index bytes 4 ∷ slice_index bytes 5 ∷ slice_index bytes 6 ∷ slice_index bytes 7 ∷ []))) (drop 8 bytes)
unfolding write
written_word s [] le = absurd (let h : 8 ≤ 0 = le in omega (arith, h))
written_word s (a ∷ []) le = absurd (let h : 8 ≤ 1 = le in omega (arith, h))
written_word s (a ∷ b ∷ []) le = absurd (let h : 8 ≤ 2 = le in omega (arith, h))
written_word s (a ∷ b ∷ c ∷ []) le = absurd (let h : 8 ≤ 3 = le in omega (arith, h))
written_word s (a ∷ b ∷ c ∷ d ∷ []) le = absurd (let h : 8 ≤ 4 = le in omega (arith, h))
written_word s (a ∷ b ∷ c ∷ d ∷ e ∷ []) le = absurd (let h : 8 ≤ 5 = le in omega (arith, h))
written_word s (a ∷ b ∷ c ∷ d ∷ e ∷ f ∷ []) le = absurd (let h : 8 ≤ 6 = le in omega (arith, h))
written_word s (a ∷ b ∷ c ∷ d ∷ e ∷ f ∷ g ∷ []) le = absurd (let h : 8 ≤ 7 = le in omega (arith, h))
written_word s (a ∷ b ∷ c ∷ d ∷ e ∷ f ∷ g ∷ h ∷ rest) le = refl
