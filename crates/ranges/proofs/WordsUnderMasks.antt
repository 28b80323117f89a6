-- Words of which a mask takes some bytes, and keeps the others.
use Rattle.std.proofs.Common.{◌≡◌, ◌⊎◌, inl, inr, ℕ, zero, suc, ◌+◌, ◌-◌, ◌*◌, ◌/◌, ◌%◌, ◌^◌, ◌<◌, min, max, get_or, sym, ap, ◌∙◌, arith}
use Rattle.std.specs.Int.{w64, bit_at, bit_not, to_le_bytes}
use Rattle.std.specs.Prelude.{bit_and, bit_or}
use Rattle.std.proofs.lemmas.Nat.{div-add-mod'}
use Rattle.std.proofs.lemmas.Nat.Bits.{bit_at-lt, bit_at-zero, bit_at_and, bit_at_or, bit_at_not, bit_at_ones, bit_at_cat_low, bit_at_cat_high, same_from_bits_below}
use Rattle.std.proofs.Math.Nat.{mod-lt}
use Rattle.std.proofs.Math.Pow.{pow_pos}
use Rattle.ranges.specs.Bytewise.{capped_byte}
use Rattle.ranges.proofs.CapsAndBlends.{kept, taken}

-- a byte of a word
abbrev pub byte : ℕ → ℕ → ℕ
byte n k = get_or (to_le_bytes w64 n) k 0

-- the bits of the byte that begins at bit s
bits-from : (n s i : ℕ) → i < 8 → bit_at (n / 2 ^ s % 256) i ≡ bit_at n (s + i)
bits-from n s i h =
    let x = n / 2 ^ s in
    let low : bit_at (x / 256 * 2 ^ 8 + x % 256) i ≡ bit_at (x % 256) i = bit_at_cat_low (x / 256) 8 (x % 256) i h in
    let split : x / 256 * 256 + x % 256 ≡ x = omega (arith, div-add-mod' x 256) in
    let high : bit_at (x * 2 ^ s + n % 2 ^ s) (s + i) ≡ bit_at x (s + i - s) = bit_at_cat_high x s (n % 2 ^ s) (s + i) (mod-lt n (pow_pos s)) (omega arith) in
    let whole : x * 2 ^ s + n % 2 ^ s ≡ n = omega (arith, div-add-mod' n (2 ^ s)) in
    let back : s + i - s ≡ i = omega arith in
    sym low ∙ ap (λ y. bit_at y i) split ∙ sym (rw (whole, back) at high)

first-bits : (n i : ℕ) → i < 8 → bit_at (n % 256) i ≡ bit_at n (0 + i)
first-bits n i h = let e : n / 2 ^ 0 ≡ n = omega arith in let b = bits-from n 0 i h in rw e at b

-- the bits of byte k
byte-bits : (n k i : ℕ) → k < 8 → i < 8 → bit_at (byte n k) i ≡ bit_at n (8 * k + i)
byte-bits n zero i g h = first-bits n i h
byte-bits n (suc zero) i g h = bits-from n 8 i h
byte-bits n (suc (suc zero)) i g h = bits-from n 16 i h
byte-bits n (suc (suc (suc zero))) i g h = bits-from n 24 i h
byte-bits n (suc (suc (suc (suc zero)))) i g h = bits-from n 32 i h
byte-bits n (suc (suc (suc (suc (suc zero))))) i g h = bits-from n 40 i h
byte-bits n (suc (suc (suc (suc (suc (suc zero)))))) i g h = bits-from n 48 i h
byte-bits n (suc (suc (suc (suc (suc (suc (suc zero))))))) i g h = bits-from n 56 i h
byte-bits n (suc (suc (suc (suc (suc (suc (suc (suc k)))))))) i g h = absurd (omega (arith, g))

byte-small : (n k : ℕ) → k < 8 → byte n k < 256
byte-small n zero h = mod-lt n (omega arith)
byte-small n (suc zero) h = mod-lt (n / 2 ^ 8) (omega arith)
byte-small n (suc (suc zero)) h = mod-lt (n / 2 ^ 16) (omega arith)
byte-small n (suc (suc (suc zero))) h = mod-lt (n / 2 ^ 24) (omega arith)
byte-small n (suc (suc (suc (suc zero)))) h = mod-lt (n / 2 ^ 32) (omega arith)
byte-small n (suc (suc (suc (suc (suc zero))))) h = mod-lt (n / 2 ^ 40) (omega arith)
byte-small n (suc (suc (suc (suc (suc (suc zero)))))) h = mod-lt (n / 2 ^ 48) (omega arith)
byte-small n (suc (suc (suc (suc (suc (suc (suc zero))))))) h = mod-lt (n / 2 ^ 56) (omega arith)
byte-small n (suc (suc (suc (suc (suc (suc (suc (suc k)))))))) h = absurd (omega (arith, h))

module _ (old new mask : ℕ) (fits : mask < 2 ^ 64) where
  abbrev chosen : ℕ
  chosen = bit_or (bit_and new mask) (bit_and old (bit_not w64 mask))

  chosen-bit : (j : ℕ) → j < 64 → bit_at chosen j ≡ max (min (bit_at new j) (bit_at mask j)) (min (bit_at old j) (1 - bit_at mask j))
  chosen-bit j h =
      bit_at_or (bit_and new mask) (bit_and old (bit_not w64 mask)) j
      ∙ ap (λ x. max x (bit_at (bit_and old (bit_not w64 mask)) j)) (bit_at_and new mask j)
      ∙ ap (λ x. max (min (bit_at new j) (bit_at mask j)) x) (bit_at_and old (bit_not w64 mask) j ∙ ap (min (bit_at old j)) (bit_at_not w64 mask j fits h))

  kept-byte : (k : ℕ) → k < 8 → byte mask k ≡ 0 → byte chosen k ≡ byte old k
  kept-byte k g none = same_from_bits_below 8 (byte chosen k) (byte old k) (byte-small chosen k g) (byte-small old k g)
      (λ i h.
      let bit : bit_at mask (8 * k + i) ≡ 0 = sym (byte-bits mask k i g h) ∙ ap (λ b. bit_at b i) none ∙ bit_at-zero i in
      let is = chosen-bit (8 * k + i) (omega (arith, g, h)) in
      let low = bit_at-lt old (8 * k + i) in
      byte-bits chosen k i g h ∙ omega (arith, is, bit, low) ∙ sym (byte-bits old k i g h))

  taken-byte : (k : ℕ) → k < 8 → byte mask k ≡ 255 → byte chosen k ≡ byte new k
  taken-byte k g all = same_from_bits_below 8 (byte chosen k) (byte new k) (byte-small chosen k g) (byte-small new k g)
      (λ i h.
      let bit : bit_at mask (8 * k + i) ≡ 1 = sym (byte-bits mask k i g h) ∙ ap (λ b. bit_at b i) all ∙ bit_at_ones 8 i h in
      let is = chosen-bit (8 * k + i) (omega (arith, g, h)) in
      let low = bit_at-lt new (8 * k + i) in
      byte-bits chosen k i g h ∙ omega (arith, is, bit, low) ∙ sym (byte-bits new k i g h))

  pub chosen-byte : (k : ℕ) → k < 8 → (byte mask k ≡ 0) ⊎ (byte mask k ≡ 255) → byte chosen k ≡ capped_byte (byte mask k) (byte old k) (byte new k)
  chosen-byte k g (inl none) = kept-byte k g none ∙ sym (kept (byte mask k) (byte old k) (byte new k) none)
  chosen-byte k g (inr all) = taken-byte k g all ∙ sym (ap (λ c. capped_byte c (byte old k) (byte new k)) all ∙ taken (byte old k) (byte new k) (byte-small new k g))
