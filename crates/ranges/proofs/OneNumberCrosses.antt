-- One number: read, and written over the bytes at another place.
use Rattle.std.proofs.Common.{◌≡◌, inl, inr, ℕ, zero, suc, ◌+◌, ◌-◌, ◌^◌, ◌<◌, ◌≤◌, ◌==◌, not, min, false, List, length, get_or, drop, refl, sym, ap, ◌∙◌, arith, length-drop}
use Rattle.std.specs.Prelude.{slice_range, FitsSigned}
use Rattle.std.specs.Int.{w8, w16, w32, w64, byte_len, to_le_bytes, from_bool, cast_signed, cast_unsigned}
use Rattle.std.proofs.lemmas.Bool.{cases_lt, ne_eqb}
use Rattle.std.proofs.lemmas.List.{get_or-take, get_or-drop, length-take, length-take-le, get_or_past}
use Rattle.std.proofs.lemmas.Nat.{le_bytes_2, le_bytes_4, le_bytes_8}
use Rattle.std.proofs.lemmas.Int.{of_z-to_z}
use Rattle.std.proofs.Math.Nat.{mod-eq_of_lt}
use Rattle.std.proofs.Math.Facts.{sfits_to_z}
use Rattle.canonical_abi.specs.Types.{IntWidth, int8, int16, int32, int64, width_of, bits, Prim, boolean, unsigned, signed, scalar_value}
use Rattle.canonical_abi.specs.Values.{Value, HasPrimType, bool_value, unsigned_value, signed_value, char_value}
use Rattle.canonical_abi.specs.Layout.{prim_width}
use Rattle.canonical_abi.specs.Reading.{number_at}
use Rattle.canonical_abi.specs.Memory.{PrimIs}
use Rattle.canonical_abi.specs.Guest.{overwrite}
use Rattle.canonical_abi.specs.Storing.{number_in}
use Rattle.canonical_abi.proofs.Traces.BytesWrittenOver.{length-le_bytes, length-overwrite, overwrite-in, overwrite-before, overwrite-after}
use Rattle.values.specs.Bytes.{AreBytes}
use Rattle.ranges.specs.Bytewise.{capped_byte, caps, prim_cap, PrimTested, Blends}
use Rattle.ranges.proofs.CapsAndBlends.{caps-below, caps-past, kept, taken}

-- what is written comes under the cap, where it is what the cap makes of the new bytes
pub write-blends : (cap : ℕ → ℕ) (m : List ℕ) (a : ℕ) (old : List ℕ) (at : ℕ) (part : List ℕ) → at + length part ≤ length old
    → ((i : ℕ) → i < length part → get_or part i 0 ≡ capped_byte (cap i) (get_or old (at + i) 0) (get_or m (a + i) 0))
    → ((i : ℕ) → length part ≤ i → cap i ≡ 0)
    → Blends cap m a old at (overwrite old at part)
write-blends cap m a old at part fits told past = record {
  same_length = length-overwrite old at part fits;
  below = λ x h. overwrite-before old at part fits x h;
  over = λ i. elim (cases_lt i (length part)) [
    | inl h ↦ overwrite-in old at part fits i h ∙ told i h
    | inr g ↦ overwrite-after old at part fits (at + i) (omega (arith, g)) ∙ sym (kept _ _ _ (past i g))
  ];
}

-- ---- the bytes of a number

-- an element of a part of a list
pub part-get : (xs : List ℕ) (a n i : ℕ) → i < n → get_or (slice_range xs a (a + n)) i 0 ≡ get_or xs (a + i) 0
part-get xs a n i h = get_or-take (a + n - a) (drop a xs) i 0 (omega (arith, h)) ∙ get_or-drop a xs i 0

-- a number of one byte
pub byte-at : (m : List ℕ) (a : ℕ) → number_at m a w8 ≡ get_or m a 0
unfolding number_at
byte-at m a = let e : a + 0 ≡ a = omega arith in rw e at (part-get m a 1 0 (omega arith))

module _ (m : List ℕ) (bytes : AreBytes m) where
  pub range-byte : (a n i : ℕ) → get_or (slice_range m a (a + n)) i 0 < 256
  range-byte a n i = elim (cases_lt i n) [
    | inl h ↦ rw (part-get m a n i h) (bytes (a + i))
    | inr g ↦ let long : length (slice_range m a (a + n)) ≤ i = omega (arith, length-take (a + n - a) (drop a m), g) in
        rw (get_or_past (slice_range m a (a + n)) i 0 long) (omega arith)
  ]

  range-length : (a n : ℕ) → a + n ≤ length m → length (slice_range m a (a + n)) ≡ n
  range-length a n h =
      let size : a + n - a ≡ n = omega arith in
      rw size (length-take-le n (drop a m) (omega (arith, length-drop a m, h)))

  pub number-small : (w : IntWidth) (a : ℕ) → number_at m a (width_of w) < 2 ^ bits w
  unfolding number_at
  number-small int8 a = range-byte a 1 0
  number-small int16 a = omega (arith, range-byte a 2 0, range-byte a 2 1)
  number-small int32 a = omega (arith, range-byte a 4 0, range-byte a 4 1, range-byte a 4 2, range-byte a 4 3)
  number-small int64 a =
      omega (arith, range-byte a 8 0, range-byte a 8 1, range-byte a 8 2, range-byte a 8 3, range-byte a 8 4, range-byte a 8 5, range-byte a 8 6, range-byte a 8 7)

  -- a number is written as the bytes that it was read from
  number-bytes : (w : IntWidth) (a : ℕ) → a + byte_len (width_of w) ≤ length m → (i : ℕ) → i < byte_len (width_of w)
      → get_or (to_le_bytes (width_of w) (number_at m a (width_of w))) i 0 ≡ get_or m (a + i) 0
  unfolding number_at
  number-bytes int8 a inside zero h = mod-eq_of_lt (range-byte a 1 0) ∙ part-get m a 1 0 h
  number-bytes int8 a inside (suc i) h = absurd (omega (arith, h))
  number-bytes int16 a inside i h = ap (λ l. get_or l i 0) (le_bytes_2 (slice_range m a (a + 2)) _ (range-length a 2 inside) (range-byte a 2) refl) ∙ part-get m a 2 i h
  number-bytes int32 a inside i h = ap (λ l. get_or l i 0) (le_bytes_4 (slice_range m a (a + 4)) _ (range-length a 4 inside) (range-byte a 4) refl) ∙ part-get m a 4 i h
  number-bytes int64 a inside i h = ap (λ l. get_or l i 0) (le_bytes_8 (slice_range m a (a + 8)) _ (range-length a 8 inside) (range-byte a 8) refl) ∙ part-get m a 8 i h

truth : (n : ℕ) → from_bool (not (n == 0)) ≡ min n 1
truth zero = refl
truth (suc n) = let e : (suc n == 0) ≡ false = ne_eqb (suc n) 0 (λ h. absurd (omega (arith, h))) in rw e (omega arith)

-- ---- a primitive

module _ (m : List ℕ) (bytes : AreBytes m) where
  -- a number that is written as it was read
  pub number-blends : (w : IntWidth) (n a : ℕ) (old : List ℕ) (at : ℕ) → n ≡ number_at m a (width_of w) → a + byte_len (width_of w) ≤ length m → at + byte_len (width_of w) ≤ length old
      → Blends (caps (byte_len (width_of w)) 255) m a old at (overwrite old at (to_le_bytes (width_of w) n))
  number-blends w n a old at e inside fits =
      let long = length-le_bytes (width_of w) n in
      write-blends (caps (byte_len (width_of w)) 255) m a old at (to_le_bytes (width_of w) n) (omega (arith, long, fits))
      (λ i h.
      let low : i < byte_len (width_of w) = omega (arith, long, h) in
      rw (caps-below (byte_len (width_of w)) 255 i low) (ap (λ k. get_or (to_le_bytes (width_of w) k) i 0) e ∙ number-bytes m bytes w a inside i low ∙ sym (taken (get_or old (at + i) 0) (get_or m (a + i) 0) (bytes (a + i)))))
      (λ i h. caps-past (byte_len (width_of w)) 255 i (omega (arith, long, h)))

  pub bool-blends : (a : ℕ) (old : List ℕ) (at : ℕ) → at + 1 ≤ length old
      → Blends (caps 1 1) m a old at (overwrite old at (to_le_bytes w8 (from_bool (not (number_at m a w8 == 0)))))
  bool-blends a old at fits =
      write-blends (caps 1 1) m a old at (to_le_bytes w8 (from_bool (not (number_at m a w8 == 0)))) fits told (λ i h. caps-past 1 1 i h)
    where
      told : (i : ℕ) → i < 1 → get_or (to_le_bytes w8 (from_bool (not (number_at m a w8 == 0)))) i 0 ≡ capped_byte (caps 1 1 i) (get_or old (at + i) 0) (get_or m (a + i) 0)
      told zero h =
          let e : a + 0 ≡ a = omega arith in
          let here : from_bool (not (number_at m a w8 == 0)) ≡ min (get_or m a 0) 1 = truth (number_at m a w8) ∙ ap (λ n. min n 1) (byte-at m a) in
          rw (e, here) (mod-eq_of_lt (omega arith))
      told (suc i) h = absurd (omega (arith, h))

  fits-signed : (w : IntWidth) (n : ℕ) → n < 2 ^ bits w → FitsSigned (width_of w) (cast_signed (width_of w) n)
  fits-signed int8 n h = sfits_to_z {w = w8} {n = n} (record { fits = h })
  fits-signed int16 n h = sfits_to_z {w = w16} {n = n} (record { fits = h })
  fits-signed int32 n h = sfits_to_z {w = w32} {n = n} (record { fits = h })
  fits-signed int64 n h = sfits_to_z {w = w64} {n = n} (record { fits = h })

  back-signed : (w : IntWidth) (n : ℕ) → n < 2 ^ bits w → cast_unsigned (width_of w) (cast_signed (width_of w) n) ≡ n
  back-signed int8 n h = of_z-to_z w8 n h
  back-signed int16 n h = of_z-to_z w16 n h
  back-signed int32 n h = of_z-to_z w32 n h
  back-signed int64 n h = of_z-to_z w64 n h

  -- what a primitive's bytes hold, and the bytes that are written for it
  pub record PrimCrosses (p : Prim) (a : ℕ) (old : List ℕ) (at : ℕ) : Type 0 where
    pub value : Value
    pub held : PrimIs p (number_at m a (prim_width p)) value
    pub typed : HasPrimType value p
    pub fits : at + length (to_le_bytes (prim_width p) (number_in (prim_width p) value)) ≤ length old
    pub blends : Blends (caps (byte_len (prim_width p)) (prim_cap p)) m a old at (overwrite old at (to_le_bytes (prim_width p) (number_in (prim_width p) value)))

  pub prim-crosses : (p : Prim) (a : ℕ) (old : List ℕ) (at : ℕ) → PrimTested p (number_at m a (prim_width p)) → a + byte_len (prim_width p) ≤ length m
      → at + byte_len (prim_width p) ≤ length old → PrimCrosses p a old at
  prim-crosses boolean a old at tested inside fits = record {
    value = bool_value (not (number_at m a w8 == 0));
    held = refl;
    typed = (not (number_at m a w8 == 0), refl);
    fits = fits;
    blends = bool-blends a old at fits;
  }
  prim-crosses (unsigned w) a old at tested inside fits =
      let n = number_at m a (width_of w) in
      record {
        value = unsigned_value w n;
        held = refl;
        typed = (n, number-small m bytes w a, refl);
        fits = omega (arith, length-le_bytes (width_of w) n, fits);
        blends = number-blends w n a old at refl inside fits;
      }
  prim-crosses (signed w) a old at tested inside fits =
      let n = number_at m a (width_of w) in
      let z = cast_signed (width_of w) n in
      record {
        value = signed_value w z;
        held = refl;
        typed = (z, fits-signed w n (number-small m bytes w a), refl);
        fits = omega (arith, length-le_bytes (width_of w) (cast_unsigned (width_of w) z), fits);
        blends = number-blends w (cast_unsigned (width_of w) z) a old at (back-signed w n (number-small m bytes w a)) inside fits;
      }
  prim-crosses scalar_value a old at tested inside fits =
      let n = number_at m a w32 in
      record {
        value = char_value n;
        held = (tested, refl);
        typed = (n, tested, refl);
        fits = fits;
        blends = number-blends int32 n a old at refl inside fits;
      }
