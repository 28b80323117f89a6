-- Bools and numbers that cross as they are.
use Rattle.std.proofs.Common.{◌≡◌, ℕ, ◌+◌, ◌*◌, ◌<◌, ◌≤◌, List, length, replicate, get_or, refl, sym, ap, ◌∙◌, arith}
use Rattle.std.specs.Prelude.{slice_range}
use Rattle.std.proofs.lemmas.List.{get_or-replicate}
use Rattle.canonical_abi.specs.Types.{int8, int16, int32, int64, Prim, boolean, unsigned, signed, scalar_value, prim_type}
use Rattle.canonical_abi.specs.Layout.{size}
use Rattle.canonical_abi.specs.Guest.{Memory, Allocation, overwrite, with_bytes}
use Rattle.values.specs.Bytes.{AreBytes}
use Rattle.ranges.specs.Bytewise.{IsNumber, prim_cap, IsTested, HasCaps, Crosses}
use Rattle.ranges.proofs.CapsAndBlends.{caps-below}
use Rattle.ranges.proofs.FrontsThatCrossed.{upto, periodic, same-caps, front-crosses, range-front, as-they-are, ones-and-zeros}

pub bool-caps : HasCaps (prim_type boolean) 1 (replicate 256 1)
bool-caps = record { step_is = refl; caps_are = λ m a i h. get_or-replicate 256 i 1 0 (omega (arith, h)) ∙ sym (caps-below 1 1 i h) }

pub bools-cross : (allocates : Allocation) (m : List ℕ) (a n : ℕ) (old : Memory) (at : ℕ) (new : Memory) → AreBytes m → a + n ≤ length m → at + n ≤ length old.bytes
    → ((i : ℕ) → i < n → get_or m (a + i) 0 ≤ 1) → new ≡ with_bytes old (overwrite old.bytes at (slice_range m a (a + n))) → Crosses (prim_type boolean) m a n allocates old at new
bools-cross allocates m a n old at new bytes inside fits plain wrote =
    let all : n * 1 ≡ n = omega arith in
    let cap = periodic (replicate 256 1) 1 in
    front-crosses allocates (prim_type boolean) m a n old at n cap new bytes tt
    (λ i. same-caps (prim_type boolean) m 1 (replicate 256 1) (omega arith) bool-caps n a i ∙ ap (λ k. upto cap k i) all)
    (λ i h. tt) (omega (arith, all, inside)) (omega (arith, all, fits))
    (range-front (replicate 256 1) 1 m a old at n new (λ j h. ones-and-zeros (replicate 256 1) m a old.bytes at j (get_or-replicate 256 0 1 0 (omega arith)) (plain j h)) inside fits wrote)

-- a number has at most eight bytes
number-few : (p : Prim) → IsNumber p → size (prim_type p) ≤ 8
number-few boolean n = omega arith
number-few (unsigned int8) n = omega arith
number-few (unsigned int16) n = omega arith
number-few (unsigned int32) n = omega arith
number-few (unsigned int64) n = omega arith
number-few (signed int8) n = omega arith
number-few (signed int16) n = omega arith
number-few (signed int32) n = omega arith
number-few (signed int64) n = omega arith
number-few scalar_value n = omega arith

number-some : (p : Prim) → IsNumber p → 0 < size (prim_type p)
number-some boolean n = omega arith
number-some (unsigned int8) n = omega arith
number-some (unsigned int16) n = omega arith
number-some (unsigned int32) n = omega arith
number-some (unsigned int64) n = omega arith
number-some (signed int8) n = omega arith
number-some (signed int16) n = omega arith
number-some (signed int32) n = omega arith
number-some (signed int64) n = omega arith
number-some scalar_value n = omega arith

number-cap : (p : Prim) → IsNumber p → prim_cap p ≡ 255
number-cap boolean n = absurd n
number-cap (unsigned w) n = refl
number-cap (signed w) n = refl
number-cap scalar_value n = refl

-- any bits stand for a number
number-tested : (p : Prim) → IsNumber p → (m : List ℕ) (a : ℕ) → IsTested (prim_type p) m a
number-tested boolean n m a = tt
number-tested (unsigned w) n m a = tt
number-tested (signed w) n m a = tt
number-tested scalar_value n m a = absurd n

number-caps : (p : Prim) → IsNumber p → (k : ℕ) → k ≡ size (prim_type p) → HasCaps (prim_type p) k (replicate 8 255)
number-caps p number k is = record {
  step_is = is;
  caps_are = λ m a i h.
      let below : i < size (prim_type p) = omega (arith, h, is) in
      get_or-replicate 8 i 255 0 (omega (arith, below, number-few p number)) ∙ sym (caps-below (size (prim_type p)) (prim_cap p) i below ∙ number-cap p number);
}

pub numbers-cross : (allocates : Allocation) (p : Prim) → IsNumber p → (k : ℕ) → k ≡ size (prim_type p) → (m : List ℕ) (a n : ℕ) (old : Memory) (at : ℕ) (new : Memory) → AreBytes m → a + n * k ≤ length m → at + n * k ≤ length old.bytes
    → new ≡ with_bytes old (overwrite old.bytes at (slice_range m a (a + n * k))) → Crosses (prim_type p) m a n allocates old at new
numbers-cross allocates p number k is m a n old at new bytes inside fits wrote =
    let t = prim_type p in
    let some : 0 < k = omega (arith, number-some p number, is) in
    let total : n * k ≡ n * size t = ap (λ s. n * s) is in
    let has = number-caps p number k is in
    let whole : (i : ℕ) → i < k → get_or (replicate 8 255) i 0 ≡ 255 = λ i h. get_or-replicate 8 i 255 0 (omega (arith, h, is, number-few p number)) in
    front-crosses allocates t m a n old at (n * k) (periodic (replicate 8 255) k) new bytes (tt) (λ i. same-caps t m k (replicate 8 255) some has n a i)
    (λ i h. number-tested p number m (a + i * size t)) (omega (arith, total, inside)) (omega (arith, total, fits))
    (range-front (replicate 8 255) k m a old at (n * k) new (λ j h. as-they-are (replicate 8 255) k m a old.bytes at j some bytes whole) inside fits wrote)
