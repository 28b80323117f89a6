-- Ranges of addresses, and the flags of their units.
use Rattle.std.proofs.Common.{◌≡◌, ◌⊎◌, inl, inr, ◌+◌, ◌-◌, ◌*◌, ◌/◌, ◌%◌, ◌<◌, ◌≤◌, ℕ, zero, suc, Bool, true, false, cond, List, [], ◌∷◌, ◌++◌, take, drop, replicate, length, get_or, refl, sym, ap, ◌∙◌, subst, arith, length-append, length-drop}
use Rattle.std.specs.Prelude.{IsTrue, min, slice_range, nat_le, nat_lt, ◌&&◌}
use Rattle.std.proofs.lemmas.List.{get_or-take, get_or-drop, get_or_append_left, get_or-append_right, get_or-replicate, length-take-le, length-replicate}
use Rattle.std.proofs.lemmas.Bool.{cases_lt}
use Rattle.memory.specs.Units.{AreUnits}

-- behind the last flag they are false
pub get_or-past : (xs : List Bool) (i : ℕ) → length xs ≤ i → get_or xs i false ≡ false
get_or-past [] i h = refl
get_or-past (x ∷ xs) zero h = absurd (omega arith)
get_or-past (x ∷ xs) (suc i) h = get_or-past xs i (omega arith)

module _ (xs : List Bool) (start end : ℕ) (live : Bool) (rise : start ≤ end) (within : end ≤ length xs) where
  front : length (take start xs) ≡ start
  front = length-take-le start xs (omega arith)

  pub filled-before : (i : ℕ) → i < start → get_or (take start xs ++ (replicate (end - start) live ++ drop end xs)) i false ≡ get_or xs i false
  filled-before i h = get_or_append_left (take start xs) (replicate (end - start) live ++ drop end xs) false i (omega (arith, front)) ∙ get_or-take start xs i false h

  pub filled-within : (i : ℕ) → start ≤ i → i < end → get_or (take start xs ++ (replicate (end - start) live ++ drop end xs)) i false ≡ live
  filled-within i h q =
      get_or-append_right (take start xs) (replicate (end - start) live ++ drop end xs) start i false front h
      ∙ get_or_append_left (replicate (end - start) live) (drop end xs) false (i - start) (omega (arith, length-replicate (end - start) live))
      ∙ get_or-replicate (end - start) (i - start) live false (omega arith)

  pub filled-after : (i : ℕ) → end ≤ i → get_or (take start xs ++ (replicate (end - start) live ++ drop end xs)) i false ≡ get_or xs i false
  filled-after i h =
      get_or-append_right (take start xs) (replicate (end - start) live ++ drop end xs) start i false front (omega arith)
      ∙ get_or-append_right (replicate (end - start) live) (drop end xs) (end - start) (i - start) false (length-replicate (end - start) live) (omega arith)
      ∙ get_or-drop end xs (i - start - (end - start)) false
      ∙ ap (λ k. get_or xs k false) (let e : end + (i - start - (end - start)) ≡ i = omega arith in e)

-- a part of the flags, by its places
module _ (xs : List Bool) (start end : ℕ) (rise : start ≤ end) (within : end ≤ length xs) where
  pub in_part : (k : ℕ) → k < end - start → get_or (slice_range xs start end) k false ≡ get_or xs (start + k) false
  in_part k h = get_or-take (end - start) (drop start xs) k false h ∙ get_or-drop start xs k false

  pub length-part : length (slice_range xs start end) ≡ end - start
  length-part = length-take-le (end - start) (drop start xs) (omega (arith, length-drop start xs))

-- the part of the flags that a range of addresses has, and whether each is the same one
module _ (xs : List Bool) (from to end start : ℕ) (live : Bool) (begins : from % 8 ≡ 0) (ends : to % 8 ≡ 0) (within : (live ≡ false) ⊎ (to ≤ 8 * length xs))
    (end_is : end ≡ min (length xs) (to / 8)) (start_is : start ≡ min end (from / 8)) where
  pub all_alike : ((k : ℕ) → k < length (slice_range xs start end) → get_or (slice_range xs start end) k false ≡ live) → AreUnits xs from to live
  all_alike all a low high = elim (cases_lt (a / 8) (length xs)) [
    | inl below ↦
        let k : a / 8 - start < end - start = omega arith in
        sym (let e : start + (a / 8 - start) ≡ a / 8 = omega arith in ap (λ i. get_or xs i false) e) ∙ sym (in_part xs start end (omega arith) (omega arith) (a / 8 - start) k)
        ∙ all (a / 8 - start) (omega (arith, length-part xs start end (omega arith) (omega arith)))
    | inr past ↦ elim within [
      | inl dead ↦ get_or-past xs (a / 8) past ∙ sym dead
      | inr inside ↦ absurd (omega arith)
    ]
  ]

  pub not_alike : (k : ℕ) → k < length (slice_range xs start end) → (get_or (slice_range xs start end) k false ≡ live → ⊥) → AreUnits xs from to live → ⊥
  not_alike k below other all =
      let l = length-part xs start end (omega arith) (omega arith) in
      other (in_part xs start end (omega arith) (omega arith) k (omega arith) ∙ ap (λ i. get_or xs i false) (let e : start + k ≡ (8 * (start + k)) / 8 = omega arith in e) ∙ all (8 * (start + k)) (omega arith) (omega arith))

-- what is not false is true
pub is_true : (b : Bool) → (b ≡ false → ⊥) → IsTrue b
is_true true other = refl
is_true false other = absurd (other refl)
