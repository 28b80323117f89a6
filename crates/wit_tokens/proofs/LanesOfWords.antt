-- From the mask of two loads, of which one is a byte ahead, to the bytes that go on a word.
use Rattle.std.proofs.Common.{◌≡◌, ℕ, ◌+◌, ◌-◌, ◌%◌, ◌^◌, ◌<◌, ◌≤◌, eqb, ltb, Bool, true, false, not, ◌&&◌, ◌||◌, cond, bit_and, bit_or, List, [], ◌∷◌, map, length, get_or, refl, sym, ap, ◌∙◌, subst, arith}
use Rattle.std.proofs.lemmas.Bool.Decides.{nat_tests}
use Rattle.std.proofs.lemmas.Simd.{map-map, mask_l-mod, length-chunk, get_or-chunk, get_or-zip2, length-zip2, first_set_mask_l}
use Rattle.std.proofs.lemmas.List.{length-map}
use Rattle.std.proofs.lemmas.List.Sums.{prefix_len-le-length, prefix_len_passes, prefix_len_stops}
use Rattle.std.specs.List.{prefix_len}
use lib.Lanes.{chunk, zip2, mask_l, top}
use Rattle.wit_tokens.specs.LowerWords.{goes_on, first_set, GoOn}

abbrev pub pairs : List ℕ → List ℕ → List (ℕ × ℕ)
pairs xs ys = zip2 (λ (x y : ℕ). (x, y)) xs ys

pub length-pairs : (xs ys : List ℕ) (n : ℕ) → length xs ≡ n → length ys ≡ n → length (pairs xs ys) ≡ n
length-pairs xs ys n e f = length-zip2 (λ (x y : ℕ). (x, y)) xs ys (e ∙ sym f) ∙ e

pub firsts : (xs ys : List ℕ) (n : ℕ) → length xs ≡ n → length ys ≡ n → xs ≡ map (λ (p : ℕ × ℕ). p.0) (pairs xs ys)
firsts [] ys n e f = refl
firsts (x ∷ xs) [] n e f = absurd (omega arith)
firsts (x ∷ xs) (y ∷ ys) n e f = ap (λ r. x ∷ r) (firsts xs ys (n - 1) (omega arith) (omega arith))

pub seconds : (xs ys : List ℕ) (n : ℕ) → length xs ≡ n → length ys ≡ n → ys ≡ map (λ (p : ℕ × ℕ). p.1) (pairs xs ys)
seconds [] [] n e f = refl
seconds [] (y ∷ ys) n e f = absurd (omega arith)
seconds (x ∷ xs) [] n e f = absurd (omega arith)
seconds (x ∷ xs) (y ∷ ys) n e f = ap (λ r. y ∷ r) (seconds xs ys (n - 1) (omega arith) (omega arith))

-- ---- lanes of all ones or 0

abbrev pub lane : Bool → ℕ
lane b = cond b 255 0

either : (a b : Bool) → bit_or (lane a) (lane b) ≡ lane (a || b)
either true true = refl
either true false = refl
either false true = refl
either false false = refl

both : (a b : Bool) → bit_and (lane a) (lane b) ≡ lane (a && b)
both true true = refl
both true false = refl
both false true = refl
both false false = refl

tops : (b : Bool) → top 7 (lane b) ≡ b
tops true = refl
tops false = refl

-- the lane of a byte and the one before it
abbrev pub stop_lane : ℕ × ℕ → ℕ
stop_lane p = bit_and (bit_or (lane (ltb p.1 97)) (lane (ltb 122 p.1))) (bit_or (bit_and (bit_or (lane (ltb p.1 48)) (lane (ltb 57 p.1))) (lane (not (eqb p.1 45)))) (lane (eqb p.0 45)))

abbrev stops : ℕ → ℕ → Bool
stops before here = (ltb here 97 || ltb 122 here) && (((ltb here 48 || ltb 57 here) && not (eqb here 45)) || eqb before 45)

of_lanes : (p q r s t u : Bool) → top 7 (bit_and (bit_or (lane p) (lane q)) (bit_or (bit_and (bit_or (lane r) (lane s)) (lane t)) (lane u))) ≡ ((p || q) && (((r || s) && t) || u))
of_lanes p q r s t u =
    rw (either p q, either r s, both (r || s) t, either ((r || s) && t) u, both (p || q) (((r || s) && t) || u)) (tops ((p || q) && (((r || s) && t) || u)))

twice : (b : Bool) → b ≡ not (not b)
twice true = refl
twice false = refl

no_stop : (before here : ℕ) → stops before here ≡ not (goes_on before here)
no_stop before here = grind (arith, nat_tests)

-- a lane stops just where the byte doesn't go on a word
meaning : (p : ℕ × ℕ) → top 7 (stop_lane p) ≡ not (goes_on p.0 p.1)
meaning p = of_lanes (ltb p.1 97) (ltb 122 p.1) (ltb p.1 48) (ltb 57 p.1) (not (eqb p.1 45)) (eqb p.0 45) ∙ no_stop p.0 p.1

module _ (d : List ℕ) (i r : ℕ) (z : List ℕ) (room : i + 16 < length d) (found : r ≡ first_set (mask_l (map (top 7) z) % 2 ^ 64)) (lanes : z ≡ map stop_lane (pairs (chunk i 16 d) (chunk (i + 1) 16 d))) where
  abbrev vs : List (ℕ × ℕ)
  vs = pairs (chunk i 16 d) (chunk (i + 1) 16 d)

  abbrev stopped : ℕ × ℕ → Bool
  stopped p = top 7 (stop_lane p)

  long : length vs ≡ 16
  long = length-pairs (chunk i 16 d) (chunk (i + 1) 16 d) 16 (length-chunk i 16 d (omega arith)) (length-chunk (i + 1) 16 d (omega arith))

  counted : r ≡ prefix_len (λ p. not (stopped p)) vs
  counted =
      let mask = ap (λ l. mask_l l % 2 ^ 64) (ap (map (top 7)) lanes ∙ map-map (top 7) stop_lane vs) ∙ mask_l-mod (map stopped vs) 64 (omega (arith, length-map vs stopped, long)) in
      found ∙ (ap first_set mask ∙ first_set_mask_l stopped vs 16 long (omega arith))

  bound : r ≤ 16
  bound = omega (arith, counted, long, prefix_len-le-length (λ p. not (stopped p)) vs)

  pair_at : (k : ℕ) → k < 16 → get_or vs k (0, 0) ≡ (get_or d (i + k) 0, get_or d (i + 1 + k) 0)
  pair_at k h =
      get_or-zip2 (λ (x y : ℕ). (x, y)) (chunk i 16 d) (chunk (i + 1) 16 d) k 0 0 (0, 0) (omega (arith, length-chunk i 16 d (omega arith))) (omega (arith, length-chunk (i + 1) 16 d (omega arith)))
      ∙ (ap (λ x. (x, get_or (chunk (i + 1) 16 d) k 0)) (get_or-chunk i 16 d k 0 h) ∙ ap (λ y. (get_or d (i + k) 0, y)) (get_or-chunk (i + 1) 16 d k 0 h))

  goes : (k : ℕ) → k < 16 → (b : Bool) → not (stopped (get_or vs k (0, 0))) ≡ b → goes_on (get_or d (i + k) 0) (get_or d (i + 1 + k) 0) ≡ b
  goes k h b e =
      let here : goes_on (get_or vs k (0, 0)).0 (get_or vs k (0, 0)).1 ≡ b = twice (goes_on (get_or vs k (0, 0)).0 (get_or vs k (0, 0)).1) ∙ (sym (ap not (meaning (get_or vs k (0, 0)))) ∙ e) in
      subst (λ (p : ℕ × ℕ). goes_on p.0 p.1 ≡ b) (pair_at k h) here

  pub go_on : GoOn d i r
  go_on = record {
    few = bound;
    on = λ k h. goes k (omega (arith, bound)) true (prefix_len_passes (λ p. not (stopped p)) vs k (0, 0) (omega (arith, counted)));
    ends = λ short. goes r short false (subst (λ n. not (stopped (get_or vs n (0, 0))) ≡ false) (sym counted) (prefix_len_stops (λ p. not (stopped p)) vs (0, 0) (omega (arith, counted, long))));
  }
