-- Inputs that stand one after another, and what is left of the bytes behind some of them.
use Rattle.std.proofs.Common.{◌≡◌, ◌<◌, ◌≤◌, ℕ, suc, ◌+◌, List, [], ◌∷◌, ◌++◌, length, map, take, drop, get_or, ap, sym, ◌∙◌, arith}
use Rattle.std.specs.Prelude.{sum}
use Rattle.std.specs.List.{concat, sum_by}
use Rattle.std.proofs.Math.Seq.{take-suc}
use Rattle.std.proofs.lemmas.List.{append_assoc, append-nil, length-append, map-append, map-id, take_all, take-append-drop}
use Rattle.std.proofs.lemmas.List.Concat.{length-flat_map, concat_is}
use Rattle.std.proofs.lemmas.List.Folds.{concat-append}
use Rattle.std.proofs.lemmas.List.Sums.{sum-map, sum_by_more_le}
use Rattle.c_border.specs.Inputs.{ArePieces}

length-concat : (xs : List (List ℕ)) → length (concat xs) ≡ sum (map length xs)
length-concat xs = ap length (concat_is xs) ∙ length-flat_map (λ x. x) xs ∙ sym (sum-map length xs)

sum-is : (ns : List ℕ) → sum ns ≡ sum_by (λ n. n) ns
sum-is ns = ap sum (sym (map-id ns)) ∙ sum-map (λ n. n) ns

-- so many lengths, and one more, are within the whole
sum-more : (ns : List ℕ) (k : ℕ) → k < length ns → sum (take k ns) + get_or ns k 0 ≤ sum ns
sum-more ns k h = let front = sum-is (take k ns) in let all = sum-is ns in let more = sum_by_more_le (λ n. n) ns k 0 h in omega (arith, front, all, more)

module _ (bytes lengths : List ℕ) (k : ℕ) (inputs : List (List ℕ)) (rest : List ℕ) (e : map length inputs ≡ take k lengths) (b : concat inputs ++ rest ≡ bytes) where
  taken : sum (take k lengths) + length rest ≡ length bytes
  taken = ap (λ n. n + length rest) (ap sum (sym e) ∙ sym (length-concat inputs)) ∙ sym (length-append (concat inputs) rest) ∙ ap length b

  whole : (other : List (List ℕ)) → ArePieces bytes lengths other → sum lengths ≡ length bytes
  whole other p = ap sum (sym p.lengths_are) ∙ sym (length-concat other) ∙ ap length p.bytes_are

  -- the next input is longer than what is left
  pub too-long : k < length lengths → length rest < get_or lengths k 0 → (other : List (List ℕ)) → ArePieces bytes lengths other → ⊥
  too-long h long other p = let w = whole other p in let t = taken in let m = sum-more lengths k h in omega (arith, w, t, m, long)

  -- bytes are left behind the last
  pub too-many : length lengths ≤ k → 0 < length rest → (other : List (List ℕ)) → ArePieces bytes lengths other → ⊥
  too-many h some other p = let w = whole other p in let t = ap sum (sym (take_all k lengths h)) in let u = taken in omega (arith, w, t, u, some)

-- the next input is put behind the others
pub one-more : (bytes lengths : List ℕ) (k : ℕ) (inputs new : List (List ℕ)) (rest input others : List ℕ) → new ≡ inputs ++ input ∷ [] → map length inputs ≡ take k lengths
    → concat inputs ++ rest ≡ bytes → k < length lengths → length input ≡ get_or lengths k 0 → input ≡ take (get_or lengths k 0) rest → others ≡ drop (get_or lengths k 0) rest
    → (map length new ≡ take (k + 1) lengths) × (concat new ++ others ≡ bytes)
one-more bytes lengths k inputs new rest input others n e b h l i o = (
  ap (map length) n ∙ map-append length inputs (input ∷ []) ∙ ap (λ ns. ns ++ length input ∷ []) e ∙ ap (λ n. take k lengths ++ n ∷ []) l ∙ sym (take-suc lengths k 0 h)
      ∙ ap (λ n. take n lengths) (next k),
  ap (λ ns. concat ns ++ others) n ∙ ap (λ bs. bs ++ others) (concat-append inputs (input ∷ []) ∙ ap (λ bs. concat inputs ++ bs) (append-nil input))
      ∙ append_assoc (concat inputs) input others ∙ ap (λ bs. concat inputs ++ bs) (ap (λ bs. bs ++ others) i ∙ ap (λ bs. take (get_or lengths k 0) rest ++ bs) o ∙ take-append-drop (get_or lengths k 0) rest) ∙ b,
)
  where
    next : (k : ℕ) → suc k ≡ k + 1
    next k = omega arith
