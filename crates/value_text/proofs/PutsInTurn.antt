-- Texts put behind one another.
use Rattle.std.proofs.Common.{◌≡◌, ◌+◌, ◌≤◌, ℕ, List, ◌++◌, length, take, drop, sym, ap, ◌∙◌, append_assoc, arith, length-append, Result, Ok, Err}
use Rattle.std.proofs.Math.Seq.{take-append_seam}
use Rattle.std.proofs.lemmas.List.{length-take-le}
use Rattle.std.proofs.lemmas.Slice.{drop-append-drop}
use Rattle.value_text.specs.Puts.{Puts, PutsWithin}

module _ (old : List ℕ) (at : ℕ) (a mid : List ℕ) (m : ℕ) (b new : List ℕ) (n : ℕ) where
  standing : m ≡ at + length a → n ≡ m + length b → n ≤ length old → mid ≡ take at old ++ (a ++ drop m old) → new ≡ take m mid ++ (b ++ drop n mid)
      → new ≡ take at old ++ ((a ++ b) ++ drop n old)
  standing is_m is_n fits first second =
      let front = take at old ++ a in
      let long : length front ≡ m = omega (arith, is_m, length-append (take at old) a, length-take-le at old (omega (arith, is_m, is_n, fits))) in
      let whole : mid ≡ front ++ drop m old = first ∙ sym (append_assoc (take at old) a (drop m old)) in
      let before : take m mid ≡ front = ap (take m) whole ∙ ap (λ k. take k (front ++ drop m old)) (sym long) ∙ take-append_seam front (drop m old) in
      let behind : drop n mid ≡ drop n old = ap (drop n) whole ∙ drop-append-drop m old front n (omega (arith, is_n)) long in
      second ∙ ap (λ xs. xs ++ (b ++ drop n mid)) before ∙ ap (λ xs. front ++ (b ++ xs)) behind ∙ append_assoc (take at old) a (b ++ drop n old)
      ∙ ap (λ xs. take at old ++ xs) (sym (append_assoc a b (drop n old)))

  pub puts-then : Puts a old at mid m → Puts b mid m new n → Puts (a ++ b) old at new n
  puts-then (is_m, same_m, stands_m) (is_n, same_n, stands_n) = (
    omega (arith, is_m, is_n, length-append a b),
    same_n ∙ same_m,
    λ fits. standing is_m is_n fits (stands_m (omega (arith, fits, is_n))) (stands_n (omega (arith, fits, same_m))),
  )

pub within-then : {E : Type 0} → (limit : ℕ) (old : List ℕ) (at : ℕ) (a mid : List ℕ) (m : ℕ) (b new : List ℕ) (done : Result ℕ E)
    → Puts a old at mid m → PutsWithin limit b mid m done new → PutsWithin limit (a ++ b) old at done new
within-then limit old at a mid m b new (Ok n) first (second, fits) = (puts-then old at a mid m b new n first second, fits)
within-then limit old at a mid m b new (Err e) (is_m, rest, more) second = omega (arith, is_m, second, length-append a b)
