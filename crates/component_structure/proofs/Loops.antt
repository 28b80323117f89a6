-- Loops that read a turn in the state that the one before left.
use Rattle.std.proofs.Common.{◌≡◌, ℕ, zero, suc, ◌+◌, ◌-◌, ◌<◌, ◌≤◌, true, false, List, [], ◌∷◌, length, Result, Ok, Err, refl, sym, ◌∙◌, arith}
use Rattle.std.specs.Prelude.{◌==◌}
use Rattle.std.proofs.lemmas.Bool.{eqb-true}
use Rattle.atoms.specs.Production.{after}
use Rattle.component_structure.specs.declared.error.DecodeError.{DecodeError}
use Rattle.component_structure.specs.declared.error.DecodeError.TheVariants as errors
use Rattle.component_structure.specs.Bytes.{Bytes, Refuses, repeat, if_left}

module _ {S : Type 0} (p : S → Bytes S) where
  pub goes_on : (count i : ℕ) (state : S) (bytes : List ℕ) (x : S × List ℕ) (total : Result (S × List ℕ) DecodeError) → i < count → (p state).read bytes ≡ Ok x → (repeat (count - i) p state).read bytes ≡ total → (repeat (count - (i + 1)) p x.0).read x.1 ≡ total
  unfolding repeat
  goes_on count i state bytes x total lt h so_far =
      let k : count - i ≡ suc (count - (i + 1)) = omega arith in
      let one : (repeat (count - i) p state).read bytes ≡ (repeat (count - (i + 1)) p x.0).read x.1 = rw (k, h) refl in
      sym one ∙ so_far

  pub ends : (e : DecodeError) (count i : ℕ) (state : S) (bytes : List ℕ) (total : Result (S × List ℕ) DecodeError) → i < count → Refuses e ((p state).read bytes) → (repeat (count - i) p state).read bytes ≡ total → Refuses e total
  unfolding repeat
  ends errors.NoMemory count i state bytes total lt h so_far = tt
  ends (errors.At fault place) count i state bytes total lt h so_far =
      let k : count - i ≡ suc (count - (i + 1)) = omega arith in
      let one : (repeat (count - i) p state).read bytes ≡ Err (errors.At fault place) = rw (k, h) refl in
      sym so_far ∙ one

  pub is_done : (count i : ℕ) (state : S) (bytes : List ℕ) (total : Result (S × List ℕ) DecodeError) → count ≤ i → (repeat (count - i) p state).read bytes ≡ total → total ≡ Ok (state, bytes)
  unfolding repeat
  is_done count i state bytes total le so_far =
      let k : count - i ≡ 0 = omega arith in
      let one : (repeat (count - i) p state).read bytes ≡ Ok (state, bytes) = rw k refl in
      sym so_far ∙ one

-- a fault in the first part is that of both
pub refused_first : {A B : Type 0} (e : DecodeError) (r : Result A DecodeError) (f : A → Result B DecodeError) → Refuses e r → Refuses e (after r f)
refused_first errors.NoMemory r f h = tt
refused_first (errors.At fault place) r f h = rw h refl

-- p reads where bytes are left
pub left_reads : {S : Type 0} (p : S → Bytes S) (state : S) (bytes : List ℕ) → (length bytes == 0) ≡ false → (if_left p state).read bytes ≡ (p state).read bytes
left_reads p state [] h = cc
left_reads p state (b ∷ bytes) h = refl

-- at the end of the bytes nothing more is read
stays_at_end : {S : Type 0} (p : S → Bytes S) (n : ℕ) (state : S) → (repeat n (if_left p) state).read [] ≡ Ok (state, [])
unfolding repeat
stays_at_end p zero state = refl
stays_at_end p (suc n) state = stays_at_end p n state

pub is_at_end : {S : Type 0} (p : S → Bytes S) (n : ℕ) (state : S) (bytes : List ℕ) (total : Result (S × List ℕ) DecodeError) → (length bytes == 0) ≡ true → (repeat n (if_left p) state).read bytes ≡ total → total ≡ Ok (state, bytes)
is_at_end p n state [] total h so_far = sym so_far ∙ stays_at_end p n state
is_at_end p n state (b ∷ bytes) total h so_far = let none : length (b ∷ bytes) ≡ 0 = eqb-true (length (b ∷ bytes)) 0 h in absurd (omega arith)
