-- Loops that read an item a turn.
use Rattle.std.proofs.Common.{◌≡◌, ℕ, suc, ◌+◌, ◌-◌, ◌<◌, ◌≤◌, List, [], ◌∷◌, ◌++◌, Result, Ok, Err, refl, sym, ap, ◌∙◌, append_assoc, arith}
use Rattle.std.proofs.lemmas.List.{append-nil}
use Rattle.ctype_format.specs.declared.error.Stuck.{Stuck}
use Rattle.ctype_format.specs.declared.error.ItemError.{ItemError}
use Rattle.ctype_format.specs.declared.error.ItemError.TheVariants as errors
use Rattle.atoms.specs.Production.{after, times}
use Rattle.ctype_format.specs.Bytes.{Bytes, Stops}

-- what was read before, and then what is read
abbrev pub with_front : {X : Type 0} → List X → Result (List X × List ℕ) Stuck → Result (List X × List ℕ) Stuck
with_front front (Ok x) = Ok (front ++ x.0, x.1)
with_front front (Err f) = Err f

with_front_nil : {X : Type 0} (r : Result (List X × List ℕ) Stuck) → with_front [] r ≡ r
with_front_nil (Ok x) = refl
with_front_nil (Err f) = refl

with_front_cons : {X : Type 0} (front : List X) (x : X) (r : Result (List X × List ℕ) Stuck) → with_front front (after r (λ y. Ok (x ∷ y.0, y.1))) ≡ with_front (front ++ x ∷ []) r
with_front_cons front x (Ok y) = ap (λ (ys : List _). Ok (ys, y.1)) (sym (append_assoc front (x ∷ []) y.0))
with_front_cons front x (Err f) = refl

module _ {X : Type 0} (p : Bytes X) where
  pub begins : (n : ℕ) (bytes : List ℕ) → with_front [] ((times n p).read bytes) ≡ (times n p).read bytes
  begins n bytes = with_front_nil ((times n p).read bytes)

  pub goes_on : (front : List X) (count i : ℕ) (bytes : List ℕ) (x : X × List ℕ) (total : Result (List X × List ℕ) Stuck) → i < count → p.read bytes ≡ Ok x → with_front front ((times (count - i) p).read bytes) ≡ total → with_front (front ++ x.0 ∷ []) ((times (count - (i + 1)) p).read x.1) ≡ total
  unfolding times
  goes_on front count i bytes x total lt h so_far =
      let k : count - i ≡ suc (count - (i + 1)) = omega arith in
      let one : with_front front ((times (count - i) p).read bytes) ≡ with_front front (after ((times (count - (i + 1)) p).read x.1) (λ y. Ok (x.0 ∷ y.0, y.1))) = rw (k, h) refl in
      sym (with_front_cons front x.0 ((times (count - (i + 1)) p).read x.1)) ∙ sym one ∙ so_far

  pub ends : (e : ItemError) (front : List X) (count i : ℕ) (bytes : List ℕ) (total : Result (List X × List ℕ) Stuck) → i < count → Stops e (p.read bytes) → with_front front ((times (count - i) p).read bytes) ≡ total → Stops e total
  unfolding times
  ends errors.Memory front count i bytes total lt h so_far = tt
  ends (errors.Stuck f) front count i bytes total lt h so_far =
      let k : count - i ≡ suc (count - (i + 1)) = omega arith in
      let one : with_front front ((times (count - i) p).read bytes) ≡ Err f = rw (k, h) refl in
      sym so_far ∙ one

  pub is_done : (front : List X) (count i : ℕ) (bytes : List ℕ) (total : Result (List X × List ℕ) Stuck) → count ≤ i → with_front front ((times (count - i) p).read bytes) ≡ total → total ≡ Ok (front, bytes)
  unfolding times
  is_done front count i bytes total le so_far =
      let k : count - i ≡ 0 = omega arith in
      let one : with_front front ((times (count - i) p).read bytes) ≡ Ok (front, bytes) = rw k (ap (λ (xs : List X). Ok (xs, bytes)) (append-nil front)) in
      sym so_far ∙ one
