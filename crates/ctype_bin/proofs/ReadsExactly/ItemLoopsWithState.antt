-- Loops that read an item a turn, with a state.
use Rattle.std.proofs.Common.{◌≡◌, ℕ, suc, ◌+◌, ◌-◌, ◌<◌, ◌≤◌, List, [], ◌∷◌, ◌++◌, Result, Ok, Err, refl, sym, ap, ◌∙◌, append_assoc, arith}
use Rattle.std.proofs.lemmas.List.{append-nil}
use Rattle.ctype_format.specs.declared.error.Stuck.{Stuck}
use Rattle.ctype_format.specs.declared.error.ItemError.{ItemError}
use Rattle.ctype_format.specs.declared.error.ItemError.TheVariants as errors
use Rattle.atoms.specs.Production.{after, run}
use Rattle.ctype_format.specs.Bytes.{Bytes, Stops}

-- what was read before, and then what is read
abbrev pub with_front : {X S : Type 0} → List X → Result ((List X × S) × List ℕ) Stuck → Result ((List X × S) × List ℕ) Stuck
with_front front (Ok x) = Ok ((front ++ x.0.0, x.0.1), x.1)
with_front front (Err f) = Err f

pub with_front_nil : {X S : Type 0} (r : Result ((List X × S) × List ℕ) Stuck) → with_front [] r ≡ r
with_front_nil (Ok x) = refl
with_front_nil (Err f) = refl

with_front_cons : {X S : Type 0} (front : List X) (d : X) (r : Result ((List X × S) × List ℕ) Stuck) → with_front front (after r (λ y. Ok ((d ∷ y.0.0, y.0.1), y.1))) ≡ with_front (front ++ d ∷ []) r
with_front_cons front d (Ok y) = ap (λ (ds : List _). Ok ((ds, y.0.1), y.1)) (sym (append_assoc front (d ∷ []) y.0.0))
with_front_cons front d (Err f) = refl

module _ {X S : Type 0} (p : S → Bytes (X × S)) where
  pub goes_on : (front : List X) (count i : ℕ) (scope : S) (bytes : List ℕ) (x : (X × S) × List ℕ) (total : Result ((List X × S) × List ℕ) Stuck) → i < count → (p scope).read bytes ≡ Ok x → with_front front ((run p (count - i) scope).read bytes) ≡ total → with_front (front ++ x.0.0 ∷ []) ((run p (count - (i + 1)) x.0.1).read x.1) ≡ total
  unfolding run
  goes_on front count i scope bytes x total lt h so_far =
      let k : count - i ≡ suc (count - (i + 1)) = omega arith in
      let one : with_front front ((run p (count - i) scope).read bytes) ≡ with_front front (after ((run p (count - (i + 1)) x.0.1).read x.1) (λ y. Ok ((x.0.0 ∷ y.0.0, y.0.1), y.1))) = rw (k, h) refl in
      sym (with_front_cons front x.0.0 ((run p (count - (i + 1)) x.0.1).read x.1)) ∙ sym one ∙ so_far

  pub ends : (e : ItemError) (front : List X) (count i : ℕ) (scope : S) (bytes : List ℕ) (total : Result ((List X × S) × List ℕ) Stuck) → i < count → Stops e ((p scope).read bytes) → with_front front ((run p (count - i) scope).read bytes) ≡ total → Stops e total
  unfolding run
  ends errors.Memory front count i scope bytes total lt h so_far = tt
  ends (errors.Stuck f) front count i scope bytes total lt h so_far =
      let k : count - i ≡ suc (count - (i + 1)) = omega arith in
      let one : with_front front ((run p (count - i) scope).read bytes) ≡ Err f = rw (k, h) refl in
      sym so_far ∙ one

  pub is_done : (front : List X) (count i : ℕ) (scope : S) (bytes : List ℕ) (total : Result ((List X × S) × List ℕ) Stuck) → count ≤ i → with_front front ((run p (count - i) scope).read bytes) ≡ total → total ≡ Ok ((front, scope), bytes)
  unfolding run
  is_done front count i scope bytes total le so_far =
      let k : count - i ≡ 0 = omega arith in
      let one : with_front front ((run p (count - i) scope).read bytes) ≡ Ok ((front, scope), bytes) = rw k (ap (λ (ds : List X). Ok ((ds, scope), bytes)) (append-nil front)) in
      sym so_far ∙ one
