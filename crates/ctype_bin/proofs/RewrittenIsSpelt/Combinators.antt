-- What is written of a value spells it, where anything does: combinators.
use Rattle.std.proofs.Common.{◌≡◌, ℕ, zero, suc, ◌+◌, Bool, true, false, List, [], ◌∷◌, ◌++◌, length, drop, Option, refl, sym, ap, ◌∙◌, arith}
use Rattle.std.proofs.lemmas.List.{length-append, append-nil}
use Rattle.atoms.specs.Production.{give, ◌>>=◌, when, times, run}
use Rattle.ctype_format.specs.declared.error.Fault.{Fault}
use Rattle.ctype_bin.specs.Exactness.{Written}
use Rattle.ctype_format.specs.Bytes.{Bytes, byte, several, only_bytes}
use Rattle.ctype_format.specs.Writing.{each}

pub written-then : {X Y : Type 0} (p : Bytes X) (q : X → Bytes Y) (wp : X → List ℕ) (wq : X → Y → List ℕ) (w : Y → List ℕ) → Written p wp → ((x : X) → Written (q x) (wq x))
    → ((x : X) (y : Y) (front back : List ℕ) → p.spells front x → (q x).spells back y → w y ≡ wp x ++ wq x y) → Written (p >>= q) w
written-then p q wp wq w ep eq join = record {
  spelt = λ bytes y s. (wp s.2, wq s.2 y, s.2, join s.2 y s.0 s.1 s.4 s.5, ep.spelt s.0 s.2 s.4, (eq s.2).spelt s.1 y s.5);
  short = λ bytes y s.
      let whole : length (w y) ≡ length (wp s.2) + length (wq s.2 y) = ap (λ (l : List ℕ). length l) (join s.2 y s.0 s.1 s.4 s.5) ∙ length-append (wp s.2) (wq s.2 y) in
      let parts : length bytes ≡ length s.0 + length s.1 = ap (λ (l : List ℕ). length l) s.3 ∙ length-append s.0 s.1 in
      let a = ep.short s.0 s.2 s.4 in
      let b = (eq s.2).short s.1 y s.5 in
      omega (arith, whole, parts, a, b);
}

pub written-give : {X : Type 0} (x : X) (w : X → List ℕ) → w x ≡ [] → Written (give x) w
written-give x w none = record {
  spelt = λ bytes y s. (rw s.1 none, s.1);
  short = λ bytes y s. let e : w y ≡ [] = rw s.1 none in rw e (omega arith);
}

pub written-gives : {X Y : Type 0} (p : Bytes X) (f : X → Y) (wp : X → List ℕ) (w : Y → List ℕ) → Written p wp → ((x : X) → w (f x) ≡ wp x) → Written (p >>= λ x. give (f x)) w
written-gives p f wp w ep same = record {
  spelt = λ bytes y s. (wp s.2, [], s.2, rw s.5.1 (same s.2 ∙ sym (append-nil (wp s.2))), ep.spelt s.0 s.2 s.4, (refl, s.5.1));
  short = λ bytes y s.
      let a = ep.short s.0 s.2 s.4 in
      let e : length (w y) ≡ length (wp s.2) = rw s.5.1 (ap (λ (l : List ℕ). length l) (same s.2)) in
      let parts : length bytes ≡ length s.0 + length s.1 = ap (λ (l : List ℕ). length l) s.3 ∙ length-append s.0 s.1 in
      omega (arith, e, a, parts);
}

pub written-only : {X : Type 0} (p : Bytes X) (fault : X → Option Fault) (w : X → List ℕ) → Written p w → Written (only_bytes p fault) w
written-only p fault w ep = record { spelt = λ bytes x s. (ep.spelt bytes x s.0, s.1); short = λ bytes x s. ep.short bytes x s.0 }

pub written-when : {X : Type 0} (test : Bool) (p q : Bytes X) (w : X → List ℕ) → Written p w → Written q w → Written (when test p q) w
written-when true p q w ep eq = record { spelt = λ bytes x s. ep.spelt bytes x s; short = λ bytes x s. ep.short bytes x s }
written-when false p q w ep eq = record { spelt = λ bytes x s. eq.spelt bytes x s; short = λ bytes x s. eq.short bytes x s }

abbrev pub one_byte : ℕ → List ℕ
one_byte b = b ∷ []

pub written-byte : Written byte one_byte
written-byte = record { spelt = λ bytes b s. (refl, refl); short = λ bytes b s. rw s.0 (omega arith) }

abbrev pub itself : List ℕ → List ℕ
itself text = text

pub written-several : (n : ℕ) → Written (several n) itself
written-several n = record { spelt = λ bytes x s. (rw s.1 s.0, refl); short = λ bytes x s. rw s.1 (omega arith) }

-- ---- lists

pub written-times : {X : Type 0} (n : ℕ) (p : Bytes X) (w : X → List ℕ) → Written p w → Written (times n p) (each w)
unfolding times
written-times zero p w ep = written-give [] (each w) refl
written-times (suc n) p w ep = written-then p (λ x. times n p >>= λ xs. give (x ∷ xs)) w (λ x ys. each w (drop 1 ys)) (each w) ep
    (λ x. written-gives (times n p) (λ xs. x ∷ xs) (each w) (λ ys. each w (drop 1 ys)) (written-times n p w ep) (λ xs. refl))
    (λ x ys front back sp sq. rw sq.5.1 refl)

pub times-length : {X : Type 0} (n : ℕ) (p : Bytes X) (bytes : List ℕ) (xs : List X) → (times n p).spells bytes xs → length xs ≡ n
unfolding times
times-length zero p bytes xs s = rw s.1 refl
times-length (suc n) p bytes xs s = let ih = times-length n p s.5.0 s.5.2 s.5.4 in rw s.5.5.1 (ap suc ih)

pub written-run : {X S : Type 0} (p : S → Bytes (X × S)) (w : X → List ℕ) → ((s : S) → Written (p s) (λ y. w y.0)) → (n : ℕ) (state : S) → Written (run p n state) (λ y. each w y.0)
unfolding run
written-run p w ep zero state = written-give ([], state) (λ y. each w y.0) refl
written-run p w ep (suc n) state = written-then (p state) (λ first. run p n first.1 >>= λ others. give (first.0 ∷ others.0, others.1)) (λ y. w y.0) (λ first y. each w (drop 1 y.0)) (λ y. each w y.0) (ep state)
    (λ first. written-gives (run p n first.1) (λ others. (first.0 ∷ others.0, others.1)) (λ y. each w y.0) (λ y. each w (drop 1 y.0)) (written-run p w ep n first.1) (λ others. refl))
    (λ first y front back sp sq. rw sq.5.1 refl)

pub run-length : {X S : Type 0} (p : S → Bytes (X × S)) (n : ℕ) (state : S) (bytes : List ℕ) (y : List X × S) → (run p n state).spells bytes y → length y.0 ≡ n
unfolding run
run-length p zero state bytes y s = rw s.1 refl
run-length p (suc n) state bytes y s = let ih = run-length p n s.2.1 s.5.0 s.5.2 s.5.4 in rw s.5.5.1 (ap suc ih)
