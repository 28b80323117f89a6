-- Reading bytes finds just what is spelled, or the first fault: the productions that are not combined of others.
use Rattle.std.proofs.Common.{◌≡◌, ℕ, ◌+◌, ◌^◌, ◌<◌, ◌≤◌, true, cond, leb, List, [], ◌∷◌, ◌++◌, length, take, drop, Option, Some, None, Result, Ok, Err, refl, sym, subst, arith, inl, inr}
use Rattle.std.proofs.lemmas.Bool.{cases_lt, le-leb, lt-leb}
use Rattle.std.proofs.lemmas.List.{take_at, drop_at, take-append-drop, length-append, length-take, get_or-take, get_or_past, append-nil}
use Rattle.ctype_format.specs.declared.error.Fault.{Fault}
use Rattle.ctype_format.specs.declared.error.Stuck.{Stuck}
use Rattle.ctype_format.specs.declared.error.Stuck.TheVariants.{End, At, Past}
use Rattle.atoms.specs.Production.{next}
use Rattle.atoms.specs.Exactness.{Took}
use Rattle.atoms.proofs.productions.ProductionsReadExactly as general
use Rattle.atoms.proofs.productions.ProductionsReadExactly.{no_err, no_ok}
use Rattle.ctype_bin.specs.Exactness.{IsBytes, Inside, ExactBytes, ExactToEnd, within}
use Rattle.ctype_format.specs.Bytes.{Bytes, ended, at, stuck_if, byte, several, remaining, only_bytes, StaysSmall}

abbrev pub done : {X : Type 0} → X → Result X Stuck
done x = Ok x

abbrev pub stopped : (X : Type 0) → Stuck → Result X Stuck
stopped X f = Err f

pub ok_is : {A : Type 0} (x y : A) → done x ≡ done y → x ≡ y
ok_is x y e = cc

pub exact-byte : ExactBytes byte
exact-byte = general.exact-one within (λ b. true) ended (λ bytes out. tt)

at_none : {X : Type 0} (fault : X → Option Fault) (x : X) (bytes other : List ℕ) → at fault x bytes ≡ None → at fault x other ≡ None
at_none fault x bytes other e = by (fault x) refl e
  where
    by : (o : Option Fault) → fault x ≡ o → stuck_if o (length bytes) ≡ None → at fault x other ≡ None
    by None is h = rw is refl
    by (Some found) is h = absurd cc

at_inside : (o : Option Fault) (bytes : List ℕ) (f : Stuck) → stuck_if o (length bytes) ≡ Some f → Inside f bytes
at_inside None bytes f e = absurd cc
at_inside (Some found) bytes f e = let h : At found (length bytes) ≡ f = cc in subst (λ (g : Stuck). Inside g bytes) h (omega arith)

pub exact-only : {X : Type 0} (p : Bytes X) (fault : X → Option Fault) → ExactBytes p → ExactBytes (only_bytes p fault)
exact-only p fault ep = general.exact-only within p (at fault) (at_none fault) ep (λ bytes x rest f read e. at_inside (fault x) bytes f e)

abbrev cut_at : ℕ → List ℕ → List ℕ × List ℕ
cut_at n bytes = (take n bytes, drop n bytes)

several_ok : (n : ℕ) (bytes : List ℕ) (y : List ℕ × List ℕ) → (several n).read bytes ≡ Ok y → (n ≤ length bytes) × (cut_at n bytes ≡ y)
several_ok n bytes y e =
    let f : cond (leb n (length bytes)) (done (cut_at n bytes)) (stopped (List ℕ × List ℕ) End) ≡ Ok y = e in
    elim (cases_lt (length bytes) n) [
      | inl lt ↦ absurd (let g : stopped (List ℕ × List ℕ) End ≡ Ok y = rw (lt-leb n (length bytes) lt) at f in no_ok y End g)
      | inr le ↦ (le, let g : done (cut_at n bytes) ≡ Ok y = rw (le-leb n (length bytes) le) at f in ok_is (cut_at n bytes) y g)
    ]

several_err : (n : ℕ) (bytes : List ℕ) (d : Stuck) → (several n).read bytes ≡ Err d → (length bytes < n) × (d ≡ End)
several_err n bytes d e =
    let f : cond (leb n (length bytes)) (done (cut_at n bytes)) (stopped (List ℕ × List ℕ) End) ≡ Err d = e in
    elim (cases_lt (length bytes) n) [
      | inl lt ↦ (lt, let g : stopped (List ℕ × List ℕ) End ≡ Err d = rw (lt-leb n (length bytes) lt) at f in cc)
      | inr le ↦ absurd (let g : done (cut_at n bytes) ≡ Err d = rw (le-leb n (length bytes) le) at f in no_err (cut_at n bytes) d g)
    ]

-- what is read whatever follows is read again
pub took : {X : Type 0} (p : Bytes X) → ((text rest : List ℕ) (x : X) → p.spells text x → p.read (text ++ rest) ≡ Ok (x, rest)) → (bytes text rest : List ℕ) (x : X) → bytes ≡ text ++ rest → p.spells text x → p.stops text x (next rest) → Took p bytes x rest
took p complete bytes text rest x parts spelt stopped = record { text = text; parts = parts; spelt = spelt; stopped = stopped; again = λ other same. complete text other x spelt }

several_complete : (n : ℕ) (text rest x : List ℕ) → (several n).spells text x → (several n).read (text ++ rest) ≡ Ok (x, rest)
several_complete n text rest x s =
    let long : leb n (length (text ++ rest)) ≡ true = le-leb n (length (text ++ rest)) (omega (arith, length-append text rest, s.0)) in
    rw (long, take_at text rest n s.0, drop_at text rest n s.0, s.1) refl

several_met : (n : ℕ) (bytes : List ℕ) (f : Stuck) → (several n).fails bytes f → (several n).read bytes ≡ Err f
several_met n bytes f h = rw (lt-leb n (length bytes) h.0, h.1) refl

pub exact-several : (n : ℕ) → ExactBytes (several n)
exact-several n = record {
  sound = λ bytes x rest fits e.
      let h = several_ok n bytes (x, rest) e in
      let long : length (take n bytes) ≡ n = omega (arith, length-take n bytes, h.0) in
      subst (λ (z : List ℕ × List ℕ). Took (several n) bytes z.0 z.1) h.1 (took (several n) (several_complete n) bytes (take n bytes) (drop n bytes) (take n bytes) (sym (take-append-drop n bytes)) (long, refl) (long, refl));
  complete = λ text rest x s end. several_complete n text rest x s;
  taken = several_complete n;
  met = λ bytes f fits h. several_met n bytes f h;
  faulty = λ bytes f fits e. several_err n bytes f e;
  stays = λ bytes f fits e. let h = several_err n bytes f e in subst (λ (g : Stuck). Inside g bytes) (sym h.1) tt;
}

abbrev all_taken : ℕ × List ℕ
all_taken = (0, [])

nothing : (other : List ℕ) → next other ≡ next {I = ℕ} [] → other ≡ []
nothing [] same = refl
nothing (b ∷ other) same = absurd cc

remaining_took : (bytes : List ℕ) → Took remaining bytes 0 []
remaining_took bytes = record { text = bytes; parts = sym (append-nil bytes); spelt = refl; stopped = (refl, refl); again = λ other same. rw (nothing other same) refl }

pub exact-remaining : ExactToEnd remaining
exact-remaining = record {
  sound = λ bytes x rest fits e. let is : all_taken ≡ (x, rest) = ok_is all_taken (x, rest) e in subst (λ (z : ℕ × List ℕ). Took remaining bytes z.0 z.1) is (remaining_took bytes);
  complete = λ text rest x s end. rw (s, nothing rest end) refl;
  taken = λ text rest x s. rw (s.0, nothing rest s.1) refl;
  met = λ bytes f fits h. absurd h;
  faulty = λ bytes f fits e. absurd (no_err all_taken f e);
  stays = λ bytes f fits e. absurd (no_err all_taken f e);
}

-- ---- fronts of bytes

pub stays_small : (section : List ℕ) (f : Stuck) (left : ℕ) → Inside f section → length section + left < 2 ^ 64 → StaysSmall f left
stays_small section End left h lt = tt
stays_small section (At fault n) left h lt = omega (arith, h)
stays_small section (Past n) left h lt = tt

pub IsBytes-take : (n : ℕ) (bytes : List ℕ) → IsBytes bytes → IsBytes (take n bytes)
IsBytes-take n bytes h i =
    elim (cases_lt i n) [
      | inl lt ↦ rw (get_or-take n bytes i 0 lt) (h i)
      | inr le ↦ rw (get_or_past (take n bytes) i 0 (omega (arith, length-take n bytes))) (omega arith)
    ]
