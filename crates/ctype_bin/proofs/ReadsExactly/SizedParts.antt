-- A production in so many bytes is read exactly.
use Rattle.std.proofs.Common.{◌≡◌, ℕ, ◌+◌, ◌-◌, ◌<◌, ◌≤◌, false, eqb, List, [], ◌∷◌, ◌++◌, length, take, drop, Option, None, Result, Ok, Err, refl, sym, ap, subst, ◌∙◌, arith, inl, inr}
use Rattle.std.specs.Prelude.{◌⊎◌}
use Rattle.std.proofs.lemmas.Bool.{cases_lt, le-leb, lt-leb, ne_eqb}
use Rattle.std.proofs.lemmas.List.{take_at, drop_at, take-append-drop, length-append, length-take, append-nil}
use Rattle.atoms.specs.Production.{next}
use Rattle.atoms.specs.Exactness as general
use Rattle.atoms.specs.Exactness.{Took}
use Rattle.atoms.proofs.productions.ProductionsReadExactly.{no_err, no_ok}
use Rattle.ctype_format.specs.declared.error.Fault.TheVariants.{SizeMismatch}
use Rattle.ctype_format.specs.declared.error.Stuck.{Stuck}
use Rattle.ctype_format.specs.declared.error.Stuck.TheVariants.{End, At, Past}
use Rattle.ctype_bin.specs.Exactness.{IsBytes, Inside, ExactBytes, within}
use Rattle.ctype_format.specs.Bytes.{Bytes, in_section, section_from, cut_section_from, HasFront, FailsInSection, sized}
use Rattle.ctype_bin.proofs.ReadsExactly.PlainProductions.{stopped, ok_is, took, IsBytes-take}

-- bytes are left
goes_on : {X : Type 0} (left : ℕ) (rest : List ℕ) (x : X) (b : ℕ) (bs : List ℕ) → section_from left rest (Ok (x, b ∷ bs)) ≡ Err (At SizeMismatch left)
goes_on left rest x b bs = let some : eqb (length (b ∷ bs)) 0 ≡ false = ne_eqb (length (b ∷ bs)) 0 (λ none. omega (arith, none)) in rw some refl

-- what reading a section gives
section_ok : {X : Type 0} (left : ℕ) (rest : List ℕ) (r : Result (X × List ℕ) Stuck) (y : X × List ℕ) → section_from left rest r ≡ Ok y → (x : X) × (r ≡ Ok (x, [])) × ((x, rest) ≡ y)
section_ok left rest (Ok (x, [])) y e = (x, refl, ok_is (x, rest) y e)
section_ok {X} left rest (Ok (x, b ∷ bs)) y e = absurd (no_ok y (At SizeMismatch left) (sym (goes_on left rest x b bs) ∙ e))
section_ok {X} left rest (Err f) y e = absurd (no_ok y (in_section left f) e)

section_err : {X : Type 0} (left : ℕ) (rest : List ℕ) (r : Result (X × List ℕ) Stuck) (f : Stuck) → section_from left rest r ≡ Err f
    → ((g : Stuck) × (r ≡ Err g) × (f ≡ in_section left g)) ⊎ ((x : X) × (more : List ℕ) × (r ≡ Ok (x, more)) × (0 < length more) × (f ≡ At SizeMismatch left))
section_err left rest (Ok (x, [])) f e = absurd (no_err (x, rest) f e)
section_err {X} left rest (Ok (x, b ∷ bs)) f e = inr (x, b ∷ bs, refl, omega arith, let h : stopped (X × List ℕ) (At SizeMismatch left) ≡ Err f = sym (goes_on left rest x b bs) ∙ e in cc)
section_err {X} left rest (Err g) f e = inl (g, refl, let h : stopped (X × List ℕ) (in_section left g) ≡ Err f = e in cc)

cut_ok : {X : Type 0} (short : Stuck) (r : Result (X × List ℕ) Stuck) (y : X × List ℕ) → cut_section_from short r ≡ Ok y → ⊥
cut_ok short (Ok x) y e = no_ok y short e
cut_ok short (Err f) y e = no_ok y f e

cut_err : {X : Type 0} (short : Stuck) (r : Result (X × List ℕ) Stuck) (f : Stuck) → cut_section_from short r ≡ Err f → (r ≡ Err f) ⊎ ((x : X × List ℕ) × (r ≡ Ok x) × (f ≡ short))
cut_err {X} short (Ok x) f e = inr (x, refl, let h : stopped (X × List ℕ) short ≡ Err f = e in cc)
cut_err short (Err g) f e = inl e

small_inside : (f : Stuck) (section bytes : List ℕ) (left : ℕ) → Inside f section → length section + left ≤ length bytes → Inside (in_section left f) bytes
small_inside End section bytes left h le = omega (arith, le)
small_inside (At fault n) section bytes left h le = omega (arith, h, le)
small_inside (Past n) section bytes left h le = omega (arith, le)

module _ {X : Type 0} {stops : X → Option ℕ → Type 0} (short : ℕ → Stuck) (size : ℕ) (p : Bytes X) (ep : general.Exact within stops p) (ends : (x : X) → stops x None) (outside : (n : ℕ) (bytes : List ℕ) → Inside (short n) bytes) where
  abbrev whole_from : List ℕ → Result (X × List ℕ) Stuck
  whole_from bytes = section_from (length bytes - size) (drop size bytes) (p.read (take size bytes))

  abbrev cut_from : List ℕ → Result (X × List ℕ) Stuck
  cut_from bytes = cut_section_from (short (size - length bytes)) (p.read bytes)

  reads_whole : (bytes : List ℕ) → size ≤ length bytes → (sized short size p).read bytes ≡ whole_from bytes
  unfolding sized
  reads_whole bytes le = rw (le-leb size (length bytes) le) refl

  reads_cut : (bytes : List ℕ) → length bytes < size → (sized short size p).read bytes ≡ cut_from bytes
  unfolding sized
  reads_cut bytes lt = rw (lt-leb size (length bytes) lt) refl

  sized_spells : (bytes : List ℕ) (x : X) → length bytes ≡ size → p.spells bytes x → (sized short size p).spells bytes x
  unfolding sized
  sized_spells bytes x is s = (is, s)

  sized_spelt : (bytes : List ℕ) (x : X) → (sized short size p).spells bytes x → (length bytes ≡ size) × p.spells bytes x
  unfolding sized
  sized_spelt bytes x s = s

  sized_stops : (bytes : List ℕ) (x : X) (after : Option ℕ) → length bytes ≡ size → p.stops bytes x None → (sized short size p).stops bytes x after
  unfolding sized
  sized_stops bytes x after is s = (is, s)

  sized_stopped : (bytes : List ℕ) (x : X) (after : Option ℕ) → (sized short size p).stops bytes x after → (length bytes ≡ size) × p.stops bytes x None
  unfolding sized
  sized_stopped bytes x after s = s

  sized_complete : (text rest : List ℕ) (x : X) → (sized short size p).spells text x → (sized short size p).read (text ++ rest) ≡ Ok (x, rest)
  sized_complete text rest x spelt =
      let s = sized_spelt text x spelt in
      let le : size ≤ length (text ++ rest) = omega (arith, length-append text rest, s.0) in
      let all : p.read text ≡ Ok (x, []) = ap (λ (t : List ℕ). p.read t) (sym (append-nil text)) ∙ ep.complete text [] x s.1 (ends x) in
      reads_whole (text ++ rest) le ∙ (rw (take_at text rest size s.0, drop_at text rest size s.0, all) refl)

  sized_taken : (text rest : List ℕ) (x : X) → (sized short size p).stops text x (next rest) → (sized short size p).read (text ++ rest) ≡ Ok (x, rest)
  sized_taken text rest x stopped =
      let s = sized_stopped text x (next rest) stopped in
      let le : size ≤ length (text ++ rest) = omega (arith, length-append text rest, s.0) in
      let all : p.read text ≡ Ok (x, []) = ap (λ (t : List ℕ). p.read t) (sym (append-nil text)) ∙ ep.taken text [] x s.1 in
      reads_whole (text ++ rest) le ∙ (rw (take_at text rest size s.0, drop_at text rest size s.0, all) refl)

  all_of : (bytes : List ℕ) (x : X) → IsBytes bytes → size ≤ length bytes → p.read (take size bytes) ≡ Ok (x, []) → p.spells (take size bytes) x × p.stops (take size bytes) x None
  all_of bytes x fits le e =
      let t = ep.sound (take size bytes) x [] (IsBytes-take size bytes fits) e in
      subst (λ (u : List ℕ). p.spells u x × p.stops u x None) (sym (t.parts ∙ append-nil t.text)) (t.spelt, t.stopped)

  begins : (bytes : List ℕ) (x : X) (more : List ℕ) → IsBytes bytes → p.read bytes ≡ Ok (x, more) → HasFront p bytes (length more)
  begins bytes x more fits e = let t = ep.sound bytes x more fits e in (t.text, more, x, t.parts, refl, t.stopped)

  sized_sound : (bytes : List ℕ) (x : X) (rest : List ℕ) → IsBytes bytes → (sized short size p).read bytes ≡ Ok (x, rest) → Took (sized short size p) bytes x rest
  sized_sound bytes x rest fits e =
      elim (cases_lt (length bytes) size) [
        | inl lt ↦ absurd (cut_ok (short (size - length bytes)) (p.read bytes) (x, rest) (sym (reads_cut bytes lt) ∙ e))
        | inr le ↦
            let h = section_ok (length bytes - size) (drop size bytes) (p.read (take size bytes)) (x, rest) (sym (reads_whole bytes le) ∙ e) in
            let long : length (take size bytes) ≡ size = omega (arith, length-take size bytes, le) in
            let all = all_of bytes h.0 fits le h.1 in
            subst (λ (z : X × List ℕ). Took (sized short size p) bytes z.0 z.1) h.2 (took (sized short size p) sized_complete bytes (take size bytes) (drop size bytes) h.0 (sym (take-append-drop size bytes)) (sized_spells (take size bytes) h.0 long all.0) (sized_stops (take size bytes) h.0 (next (drop size bytes)) long all.1))
      ]

  fails_whole : (bytes : List ℕ) (f : Stuck) → IsBytes bytes → size ≤ length bytes → whole_from bytes ≡ Err f → FailsInSection short size p bytes f
  fails_whole bytes f fits le e =
      elim (section_err (length bytes - size) (drop size bytes) (p.read (take size bytes)) f e) [
        | inl h ↦ inl (le, (h.0, ep.faulty (take size bytes) h.0 (IsBytes-take size bytes fits) h.1, h.2))
        | inr h ↦ inr (inl (le, (length h.1, h.3, begins (take size bytes) h.0 h.1 (IsBytes-take size bytes fits) h.2, h.4)))
      ]

  fails_cut : (bytes : List ℕ) (f : Stuck) → IsBytes bytes → length bytes < size → cut_from bytes ≡ Err f → FailsInSection short size p bytes f
  fails_cut bytes f fits lt e =
      elim (cut_err (short (size - length bytes)) (p.read bytes) f e) [
        | inl h ↦ inr (inr (inl (lt, ep.faulty bytes f fits h)))
        | inr h ↦ inr (inr (inr (lt, (length h.0.1, begins bytes h.0.0 h.0.1 fits h.1, h.2))))
      ]

  sized_faulty : (bytes : List ℕ) (f : Stuck) → IsBytes bytes → (sized short size p).read bytes ≡ Err f → FailsInSection short size p bytes f
  sized_faulty bytes f fits e =
      elim (cases_lt (length bytes) size) [
        | inl lt ↦ fails_cut bytes f fits lt (sym (reads_cut bytes lt) ∙ e)
        | inr le ↦ fails_whole bytes f fits le (sym (reads_whole bytes le) ∙ e)
      ]

  -- a fault is met

  taken_front : (bytes : List ℕ) (left : ℕ) → HasFront p bytes left → (x : X) × (back : List ℕ) × (p.read bytes ≡ Ok (x, back)) × (length back ≡ left)
  taken_front bytes left (front, back, x, parts, long, stops) = (x, back, ap (λ (t : List ℕ). p.read t) parts ∙ ep.taken front back x stops, long)

  more_left : (left : ℕ) (rest : List ℕ) (x : X) (back : List ℕ) → 0 < length back → section_from left rest (Ok (x, back)) ≡ Err (At SizeMismatch left)
  more_left left rest x [] lt = absurd (omega (arith, lt))
  more_left left rest x (b ∷ bs) lt = goes_on left rest x b bs

  met_so : (bytes : List ℕ) (f : Stuck) → IsBytes bytes → FailsInSection short size p bytes f → (sized short size p).read bytes ≡ Err f
  met_so bytes f fits (inl (le, (inner, fails, is))) =
      let here : p.read (take size bytes) ≡ Err inner = ep.met (take size bytes) inner (IsBytes-take size bytes fits) fails in
      reads_whole bytes le ∙ (rw (here, is) refl)
  met_so bytes f fits (inr (inl (le, (left, some, begins, is)))) =
      let t = taken_front (take size bytes) left begins in
      reads_whole bytes le
      ∙ ap (section_from (length bytes - size) (drop size bytes)) t.2
      ∙ more_left (length bytes - size) (drop size bytes) t.0 t.1 (omega (arith, t.3, some))
      ∙ ap (stopped (X × List ℕ)) (sym is)
  met_so bytes f fits (inr (inr (inl (lt, fails)))) =
      let here : p.read bytes ≡ Err f = ep.met bytes f fits fails in
      reads_cut bytes lt ∙ (rw here refl)
  met_so bytes f fits (inr (inr (inr (lt, (left, begins, is))))) =
      let t = taken_front bytes left begins in
      reads_cut bytes lt ∙ ap (cut_section_from (short (size - length bytes))) t.2 ∙ ap (stopped (X × List ℕ)) (sym is)

  sized_met : (bytes : List ℕ) (f : Stuck) → IsBytes bytes → (sized short size p).fails bytes f → (sized short size p).read bytes ≡ Err f
  unfolding sized
  sized_met bytes f fits h = met_so bytes f fits h

  stays_whole : (bytes : List ℕ) (f : Stuck) → IsBytes bytes → size ≤ length bytes → whole_from bytes ≡ Err f → Inside f bytes
  stays_whole bytes f fits le e =
      let long : length (take size bytes) ≡ size = omega (arith, length-take size bytes, le) in
      elim (section_err (length bytes - size) (drop size bytes) (p.read (take size bytes)) f e) [
        | inl h ↦ subst (λ (g : Stuck). Inside g bytes) (sym h.2) (small_inside h.0 (take size bytes) bytes (length bytes - size) (ep.stays (take size bytes) h.0 (IsBytes-take size bytes fits) h.1) (omega (arith, long, le)))
        | inr h ↦ subst (λ (g : Stuck). Inside g bytes) (sym h.4) (omega arith)
      ]

  stays_cut : (bytes : List ℕ) (f : Stuck) → IsBytes bytes → cut_from bytes ≡ Err f → Inside f bytes
  stays_cut bytes f fits e =
      elim (cut_err (short (size - length bytes)) (p.read bytes) f e) [
        | inl h ↦ ep.stays bytes f fits h
        | inr h ↦ subst (λ (g : Stuck). Inside g bytes) (sym h.2) (outside (size - length bytes) bytes)
      ]

  sized_stays : (bytes : List ℕ) (f : Stuck) → IsBytes bytes → (sized short size p).read bytes ≡ Err f → Inside f bytes
  sized_stays bytes f fits e =
      elim (cases_lt (length bytes) size) [
        | inl lt ↦ stays_cut bytes f fits (sym (reads_cut bytes lt) ∙ e)
        | inr le ↦ stays_whole bytes f fits le (sym (reads_whole bytes le) ∙ e)
      ]

  sized_fails : (bytes : List ℕ) (f : Stuck) → FailsInSection short size p bytes f → (sized short size p).fails bytes f
  unfolding sized
  sized_fails bytes f h = h

  pub exact-sized : ExactBytes (sized short size p)
  exact-sized = record {
    sound = sized_sound;
    complete = λ text rest x s end. sized_complete text rest x s;
    taken = sized_taken;
    met = sized_met;
    faulty = λ bytes f fits e. sized_fails bytes f (sized_faulty bytes f fits e);
    stays = sized_stays;
  }
