-- A choice by the first byte is read exactly.
use Rattle.std.proofs.Common.{◌≡◌, ℕ, Bool, true, false, cond, List, [], ◌∷◌, ◌++◌, Option, Ok, Err, refl, sym, ap, subst, ◌∙◌}
use Rattle.std.specs.Prelude.{MatchBool}
use Rattle.ctype_format.specs.declared.error.Stuck.{Stuck}
use Rattle.ctype_format.specs.declared.error.Stuck.TheVariants.{End}
use Rattle.atoms.specs.Production.{next}
use Rattle.atoms.specs.Exactness.{Took}
use Rattle.ctype_bin.specs.Exactness.{IsBytes, Inside, ExactBytes}
use Rattle.ctype_format.specs.Bytes.{Bytes, choose, spells_by, stops_by, fails_by, read_by}
use Rattle.atoms.proofs.productions.ProductionsReadExactly.{no_ok}
use Rattle.ctype_bin.proofs.ReadsExactly.PlainProductions.{stopped, took}

abbrev pub NeverEmpty : {X : Type 0} → Bytes X → Type 0
NeverEmpty {X} p = (x : X) → p.spells [] x → ⊥

module _ {X : Type 0} (test : ℕ → Bool) (p q : Bytes X) (ep : ExactBytes p) (eq : ExactBytes q) (np : NeverEmpty p) (nq : NeverEmpty q) where
  abbrev Begun : Bytes X → List ℕ → X → Option ℕ → Type 0
  Begun r text x after = r.spells text x × r.stops text x after

  chosen : (b : ℕ) (text : List ℕ) (x : X) (after : Option ℕ) (t : Bool) → test b ≡ t → MatchBool t (Begun p (b ∷ text) x after) (Begun q (b ∷ text) x after) → Begun (choose test p q) (b ∷ text) x after
  chosen b text x after true is h = (rw is h.0, rw is h.1)
  chosen b text x after false is h = (rw is h.0, rw is h.1)

  begins_so : (b : ℕ) (bs text rest : List ℕ) (x : X) (after : Option ℕ) (t : Bool) → test b ≡ t → b ∷ bs ≡ text ++ rest → MatchBool t (Begun p text x after) (Begun q text x after) → Begun (choose test p q) text x after
  begins_so b bs [] rest x after true is parts h = absurd (np x h.0)
  begins_so b bs [] rest x after false is parts h = absurd (nq x h.0)
  begins_so b bs (c ∷ text) rest x after t is parts h = let same : b ≡ c = cc in chosen c text x after t (ap test (sym same) ∙ is) h

  choose_complete : (b : ℕ) (text rest : List ℕ) (x : X) (t : Bool) → MatchBool t (p.spells (b ∷ text) x) (q.spells (b ∷ text) x) → cond t (p.read ((b ∷ text) ++ rest)) (q.read ((b ∷ text) ++ rest)) ≡ Ok (x, rest)
  choose_complete b text rest x true s = ep.complete (b ∷ text) rest x s tt
  choose_complete b text rest x false s = eq.complete (b ∷ text) rest x s tt

  all_complete : (text rest : List ℕ) (x : X) → spells_by test p q text x → read_by test p q (text ++ rest) ≡ Ok (x, rest)
  all_complete [] rest x s = absurd s
  all_complete (b ∷ text) rest x s = choose_complete b text rest x (test b) s

  choose_sound : (b : ℕ) (bs : List ℕ) (x : X) (rest : List ℕ) (t : Bool) → test b ≡ t → IsBytes (b ∷ bs) → cond t (p.read (b ∷ bs)) (q.read (b ∷ bs)) ≡ Ok (x, rest) → Took (choose test p q) (b ∷ bs) x rest
  choose_sound b bs x rest true is fits e =
      let h = ep.sound (b ∷ bs) x rest fits e in
      let so = begins_so b bs h.text rest x (next rest) true is h.parts (h.spelt, h.stopped) in
      took (choose test p q) all_complete (b ∷ bs) h.text rest x h.parts so.0 so.1
  choose_sound b bs x rest false is fits e =
      let h = eq.sound (b ∷ bs) x rest fits e in
      let so = begins_so b bs h.text rest x (next rest) false is h.parts (h.spelt, h.stopped) in
      took (choose test p q) all_complete (b ∷ bs) h.text rest x h.parts so.0 so.1

  all_sound : (bytes : List ℕ) (x : X) (rest : List ℕ) → IsBytes bytes → read_by test p q bytes ≡ Ok (x, rest) → Took (choose test p q) bytes x rest
  all_sound [] x rest fits e = absurd (no_ok (x, rest) End e)
  all_sound (b ∷ bs) x rest fits e = choose_sound b bs x rest (test b) refl fits e

  choose_taken : (b : ℕ) (text rest : List ℕ) (x : X) (t : Bool) → MatchBool t (p.stops (b ∷ text) x (next rest)) (q.stops (b ∷ text) x (next rest)) → cond t (p.read ((b ∷ text) ++ rest)) (q.read ((b ∷ text) ++ rest)) ≡ Ok (x, rest)
  choose_taken b text rest x true s = ep.taken (b ∷ text) rest x s
  choose_taken b text rest x false s = eq.taken (b ∷ text) rest x s

  all_taken : (text rest : List ℕ) (x : X) → stops_by test p q text x (next rest) → read_by test p q (text ++ rest) ≡ Ok (x, rest)
  all_taken [] rest x s = absurd s
  all_taken (b ∷ text) rest x s = choose_taken b text rest x (test b) s

  choose_met : (b : ℕ) (bs : List ℕ) (f : Stuck) (t : Bool) → IsBytes (b ∷ bs) → MatchBool t (p.fails (b ∷ bs) f) (q.fails (b ∷ bs) f) → cond t (p.read (b ∷ bs)) (q.read (b ∷ bs)) ≡ Err f
  choose_met b bs f true fits h = ep.met (b ∷ bs) f fits h
  choose_met b bs f false fits h = eq.met (b ∷ bs) f fits h

  all_met : (bytes : List ℕ) (f : Stuck) → IsBytes bytes → fails_by test p q bytes f → read_by test p q bytes ≡ Err f
  all_met [] f fits h = ap (stopped (X × List ℕ)) (sym h)
  all_met (b ∷ bs) f fits h = choose_met b bs f (test b) fits h

  choose_faulty : (b : ℕ) (bs : List ℕ) (f : Stuck) (t : Bool) → IsBytes (b ∷ bs) → cond t (p.read (b ∷ bs)) (q.read (b ∷ bs)) ≡ Err f → MatchBool t (p.fails (b ∷ bs) f) (q.fails (b ∷ bs) f)
  choose_faulty b bs f true fits e = ep.faulty (b ∷ bs) f fits e
  choose_faulty b bs f false fits e = eq.faulty (b ∷ bs) f fits e

  all_faulty : (bytes : List ℕ) (f : Stuck) → IsBytes bytes → read_by test p q bytes ≡ Err f → fails_by test p q bytes f
  all_faulty [] f fits e = let h : stopped (X × List ℕ) End ≡ Err f = e in cc
  all_faulty (b ∷ bs) f fits e = choose_faulty b bs f (test b) fits e

  choose_inside : (b : ℕ) (bs : List ℕ) (f : Stuck) (t : Bool) → IsBytes (b ∷ bs) → cond t (p.read (b ∷ bs)) (q.read (b ∷ bs)) ≡ Err f → Inside f (b ∷ bs)
  choose_inside b bs f true fits e = ep.stays (b ∷ bs) f fits e
  choose_inside b bs f false fits e = eq.stays (b ∷ bs) f fits e

  all_inside : (bytes : List ℕ) (f : Stuck) → IsBytes bytes → read_by test p q bytes ≡ Err f → Inside f bytes
  all_inside [] f fits e = subst (λ (g : Stuck). Inside g []) (let h : stopped (X × List ℕ) End ≡ Err f = e in let k : End ≡ f = cc in k) tt
  all_inside (b ∷ bs) f fits e = choose_inside b bs f (test b) fits e

  pub exact-choose : ExactBytes (choose test p q)
  exact-choose = record { sound = all_sound; complete = λ text rest x s end. all_complete text rest x s; taken = all_taken; faulty = all_faulty; met = all_met; stays = all_inside }
