-- A run of blanks is so many blanks.
use Rattle.std.proofs.Common.{◌≡◌, ℕ, ◌+◌, true, List, [], ◌∷◌, length, drop, refl, sym, ap, ◌∙◌, inl, inr, arith}
use Rattle.std.proofs.lemmas.Bool.{cases_Bool}
use Rattle.std.specs.Prelude.{take_while}
use Rattle.std.proofs.lemmas.List.{drop-drop}
use Rattle.std.proofs.lemmas.List.Sums.{take_while-cons}
use Rattle.wit_tokens.specs.declared.token.Token.{Token}
use Rattle.wit_tokens.specs.declared.lexer.Front.TheVariants as front
use Rattle.wit_tokens.specs.Lexing.{Upto, blank, is_blank, blank_run, front_of}

pub one_blank : (c : ℕ) (cs : List ℕ) → is_blank c ≡ true → front_of (c ∷ cs) ≡ front.Blank 1
unfolding front_of
one_blank c cs h = rw h refl

along : (text cs : List ℕ) (at : ℕ) (ts : List Token) → drop at text ≡ cs → Upto text at ts → Upto text (at + blank_run cs) ts
along text [] at ts e u = let z : at + 0 ≡ at = omega arith in rw z u
along text (c ∷ cs) at ts e u = elim (cases_Bool (is_blank c)) [
  | inl h ↦
      let more = along text cs (at + 1) ts (sym (drop-drop 1 at text) ∙ ap (drop 1) e) (blank at 1 ts u (ap front_of e ∙ one_blank c cs h)) in
      let run : take_while is_blank (c ∷ cs) ≡ c ∷ take_while is_blank cs = take_while-cons is_blank c cs ∙ rw h refl in
      let n : at + blank_run (c ∷ cs) ≡ at + 1 + blank_run cs = omega (arith, ap length run) in
      rw n more
  | inr h ↦ let n : at + blank_run (c ∷ cs) ≡ at = rw h (omega arith) in rw n u
]

pub over_blanks : (text : List ℕ) (at : ℕ) (ts : List Token) → Upto text at ts → Upto text (at + blank_run (drop at text)) ts
over_blanks text at ts u = along text (drop at text) at ts refl u
