-- Reading looks at one token past those that it takes, and its faults stand at that token. `end` is the length of the
-- text.
use Rattle.std.specs.Prelude.{◌≡◌, ℕ, List, [], ◌∷◌, ◌++◌}
use Rattle.std.proofs.Common.{refl, ap, sym, subst, ◌∙◌, append_assoc}
use Rattle.atoms.specs.Production.{Production, next}
use Rattle.atoms.specs.Exactness.{Rules}
use Rattle.wit_tokens.specs.declared.error.TextError.{TextError}
use Rattle.wit_tokens.specs.Tokens.{Lexeme}
use Rattle.wit_grammar.specs.Faults.{StandsAt}

-- The fault is known by the token met, whatever follows it.
pub record Looks (end : ℕ) (E : List Lexeme → TextError → Type 0) (ts : List Lexeme) (e : TextError) : Type 0 where
  pub front : List Lexeme
  pub met : List Lexeme
  pub whole : ts ≡ front ++ met
  pub place : StandsAt end met e
  pub same : (other : List Lexeme) → next other ≡ next met → E (front ++ other) e

next_behind : (front other met : List Lexeme) → next other ≡ next met → next (front ++ other) ≡ next (front ++ met)
next_behind [] other met same = same
next_behind (t ∷ front) other met same = refl

-- the fault of a first production is one of the whole production, known by the token met
pub looks_first : (end : ℕ) (E E' : List Lexeme → TextError → Type 0) (ts : List Lexeme) (e : TextError) → ((other : List Lexeme) → E other e → E' other e) → Looks end E ts e → Looks end E' ts e
looks_first end E E' ts e h l = record { front = l.front; met = l.met; whole = l.whole; place = l.place; same = λ other n. h (l.front ++ other) (l.same other n) }

-- the fault of a later production, after what the first spells, is known by the token met
pub looks_behind : (end : ℕ) (E E' : List Lexeme → TextError → Type 0) (text rest : List Lexeme) (e : TextError) → ((other : List Lexeme) → next other ≡ next rest → E other e → E' (text ++ other) e) → Looks end E rest e → Looks end E' (text ++ rest) e
looks_behind end E E' text rest e h l = record {
  front = text ++ l.front;
  met = l.met;
  whole = ap (λ (t : List Lexeme). text ++ t) l.whole ∙ sym (append_assoc text l.front l.met);
  place = l.place;
  same = λ other n. subst (λ (t : List Lexeme). E' t e) (sym (append_assoc text l.front other)) (h (l.front ++ other) (next_behind l.front other l.met n ∙ ap next (sym l.whole)) (l.same other n));
}

-- what each production of the grammar keeps: a fault is known by the token met, whatever comes after it
abbrev pub lookahead : ℕ → Rules Lexeme TextError
lookahead end = record {
  fits = λ ts. Unit {0};
  stays = Looks end;
  fits_behind = λ text rest h. tt;
  stays_first = looks_first end;
  stays_behind = looks_behind end;
}

-- a production over the tokens of a text, whose faults are those of texts
abbrev pub Phrase : Type 0 → Type 1
Phrase X = Production Lexeme TextError X

-- The fault stands at the token met: nothing that is spelled begins with the tokens up to it and with it; or at the
-- end, and nothing is spelled by all of them.
pub record NoneBegins {X : Type 0} (end : ℕ) (spells : List Lexeme → X → Type 0) (ts : List Lexeme) (e : TextError) : Type 0 where
  pub front : List Lexeme
  pub met : List Lexeme
  pub whole : ts ≡ front ++ met
  pub place : StandsAt end met e
  pub none : (other : List Lexeme) → next other ≡ next met → (x : X) → spells (front ++ other) x → ⊥
