-- The tokens of a text that is written out, found step by step.
use Rattle.std.proofs.Common.{◌≡◌, ◌≤◌, ℕ, zero, suc, ◌+◌, ◌==◌, Bool, true, false, List, [], ◌∷◌, ◌++◌, drop, length, Result, Ok, Err, refl, sym, append-nil, append_assoc, subst, arith}
use Rattle.std.specs.Prelude.{◌-◌, nat_le, ⊤}
use Rattle.std.proofs.lemmas.Bool.{eqb-true}
use Rattle.std.proofs.lemmas.Bool.Decides.{nat_tests}
use Rattle.atoms.specs.Label.{is_label}
use Rattle.wit_tokens.specs.declared.token.Token.{Token}
use Rattle.wit_tokens.specs.declared.token.Span.{Span}
use Rattle.wit_tokens.specs.declared.error.TextError.{TextError}
use Rattle.wit_tokens.specs.declared.error.TextError.TheVariants as error
use Rattle.wit_tokens.specs.declared.lexer.Front.{Front}
use Rattle.wit_tokens.specs.declared.lexer.Front.TheVariants as front
use Rattle.wit_tokens.specs.Keywords.{keywords}
use Rattle.wit_tokens.specs.Lexing.{comment_run, slash_front, word_front, escape_front, at_front, punctuation_front, front_of, limit, Upto, begin, blank, next, token_from, Lexes, LexFault, IsBadAt, IsOpenAt}

-- what an example unfolds to compute the tokens of a literal
unfoldable pub tokens_on_literals : ⊤
unfolding is_label keywords comment_run slash_front word_front escape_front at_front punctuation_front front_of limit
tokens_on_literals = tt

-- ---- the tokens of a text, step by step, as `front_of` gives them

abbrev span : ℕ → ℕ → Span
span s e = record { start = s; end = e }

abbrev pub then : Token → Result (List Token) TextError → Result (List Token) TextError
then t (Ok ts) = Ok (t ∷ ts)
then t (Err e) = Err e

abbrev pub step : List ℕ → ℕ → Front → (ℕ → Result (List Token) TextError) → Result (List Token) TextError
step text at (front.Blank n) onward = onward (at + n)
step text at (front.Token k n) onward = then (token_from k at n) (onward (at + n))
step text at (front.Bad n) onward = Err (error.BadChar (span at (at + n)))
step text at front.OpenComment onward = Err (error.OpenComment (span at (length text)))

abbrev pub at_end_or : Bool → (Unit {0} → Result (List Token) TextError) → Result (List Token) TextError
at_end_or true onward = Ok []
at_end_or false onward = onward tt

-- the tokens from this place on, in at most so many steps
abbrev pub walk : ℕ → List ℕ → ℕ → Result (List Token) TextError
walk zero text at = Err error.NoMemory
walk (suc steps) text at = at_end_or (at == length text) (λ u. step text at (front_of (drop at text)) (walk steps text))

-- what the steps show
abbrev pub Spoilt : List ℕ → TextError → Type 0
Spoilt text (error.BadChar s) = IsBadAt text s
Spoilt text (error.OpenComment s) = IsOpenAt text s
Spoilt text error.NoMemory = Unit {0}
Spoilt text _ = ⊥

abbrev Shows : List ℕ → List Token → Result (List Token) TextError → Type 0
Shows text ts (Ok us) = Upto text (length text) (ts ++ us)
Shows text ts (Err e) = Spoilt text e

then-shows : (text : List ℕ) (ts : List Token) (t : Token) (r : Result (List Token) TextError) → Shows text (ts ++ t ∷ []) r → Shows text ts (then t r)
then-shows text ts t (Ok us) h = subst (λ (vs : List Token). Upto text (length text) vs) (append_assoc ts (t ∷ []) us) h
then-shows text ts t (Err e) h = h

step-shows : (text : List ℕ) (at : ℕ) (ts : List Token) (f : Front) (onward : ℕ → Result (List Token) TextError) → Upto text at ts → front_of (drop at text) ≡ f → ((b : ℕ) (us : List Token) → Upto text b us → Shows text us (onward b)) → Shows text ts (step text at f onward)
step-shows text at ts (front.Blank n) onward u e ih = ih (at + n) ts (blank at n ts u e)
step-shows text at ts (front.Token k n) onward u e ih = then-shows text ts (token_from k at n) (onward (at + n)) (ih (at + n) (ts ++ token_from k at n ∷ []) (next at n k ts u e))
step-shows text at ts (front.Bad n) onward u e ih = let same : (at + n) - at ≡ n = omega arith in (ts, u, rw same e, omega arith)
step-shows text at ts front.OpenComment onward u e ih = (ts, u, e, refl)

fork : (text : List ℕ) (at : ℕ) (ts : List Token) (b : Bool) (f : Front) (onward : ℕ → Result (List Token) TextError) → (b ≡ true → Upto text (length text) (ts ++ [])) → Shows text ts (step text at f onward) → Shows text ts (at_end_or b (λ u. step text at f onward))
fork text at ts true f onward h s = h refl
fork text at ts false f onward h s = s

shows : (steps : ℕ) (text : List ℕ) (at : ℕ) (ts : List Token) → Upto text at ts → Shows text ts (walk steps text at)
shows zero text at ts u = tt
shows (suc steps) text at ts u = fork text at ts (at == length text) (front_of (drop at text)) (walk steps text)
    (λ same. subst (λ (vs : List Token). Upto text (length text) vs) (sym (append-nil ts)) (subst (λ (b : ℕ). Upto text b ts) (eqb-true at (length text) same) u))
    (step-shows text at ts (front_of (drop at text)) (walk steps text) u refl (shows steps text))

-- the steps to the end of a text of less than a thousand pieces
abbrev pub walked : List ℕ → Result (List Token) TextError
walked text = walk 1000 text 0

pub lexed : (text : List ℕ) (ts : List Token) → walked text ≡ Ok ts → Lexes text ts
lexed text ts h = subst (λ (r : Result (List Token) TextError). Shows text [] r) h (shows 1000 text 0 [] begin)

pub spoilt : (text : List ℕ) (e : TextError) → walked text ≡ Err e → Spoilt text e
spoilt text e h = subst (λ (r : Result (List Token) TextError). Shows text [] r) h (shows 1000 text 0 [] begin)

pub within : (text : List ℕ) → nat_le (length text) 1048576 ≡ true → length text ≤ limit
unfolding limit
within text h = grind (arith, nat_tests)

pub faulty : (text : List ℕ) (e : TextError) → length text ≤ limit → Spoilt text e → LexFault text e
faulty text (error.BadChar s) short h = (short, h)
faulty text (error.OpenComment s) short h = (short, h)
faulty text error.NoMemory short h = tt
faulty text error.Limit short h = absurd h
faulty text (error.Expected k s) short h = h
faulty text (error.Unsupported k s) short h = h
faulty text (error.Depth s) short h = h
