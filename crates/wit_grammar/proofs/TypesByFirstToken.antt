-- Reading a type by its first token.
use Rattle.std.proofs.Common.{◌≡◌, ℕ, zero, suc, ◌-◌, ◌<◌, false, List, [], ◌∷◌, Err, refl, arith}
use Rattle.wit_tokens.specs.Tokens.{Lexeme}
use Rattle.wit_grammar.specs.Grammar.{ty, type_phrase, begins_type, type_fault}

pub type_step : (end n : ℕ) (ts : List Lexeme) → 0 < n → (ty end n).read ts ≡ (type_phrase end (ty end (n - 1))).read ts
unfolding ty
type_step end zero ts lt = absurd (let h : 0 < 0 = lt in omega (arith, h))
type_step end (suc n) ts lt = let e : suc n - 1 ≡ n = omega arith in rw e refl

pub type_missing : (end n : ℕ) → (ty end n).read [] ≡ Err (type_fault end [])
unfolding ty type_phrase
type_missing end zero = refl
type_missing end (suc n) = refl

pub type_stops : (end : ℕ) (ts : List Lexeme) → (ty end 0).read ts ≡ Err (type_fault end ts)
unfolding ty
type_stops end ts = refl

pub type_fails : (end n : ℕ) (t : Lexeme) (ts : List Lexeme) → begins_type t ≡ false → (ty end n).read (t ∷ ts) ≡ Err (type_fault end (t ∷ ts))
unfolding ty type_phrase
type_fails end zero t ts is = refl
type_fails end (suc n) t ts is = rw is refl
