-- What a mark at the front is.
use Rattle.std.proofs.Common.{◌≡◌, ℕ, ◌==◌, ◌<◌, false, List, [], ◌∷◌, length, get_or, Some, refl, arith}
use Rattle.std.proofs.lemmas.Bool.Decides.{nat_tests}
use Rattle.atoms.specs.Label.{is_digit}
use Rattle.wit_tokens.specs.declared.token.Punctuation.{Punctuation}
use Rattle.wit_tokens.specs.declared.token.TokenKind.TheVariants as kind
use Rattle.wit_tokens.specs.Lexing.{is_blank, is_letter, mark_of, token, front_of, punctuation_front}

no_blank : (c : ℕ) (m : Punctuation) → mark_of c ≡ Some m → is_blank c ≡ false
no_blank c m h = grind (arith, nat_tests)

no_letter : (c : ℕ) (m : Punctuation) → mark_of c ≡ Some m → is_letter c ≡ false
no_letter c m h = grind (arith, nat_tests)

no_digit : (c : ℕ) (m : Punctuation) → mark_of c ≡ Some m → is_digit c ≡ false
no_digit c m h = grind (arith, nat_tests)

no_slash : (c : ℕ) (m : Punctuation) → mark_of c ≡ Some m → (c == 47) ≡ false
no_slash c m h = grind (arith, nat_tests)

no_percent : (c : ℕ) (m : Punctuation) → mark_of c ≡ Some m → (c == 37) ≡ false
no_percent c m h = grind (arith, nat_tests)

no_at : (c : ℕ) (m : Punctuation) → mark_of c ≡ Some m → (c == 64) ≡ false
no_at c m h = grind (arith, nat_tests)

no_hyphen : (c : ℕ) (m : Punctuation) → mark_of c ≡ Some m → (c == 45) ≡ false
no_hyphen c m h = grind (arith, nat_tests)

mark_front_of : (c : ℕ) (cs : List ℕ) (m : Punctuation) → mark_of c ≡ Some m → token (kind.Punctuation m) 1 ≡ front_of (c ∷ cs)
unfolding front_of punctuation_front
mark_front_of c cs m h = rw (no_blank c m h, no_letter c m h, no_digit c m h, no_slash c m h, no_percent c m h, no_at c m h, no_hyphen c m h, h) refl

pub mark_front_at : (text : List ℕ) (m : Punctuation) → 0 < length text → mark_of (get_or text 0 0) ≡ Some m → token (kind.Punctuation m) 1 ≡ front_of text
mark_front_at [] m some h = absurd (omega arith)
mark_front_at (c ∷ cs) m some h = mark_front_of c cs m h
