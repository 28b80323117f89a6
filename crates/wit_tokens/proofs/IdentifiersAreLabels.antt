-- The identifiers among the tokens of a text are labels.
use Rattle.std.proofs.Common.{◌≡◌, ℕ, zero, suc, ◌+◌, ◌≤◌, ◌==◌, true, false, ◌||◌, List, [], ◌∷◌, length, take, drop, Option, Some, None, refl, ap, ◌∙◌, inl, inr, arith}
use Rattle.std.specs.Prelude.{nat_le, All}
use Rattle.std.proofs.lemmas.Bool.{cases_Bool, le-leb}
use Rattle.std.proofs.lemmas.Bool.Decides.{nat_tests}
use Rattle.std.proofs.lemmas.List.Elements.{All-nil, All-push}
use Rattle.atoms.specs.Label.{is_digit, is_label}
use Rattle.wit_tokens.specs.declared.token.Punctuation.{Punctuation}
use Rattle.wit_tokens.specs.declared.token.Token.{Token}
use Rattle.wit_tokens.specs.declared.token.TokenKind.{TokenKind}
use Rattle.wit_tokens.specs.declared.token.TokenKind.TheVariants as kind
use Rattle.wit_tokens.specs.declared.lexer.Front.{Front}
use Rattle.wit_tokens.specs.declared.lexer.Front.TheVariants as front
use Rattle.wit_tokens.specs.Lexing.{Upto, begin, blank, next, is_blank, is_letter, begins_with, begins_letter, begins_digit, word_run, comment_run, mark_of, closed_comment, mark_front, slash_front, word_front, escape_front, at_front, punctuation_front, front_of, token_from}
use Rattle.wit_tokens.specs.Tokens.{IsNamed, bytes_of, word_of}

-- the bytes from here on are no identifier
abbrev NoName : Front → Type 0
NoName f = (n : ℕ) → f ≡ front.Token kind.Identifier n → ⊥

no_comment : (o : Option ℕ) → NoName (closed_comment o)
no_comment None n e = cc
no_comment (Some m) n e = cc

no_slash : (cs : List ℕ) → NoName (slash_front cs)
unfolding slash_front
no_slash cs n e = elim (cases_Bool (begins_with 47 cs)) [
  | inl line ↦ (let z = rw line at e in cc)
  | inr line ↦ elim (cases_Bool (begins_with 42 cs)) [
    | inl block ↦ no_comment (comment_run 1 (drop 1 cs)) n (rw (line, block) at e)
    | inr block ↦ (let z = rw (line, block) at e in cc)
  ]
]

no_version : (cs : List ℕ) → NoName (at_front cs)
unfolding at_front
no_version cs n e = elim (cases_Bool (begins_digit cs)) [
  | inl digit ↦ (let z = rw digit at e in cc)
  | inr digit ↦ (let z = rw digit at e in cc)
]

no_mark : (o : Option Punctuation) (c : ℕ) → NoName (mark_front o c)
no_mark None c n e = cc
no_mark (Some m) c n e = cc

no_punctuation : (c : ℕ) (cs : List ℕ) → NoName (punctuation_front c cs)
unfolding punctuation_front
no_punctuation c cs n e = elim (cases_Bool (c == 45)) [
  | inl hyphen ↦ elim (cases_Bool (begins_with 62 cs)) [
    | inl arrow ↦ (let z = rw (hyphen, arrow) at e in cc)
    | inr arrow ↦ (let z = rw (hyphen, arrow) at e in cc)
  ]
  | inr hyphen ↦ no_mark (mark_of c) c n (rw hyphen at e)
]

-- a word has no `%` or `@` in front
bare : (n : ℕ) (cs : List ℕ) → begins_letter cs ≡ true → word_of (take n cs) ≡ take n cs
bare zero cs h = refl
bare (suc n) [] h = refl
bare (suc n) (c ∷ cs) h = let plain : (c == 37 || c == 64) ≡ false = grind (arith, nat_tests) in rw plain refl

word_named : (cs : List ℕ) (n : ℕ) → begins_letter cs ≡ true → word_front cs ≡ front.Token kind.Identifier n → is_label (word_of (take n cs)) ≡ true
unfolding word_front
word_named cs n letter e = elim (cases_Bool (is_label (take (word_run cs) cs))) [
  | inl label ↦
      let z = rw label at e in
      let run : word_run cs ≡ n = cc in
      let named : is_label (take n cs) ≡ true = rw run at label in
      rw (bare n cs letter) named
  | inr label ↦ absurd (let z = rw label at e in cc)
]

escape_named : (c : ℕ) (cs : List ℕ) (n : ℕ) → (c == 37) ≡ true → escape_front cs ≡ front.Token kind.Identifier n → is_label (word_of (take n (c ∷ cs))) ≡ true
unfolding escape_front
escape_named c cs n percent e = elim (cases_Bool (begins_letter cs)) [
  | inl letter ↦ elim (cases_Bool (is_label (take (word_run cs) cs))) [
    | inl label ↦
        let z = rw (letter, label) at e in
        let run : word_run cs + 1 ≡ n = cc in
        let long : n ≡ suc (word_run cs) = omega arith in
        rw (long, percent) label
    | inr label ↦ absurd (let z = rw (letter, label) at e in cc)
  ]
  | inr letter ↦ absurd (let z = rw letter at e in cc)
]

-- what begins with another byte than a blank, a letter or a digit
other_named : (c : ℕ) (cs : List ℕ) (n : ℕ) → is_blank c ≡ false → is_letter c ≡ false → is_digit c ≡ false → front_of (c ∷ cs) ≡ front.Token kind.Identifier n → is_label (word_of (take n (c ∷ cs))) ≡ true
unfolding front_of
other_named c cs n space letter digit e = elim (cases_Bool (c == 47)) [
  | inl slash ↦ absurd (no_slash cs n (rw (space, letter, digit, slash) at e))
  | inr slash ↦ elim (cases_Bool (c == 37)) [
    | inl percent ↦ escape_named c cs n percent (rw (space, letter, digit, slash, percent) at e)
    | inr percent ↦ elim (cases_Bool (c == 64)) [
      | inl sign ↦ absurd (no_version cs n (rw (space, letter, digit, slash, percent, sign) at e))
      | inr sign ↦ absurd (no_punctuation c cs n (rw (space, letter, digit, slash, percent, sign) at e))
    ]
  ]
]

front_named : (cs : List ℕ) (n : ℕ) → front_of cs ≡ front.Token kind.Identifier n → is_label (word_of (take n cs)) ≡ true
unfolding front_of
front_named [] n e = absurd cc
front_named (c ∷ cs) n e = elim (cases_Bool (is_blank c)) [
  | inl space ↦ absurd (let z = rw space at e in cc)
  | inr space ↦ elim (cases_Bool (is_letter c)) [
    | inl letter ↦ word_named (c ∷ cs) n letter (rw (space, letter) at e)
    | inr letter ↦ elim (cases_Bool (is_digit c)) [
      | inl digit ↦ absurd (let z = rw (space, letter, digit) at e in cc)
      | inr digit ↦ other_named c cs n space letter digit e
    ]
  ]
]

bytes_from : (text : List ℕ) (at n : ℕ) (k : TokenKind) → at + n ≤ length text → bytes_of text (token_from k at n) ≡ take n (drop at text)
bytes_from text at n k within =
    let up : nat_le at (at + n) ≡ true = le-leb at (at + n) (omega arith) in
    let down : nat_le (at + n) (length text) ≡ true = le-leb (at + n) (length text) within in
    rw (up, down) (ap (λ m. take m (drop at text)) (omega arith))

token_named : (text : List ℕ) (at n : ℕ) (k : TokenKind) → front_of (drop at text) ≡ front.Token k n → at + n ≤ length text → IsNamed text (token_from k at n)
token_named text at n kind.Identifier e within = ap (λ bytes. is_label (word_of bytes)) (bytes_from text at n kind.Identifier within) ∙ front_named (drop at text) n e
token_named text at n (kind.Keyword k) e within = refl
token_named text at n (kind.Punctuation m) e within = refl
token_named text at n kind.Version e within = refl
token_named text at n kind.Integer e within = refl

pub named_upto : (text : List ℕ) (at : ℕ) (ts : List Token) → Upto text at ts → at ≤ length text → All (IsNamed text) ts
named_upto text _ _ begin within = All-nil (IsNamed text)
named_upto text _ _ (blank at n ts u e) within = named_upto text at ts u (omega arith)
named_upto text _ _ (next at n k ts u e) within = All-push (IsNamed text) ts (token_from k at n) (named_upto text at ts u (omega arith)) (token_named text at n k e within)
