-- Where words stand in a text: a word that runs on, where the text breaks behind it.
use Rattle.std.proofs.Common.{◌≡◌, ◌<◌, ◌+◌, ℕ, suc, List, [], ◌∷◌, ◌++◌, length, refl, sym, ap, subst, ◌∙◌, arith}
use Rattle.std.specs.Prelude.{Bool, true, false, is_some, if◌then◌else◌, ◌==◌, Option, Some, None}
use Rattle.std.specs.List.{list_all}
use Rattle.std.proofs.lemmas.Bool.{false≢true}
use Rattle.std.proofs.lemmas.Bool.Decides.{nat_tests}
use Rattle.atoms.specs.Label.{is_label}
use Rattle.wit_tokens.specs.declared.token.Keyword.{Keyword}
use Rattle.wit_tokens.specs.declared.token.Keyword.TheVariants as kw
use Rattle.wit_tokens.specs.declared.token.Punctuation.{Punctuation}
use Rattle.wit_tokens.specs.declared.token.Punctuation.TheVariants as mark
use Rattle.wit_tokens.specs.declared.token.TokenKind.TheVariants as kind
use Rattle.wit_tokens.specs.declared.lexer.Front.TheVariants as front
use Rattle.wit_tokens.specs.Keywords.{spelling, keywords, keyword_of}
use Rattle.wit_tokens.specs.Lexing.{front_of, slash_front, punctuation_front, at_front, version_run, dotted, is_in_version, begins_digit, begins_letter, word_kind, keyword_kind, is_blank}
use Rattle.wit_tokens.specs.Marks.{mark_text}
use Rattle.wit_print.specs.Words.{Word, words_text, escaped, mark_word, keyword_word, name_word, version_word}
use Rattle.wit_print.specs.Printable.{IsPrintableVersion}
use Rattle.wit_print.proofs.WordsAtTheFront.{breaks, from-start, letter-first, word_stands, escaped_stands}
use Rattle.wit_print.proofs.TextsOfWords.{text-append}

abbrev pub IsSpace : List ℕ → Type 0
IsSpace space = list_all is_blank space ≡ true

-- the token stands at the front of its bytes with these behind them
pub record WordStands (w : Word) (rest : List ℕ) : Type 0 where
  pub blank : IsSpace w.space
  pub some : 0 < length w.bytes
  pub token : front_of (w.bytes ++ rest) ≡ front.Token w.kind (length w.bytes)

-- each stands where the others follow it, and then these bytes
abbrev pub AllStand : List Word → List ℕ → Type 0
AllStand [] rest = Unit {0}
AllStand (w ∷ ws) rest = WordStands w (words_text ws rest) × AllStand ws rest

-- wherever the text breaks behind them
abbrev pub StandEverywhere : List Word → Type 0
StandEverywhere ws = (rest : List ℕ) → breaks rest ≡ true → AllStand ws rest

stand-append : (ws vs : List Word) (rest : List ℕ) → AllStand ws (words_text vs rest) → AllStand vs rest → AllStand (ws ++ vs) rest
stand-append [] vs rest h k = k
stand-append (w ∷ ws) vs rest h k = (subst (WordStands w) (sym (text-append ws vs rest)) h.0, stand-append ws vs rest h.1 k)

pub followed : (ws vs : List Word) (rest : List ℕ) → StandEverywhere ws → breaks (words_text vs rest) ≡ true → AllStand vs rest → AllStand (ws ++ vs) rest
followed ws vs rest h b k = stand-append ws vs rest (h (words_text vs rest) b) k

-- words that stand whatever is behind them
pub followed-by : (ws vs : List Word) (rest : List ℕ) → ((more : List ℕ) → AllStand ws more) → AllStand vs rest → AllStand (ws ++ vs) rest
followed-by ws vs rest h k = stand-append ws vs rest (h (words_text vs rest)) k

-- ---- marks

-- all that a canonical text has, but for `/`
abbrev pub is_printed : Punctuation → Bool
is_printed mark.Slash = false
is_printed mark.At = false
is_printed _ = true

mark-token : (p : Punctuation) (rest : List ℕ) → is_printed p ≡ true → front_of (mark_text p ++ rest) ≡ front.Token (kind.Punctuation p) (length (mark_text p))
unfolding front_of punctuation_front
mark-token mark.Arrow rest h = refl
mark-token mark.Colon rest h = refl
mark-token mark.Semicolon rest h = refl
mark-token mark.Comma rest h = refl
mark-token mark.Dot rest h = refl
mark-token mark.OpenBrace rest h = refl
mark-token mark.CloseBrace rest h = refl
mark-token mark.OpenParenthesis rest h = refl
mark-token mark.CloseParenthesis rest h = refl
mark-token mark.Less rest h = refl
mark-token mark.Greater rest h = refl
mark-token mark.Equals rest h = refl
mark-token mark.Underscore rest h = refl
mark-token mark.Slash rest h = absurd (false≢true h)
mark-token mark.At rest h = absurd (false≢true h)

mark-some : (p : Punctuation) → 0 < length (mark_text p)
mark-some mark.Arrow = omega arith
mark-some mark.Colon = omega arith
mark-some mark.Semicolon = omega arith
mark-some mark.Comma = omega arith
mark-some mark.Dot = omega arith
mark-some mark.OpenBrace = omega arith
mark-some mark.CloseBrace = omega arith
mark-some mark.OpenParenthesis = omega arith
mark-some mark.CloseParenthesis = omega arith
mark-some mark.Less = omega arith
mark-some mark.Greater = omega arith
mark-some mark.Equals = omega arith
mark-some mark.Underscore = omega arith
mark-some mark.Slash = omega arith
mark-some mark.At = omega arith

pub mark-stands : (space : List ℕ) (p : Punctuation) (rest : List ℕ) → IsSpace space → is_printed p ≡ true → WordStands (mark_word space p) rest
mark-stands space p rest s h = record { blank = s; some = mark-some p; token = mark-token p rest h }

-- `/` before a name
letter-behind : (n rest : List ℕ) → begins_letter n ≡ true → front_of (47 ∷ (n ++ rest)) ≡ front.Token (kind.Punctuation mark.Slash) 1
unfolding front_of slash_front
letter-behind [] rest h = absurd (false≢true h)
letter-behind (c ∷ cs) rest h = by (c == 47) (c == 42) refl refl
  where
    by : (s t : Bool) → (c == 47) ≡ s → (c == 42) ≡ t → front_of (47 ∷ c ∷ (cs ++ rest)) ≡ front.Token (kind.Punctuation mark.Slash) 1
    by false false es et = rw (es, et) refl
    by true t es et = absurd (grind (arith, nat_tests))
    by false true es et = absurd (grind (arith, nat_tests))

name-behind : (n rest : List ℕ) → is_label n ≡ true → front_of (47 ∷ (escaped n ++ rest)) ≡ front.Token (kind.Punctuation mark.Slash) 1
unfolding front_of slash_front
name-behind n rest h = by (is_some (keyword_of n)) refl
  where
    by : (k : Bool) → is_some (keyword_of n) ≡ k → front_of (47 ∷ (escaped n ++ rest)) ≡ front.Token (kind.Punctuation mark.Slash) 1
    by true e = rw e refl
    by false e = rw e (letter-behind n rest (letter-first n (from-start n h)))

pub slash-stands : (n rest : List ℕ) → is_label n ≡ true → WordStands (mark_word [] mark.Slash) (escaped n ++ rest)
slash-stands n rest h = record { blank = refl; some = omega arith; token = name-behind n rest h }

-- ---- keywords

keyword-label : (k : Keyword) → is_label (spelling k) ≡ true
unfolding is_label
keyword-label kw.As = refl
keyword-label kw.Async = refl
keyword-label kw.Bool = refl
keyword-label kw.Borrow = refl
keyword-label kw.Char = refl
keyword-label kw.Constructor = refl
keyword-label kw.Enum = refl
keyword-label kw.ErrorContext = refl
keyword-label kw.Export = refl
keyword-label kw.F32 = refl
keyword-label kw.F64 = refl
keyword-label kw.Flags = refl
keyword-label kw.From = refl
keyword-label kw.Func = refl
keyword-label kw.Future = refl
keyword-label kw.Import = refl
keyword-label kw.Include = refl
keyword-label kw.Interface = refl
keyword-label kw.List = refl
keyword-label kw.Map = refl
keyword-label kw.Option = refl
keyword-label kw.Own = refl
keyword-label kw.Package = refl
keyword-label kw.Record = refl
keyword-label kw.Resource = refl
keyword-label kw.Result = refl
keyword-label kw.S16 = refl
keyword-label kw.S32 = refl
keyword-label kw.S64 = refl
keyword-label kw.S8 = refl
keyword-label kw.Static = refl
keyword-label kw.Stream = refl
keyword-label kw.String = refl
keyword-label kw.Tuple = refl
keyword-label kw.«Type» = refl
keyword-label kw.U16 = refl
keyword-label kw.U32 = refl
keyword-label kw.U64 = refl
keyword-label kw.U8 = refl
keyword-label kw.Use = refl
keyword-label kw.Variant = refl
keyword-label kw.With = refl
keyword-label kw.World = refl

keyword-kind : (k : Keyword) → word_kind (spelling k) ≡ kind.Keyword k
unfolding keywords
keyword-kind kw.As = refl
keyword-kind kw.Async = refl
keyword-kind kw.Bool = refl
keyword-kind kw.Borrow = refl
keyword-kind kw.Char = refl
keyword-kind kw.Constructor = refl
keyword-kind kw.Enum = refl
keyword-kind kw.ErrorContext = refl
keyword-kind kw.Export = refl
keyword-kind kw.F32 = refl
keyword-kind kw.F64 = refl
keyword-kind kw.Flags = refl
keyword-kind kw.From = refl
keyword-kind kw.Func = refl
keyword-kind kw.Future = refl
keyword-kind kw.Import = refl
keyword-kind kw.Include = refl
keyword-kind kw.Interface = refl
keyword-kind kw.List = refl
keyword-kind kw.Map = refl
keyword-kind kw.Option = refl
keyword-kind kw.Own = refl
keyword-kind kw.Package = refl
keyword-kind kw.Record = refl
keyword-kind kw.Resource = refl
keyword-kind kw.Result = refl
keyword-kind kw.S16 = refl
keyword-kind kw.S32 = refl
keyword-kind kw.S64 = refl
keyword-kind kw.S8 = refl
keyword-kind kw.Static = refl
keyword-kind kw.Stream = refl
keyword-kind kw.String = refl
keyword-kind kw.Tuple = refl
keyword-kind kw.«Type» = refl
keyword-kind kw.U16 = refl
keyword-kind kw.U32 = refl
keyword-kind kw.U64 = refl
keyword-kind kw.U8 = refl
keyword-kind kw.Use = refl
keyword-kind kw.Variant = refl
keyword-kind kw.With = refl
keyword-kind kw.World = refl

label-some : (n : List ℕ) → is_label n ≡ true → 0 < length n
unfolding is_label
label-some [] h = absurd (false≢true h)
label-some (c ∷ cs) h = omega arith

pub keyword-stands : (space : List ℕ) (k : Keyword) (rest : List ℕ) → IsSpace space → breaks rest ≡ true → WordStands (keyword_word space k) rest
keyword-stands space k rest s b = record {
  blank = s;
  some = label-some (spelling k) (keyword-label k);
  token = word_stands (spelling k) rest (keyword-label k) b ∙ ap (λ w. front.Token w (length (spelling k))) (keyword-kind k);
}

-- ---- names

one-more : (n : ℕ) → n + 1 ≡ suc n
one-more n = omega arith

no-keyword : (o : Option Keyword) → is_some o ≡ false → keyword_kind o ≡ kind.Identifier
no-keyword None e = refl
no-keyword (Some k) e = absurd (false≢true (sym e))

pub name-stands : (space n rest : List ℕ) → IsSpace space → is_label n ≡ true → breaks rest ≡ true → WordStands (name_word space n) rest
name-stands space n rest s h b = by (is_some (keyword_of n)) refl
  where
    by : (k : Bool) → is_some (keyword_of n) ≡ k → WordStands (name_word space n) rest
    by true e = record { blank = s; some = rw e (omega (arith, label-some n h)); token = rw e (escaped_stands n rest h b ∙ ap (front.Token kind.Identifier) (one-more (length n))) }
    by false e = record { blank = s; some = rw e (label-some n h); token = rw e (word_stands n rest h b ∙ ap (λ k. front.Token k (length n)) (no-keyword (keyword_of n) e)) }

-- ---- versions

run-before : (v rest : List ℕ) → version_run rest ≡ 0 → version_run (v ++ rest) ≡ version_run v
run-before [] rest h = h
run-before (c ∷ cs) rest h = ap (λ n. if is_in_version c then dotted c n else 0) (run-before cs rest h)

digit-before : (v rest : List ℕ) → begins_digit v ≡ true → begins_digit (v ++ rest) ≡ true
digit-before [] rest h = absurd (false≢true h)
digit-before (c ∷ cs) rest h = h

-- a version that nothing behind it goes on with
pub version-stands : (v rest : List ℕ) → version_run rest ≡ 0 → IsPrintableVersion v → WordStands (version_word v) rest
unfolding front_of at_front
version-stands v rest ends h = record {
  blank = refl;
  some = omega arith;
  token = rw (digit-before v rest h.begins, run-before v rest ends, h.runs) (ap (front.Token kind.Version) (one-more (length v)));
}
