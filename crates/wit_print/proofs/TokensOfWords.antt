-- Which tests of the grammar a word's token passes.
use Rattle.std.proofs.Common.{◌≡◌, ℕ, List, [], ◌∷◌, refl, ap, ◌∙◌, arith}
use Rattle.std.specs.List.{list_all}
use Rattle.std.specs.Prelude.{Bool, true, false, not, is_some, ◌==◌, ◌||◌}
use Rattle.std.proofs.lemmas.Bool.{or_right, eq-eqb, and_parts}
use Rattle.std.proofs.lemmas.Bool.Decides.{nat_tests}
use Rattle.atoms.specs.Label.{is_label, is_upper}
use Rattle.atoms.specs.FullName.{is_package_label}
use Rattle.wit_tokens.specs.declared.token.Keyword.{Keyword}
use Rattle.wit_tokens.specs.declared.token.Punctuation.{Punctuation}
use Rattle.wit_tokens.specs.declared.token.TokenKind.TheVariants as kind
use Rattle.wit_tokens.specs.Keywords.{keyword_of}
use Rattle.wit_tokens.specs.Lexing.{is_letter, begins_letter}
use denote.Enum.Declared.{tag_of}
use Rattle.wit_tokens.specs.contracts.token.Keyword as keyword_type
use Rattle.wit_tokens.specs.contracts.token.Punctuation as mark_type
use Rattle.wit_tokens.specs.Tokens.{Lexeme, same_kind, word_of}
use Rattle.wit_grammar.specs.Faults.{is}
use Rattle.wit_grammar.specs.Grammar.{is_name, is_lower_name, is_version_token, is_version_text, id, lower_id}
use Rattle.wit_print.specs.Words.{Word, mark_word, keyword_word, name_word, version_word, escaped}
use Rattle.wit_print.proofs.WordsAtTheFront.{letter-first, from-start}
use Rattle.wit_print.proofs.PrintingByGrammar.{Spells, Writes, Bound, Passes, Misses, IsThe, then_writes, made_writes, one_writes}

-- ---- marks and keywords

same-keyword : (k : Keyword) → same_kind (kind.Keyword k) (kind.Keyword k) ≡ true
same-keyword k = eq-eqb (tag_of keyword_type.the_type k) (tag_of keyword_type.the_type k) refl

same-mark : (p : Punctuation) → same_kind (kind.Punctuation p) (kind.Punctuation p) ≡ true
same-mark p = eq-eqb (tag_of mark_type.the_type p) (tag_of mark_type.the_type p) refl

pub is-mark : (space : List ℕ) (p : Punctuation) → Passes (is (kind.Punctuation p)) (mark_word space p)
is-mark space p l e = ap (λ w. same_kind w.kind (kind.Punctuation p)) e ∙ same-mark p

pub is-keyword : (space : List ℕ) (k : Keyword) → Passes (is (kind.Keyword k)) (keyword_word space k)
is-keyword space k l e = ap (λ w. same_kind w.kind (kind.Keyword k)) e ∙ same-keyword k

pub other-mark : (space : List ℕ) (p q : Punctuation) → same_kind (kind.Punctuation p) (kind.Punctuation q) ≡ false → Misses (is (kind.Punctuation q)) (mark_word space p)
other-mark space p q h l e = ap (λ w. same_kind w.kind (kind.Punctuation q)) e ∙ h

-- one of two marks
pub either-mark : (space : List ℕ) (p q : Punctuation) → Passes (λ s. is (kind.Punctuation q) s || is (kind.Punctuation p) s) (mark_word space p)
either-mark space p q l e = or_right (is (kind.Punctuation q) l) (is (kind.Punctuation p) l) (is-mark space p l e)

pub mark-then : {Y : Type 0} {q : Lexeme → Spells Y} (space : List ℕ) (p : Punctuation) (vs : List Word) (Q : Y → Type 0)
    → ((l : Lexeme) → Writes (q l) vs Q) → Writes (Bound (λ ts t. (ts ≡ t ∷ []) × (is (kind.Punctuation p) t ≡ true)) q) (mark_word space p ∷ vs) Q
mark-then space p vs Q then = then_writes (is (kind.Punctuation p)) (mark_word space p) vs Q (is-mark space p) (λ l e. then l)

pub keyword-then : {Y : Type 0} {q : Lexeme → Spells Y} (space : List ℕ) (k : Keyword) (vs : List Word) (Q : Y → Type 0)
    → ((l : Lexeme) → Writes (q l) vs Q) → Writes (Bound (λ ts t. (ts ≡ t ∷ []) × (is (kind.Keyword k) t ≡ true)) q) (keyword_word space k ∷ vs) Q
keyword-then space k vs Q then = then_writes (is (kind.Keyword k)) (keyword_word space k) vs Q (is-keyword space k) (λ l e. then l)

-- ---- names

-- a letter is neither the mark of an escaped word nor that of a version
letter-is-plain : (c : ℕ) (cs : List ℕ) → is_letter c ≡ true → word_of (c ∷ cs) ≡ c ∷ cs
letter-is-plain c cs h = by (c == 37 || c == 64) refl
  where
    by : (b : Bool) → (c == 37 || c == 64) ≡ b → word_of (c ∷ cs) ≡ c ∷ cs
    by true e = absurd (grind (arith, nat_tests))
    by false e = rw e refl

plain-word : (n : List ℕ) → begins_letter n ≡ true → word_of n ≡ n
plain-word [] h = refl
plain-word (c ∷ cs) h = letter-is-plain c cs h

pub escaped-word : (n : List ℕ) → is_label n ≡ true → word_of (escaped n) ≡ n
escaped-word n h = by (is_some (keyword_of n)) refl
  where
    by : (b : Bool) → is_some (keyword_of n) ≡ b → word_of (escaped n) ≡ n
    by true e = rw e refl
    by false e = rw e (plain-word n (letter-first n (from-start n h)))

pub name-text : (space n : List ℕ) (l : Lexeme) → is_label n ≡ true → IsThe (name_word space n) l → l.text ≡ n
name-text space n l h e = ap (λ w. w.text) e ∙ escaped-word n h

pub is-the-name : (space n : List ℕ) → is_label n ≡ true → Passes is_name (name_word space n)
unfolding is_name
is-the-name space n h l e = let k : l.token.kind ≡ kind.Identifier = ap (λ w. w.kind) e in let t : l.text ≡ n = name-text space n l h e in rw (k, t) h

pub id-writes : (end : ℕ) (space n : List ℕ) → is_label n ≡ true → Writes (id end).spells (name_word space n ∷ []) (λ x. x ≡ n)
unfolding id
id-writes end space n h = made_writes (λ l. l.text) (name_word space n ∷ []) (IsThe (name_word space n)) (λ x. x ≡ n) (one_writes is_name (name_word space n) (is-the-name space n h)) (λ l e. name-text space n l h e)

pub package-is-label : (n : List ℕ) → is_package_label n ≡ true → is_label n ≡ true
unfolding is_package_label
package-is-label n h = (and_parts (is_label n) (list_all (λ c. not (is_upper c)) n) h).0

pub lower-id-writes : (end : ℕ) (space n : List ℕ) → is_package_label n ≡ true → Writes (lower_id end).spells (name_word space n ∷ []) (λ x. x ≡ n)
unfolding lower_id is_lower_name
lower-id-writes end space n h =
    let label = package-is-label n h in
    made_writes (λ l. l.text) (name_word space n ∷ []) (IsThe (name_word space n)) (λ x. x ≡ n)
    (one_writes is_lower_name (name_word space n) (λ l e. let k : l.token.kind ≡ kind.Identifier = ap (λ w. w.kind) e in let t : l.text ≡ n = name-text space n l label e in rw (k, t) h))
    (λ l e. name-text space n l label e)

pub no-name : (space : List ℕ) (k : Keyword) (l : Lexeme) → IsThe (keyword_word space k) l → is_name l ≡ false
unfolding is_name
no-name space k l e = let f : l.token.kind ≡ kind.Keyword k = ap (λ w. w.kind) e in rw f refl

-- ---- versions

pub version-text : (v : List ℕ) (l : Lexeme) → IsThe (version_word v) l → l.text ≡ v
version-text v l e = ap (λ w. w.text) e

pub is-the-version : (v : List ℕ) → is_version_text v ≡ true → Passes is_version_token (version_word v)
unfolding is_version_token
is-the-version v h l e = let k : l.token.kind ≡ kind.Version = ap (λ w. w.kind) e in let t : l.text ≡ v = version-text v l e in rw (k, t) h
