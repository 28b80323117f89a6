-- When a word stands at the front of a text.
use Rattle.std.proofs.Common.{◌≡◌, ◌+◌, ℕ, suc, List, [], ◌∷◌, ◌++◌, take, length, refl, sym, ap, ◌∙◌, arith, take_at}
use Rattle.std.specs.Prelude.{Bool, true, false, not, ◌&&◌, ◌||◌, ◌==◌, if◌then◌else◌}
use Rattle.std.proofs.lemmas.Bool.{and_parts, and_from, and_left, or_left, or_right, or_parts, or_from, not-true, false≢true}
use Rattle.std.proofs.lemmas.Bool.Decides.{nat_tests}
use Rattle.atoms.proofs.LabelsInOnePass.{label_from, is_label_by}
use Rattle.atoms.specs.declared.label.Place.{Place}
use Rattle.atoms.specs.declared.label.Place.TheVariants as place
use Rattle.std.specs.Prelude.{nat_le}
use Rattle.atoms.specs.Label.{is_lower, is_upper, is_digit, is_hyphen, is_label}
use Rattle.wit_tokens.specs.declared.token.TokenKind.TheVariants as kind
use Rattle.wit_tokens.specs.declared.token.Punctuation.TheVariants as mark
use Rattle.wit_tokens.specs.declared.lexer.Front.TheVariants as front
use Rattle.wit_tokens.specs.Lexing.{front_of, word_front, escape_front, word_run, word_kind, is_blank, is_letter, begins_with, begins_letter}

-- a character of a word
abbrev pub is_in_word : ℕ → Bool
is_in_word c = is_letter c || is_digit c || c == 45

-- what ends a word: no text, or a text that begins otherwise
abbrev pub breaks : List ℕ → Bool
breaks [] = true
breaks (c ∷ cs) = not (is_in_word c)

-- one character of a run, before these
abbrev runs : ℕ → List ℕ → Bool
runs c xs = is_letter c || is_digit c || (c == 45 && not (begins_with 62 xs))

one_more : (c : ℕ) (xs : List ℕ) → runs c xs ≡ true → word_run (c ∷ xs) ≡ suc (word_run xs)
one_more c xs h = rw h refl

abbrev last_run : ℕ → List ℕ → Bool
last_run c xs = c == 45 && not (begins_with 62 xs)

lower_runs : (c : ℕ) (xs : List ℕ) → is_lower c ≡ true → runs c xs ≡ true
lower_runs c xs h = rw h refl

upper_runs : (c : ℕ) (xs : List ℕ) → is_upper c ≡ true → runs c xs ≡ true
upper_runs c xs h = or_left (is_letter c || is_digit c) (last_run c xs) (or_left (is_letter c) (is_digit c) (or_right (is_lower c) (is_upper c) h))

digit_runs : (c : ℕ) (xs : List ℕ) → is_digit c ≡ true → runs c xs ≡ true
digit_runs c xs h = or_left (is_letter c || is_digit c) (last_run c xs) (or_right (is_letter c) (is_digit c) h)

hyphen_runs : (c : ℕ) (xs : List ℕ) → is_hyphen c ≡ true → begins_with 62 xs ≡ false → runs c xs ≡ true
hyphen_runs c xs h b = or_right (is_letter c || is_digit c) (last_run c xs) (and_from (c == 45) (not (begins_with 62 xs)) h (ap not b))

-- no word begins with `>`
starts : (cs rest : List ℕ) → label_from place.Start cs ≡ true → begins_with 62 (cs ++ rest) ≡ false
starts [] rest h = absurd (false≢true h)
starts (c ∷ cs) rest h = by (is_lower c) (is_upper c) refl refl h
  where
    by : (l u : Bool) → is_lower c ≡ l → is_upper c ≡ u → (if l then label_from place.Lower cs else (if u then label_from place.Upper cs else false)) ≡ true → (c == 62) ≡ false
    by true u el eu h = grind (arith, nat_tests)
    by false true el eu h = grind (arith, nat_tests)
    by false false el eu h = absurd (false≢true h)

-- nothing of it runs on where it breaks
breaks_run : (rest : List ℕ) → breaks rest ≡ true → word_run rest ≡ 0
breaks_run [] b = refl
breaks_run (c ∷ cs) b =
    let parts = or_parts (is_letter c || is_digit c) (c == 45) (not-true (is_in_word c) b) in
    let stops : runs c cs ≡ false = or_from (is_letter c || is_digit c) (last_run c cs) parts.0 (and_left (c == 45) (not (begins_with 62 cs)) parts.1) in
    rw stops refl

-- the first character of a word, where the rest runs for n more
abbrev Rest : Place → List ℕ → List ℕ → ℕ → Type 0
Rest p cs xs n = label_from p cs ≡ true → word_run xs ≡ n

at_start : (c : ℕ) (cs xs : List ℕ) (n : ℕ) (l u : Bool) → is_lower c ≡ l → is_upper c ≡ u → Rest place.Lower cs xs n → Rest place.Upper cs xs n
    → (if l then label_from place.Lower cs else (if u then label_from place.Upper cs else false)) ≡ true → word_run (c ∷ xs) ≡ suc n
at_start c cs xs n true u el eu lower upper h = one_more c xs (lower_runs c xs el) ∙ ap suc (lower h)
at_start c cs xs n false true el eu lower upper h = one_more c xs (upper_runs c xs eu) ∙ ap suc (upper h)
at_start c cs xs n false false el eu lower upper h = absurd (false≢true h)

in_lower : (c : ℕ) (cs rest : List ℕ) (n : ℕ) (l d m : Bool) → is_lower c ≡ l → is_digit c ≡ d → is_hyphen c ≡ m → Rest place.Lower cs (cs ++ rest) n → Rest place.Start cs (cs ++ rest) n
    → (if l || d then label_from place.Lower cs else (if m then label_from place.Start cs else false)) ≡ true → word_run (c ∷ (cs ++ rest)) ≡ suc n
in_lower c cs rest n true d m el ed em on start h = one_more c (cs ++ rest) (lower_runs c (cs ++ rest) el) ∙ ap suc (on h)
in_lower c cs rest n false true m el ed em on start h = one_more c (cs ++ rest) (digit_runs c (cs ++ rest) ed) ∙ ap suc (on h)
in_lower c cs rest n false false true el ed em on start h = one_more c (cs ++ rest) (hyphen_runs c (cs ++ rest) em (starts cs rest h)) ∙ ap suc (start h)
in_lower c cs rest n false false false el ed em on start h = absurd (false≢true h)

in_upper : (c : ℕ) (cs rest : List ℕ) (n : ℕ) (u d m : Bool) → is_upper c ≡ u → is_digit c ≡ d → is_hyphen c ≡ m → Rest place.Upper cs (cs ++ rest) n → Rest place.Start cs (cs ++ rest) n
    → (if u || d then label_from place.Upper cs else (if m then label_from place.Start cs else false)) ≡ true → word_run (c ∷ (cs ++ rest)) ≡ suc n
in_upper c cs rest n true d m eu ed em on start h = one_more c (cs ++ rest) (upper_runs c (cs ++ rest) eu) ∙ ap suc (on h)
in_upper c cs rest n false true m eu ed em on start h = one_more c (cs ++ rest) (digit_runs c (cs ++ rest) ed) ∙ ap suc (on h)
in_upper c cs rest n false false true eu ed em on start h = one_more c (cs ++ rest) (hyphen_runs c (cs ++ rest) em (starts cs rest h)) ∙ ap suc (start h)
in_upper c cs rest n false false false eu ed em on start h = absurd (false≢true h)

-- a label's characters run to where the text breaks behind it
run_from : (p : Place) (w rest : List ℕ) → label_from p w ≡ true → breaks rest ≡ true → word_run (w ++ rest) ≡ length w
run_from place.Start [] rest h b = absurd (false≢true h)
run_from place.Lower [] rest h b = breaks_run rest b
run_from place.Upper [] rest h b = breaks_run rest b
run_from place.Start (c ∷ cs) rest h b =
    at_start c cs (cs ++ rest) (length cs) (is_lower c) (is_upper c) refl refl (λ k. run_from place.Lower cs rest k b) (λ k. run_from place.Upper cs rest k b) h
run_from place.Lower (c ∷ cs) rest h b =
    in_lower c cs rest (length cs) (is_lower c) (is_digit c) (is_hyphen c) refl refl refl (λ k. run_from place.Lower cs rest k b) (λ k. run_from place.Start cs rest k b) h
run_from place.Upper (c ∷ cs) rest h b =
    in_upper c cs rest (length cs) (is_upper c) (is_digit c) (is_hyphen c) refl refl refl (λ k. run_from place.Upper cs rest k b) (λ k. run_from place.Start cs rest k b) h

pub from-start : (w : List ℕ) → is_label w ≡ true → label_from place.Start w ≡ true
from-start w h = (and_parts (nat_le (length w) 255) (label_from place.Start w) (sym (is_label_by w) ∙ h)).1

run_is : (w rest : List ℕ) → is_label w ≡ true → breaks rest ≡ true → word_run (w ++ rest) ≡ length w
run_is w rest h b = run_from place.Start w rest (from-start w h) b

taken : (w rest : List ℕ) → is_label w ≡ true → breaks rest ≡ true → take (word_run (w ++ rest)) (w ++ rest) ≡ w
taken w rest h b = ap (λ n. take n (w ++ rest)) (run_is w rest h b) ∙ take_at w rest (length w) refl

-- a word begins with a letter
pub letter-first : (w : List ℕ) → label_from place.Start w ≡ true → begins_letter w ≡ true
letter-first [] h = absurd (false≢true h)
letter-first (c ∷ cs) h = by (is_lower c) (is_upper c) refl refl h
  where
    by : (l u : Bool) → is_lower c ≡ l → is_upper c ≡ u → (if l then label_from place.Lower cs else (if u then label_from place.Upper cs else false)) ≡ true → is_letter c ≡ true
    by true u el eu h = or_left (is_lower c) (is_upper c) el
    by false true el eu h = or_right (is_lower c) (is_upper c) eu
    by false false el eu h = absurd (false≢true h)

not_blank : (c : ℕ) → is_letter c ≡ true → is_blank c ≡ false
not_blank c h = grind (arith, nat_tests)

begins_behind : (w rest : List ℕ) → begins_letter w ≡ true → begins_letter (w ++ rest) ≡ true
begins_behind [] rest h = absurd (false≢true h)
begins_behind (c ∷ cs) rest h = h

-- where a letter begins the text, a word does
word_first : (text : List ℕ) → begins_letter text ≡ true → front_of text ≡ word_front text
unfolding front_of
word_first [] h = absurd (false≢true h)
word_first (c ∷ cs) h = rw (not_blank c h, h) refl

-- a label is a word wherever the text breaks behind it
pub word_stands : (w rest : List ℕ) → is_label w ≡ true → breaks rest ≡ true → front_of (w ++ rest) ≡ front.Token (word_kind w) (length w)
unfolding word_front
word_stands w rest h b =
    word_first (w ++ rest) (begins_behind w rest (letter-first w (from-start w h))) ∙ rw (taken w rest h b, h, run_is w rest h b) refl

pub escaped_stands : (w rest : List ℕ) → is_label w ≡ true → breaks rest ≡ true → front_of (37 ∷ (w ++ rest)) ≡ front.Token kind.Identifier (length w + 1)
unfolding front_of escape_front
escaped_stands w rest h b = rw (begins_behind w rest (letter-first w (from-start w h)), taken w rest h b, h, run_is w rest h b) refl
