-- Words of lower-case letters and digits, by one way over them.
use Rattle.std.proofs.Common.{◌≡◌, ℕ, suc, ◌<◌, ◌≤◌, ◌==◌, Bool, true, false, not, List, [], ◌∷◌, length, take, Option, Some, None, if◌then◌else◌, refl, sym, ap, ◌∙◌, inl, inr, arith}
use Rattle.std.proofs.lemmas.List.{length-take}
use Rattle.std.proofs.lemmas.Bool.{cases_Bool}
use Rattle.std.proofs.lemmas.Bool.Decides.{nat_tests}
use Rattle.atoms.specs.Label.{is_lower, is_upper, is_digit, is_label, are_words}
use Rattle.atoms.specs.declared.label.Place.{Place}
use Rattle.atoms.specs.declared.label.Place.TheVariants as place
use Rattle.atoms.proofs.LabelsInOnePass.{label_from, words_by, short_label}
use Rattle.wit_tokens.specs.LowerWords.{begins_lower}
use Rattle.wit_tokens.specs.Lexing.{is_blank, is_letter, word_run, plus, begins_with, token, word_kind, word_front, front_of}

-- the length of the word, of which a part may have begun
abbrev pub lower_from : Bool → List ℕ → Option ℕ
lower_from begun [] = if begun then Some 0 else None
lower_from begun (c ∷ cs) =
    if is_lower c then plus 1 (lower_from true cs)
    else (if not begun then None
    else (if c == 45 then plus 1 (lower_from false cs)
    else (if is_digit c then plus 1 (lower_from begun cs)
    else (if is_upper c then None else Some 0))))

abbrev place_in : Bool → Place
place_in true = place.Lower
place_in false = place.Start

pub record Found (begun : Bool) (cs : List ℕ) (n : ℕ) : Type 0 where
  pub run : n ≡ word_run cs
  pub words : label_from (place_in begun) (take n cs) ≡ true
  pub within : n ≤ length cs
  pub some : begun ≡ false → 0 < n

one_less : (o : Option ℕ) (n : ℕ) → plus 1 o ≡ Some n → (m : ℕ) × (o ≡ Some m) × (n ≡ suc m)
one_less None n h = absurd cc
one_less (Some m) n h = (m, refl, grind arith)

-- a word that is still to begin begins with a letter
no_arrow : (cs : List ℕ) (n : ℕ) → lower_from false cs ≡ Some n → begins_with 62 cs ≡ false
no_arrow [] n h = refl
no_arrow (c ∷ cs) n h = elim (cases_Bool (is_lower c)) [
  | inl e ↦ grind (arith, nat_tests)
  | inr e ↦ absurd (let z = rw e at h in cc)
]

lower_step : (begun : Bool) (c : ℕ) (xs : List ℕ) → is_lower c ≡ true → label_from place.Lower xs ≡ true → label_from (place_in begun) (c ∷ xs) ≡ true
lower_step true c xs low h = rw low h
lower_step false c xs low h = rw low h

after_lower : (begun : Bool) (c : ℕ) (cs : List ℕ) (n : ℕ) → is_lower c ≡ true → Found true cs n → Found begun (c ∷ cs) (suc n)
after_lower begun c cs n low more = record {
  run = rw low (ap suc more.run);
  words = lower_step begun c (take n cs) low more.words;
  within = let w = more.within in omega arith;
  some = λ e. omega arith;
}

after_hyphen : (c : ℕ) (cs : List ℕ) (n : ℕ) → is_lower c ≡ false → (c == 45) ≡ true → begins_with 62 cs ≡ false → Found false cs n → Found true (c ∷ cs) (suc n)
after_hyphen c cs n low hyphen arrow more =
    let up : is_upper c ≡ false = grind (arith, nat_tests) in
    let digit : is_digit c ≡ false = grind (arith, nat_tests) in
    record {
      run = rw (low, up, digit, hyphen, arrow) (ap suc more.run);
      words = rw (low, digit, hyphen) more.words;
      within = let w = more.within in omega arith;
      some = λ e. omega arith;
    }

after_digit : (c : ℕ) (cs : List ℕ) (n : ℕ) → is_lower c ≡ false → is_digit c ≡ true → Found true cs n → Found true (c ∷ cs) (suc n)
after_digit c cs n low digit more =
    let up : is_upper c ≡ false = grind (arith, nat_tests) in
    record {
      run = rw (low, up, digit) (ap suc more.run);
      words = rw (low, digit) more.words;
      within = let w = more.within in omega arith;
      some = λ e. omega arith;
    }

at_end : (c : ℕ) (cs : List ℕ) → is_lower c ≡ false → is_upper c ≡ false → (c == 45) ≡ false → is_digit c ≡ false → Found true (c ∷ cs) 0
at_end c cs low up hyphen digit = record { run = rw (low, up, digit, hyphen) refl; words = refl; within = omega arith; some = λ e. absurd cc }

pub found : (begun : Bool) (cs : List ℕ) (n : ℕ) → lower_from begun cs ≡ Some n → Found begun cs n
found true [] n h = let e : n ≡ 0 = grind arith in rw e (record { run = refl; words = refl; within = omega arith; some = λ e. absurd cc })
found false [] n h = absurd cc
found false (c ∷ cs) n h = elim (cases_Bool (is_lower c)) [
  | inl low ↦ let m = one_less _ n (rw low at h) in rw m.2 (after_lower false c cs m.0 low (found true cs m.0 m.1))
  | inr low ↦ absurd (let z = rw low at h in cc)
]
found true (c ∷ cs) n h = elim (cases_Bool (is_lower c)) [
  | inl low ↦ let m = one_less _ n (rw low at h) in rw m.2 (after_lower true c cs m.0 low (found true cs m.0 m.1))
  | inr low ↦ elim (cases_Bool (c == 45)) [
    | inl hyphen ↦ let m = one_less _ n (rw (low, hyphen) at h) in rw m.2 (after_hyphen c cs m.0 low hyphen (no_arrow cs m.0 m.1) (found false cs m.0 m.1))
    | inr hyphen ↦ elim (cases_Bool (is_digit c)) [
      | inl digit ↦ let m = one_less _ n (rw (low, hyphen, digit) at h) in rw m.2 (after_digit c cs m.0 low digit (found true cs m.0 m.1))
      | inr digit ↦ elim (cases_Bool (is_upper c)) [
        | inl up ↦ absurd (let z = rw (low, hyphen, digit, up) at h in cc)
        | inr up ↦ let e : n ≡ 0 = (let z = rw (low, hyphen, digit, up) at h in grind arith) in rw e (at_end c cs low up hyphen digit)
      ]
    ]
  ]
]

pub found_run : (cs : List ℕ) (n : ℕ) → lower_from false cs ≡ Some n → n ≡ word_run cs
found_run cs n h = (found false cs n h).run

pub found_words : (cs : List ℕ) (n : ℕ) → lower_from false cs ≡ Some n → are_words (take n cs) ≡ true
found_words cs n h = sym (words_by (take n cs)) ∙ (found false cs n h).words

-- a short one is a word
label_word : (text : List ℕ) (n : ℕ) → n ≡ word_run text → are_words (take n text) ≡ true → n ≤ 255 → token (word_kind (take n text)) n ≡ word_front text
unfolding word_front
label_word text n run words short =
    let l : true ≡ is_label (take n text) = short_label (take n text) true (omega (arith, length-take n text)) (sym words) in
    let label : is_label (take (word_run text) text) ≡ true = sym (rw run at l) in
    rw (run, label) refl

-- what begins with a letter is a word
letter_front : (text : List ℕ) → begins_lower text ≡ true → word_front text ≡ front_of text
unfolding front_of
letter_front [] low = absurd cc
letter_front (c ∷ cs) low =
    let blank : is_blank c ≡ false = grind (arith, nat_tests) in
    let letter : is_letter c ≡ true = rw low refl in
    rw (blank, letter) refl

pub label_front : (text : List ℕ) (n : ℕ) → begins_lower text ≡ true → n ≡ word_run text → are_words (take n text) ≡ true → n ≤ 255 → token (word_kind (take n text)) n ≡ front_of text
label_front text n low run words short = label_word text n run words short ∙ letter_front text low
