-- Words of lower-case letters and digits, by many bytes at a time.
use Rattle.std.proofs.Common.{◌≡◌, ℕ, zero, suc, ◌+◌, ◌<◌, ◌==◌, true, false, not, List, [], ◌∷◌, length, drop, get_or, Option, Some, refl, sym, ap, ◌∙◌, inl, inr, arith}
use Rattle.std.proofs.lemmas.Bool.{cases_Bool}
use Rattle.std.proofs.lemmas.Bool.Decides.{nat_tests}
use Rattle.std.proofs.lemmas.List.{drop_more}
use Rattle.atoms.specs.Label.{is_lower, is_upper, is_digit}
use Rattle.wit_tokens.specs.Lexing.{plus}
use Rattle.wit_tokens.specs.LowerWords.{begins_lower, goes_on, GoOn}
use Rattle.wit_tokens.proofs.LowerWords.{lower_from}
use Rattle.wit_tokens.proofs.OpenComments.{plus_plus}

-- the length of the word whose byte at i is its last so far
abbrev pub word_from : List ℕ → ℕ → Option ℕ
word_from text i = plus (i + 1) (lower_from (not (get_or text i 0 == 45)) (drop (i + 1) text))

step : (before here : ℕ) (rest : List ℕ) → goes_on before here ≡ true → lower_from (not (before == 45)) (here ∷ rest) ≡ plus 1 (lower_from (not (here == 45)) rest)
step before here rest on = elim (cases_Bool (is_lower here)) [
  | inl low ↦ let hyphen : (here == 45) ≡ false = grind (arith, nat_tests) in rw (low, hyphen) refl
  | inr low ↦
      let begun : (before == 45) ≡ false = grind (arith, nat_tests) in
      elim (cases_Bool (here == 45)) [
        | inl hyphen ↦ rw (low, begun, hyphen) refl
        | inr hyphen ↦ let digit : is_digit here ≡ true = grind (arith, nat_tests) in rw (low, begun, hyphen, digit) refl
      ]
]

one_on : (text : List ℕ) (i : ℕ) → i + 1 < length text → goes_on (get_or text i 0) (get_or text (i + 1) 0) ≡ true → word_from text i ≡ word_from text (i + 1)
one_on text i within on =
    let rest : drop (i + 1) text ≡ get_or text (i + 1) 0 ∷ drop (i + 1 + 1) text = drop_more text (i + 1) 0 within in
    ap (λ ds. plus (i + 1) (lower_from (not (get_or text i 0 == 45)) ds)) rest
    ∙ (ap (plus (i + 1)) (step (get_or text i 0) (get_or text (i + 1) 0) (drop (i + 1 + 1) text) on)
    ∙ plus_plus (i + 1) 1 (lower_from (not (get_or text (i + 1) 0 == 45)) (drop (i + 1 + 1) text)))

pub many_on : (text : List ℕ) (i r : ℕ) → i + r < length text → ((k : ℕ) → k < r → goes_on (get_or text (i + k) 0) (get_or text (i + 1 + k) 0) ≡ true) → word_from text i ≡ word_from text (i + r)
many_on text i zero within on = ap (word_from text) (omega arith)
many_on text i (suc r) within on =
    let shift : i + 1 + r ≡ i + r + 1 = omega arith in
    let last : goes_on (get_or text (i + r) 0) (get_or text (i + r + 1) 0) ≡ true = rw shift at (on r (omega arith)) in
    many_on text i r (omega arith) (λ k h. on k (omega arith)) ∙ (one_on text (i + r) (omega arith) last ∙ ap (word_from text) (omega arith))

pub first_on : (text : List ℕ) → begins_lower text ≡ true → word_from text 0 ≡ lower_from false text
first_on [] low = absurd cc
first_on (c ∷ cs) low = let hyphen : (c == 45) ≡ false = grind (arith, nat_tests) in rw (low, hyphen) refl

ended : (before here : ℕ) (rest : List ℕ) → goes_on before here ≡ false → (before == 45) ≡ false → is_upper here ≡ false → lower_from (not (before == 45)) (here ∷ rest) ≡ Some 0
ended before here rest on begun up =
    let low : is_lower here ≡ false = grind (arith, nat_tests) in
    let digit : is_digit here ≡ false = grind (arith, nat_tests) in
    let hyphen : (here == 45) ≡ false = grind (arith, nat_tests) in
    rw (low, begun, hyphen, digit, up) refl

found_end : (text : List ℕ) (i : ℕ) → word_from text i ≡ lower_from false text → i + 1 < length text → goes_on (get_or text i 0) (get_or text (i + 1) 0) ≡ false → (get_or text i 0 == 45) ≡ false → is_upper (get_or text (i + 1) 0) ≡ false → lower_from false text ≡ Some (i + 1)
found_end text i so_far within on begun up =
    let rest : drop (i + 1) text ≡ get_or text (i + 1) 0 ∷ drop (i + 1 + 1) text = drop_more text (i + 1) 0 within in
    sym so_far
    ∙ (ap (λ ds. plus (i + 1) (lower_from (not (get_or text i 0 == 45)) ds)) rest
    ∙ (ap (plus (i + 1)) (ended (get_or text i 0) (get_or text (i + 1) 0) (drop (i + 1 + 1) text) on begun up)
    ∙ ap Some (omega arith)))

pub some_first : (text : List ℕ) → begins_lower text ≡ true → 0 < length text
some_first [] low = absurd cc
some_first (c ∷ cs) low = omega arith

-- what the last of the lanes tells
pub found_in : (text : List ℕ) (i r : ℕ) → word_from text i ≡ lower_from false text → i + 16 < length text → GoOn text i r → r < 16 → (get_or text (i + r) 0 == 45) ≡ false → is_upper (get_or text (i + r + 1) 0) ≡ false → lower_from false text ≡ Some (i + r + 1)
found_in text i r so_far room lanes short begun up =
    let here : word_from text (i + r) ≡ lower_from false text = sym (many_on text i r (omega arith) lanes.on) ∙ so_far in
    let shift : i + 1 + r ≡ i + r + 1 = omega arith in
    let stop : goes_on (get_or text (i + r) 0) (get_or text (i + r + 1) 0) ≡ false = rw shift at (lanes.ends short) in
    found_end text (i + r) here (omega arith) stop begun up
