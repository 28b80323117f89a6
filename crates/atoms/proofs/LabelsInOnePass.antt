-- A label told by one way over its bytes, and that they are ASCII.
use Rattle.std.proofs.Common.{◌≡◌, ◌<◌, ◌≤◌, ℕ, Bool, true, false, ◌&&◌, ◌||◌, cond, nat_le, List, [], ◌∷◌, length, if◌then◌else◌, refl, sym, ap, ◌∙◌, ◌-◌, take, drop, slice_index_or, arith, take_all}
use Rattle.std.specs.List.{list_all, slice_split, onto_first}
use Rattle.std.specs.Char.{is_ascii_lowercase}
use Rattle.std.specs.Str.{IsUtf8, IsAscii}
use Rattle.std.proofs.lemmas.Bool.Decides.{nat_tests}
use Rattle.std.proofs.lemmas.Str.{IsUtf8-from_ascii}
use Rattle.std.proofs.lemmas.Str.Ascii.{IsAscii-nil, IsAscii-cons}
use Rattle.std.proofs.lemmas.Bool.{and_parts}
use Rattle.atoms.specs.Label.{is_lower, is_upper, is_digit, is_hyphen, is_word, are_words, is_label, IsLabel}
use Rattle.atoms.specs.Lower.{behind_lower}
use Rattle.atoms.specs.declared.label.Place.{Place}
use Rattle.atoms.specs.declared.label.Place.TheVariants as place

-- words by one way over the bytes: what may follow at the start of a word and in one
abbrev pub label_from : Place → List ℕ → Bool
label_from place.Start [] = false
label_from place.Start (c ∷ cs) = if is_lower c then label_from place.Lower cs else (if is_upper c then label_from place.Upper cs else false)
label_from place.Lower [] = true
label_from place.Lower (c ∷ cs) = if is_lower c || is_digit c then label_from place.Lower cs else (if is_hyphen c then label_from place.Start cs else false)
label_from place.Upper [] = true
label_from place.Upper (c ∷ cs) = if is_upper c || is_digit c then label_from place.Upper cs else (if is_hyphen c then label_from place.Start cs else false)

-- in a word of lower case, the letters of lower case that come next change nothing
pub label_behind_lower : (cs : List ℕ) → label_from place.Lower (behind_lower cs) ≡ label_from place.Lower cs
label_behind_lower [] = refl
label_behind_lower (c ∷ cs) = by (is_lower c) refl (label_behind_lower cs)
  where
    by : (b : Bool) → is_lower c ≡ b → label_from place.Lower (behind_lower cs) ≡ label_from place.Lower cs → label_from place.Lower (if b then behind_lower cs else c ∷ cs) ≡ label_from place.Lower (c ∷ cs)
    by true e h = rw e h
    by false e h = refl

-- a letter of lower case begins a word of lower case
pub starts_lower : (cs : List ℕ) → 1 ≤ length cs → is_ascii_lowercase (slice_index_or cs 0 0) ≡ true → label_from place.Start cs ≡ label_from place.Lower (take (length cs - 1) (drop 1 cs))
starts_lower [] h e = absurd (let n : 1 ≤ 0 = h in omega (arith, n))
starts_lower (c ∷ cs) h e =
    let l : is_lower c ≡ true = e in
    let all : take (length (c ∷ cs) - 1) cs ≡ cs = take_all (length (c ∷ cs) - 1) cs (omega arith) in
    rw (l, all) refl

pub behind_lower_le : (cs : List ℕ) → length (behind_lower cs) ≤ length cs
behind_lower_le [] = grind arith
behind_lower_le (c ∷ cs) = by (is_lower c) (behind_lower_le cs)
  where
    by : (b : Bool) → length (behind_lower cs) ≤ length cs → length (if b then behind_lower cs else c ∷ cs) ≤ length (c ∷ cs)
    by true h = grind arith
    by false h = grind arith

abbrev lower_or_digit : ℕ → Bool
lower_or_digit b = is_lower b || is_digit b

abbrev upper_or_digit : ℕ → Bool
upper_or_digit b = is_upper b || is_digit b

-- the rest of a word, and whole words behind it
abbrev in_word : (ℕ → Bool) → List (List ℕ) → Bool
in_word test [] = true
in_word test (part ∷ parts) = list_all test part && list_all is_word parts

and_assoc : (a b c : Bool) → ((a && b) && c) ≡ (a && (b && c))
and_assoc true b c = refl
and_assoc false b c = refl

and_true : (a : Bool) → ((a && true) && true) ≡ (a && true)
and_true true = refl
and_true false = refl

one_more : (test : ℕ → Bool) (c : ℕ) (parts : List (List ℕ)) → in_word test (onto_first c parts) ≡ (test c && in_word test parts)
one_more test c [] = and_true (test c)
one_more test c (part ∷ parts) = and_assoc (test c) (list_all test part) (list_all is_word parts)

pick : (l u a b p : Bool) → (l ≡ true → u ≡ false) → (((l && a) || (u && b)) && p) ≡ (if l then (a && p) else (if u then (b && p) else false))
pick true true a b p h = absurd (let e = h refl in cc)
pick true false true b p h = refl
pick true false false b p h = refl
pick false true a b p h = refl
pick false false a b p h = refl

one_case : (c : ℕ) → is_lower c ≡ true → is_upper c ≡ false
one_case c h = grind (arith, nat_tests)

begins : (c : ℕ) (parts : List (List ℕ)) → list_all is_word (onto_first c parts) ≡ (if is_lower c then in_word lower_or_digit parts else (if is_upper c then in_word upper_or_digit parts else false))
begins c [] = pick (is_lower c) (is_upper c) true true true (one_case c)
begins c (part ∷ parts) = pick (is_lower c) (is_upper c) (list_all lower_or_digit part) (list_all upper_or_digit part) (list_all is_word parts) (one_case c)

hyphen_lower : (c : ℕ) → is_hyphen c ≡ true → is_lower c ≡ false
hyphen_lower c h = grind (arith, nat_tests)

hyphen_upper : (c : ℕ) → is_hyphen c ≡ true → is_upper c ≡ false
hyphen_upper c h = grind (arith, nat_tests)

hyphen_digit : (c : ℕ) → is_hyphen c ≡ true → is_digit c ≡ false
hyphen_digit c h = grind (arith, nat_tests)

abbrev Words : List ℕ → Type 0
Words cs = (label_from place.Start cs ≡ list_all is_word (slice_split is_hyphen cs)) × (label_from place.Lower cs ≡ in_word lower_or_digit (slice_split is_hyphen cs)) × (label_from place.Upper cs ≡ in_word upper_or_digit (slice_split is_hyphen cs))

goes_on : (test b : Bool) (x y : Bool) → (b ≡ true → test ≡ false) → (if test then x else (if b then y else false)) ≡ (if b then y else (test && x))
goes_on true true x y h = absurd (let e = h refl in cc)
goes_on true false x y h = refl
goes_on false true x y h = refl
goes_on false false x y h = refl

moved : (c : ℕ) (cs : List ℕ) (f : List (List ℕ) → Bool) → (if is_hyphen c then f ([] ∷ slice_split is_hyphen cs) else f (onto_first c (slice_split is_hyphen cs))) ≡ f (slice_split is_hyphen (c ∷ cs))
moved c cs f = by (is_hyphen c)
  where
    by : (b : Bool) → (if b then f ([] ∷ slice_split is_hyphen cs) else f (onto_first c (slice_split is_hyphen cs))) ≡ f (cond b ([] ∷ slice_split is_hyphen cs) (onto_first c (slice_split is_hyphen cs)))
    by true = refl
    by false = refl

no_lower : (c : ℕ) → is_hyphen c ≡ true → lower_or_digit c ≡ false
no_lower c h = rw (hyphen_lower c h, hyphen_digit c h) refl

no_upper : (c : ℕ) → is_hyphen c ≡ true → upper_or_digit c ≡ false
no_upper c h = rw (hyphen_upper c h, hyphen_digit c h) refl

never_starts : (c : ℕ) (x y : Bool) (b : Bool) → is_hyphen c ≡ b → (if is_lower c then x else (if is_upper c then y else false)) ≡ (if b then false else (if is_lower c then x else (if is_upper c then y else false)))
never_starts c x y true h = rw (hyphen_lower c h, hyphen_upper c h) refl
never_starts c x y false h = refl

words : (cs : List ℕ) → Words cs
words [] = (refl, refl, refl)
words (c ∷ cs) =
    let more = words cs in
    let parts = slice_split is_hyphen cs in
    let start : label_from place.Start (c ∷ cs) ≡ (if is_hyphen c then false else list_all is_word (onto_first c parts)) =
    never_starts c (label_from place.Lower cs) (label_from place.Upper cs) (is_hyphen c) refl ∙ rw (more.1, more.2) (ap (λ (x : Bool). if is_hyphen c then false else x) (sym (begins c parts))) in
    let lower : label_from place.Lower (c ∷ cs) ≡ (if is_hyphen c then list_all is_word parts else in_word lower_or_digit (onto_first c parts)) =
    rw (more.0, more.1) (goes_on (lower_or_digit c) (is_hyphen c) (in_word lower_or_digit parts) (list_all is_word parts) (no_lower c) ∙ ap (λ (x : Bool). if is_hyphen c then list_all is_word parts else x) (sym (one_more lower_or_digit c parts))) in
    let upper : label_from place.Upper (c ∷ cs) ≡ (if is_hyphen c then list_all is_word parts else in_word upper_or_digit (onto_first c parts)) =
    rw (more.0, more.2) (goes_on (upper_or_digit c) (is_hyphen c) (in_word upper_or_digit parts) (list_all is_word parts) (no_upper c) ∙ ap (λ (x : Bool). if is_hyphen c then list_all is_word parts else x) (sym (one_more upper_or_digit c parts))) in
    (start ∙ moved c cs (list_all is_word), lower ∙ moved c cs (in_word lower_or_digit), upper ∙ moved c cs (in_word upper_or_digit))

-- the way over the bytes finds words, and so labels
pub words_by : (text : List ℕ) → label_from place.Start text ≡ are_words text
words_by text = (words text).0

pub is_label_by : (text : List ℕ) → is_label text ≡ (nat_le (length text) 255 && label_from place.Start text)
unfolding is_label
is_label_by text = rw (words text).0 refl

pub short_label : (text : List ℕ) (b : Bool) → length text ≤ 255 → b ≡ are_words text → b ≡ is_label text
unfolding is_label
short_label text b h e = let l : nat_le (length text) 255 ≡ true = grind (arith, nat_tests) in rw l e

pub long_label : (text : List ℕ) (b : Bool) → 255 < length text → b ≡ nat_le (length text) 255 → b ≡ is_label text
unfolding is_label
long_label text b h e = let l : nat_le (length text) 255 ≡ false = grind (arith, nat_tests) in rw l (e ∙ l)

-- ---- a label's bytes are ASCII

-- one byte of a word or a hyphen, and what holds behind it
step : (c : ℕ) (cs : List ℕ) (l u x y : Bool) → (l ≡ true → c < 128) → (u ≡ true → c < 128) → (x ≡ true → IsAscii cs) → (y ≡ true → IsAscii cs) → (if l then x else (if u then y else false)) ≡ true → IsAscii (c ∷ cs)
step c cs true u x y hl hu hx hy h = IsAscii-cons c cs (hl refl) (hx h)
step c cs false true x y hl hu hx hy h = IsAscii-cons c cs (hu refl) (hy h)
step c cs false false x y hl hu hx hy h = absurd cc

low_lower : (c : ℕ) → is_lower c ≡ true → c < 128
low_lower c h = grind (arith, nat_tests)

low_upper : (c : ℕ) → is_upper c ≡ true → c < 128
low_upper c h = grind (arith, nat_tests)

low_hyphen : (c : ℕ) → is_hyphen c ≡ true → c < 128
low_hyphen c h = grind (arith, nat_tests)

low_lower_digit : (c : ℕ) → lower_or_digit c ≡ true → c < 128
low_lower_digit c h = grind (arith, nat_tests)

low_upper_digit : (c : ℕ) → upper_or_digit c ≡ true → c < 128
low_upper_digit c h = grind (arith, nat_tests)

low : (p : Place) (cs : List ℕ) → label_from p cs ≡ true → IsAscii cs
low place.Start [] h = IsAscii-nil
low place.Lower [] h = IsAscii-nil
low place.Upper [] h = IsAscii-nil
low place.Start (c ∷ cs) h = step c cs (is_lower c) (is_upper c) (label_from place.Lower cs) (label_from place.Upper cs) (low_lower c) (low_upper c) (low place.Lower cs) (low place.Upper cs) h
low place.Lower (c ∷ cs) h = step c cs (lower_or_digit c) (is_hyphen c) (label_from place.Lower cs) (label_from place.Start cs) (low_lower_digit c) (low_hyphen c) (low place.Lower cs) (low place.Start cs) h
low place.Upper (c ∷ cs) h = step c cs (upper_or_digit c) (is_hyphen c) (label_from place.Upper cs) (label_from place.Start cs) (low_upper_digit c) (low_hyphen c) (low place.Upper cs) (low place.Start cs) h

pub label_is_utf8 : (text : List ℕ) → IsLabel text → IsUtf8 text
unfolding is_label
label_is_utf8 text h =
    let e : is_label text ≡ true = grind (arith, nat_tests) in
    IsUtf8-from_ascii text (low place.Start text (and_parts (nat_le (length text) 255) (label_from place.Start text) (sym (is_label_by text) ∙ e)).1)

-- ---- which bytes a label has

-- a letter, a digit or a hyphen
abbrev pub is_label_byte : ℕ → Bool
is_label_byte c = is_lower c || (is_upper c || (is_digit c || is_hyphen c))

both : (a b : Bool) → a ≡ true → b ≡ true → (a && b) ≡ true
both a b h k = rw (h, k) refl

-- one byte of a word or a hyphen, and those behind it
made_of : (c : ℕ) (cs : List ℕ) (l u x y : Bool) → (l ≡ true → is_label_byte c ≡ true) → (u ≡ true → is_label_byte c ≡ true) → (x ≡ true → list_all is_label_byte cs ≡ true)
    → (y ≡ true → list_all is_label_byte cs ≡ true) → (if l then x else (if u then y else false)) ≡ true → list_all is_label_byte (c ∷ cs) ≡ true
made_of c cs true u x y hl hu hx hy h = both (is_label_byte c) (list_all is_label_byte cs) (hl refl) (hx h)
made_of c cs false true x y hl hu hx hy h = both (is_label_byte c) (list_all is_label_byte cs) (hu refl) (hy h)
made_of c cs false false x y hl hu hx hy h = absurd cc

byte_lower : (c : ℕ) → is_lower c ≡ true → is_label_byte c ≡ true
byte_lower c h = rw h refl

byte_upper : (c : ℕ) → is_upper c ≡ true → is_label_byte c ≡ true
byte_upper c h = grind (arith, nat_tests)

byte_hyphen : (c : ℕ) → is_hyphen c ≡ true → is_label_byte c ≡ true
byte_hyphen c h = grind (arith, nat_tests)

byte_lower_digit : (c : ℕ) → lower_or_digit c ≡ true → is_label_byte c ≡ true
byte_lower_digit c h = grind (arith, nat_tests)

byte_upper_digit : (c : ℕ) → upper_or_digit c ≡ true → is_label_byte c ≡ true
byte_upper_digit c h = grind (arith, nat_tests)

bytes_of : (p : Place) (cs : List ℕ) → label_from p cs ≡ true → list_all is_label_byte cs ≡ true
bytes_of p [] h = refl
bytes_of place.Start (c ∷ cs) h =
    made_of c cs (is_lower c) (is_upper c) (label_from place.Lower cs) (label_from place.Upper cs) (byte_lower c) (byte_upper c) (bytes_of place.Lower cs) (bytes_of place.Upper cs) h
bytes_of place.Lower (c ∷ cs) h =
    made_of c cs (lower_or_digit c) (is_hyphen c) (label_from place.Lower cs) (label_from place.Start cs) (byte_lower_digit c) (byte_hyphen c) (bytes_of place.Lower cs) (bytes_of place.Start cs) h
bytes_of place.Upper (c ∷ cs) h =
    made_of c cs (upper_or_digit c) (is_hyphen c) (label_from place.Upper cs) (label_from place.Start cs) (byte_upper_digit c) (byte_hyphen c) (bytes_of place.Upper cs) (bytes_of place.Start cs) h

pub label_bytes : (text : List ℕ) → is_label text ≡ true → list_all is_label_byte text ≡ true
label_bytes text h = bytes_of place.Start text (and_parts (nat_le (length text) 255) (label_from place.Start text) (sym (is_label_by text) ∙ h)).1
