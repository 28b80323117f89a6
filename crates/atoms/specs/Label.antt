-- Labels, the names of WIT.md's identifiers: words joined by single hyphens.
use Rattle.std.specs.Prelude.{ℕ, Bool, false, ◌&&◌, ◌||◌, ◌==◌, nat_le, List, [], ◌∷◌, length, IsTrue}
use Rattle.std.specs.List.{list_all, slice_split}

-- a lower-case ASCII letter
abbrev pub is_lower : ℕ → Bool
is_lower c = nat_le 97 c && nat_le c 122

-- an upper-case ASCII letter
abbrev pub is_upper : ℕ → Bool
is_upper c = nat_le 65 c && nat_le c 90

-- an ASCII digit
abbrev pub is_digit : ℕ → Bool
is_digit c = nat_le 48 c && nat_le c 57

-- the byte of `-`
abbrev pub is_hyphen : ℕ → Bool
is_hyphen c = c == 45

-- a lower-case letter and then lower-case letters and digits, or an upper-case letter and then upper-case letters and
-- digits
abbrev pub is_word : List ℕ → Bool
is_word [] = false
is_word (c ∷ cs) = (is_lower c && list_all (λ b. is_lower b || is_digit b) cs) || (is_upper c && list_all (λ b. is_upper b || is_digit b) cs)

-- each piece between hyphens is a word
abbrev pub are_words : List ℕ → Bool
are_words text = list_all is_word (slice_split is_hyphen text)

-- words of at most 255 bytes in all
unfoldable pub is_label : List ℕ → Bool
is_label text = nat_le (length text) 255 && are_words text

-- the bytes are a label
abbrev pub IsLabel : List ℕ → Type 0
IsLabel text = IsTrue (is_label text)
