-- Which words name the earlier packages' files.
use Rattle.std.specs.Prelude.{◌≡◌, ℕ, ◌&&◌, Bool, not, List, [], ◌∷◌, ◌++◌, String, Option, Some, None, map, take, drop, codes, string_bytes, if◌then◌else◌}
use Rattle.std.specs.Option.{option_map_or}
use Rattle.std.specs.Str.{bytes_eq}
use Rattle.std.specs.Global.{Global}
use Rattle.std.specs.Borrow.{Bor}

-- the bytes of these texts, in order
abbrev pub texts_of : List (String Global) → List (List ℕ)
texts_of = map string_bytes

-- the bytes of these texts, which are lent, in order
abbrev pub lent_texts : List (Bor (List ℕ)) → List (List ℕ)
lent_texts = map (λ text. text.now)

-- the file that a word `--with=FILE` names
abbrev pub joined_file : List ℕ → Option (List ℕ)
joined_file word = if bytes_eq (take 7 word) (codes "--with=") then Some (drop 7 word) else None

-- `clap` takes the word for an option: it begins with `-`, and is more than that
abbrev pub is_option : List ℕ → Bool
is_option word = bytes_eq (take 1 word) (codes "-") && not (bytes_eq word (codes "-"))

-- the two words are `--with` and a file that it may name
abbrev pub is_pair : List ℕ → List ℕ → Bool
is_pair word next = bytes_eq word (codes "--with") && not (is_option next)

-- the files that the words begin with, each by a pair `--with FILE` or a word `--with=FILE`
abbrev pub with_files : List (List ℕ) → List (List ℕ)
with_files [] = []
with_files (word ∷ []) = option_map_or (λ file. file ∷ []) (joined_file word) []
with_files (word ∷ next ∷ rest) =
    if is_pair word next then next ∷ with_files rest
    else option_map_or (λ file. file ∷ with_files (next ∷ rest)) (joined_file word) []

-- the words after the files that the words begin with
abbrev pub behind_files : List (List ℕ) → List (List ℕ)
behind_files [] = []
behind_files (word ∷ []) = option_map_or (λ file. []) (joined_file word) (word ∷ [])
behind_files (word ∷ next ∷ rest) =
    if is_pair word next then behind_files rest
    else option_map_or (λ file. behind_files (next ∷ rest)) (joined_file word) (word ∷ next ∷ rest)

-- the words begin with no file
abbrev pub NamesNoFile : List (List ℕ) → Type 0
NamesNoFile words = (with_files words ≡ []) × (behind_files words ≡ words)

-- the words begin with this file, and these words come after it
abbrev pub NamesFile : List (List ℕ) → List ℕ → List (List ℕ) → Type 0
NamesFile words file after = (with_files words ≡ file ∷ with_files after) × (behind_files words ≡ behind_files after)

-- the words without the files right after the program's own name and the command
abbrev pub other_words : List (List ℕ) → List (List ℕ)
other_words words = take 2 words ++ behind_files (drop 2 words)
