-- Pieces of lists and of results, as a writer puts them one behind the other.
use Rattle.std.specs.Prelude.{ℕ, zero, suc, List, [], ◌∷◌, ◌++◌}
use Rattle.wit_tokens.specs.declared.token.Punctuation.TheVariants as mark
use Rattle.wit_tokens.specs.Syntax.{MaybeTy, Absent, Present}
use Rattle.wit_print.specs.Words.{Word, mark_word}
use Rattle.wit_print.specs.Canonical.{blank, ty_words}

-- what stands before an entry of a list with commas, by its place
abbrev pub comma_at : ℕ → List Word
comma_at zero = []
comma_at (suc i) = mark_word [] mark.Comma ∷ []

-- the blanks before an entry of a list with commas, by its place: none before the first
abbrev pub space_at : ℕ → List ℕ
space_at zero = []
space_at (suc i) = blank

-- what is written after `result` without an error type: nothing, or its type in `<` and `>`
abbrev pub ok_alone : MaybeTy → List Word
ok_alone Absent = []
ok_alone (Present t) = mark_word [] mark.Less ∷ (ty_words [] t ++ mark_word [] mark.Greater ∷ [])

-- a type of a result that another one comes with: `_` if it is absent
abbrev pub part_words : List ℕ → MaybeTy → List Word
part_words space Absent = mark_word [] mark.Underscore ∷ []
part_words space (Present t) = ty_words space t
