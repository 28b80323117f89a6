-- Edits of a text, and what they make of it.
use Rattle.std.specs.Prelude.{ℕ, ◌<◌, ◌≤◌, List, [], ◌∷◌, ◌++◌, length, take, drop, slice_range, slice_index_or, string_bytes}
use Rattle.std.specs.Str.{IsCharBoundary}
use Rattle.text_edits.specs.declared.edit.Edit.{Edit}

-- where the last of these edits ends, or this place if there is none
abbrev pub end_of : ℕ → List Edit → ℕ
end_of at [] = at
end_of at (e ∷ es) = end_of e.end es

-- an edit is between characters of a text, from a place on
abbrev pub FitsFrom : List ℕ → ℕ → Edit → Type 0
FitsFrom text at e = (at ≤ e.start) × (e.start ≤ e.end) × IsCharBoundary text e.start × IsCharBoundary text e.end

-- each edit is between characters of a text, from the end of the edit before it on
abbrev pub AreApart : List ℕ → List Edit → Type 0
AreApart text es = (k : ℕ) (d : Edit) → k < length es → FitsFrom text (end_of 0 (take k es)) (slice_index_or es k d)

-- a text from a place on, in which the bytes of each edit are replaced by its text
abbrev pub spliced : List ℕ → ℕ → List Edit → List ℕ
spliced text at [] = drop at text
spliced text at (e ∷ es) = slice_range text at e.start ++ (string_bytes e.text ++ spliced text e.end es)
