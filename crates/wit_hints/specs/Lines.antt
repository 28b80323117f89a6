-- Lines of a text: a line end is the byte 10, and a line is what stands between two of them, or a text's begin or end.
use Rattle.std.specs.Prelude.{◌≡◌, ◌≢◌, ◌<◌, ◌⊎◌, ◌++◌, ◌∷◌, [], ℕ, List, length, slice_index}

-- no byte of this part of a text is a line end
abbrev pub HasNoLineEnd : List ℕ → Type 0
HasNoLineEnd line = (i : ℕ) → i < length line → slice_index line i ≢ 10

-- what stands before a line: nothing, or lines, the last of which has its line end
abbrev pub AreLinesAbove : List ℕ → Type 0
AreLinesAbove above = (above ≡ []) ⊎ ((lines : List ℕ) × (above ≡ lines ++ 10 ∷ []))

-- what stands after a line: nothing, or its line end and more lines
abbrev pub AreLinesBelow : List ℕ → Type 0
AreLinesBelow below = (below ≡ []) ⊎ ((lines : List ℕ) × (below ≡ 10 ∷ lines))

-- the text ends in this part of a line, which no line end parts
abbrev pub EndsInLine : List ℕ → List ℕ → Type 0
EndsInLine text line = HasNoLineEnd line × ((above : List ℕ) × (text ≡ above ++ line) × AreLinesAbove above)

-- the text begins with this part of a line
abbrev pub BeginsInLine : List ℕ → List ℕ → Type 0
BeginsInLine text line = HasNoLineEnd line × ((below : List ℕ) × (text ≡ line ++ below) × AreLinesBelow below)

-- a text ends in one line only
abbrev pub EndInOneLine : Type 0
EndInOneLine = (text line part : List ℕ) → EndsInLine text line → EndsInLine text part → line ≡ part
