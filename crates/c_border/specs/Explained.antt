-- WIT.md: what is wrong with texts.
use Rattle.std.specs.Prelude.{◌≡◌, ◌⊎◌, ℕ, List, Result, Err}
use Rattle.host_calls.specs.declared.error.CallError.{CallError}
use Rattle.host_calls.specs.Told.{BytesDone}
use Rattle.c_border.specs.Inputs.{ArePieces, AreNoPieces}

-- a text about the texts of these lengths in front of an array, or how long it is; or, with the array as it was, out of memory, or 74 bad lengths if
-- there are no such texts. What the text says is tested.
abbrev pub Explains : List ℕ → List ℕ → List ℕ → Result ℕ CallError → List ℕ → Type 0
Explains bytes lengths old done new =
    ((texts : List (List ℕ)) × ArePieces bytes lengths texts × ((text : List ℕ) × BytesDone text old done new))
    ⊎ ((new ≡ old) × ((e : CallError) × (done ≡ Err e) × AreNoPieces bytes lengths e))
