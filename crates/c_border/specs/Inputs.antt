-- The inputs of a set, whose bytes stand one after another.
use Rattle.std.specs.Prelude.{◌≡◌, ◌⊎◌, ◌<◌, ℕ, List, map, length}
use Rattle.std.specs.List.{concat}
use Rattle.host_calls.specs.declared.error.CallError.{CallError}
use Rattle.host_calls.specs.declared.error.CallError.TheVariants as error

-- there is an input, and these inputs have these lengths, and one after another they are the bytes
pub record ArePieces (bytes : List ℕ) (lengths : List ℕ) (inputs : List (List ℕ)) : Type 0 where
  pub some : 0 < length inputs
  pub lengths_are : map length inputs ≡ lengths
  pub bytes_are : concat inputs ≡ bytes

-- the lengths are none or do not add up to the bytes (74 bad lengths), or there is no memory
abbrev pub AreNoPieces : List ℕ → List ℕ → CallError → Type 0
AreNoPieces bytes lengths e =
    (e ≡ error.NoMemory) ⊎ ((e ≡ error.BadLengths) × ((inputs : List (List ℕ)) → ArePieces bytes lengths inputs → ⊥))
