-- Lists of values of primitive types other than string, as bytes.
use Rattle.std.specs.Prelude.{ℕ, List, [], ◌∷◌, ◌++◌}
use Rattle.std.specs.Int.{Width, to_le_bytes}
use Rattle.canonical_abi.specs.Values.{Value}
use Rattle.canonical_abi.specs.Storing.{number_in}

-- the bytes of these values, one after another, each of this width
abbrev pub bytes_of_scalars : Width → List Value → List ℕ
bytes_of_scalars w [] = []
bytes_of_scalars w (v ∷ vs) = to_le_bytes w (number_in w v) ++ bytes_of_scalars w vs
