-- Bytes that are written over those of an array.
use Rattle.std.specs.Prelude.{ℕ, zero, suc, List, [], ◌∷◌}

-- an array with these bytes over its own from place n on, as far as it goes
abbrev pub put_over : List ℕ → ℕ → List ℕ → List ℕ
put_over [] n bytes = []
put_over (x ∷ xs) zero [] = x ∷ xs
put_over (x ∷ xs) zero (byte ∷ bytes) = byte ∷ put_over xs zero bytes
put_over (x ∷ xs) (suc n) bytes = x ∷ put_over xs n bytes
