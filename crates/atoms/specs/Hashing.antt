-- What a hasher of names computes from the two numbers of its key.
use Rattle.std.specs.Prelude.{ℕ, ◌-◌, ◌*◌, ◌/◌, ◌%◌, ◌^◌, List, [], ◌∷◌, bit_and, bit_or, bit_xor}
use Rattle.std.specs.List.{fold}
use Rattle.std.specs.Int.{w64, from_le_bytes}
use Rattle.atoms.specs.declared.hasher.NameHasher.{NameHasher}

-- the two halves of the 128 bits of a * b, joined by xor
unfoldable pub folded : ℕ → ℕ → ℕ
folded a b = bit_xor (bit_and (a * b) (2 ^ 64 - 1)) (a * b / 2 ^ 64)

-- the hasher that has taken this number in
unfoldable pub mixed : NameHasher → ℕ → NameHasher
mixed h word = record { state = folded (bit_xor h.state word) h.multiplier; multiplier = h.multiplier }

-- a number with one more byte behind it
abbrev pub with_byte : ℕ → ℕ → ℕ
with_byte word byte = bit_or ((word * 2 ^ 8) % 2 ^ 64) byte

-- fewer than eight bytes as a number, behind a 1
unfoldable pub tail_word : List ℕ → ℕ
tail_word bytes = fold with_byte 1 bytes

-- the hasher that has taken these bytes in: eight at a time, and then what is left
unfoldable pub write : NameHasher → List ℕ → NameHasher
write s (a ∷ b ∷ c ∷ d ∷ e ∷ f ∷ g ∷ h ∷ rest) = write (mixed s (from_le_bytes w64 (a ∷ b ∷ c ∷ d ∷ e ∷ f ∷ g ∷ h ∷ []))) rest
write s bytes = mixed s (tail_word bytes)
