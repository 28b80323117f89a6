-- An index of a type in one byte.
use Rattle.std.proofs.Common.{◌≡◌, ℕ, ◌<◌, ◌≤◌, ◌-◌, List, [], ◌∷◌, length, take, drop, slice_index_or, Ok, refl, arith}
use Rattle.std.proofs.lemmas.Bool.{lt-leb, lt-ltb}
use Rattle.std.proofs.lemmas.List.{take_all}
use Rattle.atoms.specs.Leb128.{groups_at}
use Rattle.ctype_format.specs.Grammar.{type_index, valtype}
use Rattle.ctype_format.specs.declared.raw.RawValType.TheVariants.{Index}

pub index_of_one_byte : (types : ℕ) (bytes : List ℕ) → 1 ≤ length bytes → slice_index_or bytes 0 0 < 64 → slice_index_or bytes 0 0 < types
    → (valtype types).read bytes ≡ Ok (Index (slice_index_or bytes 0 0), take (length bytes - 1) (drop 1 bytes))
unfolding valtype type_index groups_at
index_of_one_byte types [] some low below = absurd (omega (arith, some))
index_of_one_byte types (b ∷ bs) some low below =
    let all : take (length (b ∷ bs) - 1) bs ≡ bs = take_all (length (b ∷ bs) - 1) bs (omega arith) in
    rw (lt-leb 64 b low, lt-ltb b 128 (omega (arith, low)), lt-ltb b 64 low, lt-ltb b types below, all) refl
