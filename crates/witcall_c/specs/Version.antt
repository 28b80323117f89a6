-- The version of the library and the number of its binary interface, as the header has them.
use Rattle.std.specs.Prelude.{ℕ, List, [], ◌∷◌}

-- the version of the library: 0.3.0+next
abbrev pub library_version : List ℕ
library_version = 0x30 ∷ 0x2e ∷ 0x33 ∷ 0x2e ∷ 0x30 ∷ 0x2b ∷ 0x6e ∷ 0x65 ∷ 0x78 ∷ 0x74 ∷ []

-- the number of the binary interface, as `WITCALL_ABI` has it
abbrev pub abi : ℕ
abi = 2
