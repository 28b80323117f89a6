-- Worked examples: memories that are alike, and some that are not.
use Rattle.std.proofs.Common.{◌≡◌, [], ◌∷◌, refl}
use Rattle.canonical_abi.specs.Guest.{Memory}
use Rattle.memory.specs.Alike.{AreAlike}
use Rattle.memory.specs.Bump.{bump}
use Rattle.memory.specs.Growth.{most_bytes}
use Rattle.memory.specs.Space.{of_kind, kind_and_most_bytes, bump_kind, first_fit_kind}

-- bytes are nothing to it
other-bytes : AreAlike most_bytes (bump (1 ∷ 2 ∷ []) 2 1) (bump (3 ∷ 4 ∷ []) 2 1)
other-bytes = record { same_make = refl; same_length = refl; same_live = λ a. refl }

same-kind : AreAlike kind_and_most_bytes (of_kind bump_kind (bump (1 ∷ []) 1 1)) (of_kind bump_kind (bump (2 ∷ []) 1 1))
same-kind = record { same_make = refl; same_length = refl; same_live = λ a. refl }

-- ---- what is not so

-- memories of two kinds, which may answer in two ways
two-kinds : (m n : Memory) → AreAlike kind_and_most_bytes (of_kind bump_kind m) (of_kind first_fit_kind n) → ⊥
two-kinds m n alike = let e : 0 ∷ most_bytes m.state ≡ 1 ∷ most_bytes n.state = alike.same_make in cc

two-tops : AreAlike most_bytes (bump (1 ∷ 2 ∷ []) 2 1) (bump (1 ∷ 2 ∷ []) 2 2) → ⊥
two-tops alike = let e = alike.same_live 1 in cc

-- memories that may come to be of two lengths
two-mosts : AreAlike most_bytes (bump (1 ∷ 2 ∷ []) 2 1) (bump (1 ∷ 2 ∷ []) 65538 1) → ⊥
two-mosts alike = let e : 2 ∷ [] ≡ 65538 ∷ [] = alike.same_make in cc
