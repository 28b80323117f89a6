-- Memories that were made alike get equal answers.
use Rattle.std.specs.Prelude.{◌≡◌, ℕ, Bool, List, Option, length}
use Rattle.canonical_abi.specs.Guest.{Memory, Allocation, Release, IsAlignment}

-- what was given when a memory was made, as a front of its state
abbrev pub Make : Type 0
Make = List ℕ → List ℕ

-- the memories were made alike, and have equal length and the same live addresses
pub record AreAlike (make : Make) (m n : Memory) : Type 0 where
  pub same_make : make m.state ≡ make n.state
  pub same_length : length m.bytes ≡ length n.bytes
  pub same_live : (a : ℕ) → m.live a ≡ n.live a

-- asked for the same, memories that are alike grant the same address, or both refuse, and are alike again
abbrev pub AnswersAlike : Make → Allocation → Type 0
AnswersAlike make allocates =
    (m n : Memory) (align size : ℕ) (a b : Option ℕ) (m' n' : Memory) → IsAlignment align → AreAlike make m n
    → allocates m align size a m' → allocates n align size b n' → (a ≡ b) × AreAlike make m' n'

-- given back the same block, memories that are alike both take it or both refuse it, and are alike again
abbrev pub ReleasesAlike : Make → Release → Type 0
ReleasesAlike make releases =
    (m n : Memory) (at size : ℕ) (a b : Bool) (m' n' : Memory) → AreAlike make m n
    → releases m at size a m' → releases n at size b n' → (a ≡ b) × AreAlike make m' n'
