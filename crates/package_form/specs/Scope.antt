-- WIT.md, "Identifiers": the names of one scope differ in more than the case of their letters.
use Rattle.std.specs.Prelude.{◌≡◌, ℕ, ◌<◌, List, [], map, length, take, slice_index_or, Contains}
use Rattle.std.specs.Borrow.{Bor}
use Rattle.std.specs.Char.{to_ascii_lowercase}

-- the name with its ASCII letters in lower case
abbrev pub lowered : List ℕ → List ℕ
lowered name = map to_ascii_lowercase name

-- a lent name with its ASCII letters in lower case
abbrev pub lowered_name : Bor (List ℕ) → List ℕ
lowered_name b = lowered b.now

-- the name at place k is the same as one before it, but for the case of letters
abbrev pub IsMetBefore : List (List ℕ) → ℕ → Type 0
IsMetBefore names k = Contains (map lowered (take k names)) (lowered (slice_index_or names k []))

-- this name is one of these, and one before it differs from it at most in the case of letters
abbrev pub IsDuplicate : List (List ℕ) → List ℕ → Type 0
IsDuplicate names name = (k : ℕ) × (k < length names) × (slice_index_or names k [] ≡ name) × IsMetBefore names k

-- none of the first n names is the same as one before it, but for the case of letters
pub record AreDistinctBelow (n : ℕ) (names : List (List ℕ)) : Type 0 where
  pub each : (k : ℕ) → k < n → ¬ IsMetBefore names k

-- no two of these names are equal or differ in the case of letters alone
abbrev pub AreDistinct : List (List ℕ) → Type 0
AreDistinct names = AreDistinctBelow (length names) names
