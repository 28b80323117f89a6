-- A row of numbers, with a tree of their maxima above it: below node i are the nodes 2 i and 2 i + 1, and the row is the last half.
use Rattle.std.specs.Prelude.{◌≡◌, ℕ, ◌+◌, ◌*◌, ◌^◌, ◌<◌, ◌≤◌, max, List, length, Option, Some, None, slice_index}

-- each node above the row is the greater of the two below it
abbrev pub AreMaxima : List ℕ → ℕ → Type 0
AreMaxima tree count = (i : ℕ) → 0 < i → i < count → slice_index tree i ≡ max (slice_index tree (2 * i)) (slice_index tree (2 * i + 1))

-- a tree of maxima over a row of 2^depth numbers
pub record IsMaxTree (tree : List ℕ) (depth count : ℕ) : Type 0 where
  pub shallow : depth ≤ 31
  pub powers : count ≡ 2 ^ depth
  pub sized : length tree ≡ 2 * count
  pub maxima : AreMaxima tree count

-- the index of the first number that is at least `size`, or none if there is no such number
abbrev pub FirstFrom : List ℕ → ℕ → Option ℕ → Type 0
FirstFrom row size (Some i) = (i < length row) × (size ≤ slice_index row i) × ((k : ℕ) → k < i → slice_index row k < size)
FirstFrom row size None = (k : ℕ) → k < length row → slice_index row k < size

-- the index of the last number before index i that is not 0, or none if there is no such number
abbrev pub LastBefore : List ℕ → ℕ → Option ℕ → Type 0
LastBefore row i (Some p) = (p < i) × (0 < slice_index row p) × ((k : ℕ) → p < k → k < i → slice_index row k ≡ 0)
LastBefore row i None = (k : ℕ) → k < i → slice_index row k ≡ 0

-- the last node from `from` to before `to` that is not 0
pub record IsLastUnder (tree : List ℕ) (count from to place : ℕ) : Type 0 where
  pub after : from ≤ count + place
  pub before : count + place < to
  pub some : 0 < slice_index tree (count + place)
  pub rest : (j : ℕ) → count + place < j → j < to → slice_index tree j ≡ 0
