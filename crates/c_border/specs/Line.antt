-- Lines of text in arrays of a host's own.
use Rattle.std.specs.Prelude.{◌≡◌, ◌<◌, ◌≤◌, ◌++◌, ◌^◌, ◌-◌, ℕ, List, length, take, drop, min, Result, MatchResult}
use Rattle.host_calls.specs.declared.error.CallError.{CallError}
use Rattle.host_calls.specs.declared.error.CallError.TheVariants as error

-- a number as 64 bits count it
abbrev pub counted : ℕ → ℕ
counted n = min n (2 ^ 64 - 1)

-- A line stands at the front of an array, as far as there is room for it, and the rest of the array is as it was. Its length is answered, or, if
-- there is no room for all of it, 71 no room with its length.
abbrev pub LineDone : List ℕ → List ℕ → Result ℕ CallError → List ℕ → Type 0
LineDone line old done new =
    (new ≡ take (length old) line ++ drop (length line) old)
    × MatchResult done (λ count. (count ≡ length line) × (length line ≤ length old))
    (λ e. (e ≡ error.NoRoom (counted (length line))) × (length old < length line))

-- a line that fits an array of this length, or how long it is (71 no room)
abbrev pub FitsRoom : ℕ → Result ℕ CallError → Type 0
FitsRoom room done = MatchResult done (λ count. count ≤ room) (λ e. (count : ℕ) × (e ≡ error.NoRoom count) × (room < count))
