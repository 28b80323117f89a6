-- A text that is written into an array from front to end, as far as there is room, and counted beyond.
use Rattle.std.specs.Prelude.{◌≡◌, ◌+◌, ◌≤◌, ◌<◌, ℕ, List, ◌++◌, length, take, drop, Result, MatchResult}

-- The text was counted behind `at` bytes, up to `end`. Where there is room for all so far, it stands there, and the bytes before it and behind
-- it are as they were.
abbrev pub Puts : List ℕ → List ℕ → ℕ → List ℕ → ℕ → Type 0
Puts text old at new end =
    (end ≡ at + length text) × (length new ≡ length old) × (end ≤ length old → new ≡ take at old ++ (text ++ drop end old))

-- the text was put there, and there are at most so many bytes now; or there would be more
abbrev pub PutsWithin : ℕ → List ℕ → List ℕ → ℕ → {E : Type 0} → Result ℕ E → List ℕ → Type 0
PutsWithin limit text old at done new = MatchResult done (λ end. Puts text old at new end × (end ≤ limit)) (λ _. limit < at + length text)
