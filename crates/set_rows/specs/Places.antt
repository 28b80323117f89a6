-- Some elements of a list, and where they stand among themselves.
use Rattle.std.specs.Prelude.{ℕ, zero, suc, ◌+◌, Bool, true, false, List, [], ◌∷◌}

-- the place of the element at place k among those: how many marks stand before it
abbrev pub place : List Bool → ℕ → ℕ
place [] k = 0
place (b ∷ bs) zero = 0
place (true ∷ bs) (suc k) = 1 + place bs k
place (false ∷ bs) (suc k) = place bs k
