-- Faults, by the words that they are about.
use Rattle.std.specs.Prelude.{◌≡◌, ℕ, ◌≤◌, ◌⊎◌, List, [], ◌∷◌, ◌++◌}
use Rattle.wit_tree.specs.declared.fault.Problem.{Problem}
use Rattle.wit_tree.specs.declared.fault.Fix.{Fix}
use Rattle.wit_tree.specs.declared.fault.Fault.{Fault}

-- a fault is about some of so many words, or about the place between two of them or at their end
abbrev pub IsWithin : ℕ → Fault → Type 0
IsWithin count f = (f.from ≤ f.to) × (f.to ≤ count)

-- what noting a fault at a word does to the faults: it is the last one, or none is noted
abbrev pub IsNoted : Problem → Fix → ℕ → List Fault → List Fault → Type 0
IsNoted p f at old new = (new ≡ old) ⊎ ((to : ℕ) × (new ≡ old ++ record { problem = p; from = at; to = to; fix = f } ∷ []))
