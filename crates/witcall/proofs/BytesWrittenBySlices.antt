-- Bytes that are written by way of a slice of them.
use Rattle.std.proofs.Common.{◌≡◌, ◌≤◌, ℕ, List, Option, length, take, subst}
use Rattle.std.specs.Io.KnownBytes.{Appends}

module _ (old new : Option (List ℕ)) (given output : List ℕ) (same : given ≡ output) where
  pub appended : Appends old new given → Appends old new output
  appended h = subst (Appends old new) same h

  pub begun : ((count : ℕ) × (count ≤ length given) × Appends old new (take count given))
      → (count : ℕ) × (count ≤ length output) × Appends old new (take count output)
  begun h = subst (λ xs. (count : ℕ) × (count ≤ length xs) × Appends old new (take count xs)) same h
