-- Two lists in step.
use Rattle.std.specs.Prelude.{◌≡◌, ℕ, List, [], ◌∷◌, length, Option, Some, None, slice_get}

-- two lists of one length, with R of each two items that stand at one place
pub record InStep {X Y : Type 0} (R : X → Y → Type 0) (xs : List X) (ys : List Y) : Type 0 where
  pub lengths : length xs ≡ length ys
  pub each : (k : ℕ) (x : X) (y : Y) → slice_get xs k ≡ Some x → slice_get ys k ≡ Some y → R x y

-- neither is there, or both are, with R of them
abbrev pub BothOrNone : {X Y : Type 0} → (X → Y → Type 0) → Option X → Option Y → Type 0
BothOrNone R None None = Unit {0}
BothOrNone R (Some x) (Some y) = R x y
BothOrNone R None (Some y) = ⊥
BothOrNone R (Some x) None = ⊥

-- both are there, with R of them
abbrev pub Both : {X Y : Type 0} → (X → Y → Type 0) → Option X → Option Y → Type 0
Both R (Some x) (Some y) = R x y
Both R (Some x) None = ⊥
Both R None y = ⊥

-- it is there, with P of it
abbrev pub IsThere : {X : Type 0} → (X → Type 0) → Option X → Type 0
IsThere P None = ⊥
IsThere P (Some x) = P x

-- there is exactly one, with P of it
abbrev pub IsOnly : {X : Type 0} → (X → Type 0) → List X → Type 0
IsOnly P [] = ⊥
IsOnly P (x ∷ []) = P x
IsOnly P (x ∷ y ∷ xs) = ⊥
