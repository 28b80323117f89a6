-- How nodes wait to be placed: each that isn't placed is ready, is still to be settled, or waits for one that it uses.
use Rattle.std.specs.Prelude.{ℕ, ◌<◌, ◌≡◌, ◌⊎◌, Bool, true, false, List, [], length, slice_index_or, set, replicate, All, Contains}
use Rattle.placement.specs.Order.{is_ready, IsNext}

-- the state of placing: which nodes are placed, which are ready, and which wait for another
pub record Waits : Type 0 where
  -- what each node uses
  pub uses : List (List ℕ)
  pub placed : List Bool
  -- of each node, how many of its uses were met placed, from the first on
  pub met : List ℕ
  -- by node, those that wait for it
  pub waiting : List (List ℕ)
  pub ready : List ℕ

-- node i is placed; one that is not there is not
abbrev pub is_settled : Waits → ℕ → Bool
is_settled w i = slice_index_or w.placed i false

-- the nodes that node i uses, or none if it is not there
abbrev pub uses_of : Waits → ℕ → List ℕ
uses_of w i = slice_index_or w.uses i []

-- the nodes that wait for node u, or none if it is not there
abbrev pub waiting_for : Waits → ℕ → List ℕ
waiting_for w u = slice_index_or w.waiting u []

-- i is a node that is not placed
abbrev pub IsFree : Waits → ℕ → Type 0
IsFree w i = (i < length w.uses) × (is_settled w i ≡ false)

-- node i waits for a node that it uses and that is not placed
abbrev pub IsWaiting : Waits → ℕ → Type 0
IsWaiting w i = (u : ℕ) × Contains (uses_of w i) u × (is_settled w u ≡ false) × Contains (waiting_for w u) i

-- each node that is not placed is ready, is one of `pending`, or waits for one that it uses
pub record IsSettled (w : Waits) (pending : List ℕ) : Type 0 where
  pub placed_count : length w.placed ≡ length w.uses
  pub met_count : length w.met ≡ length w.uses
  pub waiting_count : length w.waiting ≡ length w.uses
  pub within : All (λ used. All (λ u. u < length w.uses) used) w.uses
  pub met : (i k : ℕ) → k < slice_index_or w.met i 0 → is_settled w (slice_index_or (uses_of w i) k 0) ≡ true
  pub pending_free : (i : ℕ) → Contains pending i → IsFree w i
  pub waiting_free : (u i : ℕ) → is_settled w u ≡ false → Contains (waiting_for w u) i → IsFree w i × Contains (uses_of w i) u
  pub ready : (i : ℕ) → Contains w.ready i → (i < length w.uses) × (is_ready w.uses (is_settled w) i ≡ true)
  pub complete : (i : ℕ) → i < length w.uses → is_settled w i ≡ false → Contains w.ready i ⊎ (Contains pending i ⊎ IsWaiting w i)

-- what settling nodes leaves as it was
pub record KeepsPlaced (old new : Waits) : Type 0 where
  pub uses : new.uses ≡ old.uses
  pub placed : new.placed ≡ old.placed

-- node is the first that is ready; it is placed now, and those that waited for it are to be settled
pub record PlacesNext (old : Waits) (node : ℕ) (pending : List ℕ) (new : Waits) : Type 0 where
  pub next : IsNext old.uses (is_settled old) node
  pub settled : IsSettled new pending
  pub uses : new.uses ≡ old.uses
  pub placed : new.placed ≡ set old.placed node true

-- no node is placed, and all are settled
pub record IsStarted (uses : List (List ℕ)) (w : Waits) : Type 0 where
  pub uses_are : w.uses ≡ uses
  pub none_placed : w.placed ≡ replicate (length uses) false
  pub settled : IsSettled w []

-- no node is ready to be placed
abbrev pub IsStuck : Waits → Type 0
IsStuck w = (i : ℕ) → i < length w.uses → is_ready w.uses (is_settled w) i ≡ false
