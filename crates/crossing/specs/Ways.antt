-- CanonicalABI.md, "Lifting and Lowering Values": a whole way of a call, of parameters or of a result, and how it ended.
use Rattle.std.specs.Prelude.{◌≡◌, ◌⊎◌, ℕ, List, Some, None, Result, Ok, Err}
use Rattle.canonical_abi.specs.Types.{Fields}
use Rattle.canonical_abi.specs.Values.{Value}
use Rattle.canonical_abi.specs.Call.{AreaStands, AreaFaulty}
use Rattle.canonical_abi.specs.Flat.{Denotes}
use Rattle.canonical_abi.specs.Guest.{Memory, Allocation}
use Rattle.canonical_abi.specs.Lowering.{PassesParams, PassesResult}
use Rattle.canonical_abi.specs.Script.{AddressStands, ParamsUntil, ResultUntil}
use Rattle.canonical_abi.specs.declared.flat.Flat.{Flat}
use Rattle.canonical_abi.specs.declared.trap.TrapKind.{TrapKind}
use Rattle.crossing.specs.Outcome.{FlatScript, IsCrossed, MetFault, WasRefused}
use Rattle.crossing.specs.declared.stopped.Stopped.{Stopped}
use Rattle.crossing.specs.declared.stopped.Stopped.TheVariants as stopped

-- what these flat values denote over m is passed on as parameters
abbrev pub ParamsWalk : ℕ → Fields → List ℕ → List Flat → FlatScript
ParamsWalk limit ts m flats final None es = (vs : List Value) × Denotes limit ts m flats vs × PassesParams limit ts vs es final
ParamsWalk limit ts m flats final (Some k) es = ParamsUntil limit ts m flats k es

-- what these flat values denote over m is passed on as a result, to a target whose return area is good
abbrev pub ResultWalk : ℕ → Fields → List ℕ → List Flat → ℕ → List ℕ → FlatScript
ResultWalk limit ts m flats area target final None es =
    AreaStands limit ts area target × (vs : List Value) × Denotes limit ts m flats vs × PassesResult limit ts area vs es final
ResultWalk limit ts m flats area target final (Some k) es = AreaStands limit ts area target × ResultUntil limit ts m flats area k es

-- the return area is at fault, and the source's address is not
abbrev pub AreaIsBad : ℕ → Fields → List ℕ → List Flat → ℕ → List ℕ → TrapKind → Type 0
AreaIsBad limit ts m flats area target k = AddressStands limit ts m flats × AreaFaulty limit ts area target k

-- a way that was not begun: the memory and the count are as they were
pub record IsUnbegun (old : Memory) (n : ℕ) (new : Memory) (c : ℕ) : Type 0 where
  pub same : new ≡ old
  pub uncounted : c ≡ n

-- how a way ended, with the core values that stand in the end: the source's addresses may be at fault (F), or those of the target (G), before it is begun
abbrev pub WayEnds : Allocation → FlatScript → (TrapKind → Type 0) → (TrapKind → Type 0) → Memory → ℕ → Result (Unit {0}) Stopped → Memory → ℕ → List Flat → Type 0
WayEnds allocates S F G old n (Ok _) new c final = IsCrossed allocates (S final) old n new c
WayEnds allocates S F G old n (Err (stopped.Source k)) new c final = (F k × IsUnbegun old n new c) ⊎ ((other : List Flat) × MetFault allocates (S other) old n k new c)
WayEnds allocates S F G old n (Err (stopped.Target k)) new c final = (G k × IsUnbegun old n new c) ⊎ ((other : List Flat) × WasRefused allocates (S other) old n k new c)
