-- How far a way from memory to memory came: its whole script was done, or its source was at fault, or a request failed.
use Rattle.std.specs.Prelude.{◌≡◌, ℕ, ◌+◌, ◌-◌, ◌^◌, ◌≤◌, min, List, ◌∷◌, ◌++◌, length, Option, Some, None, Result, Ok, Err}
use Rattle.canonical_abi.specs.Types.{ClosedType, Fields}
use Rattle.canonical_abi.specs.Values.{Value}
use Rattle.canonical_abi.specs.Layout.{size}
use Rattle.canonical_abi.specs.Memory.{Holds, EachHolds, FieldsHold}
use Rattle.canonical_abi.specs.Storing.{Stores, EachStores, FieldsStore}
use Rattle.canonical_abi.specs.Flat.{Lifts, FieldsLift}
use Rattle.canonical_abi.specs.Lowering.{Lowers, FieldsLower}
use Rattle.canonical_abi.specs.Script.{StoresUntil, EachStops, FieldsStoreUntil, LowersUntil, FieldsLowerUntil}
use Rattle.canonical_abi.specs.Guest.{Memory, Allocation}
use Rattle.canonical_abi.specs.Trace.{Grant, Event, node, grant, nodes_of, TraceLeads, RequestFails}
use Rattle.canonical_abi.specs.declared.flat.Flat.{Flat}
use Rattle.canonical_abi.specs.declared.trap.TrapKind.{TrapKind}
use Rattle.crossing.specs.declared.stopped.Stopped.{Stopped}
use Rattle.crossing.specs.declared.stopped.Stopped.TheVariants as stopped

-- what a source asks of the other memory: the events for the whole of it (None), or those up to its first fault
abbrev pub Script : Type 1
Script = Option TrapKind → List Event → Type 0

-- what stands at a in m is stored at `at`
abbrev pub Walks : ClosedType → List ℕ → ℕ → ℕ → Option TrapKind → List Event → Type 0
Walks t m a at None es = (v : Value) × Holds t m a v × Stores t at v es
Walks t m a at (Some k) es = StoresUntil t m a at k es

-- n elements from a on in m are stored from `at` on, each a step after the one before
abbrev pub EachWalks : ClosedType → List ℕ → ℕ → ℕ → ℕ → Option TrapKind → List Event → Type 0
EachWalks t m a at n None es = (vs : List Value) × EachHolds (Holds t m) (size t) a n vs × EachStores (Stores t) (size t) at vs es
EachWalks t m a at n (Some k) es = EachStops (Holds t m) (Stores t) (StoresUntil t m) (size t) a at n k es

-- the fields of the record at a in m are stored at `at`; the field before them ends at offset `from`
abbrev pub FieldsWalk : Fields → List ℕ → ℕ → ℕ → ℕ → Option TrapKind → List Event → Type 0
FieldsWalk fs m a at from None es = (vs : List Value) × FieldsHold fs m a from vs × FieldsStore fs at from vs es
FieldsWalk fs m a at from (Some k) es = FieldsStoreUntil fs m a at from k es

-- the rest of a script once the node of its value is visited
abbrev pub Behind : (Option TrapKind → List Event → Type 0) → Option TrapKind → List Event → Type 0
Behind S o es = S o (node ∷ es)

-- a count grew by the nodes that these events visit, as far as 64 bits count
abbrev pub Counts : ℕ → List Event → ℕ → Type 0
Counts n es c = min c (2 ^ 64 - 1) ≡ min (n + nodes_of es) (2 ^ 64 - 1)

-- the whole script was done, and counted
pub record IsCrossed (allocates : Allocation) (S : Option TrapKind → List Event → Type 0) (old : Memory) (n : ℕ) (new : Memory) (c : ℕ) : Type 0 where
  pub events : List Event
  pub scripted : S None events
  pub leads : TraceLeads allocates old events new
  pub no_shorter : length old.bytes ≤ length new.bytes
  pub counted : Counts n events c

-- the source's first fault was met, after all events before it
pub record MetFault (allocates : Allocation) (S : Option TrapKind → List Event → Type 0) (old : Memory) (n : ℕ) (k : TrapKind) (new : Memory) (c : ℕ) : Type 0 where
  pub events : List Event
  pub scripted : S (Some k) events
  pub leads : TraceLeads allocates old events new
  pub counted : Counts n events c

-- a beginning of the script was done, whatever stands behind it, and the next request failed
pub record WasRefused (allocates : Allocation) (S : Option TrapKind → List Event → Type 0) (old : Memory) (n : ℕ) (k : TrapKind) (new : Memory) (c : ℕ) : Type 0 where
  pub outcome : Option TrapKind
  pub done : List Event
  pub next : Grant
  pub rest : List Event
  pub asked : Memory
  pub scripted : S outcome (done ++ grant next ∷ rest)
  pub leads : TraceLeads allocates old done asked
  pub fails : RequestFails allocates asked next.align next.size k new
  pub counted : Counts n done c

-- a way stopped early: at the source's first fault, or at a request to the target that failed
abbrev pub HasStopped : Allocation → (Option TrapKind → List Event → Type 0) → Memory → ℕ → Stopped → Memory → ℕ → Type 0
HasStopped allocates S old n (stopped.Source k) new c = MetFault allocates S old n k new c
HasStopped allocates S old n (stopped.Target k) new c = WasRefused allocates S old n k new c

-- how a way ended: its whole script was done, or it stopped early; n is the count before it, c after it
abbrev pub Ends : Allocation → (Option TrapKind → List Event → Type 0) → Memory → ℕ → Result (Unit {0}) Stopped → Memory → ℕ → Type 0
Ends allocates S old n (Ok _) new c = IsCrossed allocates S old n new c
Ends allocates S old n (Err s) new c = HasStopped allocates S old n s new c

-- ---- flat values

-- a script by which core values are handed on, with those that stand in the end
abbrev pub FlatScript : Type 1
FlatScript = List Flat → Option TrapKind → List Event → Type 0

-- what the first of these flat values, as numbers, stand for over m is carried by core values behind those of `front`
abbrev pub FlatWalks : ClosedType → List ℕ → List ℕ → List Flat → FlatScript
FlatWalks t m ns front final None es = (v : Value) × (made : List Flat) × Lifts t m ns v × Lowers t v es made × (final ≡ front ++ made)
FlatWalks t m ns front final (Some k) es = LowersUntil t m ns k es

-- what these flat values stand for, as a record's fields, is carried by core values after those of `front`
abbrev pub FieldsFlatWalk : Fields → List ℕ → List ℕ → List Flat → FlatScript
FieldsFlatWalk ts m ns front final None es = (vs : List Value) × (made : List Flat) × FieldsLift ts m ns vs × FieldsLower ts vs es made × (final ≡ front ++ made)
FieldsFlatWalk ts m ns front final (Some k) es = FieldsLowerUntil ts m ns k es

-- the rest of a script of flat values once the node of its value is visited
abbrev pub FlatBehind : FlatScript → FlatScript
FlatBehind S final = Behind (S final)

-- how a way over flat values ended, with the core values that stand in the end
abbrev pub FlatEnds : Allocation → FlatScript → Memory → ℕ → Result (Unit {0}) Stopped → Memory → ℕ → List Flat → Type 0
FlatEnds allocates S old n (Ok _) new c final = IsCrossed allocates (S final) old n new c
FlatEnds allocates S old n (Err s) new c final = (other : List Flat) × HasStopped allocates (S other) old n s new c
