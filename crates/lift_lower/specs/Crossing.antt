-- What lifting and lowering answer, in the definitions' words.
use Rattle.std.specs.Prelude.{◌≡◌, ◌⊎◌, ℕ, List}
use Rattle.canonical_abi.specs.Types.{ClosedType, Fields}
use Rattle.canonical_abi.specs.Values.{Value}
use Rattle.canonical_abi.specs.Layout.{size, align, max_flat_params, max_flat_results}
use Rattle.canonical_abi.specs.Flat.{DenotesFault}
use Rattle.canonical_abi.specs.Memory.{BlockHolds, BlockFaulty}
use Rattle.canonical_abi.specs.Guest.{Memory, Allocation}
use Rattle.canonical_abi.specs.Trace.{Event, TraceLeads}
use Rattle.canonical_abi.specs.Storing.{Stores}
use Rattle.canonical_abi.specs.Lowering.{PassesParams}
use Rattle.canonical_abi.specs.Session.{AreWithinLimit, TypedTraceBreaks}
use Rattle.canonical_abi.specs.declared.flat.Flat.{Flat}
use Rattle.canonical_abi.specs.declared.trap.Fault.{Fault}
use Rattle.canonical_abi.specs.declared.trap.Fault.TheVariants.{Trap, NoMemory}
use Rattle.canonical_abi.specs.declared.trap.TrapKind.{TrapKind}
use Rattle.canonical_abi.specs.declared.trap.Step.TheVariants as step

-- a fault of lifting: the flat values' first one, found in `take`, or want of the host's memory
abbrev pub LiftFails : Fields → List ℕ → List Flat → Fault → Type 0
LiftFails ts m flats (Trap t) = (t.step ≡ step.Take) × DenotesFault max_flat_params ts m flats t.kind
LiftFails ts m flats NoMemory = Unit {0}

-- the values stand in the memory, and these core values carry them
abbrev pub AreLowered : Allocation → Fields → List Value → Memory → List Flat → Memory → Type 0
AreLowered allocates ts vs old flats new =
    (es : List Event) × PassesParams max_flat_params ts vs es flats × AreWithinLimit es × TraceLeads allocates old es new

-- a fault of lowering: a request that failed, found in `place`; it takes no memory of the host
abbrev pub LowerFails : Allocation → Fields → List Value → Memory → Fault → Memory → Type 0
LowerFails allocates ts vs old (Trap t) new =
    (t.step ≡ step.Place) × (es : List Event) × (flats : List Flat) × PassesParams max_flat_params ts vs es flats × TypedTraceBreaks allocates old es t.kind new
LowerFails allocates ts vs old NoMemory new = ⊥

-- the values stand in the memory of the component that answers them, and these core values carry them: at most one, else a block's address
abbrev pub AreAnswered : Allocation → Fields → List Value → Memory → List Flat → Memory → Type 0
AreAnswered allocates ts vs old flats new =
    (es : List Event) × PassesParams max_flat_results ts vs es flats × AreWithinLimit es × TraceLeads allocates old es new

-- the values are not put into the memory of the component that answers them: a request failed
abbrev pub AnswerFails : Allocation → Fields → List Value → Memory → TrapKind → Memory → Type 0
AnswerFails allocates ts vs old k new =
    (es : List Event) × (flats : List Flat) × PassesParams max_flat_results ts vs es flats × TypedTraceBreaks allocates old es k new

-- the value stands at the address, whose block was tested
abbrev pub IsStoredAt : Allocation → ClosedType → ℕ → Value → Memory → Memory → Type 0
IsStoredAt allocates t at v old new =
    BlockHolds old.bytes at (align t) (size t) × (es : List Event) × Stores t at v es × AreWithinLimit es × TraceLeads allocates old es new

-- a fault of storing, found in `place`: the address's own, and then nothing was done, or a request that failed
abbrev pub StoreFails : Allocation → ClosedType → ℕ → Value → Memory → Fault → Memory → Type 0
StoreFails allocates t at v old (Trap fault) new =
    (fault.step ≡ step.Place)
    × ((BlockFaulty old.bytes at (align t) (size t) fault.kind × (new ≡ old))
    ⊎ (BlockHolds old.bytes at (align t) (size t) × (es : List Event) × Stores t at v es × TypedTraceBreaks allocates old es fault.kind new))
StoreFails allocates t at v old NoMemory new = ⊥
