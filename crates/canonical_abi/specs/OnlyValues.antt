-- What crosses from one memory into another are values alone. (CanonicalABI.md has no such section: this follows from "Storing", "Flat Lowering"
-- and "canon lift", whose steps read no byte but those of values, and write those of values alone.)
use Rattle.std.specs.Prelude.{◌≡◌, ◌⊎◌, ℕ, ◌-◌, ◌≤◌, List, [], ◌∷◌, Some, length, slice_get}
use Rattle.canonical_abi.specs.Types.{FunctionType}
use Rattle.canonical_abi.specs.Values.{Value}
use Rattle.canonical_abi.specs.Guest.{Allocation, Release, IsWithin}
use Rattle.canonical_abi.specs.Trace.{Event, node, grant, write}
use Rattle.canonical_abi.specs.Call.{Run, PostRun, Parties, CallState, Ways, exact, Enters, Returns, Traps, area_of}
use Rattle.canonical_abi.specs.Headline.{AreHonest, IsBeforeBody}
use Rattle.canonical_abi.specs.Told.{AllocatesInOneWay, IgnoresBytes}
use Rattle.canonical_abi.specs.declared.flat.Flat.{Flat}
use Rattle.canonical_abi.specs.declared.trap.Step.{Step}
use Rattle.canonical_abi.specs.declared.trap.TrapKind.{TrapKind}

-- ---- ways that were taken to their end

-- into one memory, from any two others that hold equal values: equal core values, and the memory ends the same
pub record AreToldByValues (target one two : Allocation) (runs : Run) (posts : PostRun) : Type 0 where
  -- the arguments, into the callee
  pub there : (f : FunctionType) (flats others : List Flat) (old past : CallState) (values : List Value) (handed given : List Flat) (es fs : List Event) (new last : CallState)
      → Enters (record { caller_allocates = one; callee_allocates = target; runs = runs; posts = posts }) f flats old values handed es new
      → Enters (record { caller_allocates = two; callee_allocates = target; runs = runs; posts = posts }) f others past values given fs last
      → old.callee ≡ past.callee → (handed ≡ given) × (new.callee ≡ last.callee)
  -- the result, into the caller, whose return area stands at one address
  pub back : (f : FunctionType) (flats others : List Flat) (old past : CallState) (answer reply : List Flat) (values : List Value) (handed given : List Flat) (es fs : List Event) (new last : CallState)
      → Returns (record { caller_allocates = target; callee_allocates = one; runs = runs; posts = posts }) f flats old answer values handed es new
      → Returns (record { caller_allocates = target; callee_allocates = two; runs = runs; posts = posts }) f others past reply values given fs last
      → area_of f flats ≡ area_of f others → old.caller ≡ past.caller → (handed ≡ given) × (new.caller ≡ last.caller)

-- only values cross into a memory whose allocator answers in one way, whatever the bytes of its memory
abbrev pub OnlyValuesCross : Allocation → Allocation → Allocation → Run → PostRun → Type 0
OnlyValuesCross target one two runs posts = AllocatesInOneWay target → IgnoresBytes target → AreToldByValues target one two runs posts

-- ---- ways that broke off

-- one of these events gives the address this byte: a block was granted with it, or it was written there
abbrev pub TellsByte : List Event → ℕ → ℕ → Type 0
TellsByte [] a b = ⊥
TellsByte (node ∷ es) a b = TellsByte es a b
TellsByte (grant g ∷ es) a b = (IsWithin a g.at g.size × (slice_get g.contents (a - g.at) ≡ Some b)) ⊎ TellsByte es a b
TellsByte (write at part ∷ es) a b = (IsWithin a at (length part) × (slice_get part (a - at) ≡ Some b)) ⊎ TellsByte es a b

-- each byte is as it was, or is told by one of these events, or is a zero by which the memory grew
abbrev pub ShowsAlone : List ℕ → List Event → List ℕ → Type 0
ShowsAlone old es new = (a b : ℕ) → slice_get new a ≡ Some b → (slice_get old a ≡ Some b) ⊎ (TellsByte es a b ⊎ ((length old ≤ a) × (b ≡ 0)))

-- over honest guests a call that traps shows of a source what the nodes write that were done, and nothing else
pub record TrapsShowValues (parties : Parties) (caller_releases callee_releases : Release) : Type 0 where
  -- of the caller, in the callee, where the body was not entered
  pub there : (f : FunctionType) (flats : List Flat) (old : CallState) (s : Step) (k : TrapKind) (ways : Ways) (new : CallState) → AreHonest parties caller_releases callee_releases
      → IsBeforeBody s → Traps parties exact f flats old s k ways new → ShowsAlone old.callee.bytes ways.there new.callee.bytes
  -- of the callee, in the caller
  pub back : (f : FunctionType) (flats : List Flat) (old : CallState) (s : Step) (k : TrapKind) (ways : Ways) (new : CallState) → AreHonest parties caller_releases callee_releases
      → Traps parties exact f flats old s k ways new → ShowsAlone old.caller.bytes ways.back new.caller.bytes
