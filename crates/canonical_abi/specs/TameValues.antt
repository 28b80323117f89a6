-- What crosses from one memory into another are values alone, where the allocator of the other keeps notes in it: it may read every byte that is
-- not live, as its headers and free lists, and is told nothing by those that are.
use Rattle.std.specs.Prelude.{◌≡◌, ◌⊎◌, ℕ, ◌<◌, true, false, List, Option, Some, length, slice_get}
use Rattle.canonical_abi.specs.Types.{FunctionType}
use Rattle.canonical_abi.specs.Values.{Value}
use Rattle.canonical_abi.specs.Guest.{Memory, Allocation, Release, IsAlignment}
use Rattle.canonical_abi.specs.Trace.{Event}
use Rattle.canonical_abi.specs.Stands.{IsGranted}
use Rattle.canonical_abi.specs.Call.{Run, PostRun, Parties, CallState, Ways, exact, Enters, Returns, Traps, KindsFit, area_of}
use Rattle.canonical_abi.specs.Headline.{LendsArea, IsBeforeBody}
use Rattle.canonical_abi.specs.OnlyValues.{TellsByte}
use Rattle.canonical_abi.specs.Told.{AllocatesInOneWay}
use Rattle.canonical_abi.specs.Tame.{IsTame, AreTame}
use Rattle.canonical_abi.specs.declared.flat.Flat.{Flat}
use Rattle.canonical_abi.specs.declared.trap.Step.{Step}
use Rattle.canonical_abi.specs.declared.trap.TrapKind.{TrapKind}

-- two memories with the same length, the same live addresses, the same state, and the same bytes where nothing is live
pub record SameButLive (m n : Memory) : Type 0 where
  pub same_length : length m.bytes ≡ length n.bytes
  pub same_live : (a : ℕ) → m.live a ≡ n.live a
  pub same_state : m.state ≡ n.state
  pub same_notes : (a : ℕ) → m.live a ≡ false → slice_get m.bytes a ≡ slice_get n.bytes a

-- which bytes stand in live addresses is nothing to the allocator
abbrev pub IgnoresLive : Allocation → Type 0
IgnoresLive allocates =
    (m n : Memory) (align size : ℕ) (a b : Option ℕ) (m' n' : Memory) → IsAlignment align → SameButLive m n → allocates m align size a m' → allocates n align size b n'
    → (a ≡ b) × SameButLive m' n'

-- into one memory, from any two others that hold equal values: equal core values, and the memory ends the same
pub record AreToldByLive (target one two : Allocation) (runs : Run) (posts : PostRun) : Type 0 where
  -- the arguments, into the callee
  pub there : (f : FunctionType) (flats others : List Flat) (old past : CallState) (values : List Value) (handed given : List Flat) (es fs : List Event) (new last : CallState)
      → Enters (record { caller_allocates = one; callee_allocates = target; runs = runs; posts = posts }) f flats old values handed es new
      → Enters (record { caller_allocates = two; callee_allocates = target; runs = runs; posts = posts }) f others past values given fs last
      → old.callee ≡ past.callee → (handed ≡ given) × (new.callee ≡ last.callee)
  -- the result, into the caller, whose return area stands at one address and is lent
  pub back : (f : FunctionType) (flats others : List Flat) (old past : CallState) (answer reply : List Flat) (values : List Value) (handed given : List Flat) (es fs : List Event) (new last : CallState)
      → Returns (record { caller_allocates = target; callee_allocates = one; runs = runs; posts = posts }) f flats old answer values handed es new
      → Returns (record { caller_allocates = target; callee_allocates = two; runs = runs; posts = posts }) f others past reply values given fs last
      → KindsFit f flats → LendsArea f flats old.caller
      → area_of f flats ≡ area_of f others → old.caller ≡ past.caller → (handed ≡ given) × (new.caller ≡ last.caller)

-- only values cross into a memory whose allocator is tame, answers in one way, and is told nothing by what is live
abbrev pub OnlyValuesCrossLive : Allocation → Release → Allocation → Allocation → Run → PostRun → Type 0
OnlyValuesCrossLive target releases one two runs posts = IsTame target releases → AllocatesInOneWay target → IgnoresLive target → AreToldByLive target one two runs posts

-- ---- ways that broke off

-- each byte that was live is as it was, or is told by one of these events, and each byte of the blocks that they granted is told by one
abbrev pub ShowsLive : Memory → List Event → Memory → Type 0
ShowsLive old es new =
    (a b : ℕ) → slice_get new.bytes a ≡ Some b
    → (old.live a ≡ true → a < length old.bytes → (slice_get old.bytes a ≡ Some b) ⊎ TellsByte es a b) × (IsGranted es a → TellsByte es a b)

-- over tame guests a call that traps shows of a source what the nodes write that were done, and nothing else, in all bytes that are live
pub record TrapsShowLive (parties : Parties) (caller_releases callee_releases : Release) : Type 0 where
  -- of the caller, in the callee, where the body was not entered
  pub there : (f : FunctionType) (flats : List Flat) (old : CallState) (s : Step) (k : TrapKind) (ways : Ways) (new : CallState) → AreTame parties caller_releases callee_releases
      → IsBeforeBody s → Traps parties exact f flats old s k ways new → ShowsLive old.callee ways.there new.callee
  -- of the callee, in the caller
  pub back : (f : FunctionType) (flats : List Flat) (old : CallState) (s : Step) (k : TrapKind) (ways : Ways) (new : CallState) → AreTame parties caller_releases callee_releases
      → Traps parties exact f flats old s k ways new → ShowsLive old.caller ways.back new.caller
