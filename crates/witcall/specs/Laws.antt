-- What the steps of a session keep between tame guests, so between honest ones, too, whatever they are.
use Rattle.std.specs.Prelude.{◌≡◌, ℕ, List, map, Some, Ok}
use Rattle.std.specs.List.{All}
use Rattle.canonical_abi.specs.Types.{ClosedType}
use Rattle.canonical_abi.specs.Values.{Value}
use Rattle.canonical_abi.specs.Call.{Parties, CallState, exact}
use Rattle.canonical_abi.specs.Footprint.{Reads}
use Rattle.canonical_abi.specs.Guest.{Allocation, Release, IsLimited}
use Rattle.canonical_abi.specs.Headline.{AreHonest}
use Rattle.canonical_abi.specs.Keeping.{IsKept, IsPlaced, ReadAnswers, ReleasesMiss, StaysLive}
use Rattle.canonical_abi.specs.Tame.{AreTame}
use Rattle.canonical_abi.specs.TameKeeping.{IsPlacedLive}
use Rattle.canonical_abi.specs.Told.{AllocatesInOneWay, RunsInOneWay, SameCallee, calls_of, endings_of, otherwise}
use Rattle.canonical_abi.specs.Session.{Held, PlacesValue, ReadsStep, RunsSession, SessionAnswer}
use Rattle.tables.specs.Closed.{closed_type}
use Rattle.tables.specs.Standard.{IsTypeOf}
use Rattle.tables.specs.declared.tables.Resolve.{Resolve}
use Rattle.tables.specs.declared.tables.ValType.{ValType}
use Rattle.witcall.specs.Steps.{IsStep, step_of}
use Rattle.witcall.specs.declared.steps.Step.{Step}

module _ (parties : Parties) (caller_releases callee_releases : Release) (r : Resolve) where
  -- a run of these steps of the package's, after some answers
  abbrev pub Ran : List SessionAnswer → CallState → List Step → List SessionAnswer → CallState → Type 0
  Ran before old steps answers new = RunsSession parties caller_releases exact before old (map (step_of r) steps) answers new

  -- over every list of steps, traps among them: a value that the caller holds at some moment, its footprint live then and after each
  -- step since, is held with the same footprint
  abbrev pub StepsKeepHeld : Type 0
  StepsKeepHeld =
      (t : ClosedType) (a : ℕ) (v : Value) (before : List SessionAnswer) (old : CallState) (steps : List Step) (answers : List SessionAnswer) (new : CallState)
      (ran : Ran before old steps answers new)
      → AreTame parties caller_releases callee_releases → All (IsStep r) steps
      → StaysLive parties caller_releases exact t a v before old (map (step_of r) steps) answers new ran → IsKept t a v old.caller new.caller

  -- what is read, after these steps, of a value that stayed live is the value, or the host has no memory
  abbrev pub StepsReadHeld : Type 0
  StepsReadHeld =
      (t : ClosedType) (a : ℕ) (v : Value) (before : List SessionAnswer) (old : CallState) (steps : List Step) (answers : List SessionAnswer) (new : CallState)
      (ran : Ran before old steps answers new) (answer : SessionAnswer)
      → AreTame parties caller_releases callee_releases → All (IsStep r) steps
      → StaysLive parties caller_releases exact t a v before old (map (step_of r) steps) answers new ran
      → ReadsStep new.caller (Some (record { ty = t; at = a })) answer → ReadAnswers v answer

  -- what is placed over an honest guest is held, and live, in blocks that it asked for and that were free, and nothing else is changed
  abbrev pub PlacesHeld : Type 0
  PlacesHeld =
      (ty : ValType) (v : Value) (held : Held) (old placed : CallState)
      → AreHonest parties caller_releases callee_releases → IsLimited placed.caller → IsTypeOf r ty
      → PlacesValue parties.caller_allocates (closed_type r ty) v old.caller (Ok held) placed.caller
      → IsPlaced parties.caller_allocates (closed_type r ty) held.at v old.caller placed.caller

  -- what is placed over a tame guest is held, in live addresses that were not live, and no live byte is changed
  abbrev pub PlacesHeldLive : Type 0
  PlacesHeldLive =
      (ty : ValType) (v : Value) (held : Held) (old placed : CallState)
      → AreTame parties caller_releases callee_releases → IsLimited placed.caller → IsTypeOf r ty
      → PlacesValue parties.caller_allocates (closed_type r ty) v old.caller (Ok held) placed.caller
      → IsPlacedLive (closed_type r ty) held.at v old.caller placed.caller

  -- a value that was placed is read, or the host has no memory, until a release takes back a block of it
  abbrev pub StepsReadPlaced : Type 0
  StepsReadPlaced =
      (ty : ValType) (v : Value) (held : Held) (before : List SessionAnswer) (old placed : CallState) (steps : List Step) (answers : List SessionAnswer) (new : CallState)
      (answer : SessionAnswer)
      → AreTame parties caller_releases callee_releases → IsLimited placed.caller → IsTypeOf r ty → All (IsStep r) steps
      → PlacesValue parties.caller_allocates (closed_type r ty) v old.caller (Ok held) placed.caller → Ran before placed steps answers new
      → ReleasesMiss (Reads (closed_type r ty) placed.caller.bytes held.at) (map (step_of r) steps) answers → ReadsStep new.caller (Some held) answer → ReadAnswers v answer

module _ (parties : Parties) (other : Allocation) (caller_releases other_releases callee_releases : Release) (r : Resolve) where
  -- these parties with another caller's allocator
  abbrev pub other_parties : Parties
  other_parties = otherwise parties other caller_releases other_releases callee_releases

  -- what two lists of steps leave of the callee and the body, traps among them or not, is told by their beginning, by the functions and the
  -- arguments in turn, and by which calls the callers had no room for: nothing else of a caller is in them
  abbrev pub StepsTellCallee : Type 0
  StepsTellCallee =
      (before earlier : List SessionAnswer) (old past : CallState) (steps moves : List Step) (answers replies : List SessionAnswer) (new last : CallState)
      → AreTame parties caller_releases callee_releases → AreTame other_parties other_releases callee_releases
      → AllocatesInOneWay parties.callee_allocates → RunsInOneWay parties.runs parties.posts → All (IsStep r) steps → All (IsStep r) moves
      → Ran parties caller_releases callee_releases r before old steps answers new → Ran other_parties other_releases callee_releases r earlier past moves replies last
      → calls_of (map (step_of r) steps) ≡ calls_of (map (step_of r) moves) → endings_of answers ≡ endings_of replies → SameCallee old past → SameCallee new last
