-- The steps of a package's session are such as the laws of sessions speak of, so these hold of them.
use Rattle.std.proofs.Common.{List, [], ◌∷◌, map, arith}
use Rattle.std.specs.List.{All}
use Rattle.std.proofs.lemmas.List.Elements.{All-head, All-tail}
use Rattle.canonical_abi.specs.Call.{Parties, exact}
use Rattle.canonical_abi.specs.Guest.{Allocation, Release}
use Rattle.canonical_abi.specs.Keeping.{AreStandardSteps}
use Rattle.canonical_abi.proofs.Sessions.HeldStaysHeld.{held-is-read, held-stays-held, placed-is-held-live, placed-is-read}
use Rattle.canonical_abi.proofs.Sessions.PlacedIsHeld.{placed-is-held}
use Rattle.canonical_abi.proofs.Sessions.CalleeIsTold.{callee-is-told}
use Rattle.tables.specs.Closed.{closed_type}
use Rattle.tables.specs.declared.tables.Resolve.{Resolve}
use Rattle.tables.proofs.HasStandardTypes.{function-standard, type-standard}
use Rattle.witcall.specs.Laws.{PlacesHeld, PlacesHeldLive, StepsKeepHeld, StepsReadHeld, StepsReadPlaced, StepsTellCallee}
use Rattle.witcall.specs.Steps.{IsStep, step_of}
use Rattle.witcall.specs.declared.steps.Step.{Step}
use Rattle.witcall.specs.declared.steps.Step.TheVariants as step

pub are_standard : (r : Resolve) (steps : List Step) → All (IsStep r) steps → AreStandardSteps (map (step_of r) steps)
are_standard r [] all = tt
are_standard r (step.Call f arguments ∷ steps) all =
    (function-standard r f (All-head (IsStep r) (step.Call f arguments) steps all).0, are_standard r steps (All-tail (IsStep r) (step.Call f arguments) steps all))
are_standard r (step.Place ty v ∷ steps) all = are_standard r steps (All-tail (IsStep r) (step.Place ty v) steps all)
are_standard r (step.Read k ∷ steps) all = are_standard r steps (All-tail (IsStep r) (step.Read k) steps all)
are_standard r (step.Release at size ∷ steps) all = are_standard r steps (All-tail (IsStep r) (step.Release at size) steps all)

module _ (parties : Parties) (caller_releases callee_releases : Release) (r : Resolve) where
  pub keep_held : StepsKeepHeld parties caller_releases callee_releases r
  keep_held t a v before old steps answers new ran tame all stays =
      held-stays-held parties caller_releases callee_releases exact t a v before old (map (step_of r) steps) answers new ran tame (are_standard r steps all) stays

  pub read_held : StepsReadHeld parties caller_releases callee_releases r
  read_held t a v before old steps answers new ran answer tame all stays reads =
      held-is-read parties caller_releases callee_releases exact t a v before old (map (step_of r) steps) answers new ran answer tame (are_standard r steps all) stays reads

  pub place_held : PlacesHeld parties caller_releases callee_releases r
  place_held ty v held old placed honest few is places =
      (placed-is-held parties.caller_allocates caller_releases honest.caller).placed (closed_type r ty) v old.caller placed.caller held (type-standard r ty is) (omega (arith, few)) places

  pub place_held_live : PlacesHeldLive parties caller_releases callee_releases r
  place_held_live ty v held old placed tame few is places =
      (placed-is-held-live parties.caller_allocates caller_releases tame.caller).placed (closed_type r ty) v old.caller placed.caller held (type-standard r ty is) (omega (arith, few)) places

  pub read_placed : StepsReadPlaced parties caller_releases callee_releases r
  read_placed ty v held before old placed steps answers new answer tame few is all places ran misses reads =
      placed-is-read parties caller_releases callee_releases exact (closed_type r ty) v held before old placed (map (step_of r) steps) answers new answer tame few
      (type-standard r ty is) (are_standard r steps all) places ran misses reads

pub tell_callee : (parties : Parties) (other : Allocation) (caller_releases other_releases callee_releases : Release) (r : Resolve)
    → StepsTellCallee parties other caller_releases other_releases callee_releases r
tell_callee parties other caller_releases other_releases callee_releases r before earlier old past steps moves answers replies new last tame also one_way runs all every ran went calls ends begun =
    callee-is-told parties other caller_releases other_releases callee_releases before earlier old past (map (step_of r) steps) (map (step_of r) moves) answers replies new last tame also
    one_way runs (are_standard r steps all) (are_standard r moves every) ran went calls ends begun
