-- Lists of steps of a session, with the values and the closed types that they stand for. CanonicalABI.md has no such section.
use Rattle.std.specs.Prelude.{◌≡◌, List, [], ◌∷◌, ◌++◌, Result, Ok, Err, IfOk, map, is_ok}
use Rattle.std.specs.List.{All}
use Rattle.canonical_abi.specs.Session.{Held as HeldValue, SessionStep, call, place, read, release, SessionAnswer, called, placed, was_read, released, missing, RunsSession}
use Rattle.canonical_abi.specs.Call.{Parties, CallState, exact}
use Rattle.canonical_abi.specs.Guest.{Release}
use Rattle.canonical_abi.specs.Values.{Value, HasType, HaveTypes}
use Rattle.canonical_abi.specs.declared.trap.Fault.{Fault}
use Rattle.values.specs.declared.val.Val.{Val}
use Rattle.values.specs.Val.{value_of}
use Rattle.tables.specs.Closed.{closed_type, function_type, IsFunction}
use Rattle.tables.specs.Standard.{IsTypeOf}
use Rattle.tables.specs.declared.tables.Resolve.{Resolve}
use Rattle.tables.specs.declared.tables.ValType.{ValType}
use Rattle.witcall.specs.Session.{typed_answer}
use Rattle.witcall.specs.declared.steps.Answer.{Answer}
use Rattle.witcall.specs.declared.steps.Answer.TheVariants as answer
use Rattle.witcall.specs.declared.steps.Held.{Held}
use Rattle.witcall.specs.declared.steps.Step.{Step}
use Rattle.witcall.specs.declared.steps.Step.TheVariants as step

-- where a value was placed, by its closed type
abbrev pub held_of : Resolve → Held → HeldValue
held_of r held = record { ty = closed_type r held.ty; at = held.at }

-- what placing a value answers, with the closed type of the value
abbrev pub placed_answer : Resolve → Result Held Fault → Result HeldValue Fault
placed_answer r (Ok held) = Ok (held_of r held)
placed_answer r (Err fault) = Err fault

-- what reading a value answers, with the value that a `Val` is
abbrev pub read_answer : Result Val Fault → Result Value Fault
read_answer (Ok v) = Ok (value_of v)
read_answer (Err fault) = Err fault

-- a step with closed types and values in place of ids and `Val`s
abbrev pub step_of : Resolve → Step → SessionStep
step_of r (step.Call f arguments) = call (function_type r f) (map value_of arguments.items)
step_of r (step.Place ty v) = place (closed_type r ty) (value_of v)
step_of r (step.Read k) = read k
step_of r (step.Release at size) = release at size

-- an answer with closed types and values in place of ids and `Val`s
abbrev pub answer_of : Resolve → Answer → SessionAnswer
answer_of r (answer.Called result) = called (typed_answer result)
answer_of r (answer.Placed result) = placed (placed_answer r result)
answer_of r (answer.Read result) = was_read (read_answer result)
answer_of r (answer.Released result) = released (is_ok result)
answer_of r answer.Missing = missing

-- the step can be taken: a call is of a function, with arguments of its types, and what is placed is of its type
abbrev pub IsStep : Resolve → Step → Type 0
IsStep r (step.Call f arguments) = IsFunction r f × HaveTypes (map value_of arguments.items) (function_type r f).params
IsStep r (step.Place ty v) = IsTypeOf r ty × HasType (value_of v) (closed_type r ty)
IsStep r _ = Unit {0}

-- what was placed is of a type of the package
abbrev pub IsKnownAnswer : Resolve → Answer → Type 0
IsKnownAnswer r (answer.Placed (Ok held)) = IsTypeOf r held.ty
IsKnownAnswer r _ = Unit {0}

-- what was placed is of this type, by its id and not by its closed type alone
abbrev pub IsOfType : ValType → Answer → Type 0
IsOfType ty (answer.Placed result) = IfOk result (λ held. held.ty ≡ ty)
IsOfType ty _ = Unit {0}

-- what the step placed is of the type that it names
abbrev pub IsOfStep : Step → Answer → Type 0
IsOfStep (step.Place ty v) a = IsOfType ty a
IsOfStep _ a = Unit {0}

-- each answer is of the step at its place
abbrev pub AreOfSteps : List Step → List Answer → Type 0
AreOfSteps [] [] = Unit {0}
AreOfSteps [] (a ∷ answers) = ⊥
AreOfSteps (s ∷ steps) [] = ⊥
AreOfSteps (s ∷ steps) (a ∷ answers) = IsOfStep s a × AreOfSteps steps answers

-- the steps were taken in turn, and their answers stand behind those that were there
pub record RunsSteps (parties : Parties) (caller_releases : Release) (r : Resolve) (steps : List Step) (before : List Answer) (old : CallState) (after : List Answer) (new : CallState) : Type 0 where
  pub made : List Answer
  pub appended : after ≡ before ++ made
  pub known : All (IsKnownAnswer r) made
  pub types : AreOfSteps steps made
  pub run : RunsSession parties caller_releases exact [] old (map (step_of r) steps) (map (answer_of r) made) new
