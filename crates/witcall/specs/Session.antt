-- What a session answers, in the definitions' words.
use Rattle.std.specs.Prelude.{◌≡◌, ℕ, List, Option, Result, Ok, Err}
use Rattle.std.specs.Option.{option_map}
use Rattle.canonical_abi.specs.Values.{Value}
use Rattle.canonical_abi.specs.Types.{FunctionType}
use Rattle.canonical_abi.specs.Guest.{Memory, Allocation}
use Rattle.canonical_abi.specs.Session.{PlacesArguments, PlacingFails}
use Rattle.canonical_abi.specs.declared.flat.Flat.{Flat}
use Rattle.canonical_abi.specs.declared.trap.Fault.{Fault}
use Rattle.canonical_abi.specs.declared.trap.Fault.TheVariants.{Trap, NoMemory}
use Rattle.canonical_abi.specs.declared.trap.Step.TheVariants as step
use Rattle.values.specs.declared.val.Val.{Val}
use Rattle.values.specs.Val.{value_of}
use Rattle.lift_lower.specs.Placing.{area_at}

-- an answer, with the value that its tree stands for
abbrev pub typed_answer : Result (Option Val) Fault → Result (Option Value) Fault
typed_answer (Ok v) = Ok (option_map value_of v)
typed_answer (Err fault) = Err fault

-- the arguments and the return area stand in the caller
abbrev pub IsReady : Allocation → FunctionType → List Value → Memory → List Flat → Option ℕ → Memory → Type 0
IsReady allocates f arguments old flats area new = PlacesArguments allocates f arguments old flats (area_at area) new

-- the caller has no room for them, which is found in `place`
abbrev pub IsNotReady : Allocation → FunctionType → List Value → Memory → Fault → Memory → Type 0
IsNotReady allocates f arguments old (Trap t) new = (t.step ≡ step.Place) × PlacingFails allocates f arguments old t.kind new
IsNotReady allocates f arguments old NoMemory new = ⊥
