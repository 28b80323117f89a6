-- Why nothing is told of a half of a call.
use Rattle.std.specs.Prelude.{◌≡◌, ℕ, ◌<◌, List}
use Rattle.canonical_abi.specs.Trace
use Rattle.canonical_abi.specs.Values.{Value}
use Rattle.adapter.specs.Asking.{total}
use Rattle.adapter.specs.declared.asking.request.Untold.{Untold}
use Rattle.adapter.specs.declared.asking.request.Untold.TheVariants as untold
use Rattle.adapter.specs.declared.requests.Unasked.{Unasked}
use Rattle.adapter.specs.declared.requests.Unasked.TheVariants as unasked
use Rattle.canonical_abi.specs.declared.trap.Fault.{Fault}
use Rattle.canonical_abi.specs.declared.trap.Fault.TheVariants.{Trap, NoMemory}
use Rattle.canonical_abi.specs.declared.trap.Step.{Step}
use Rattle.canonical_abi.specs.declared.trap.TrapKind.{TrapKind}

-- a trap in this step, of a kind that F allows
abbrev pub IsTrapIn : Step → (TrapKind → Type 0) → Fault → Type 0
IsTrapIn step F (Trap t) = (t.step ≡ step) × F t.kind
IsTrapIn step F NoMemory = ⊥

-- why nothing is told: such a trap, or all values that P allows ask for more than `limit` bytes
abbrev pub IsUnasked : Step → (List Value → Type 0) → (TrapKind → Type 0) → (List Value → List Trace.Request) → ℕ → Unasked → Type 0
IsUnasked step P D f limit (unasked.Fault fault) = IsTrapIn step D fault
IsUnasked step P D f limit unasked.AboveLimit = (vs : List Value) → P vs → limit < total (f vs)

-- what a walk answered, in the step that it belongs to
abbrev pub unasked_in : Step → Untold → Unasked
unasked_in s (untold.Fault k) = unasked.Fault (Trap (record { kind = k; step = s }))
unasked_in s untold.AboveLimit = unasked.AboveLimit
