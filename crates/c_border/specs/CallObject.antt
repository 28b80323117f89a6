-- What a call keeps between its halves.
use Rattle.std.specs.Prelude.{◌≡◌, ◌⊎◌, ℕ, List, map, take, Result, MatchResult}
use Rattle.canonical_abi.specs.Call.{KindsFit}
use Rattle.canonical_abi.specs.Types.{FunctionType}
use Rattle.canonical_abi.specs.declared.trap.Step.TheVariants.{LiftArgs}
use Rattle.host_calls.specs.Calling.{AreTooMany, AreOtherKinds}
use Rattle.host_calls.specs.declared.error.CallError.{CallError}
use Rattle.host_calls.specs.Values.{flat_of}
use Rattle.host_calls.specs.declared.value.Value.{Value}
use Rattle.c_border.specs.declared.call.Call.{Call}

-- the core values that a call keeps between its halves
abbrev pub flats_of : Call → List Value
flats_of call = take call.count call.flats

-- the call keeps these core values, of the function of this number
abbrev pub KeepsValues : ℕ → List Value → Call → Type 0
KeepsValues func flats call = (call.func ≡ func) × (flats_of call ≡ flats)

-- a call that begins keeps its core values; one that doesn't is as it was
abbrev pub BeginsCall : FunctionType → ℕ → List Value → Call → Result ℕ CallError → Call → Type 0
BeginsCall f func flats old done new = MatchResult done
    (λ count. (count ≡ 0) × KindsFit f (map flat_of flats) × KeepsValues func flats new)
    (λ e. (AreTooMany flats LiftArgs e ⊎ AreOtherKinds f (map flat_of flats) LiftArgs e) × (new ≡ old))
