-- CanonicalABI.md, "canon lower" (`lift_flat_values` of `flat_args`): the arguments that a guest passes to a function that a host serves.
use Rattle.std.specs.Prelude.{◌≤◌, ℕ, List, map}
use Rattle.canonical_abi.specs.Halves.{source}
use Rattle.canonical_abi.specs.Headline.{AreArguments}
use Rattle.canonical_abi.specs.Layout.{max_flat_params}
use Rattle.canonical_abi.specs.Requests.{params_requests}
use Rattle.canonical_abi.specs.Types.{FunctionType}
use Rattle.canonical_abi.specs.Values as Semantic
use Rattle.canonical_abi.specs.declared.trap.Fault.TheVariants.{NoMemory}
use Rattle.adapter.specs.Asking.{total}
use Rattle.host_calls.specs.Calling.{ArgumentsCanBeRead, EnterAsksNot}
use Rattle.host_calls.specs.Values.{flat_of}
use Rattle.host_calls.specs.declared.error.CallError.{CallError}
use Rattle.host_calls.specs.declared.error.CallError.TheVariants as error
use Rattle.host_calls.specs.declared.value.Value.{Value}

-- the core values of the call denote these arguments in the guest's memory
abbrev pub AreReadArguments : FunctionType → List Value → List ℕ → List Semantic.Value → Type 0
AreReadArguments f flats memory vs = ArgumentsCanBeRead f flats memory × AreArguments f (map flat_of flats) (source memory) vs

-- the arguments that the core values denote ask for at most so many bytes
abbrev pub AskWithin : FunctionType → List Value → List ℕ → ℕ → Type 0
AskWithin f flats memory limit =
    (vs : List Semantic.Value) × AreArguments f (map flat_of flats) (source memory) vs × (total (params_requests max_flat_params f.params vs) ≤ limit)

-- why no arguments were read: the reasons for which their requests are not told, or the host has no memory for them
abbrev pub ArgumentsAreNotRead : FunctionType → List Value → List ℕ → ℕ → CallError → Type 0
ArgumentsAreNotRead f flats memory limit (error.Fault NoMemory) = Unit {0}
ArgumentsAreNotRead f flats memory limit e = EnterAsksNot f flats memory limit e
