-- CanonicalABI.md, "canon lower" (`flat_args`): why the second half of a call puts no answer into the caller.
use Rattle.std.specs.Prelude.{◌≡◌, ◌⊎◌, ℕ, List}
use Rattle.canonical_abi.specs.Types.{FunctionType}
use Rattle.canonical_abi.specs.Call.{KindsFit}
use Rattle.canonical_abi.specs.Guest.{Memory, Allocation}
use Rattle.canonical_abi.specs.Halves.{ReturnFails}
use Rattle.canonical_abi.specs.declared.flat.Flat.{Flat}
use Rattle.canonical_abi.specs.declared.trap.Fault.{Fault}
use Rattle.canonical_abi.specs.declared.trap.Fault.TheVariants.{Trap}
use Rattle.canonical_abi.specs.declared.trap.Step.TheVariants.{LowerResult}
use Rattle.canonical_abi.specs.declared.trap.TrapKind.TheVariants.{CoreSignature}

-- the core values of the call are of another number or of other kinds than its signature's: this is found first, and nothing was done
abbrev pub HaveOtherKinds : FunctionType → List Flat → Memory → Fault → Memory → ℕ → Type 0
HaveOtherKinds f flats old fault new c =
    (KindsFit f flats → ⊥) × (fault ≡ Trap (record { kind = CoreSignature; step = LowerResult })) × (new ≡ old) × (c ≡ 0)

-- the core values of the call are not the signature's, or they are and the answer did not return
abbrev pub LeaveFails : Allocation → FunctionType → List Flat → List ℕ → List Flat → Memory → Fault → Memory → ℕ → Type 0
LeaveFails allocates f flats m answer old fault new c =
    HaveOtherKinds f flats old fault new c ⊎ (KindsFit f flats × ReturnFails allocates f flats m answer old fault new c)
