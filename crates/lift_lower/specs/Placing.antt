-- The caller's side of a typed call: the return area that is asked for, and what stands where the result goes.
use Rattle.std.specs.Prelude.{◌≡◌, ℕ, true, false, List, Option, Some, None}
use Rattle.canonical_abi.specs.Types.{Fields, record_type}
use Rattle.canonical_abi.specs.Layout.{align, size, max_flat_results, fits_flat}
use Rattle.canonical_abi.specs.Guest.{Memory, Allocation}
use Rattle.canonical_abi.specs.Memory.{BlockHolds}
use Rattle.canonical_abi.specs.Session.{AreWithinLimit, TypedRequestFails}
use Rattle.canonical_abi.specs.Trace.{Event, TraceLeads}
use Rattle.canonical_abi.specs.declared.trap.Fault.{Fault}
use Rattle.canonical_abi.specs.declared.trap.Fault.TheVariants.{Trap, NoMemory}
use Rattle.canonical_abi.specs.declared.trap.Step.TheVariants as step
use Rattle.lift_lower.specs.Scripts.{GrantsBlock}

-- where the result goes: in flat values, or in a block of its own
abbrev pub IsAreaIn : Fields → List ℕ → Option ℕ → Type 0
IsAreaIn ts m None = fits_flat max_flat_results ts ≡ true
IsAreaIn ts m (Some at) = (fits_flat max_flat_results ts ≡ false) × BlockHolds m at (align (record_type ts)) (size (record_type ts))

-- the address of the return area, 0 where there is none
abbrev pub area_at : Option ℕ → ℕ
area_at None = 0
area_at (Some at) = at

-- the return area was granted, if the result needs one; otherwise nothing changes
abbrev pub IsAreaAsked : Allocation → Fields → Memory → Option ℕ → Memory → Type 0
IsAreaAsked allocates ts old None new = new ≡ old
IsAreaAsked allocates ts old (Some at) new =
    (es : List Event) × GrantsBlock (align (record_type ts)) (size (record_type ts)) at es × AreWithinLimit es × TraceLeads allocates old es new

-- the return area was not granted: a request that failed in step `place`
abbrev pub AreaFails : Allocation → Fields → Memory → Fault → Memory → Type 0
AreaFails allocates ts old (Trap t) new =
    (fits_flat max_flat_results ts ≡ false) × (t.step ≡ step.Place)
    × TypedRequestFails allocates old (align (record_type ts)) (size (record_type ts)) t.kind new
AreaFails allocates ts old NoMemory new = ⊥
