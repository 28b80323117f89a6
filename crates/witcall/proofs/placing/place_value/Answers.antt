use Rattle.std.proofs.Common.{◌≡◌, ℕ, Option, Some, None, subst}
use Rattle.canonical_abi.specs.Guest.{Memory, Allocation}
use Rattle.canonical_abi.specs.Layout.{align, size}
use Rattle.canonical_abi.specs.Types.{ClosedType}
use Rattle.canonical_abi.proofs.Layouts.AlignmentsAndSizes.{is-alignment}
use Rattle.tables.specs.Closed.{closed_type}
use Rattle.lift_lower.specs.Crossing.{IsStoredAt, StoreFails}
use Rattle.values.specs.Val.{value_of}
use Rattle.values.proofs.PackageTypesAreStandard.{known-inside}
use Rattle.values.proofs.TypesExtents.{has-row}
use Rattle.witcall.proofs.PlacedValues.{is_placed, is_not_granted, is_not_stored}
use Rattle.adapter.proofs.PackageTypesWithinLimits.{type-small}
use Rattle.witcall.proofs.placing.place_value.Goals as goal

-- a request of the type's alignment and size, in the numbers that the layouts told
asked : (allocates : Allocation) (t : ClosedType) (alignment n : ℕ) (o : Option ℕ) (old new : Memory) → alignment ≡ align t → n ≡ size t
    → allocates old alignment n o new → allocates old (align t) (size t) o new
asked allocates t alignment n o old new is_align is_size h =
    subst (λ s. allocates old (align t) s o new) is_size (subst (λ a. allocates old a n o new) is_align h)

pub align-requires : goal.align-requires
align-requires g c =
    has-row c.args.«package».now.resolve c.layouts-layouts.result.now c.args.ty c.layouts-layouts.ensures.laid_out (known-inside c.args.«package».now.resolve c.args.ty c.requires.known)

pub size-requires : goal.size-requires
size-requires g c =
    has-row c.args.«package».now.resolve c.layouts-layouts.result.now c.args.ty c.layouts-layouts.ensures.laid_out (known-inside c.args.«package».now.resolve c.args.ty c.requires.known)

pub alloc-requires : goal.alloc-requires
alloc-requires g c =
    let r = c.args.«package».now.resolve in
    rw (c.align.ensures r c.layouts-layouts.ensures.laid_out) (is-alignment (closed_type r c.args.ty))

pub returns-in_default-clause-placed : goal.returns-in_default-clause-placed
returns-in_default-clause-placed g c =
    let r = c.args.«package».now.resolve in
    let laid_out = c.layouts-layouts.ensures.laid_out in
    let t = closed_type r c.args.ty in
    let old = g.C.Guest.memory c.args.caller.now in
    let new = g.C.Guest.memory c.alloc.new.self in
    let refused = asked g.C.Guest.allocates t c.align.result c.size.result None old new (c.align.ensures r laid_out) (c.size.ensures r laid_out) c.in_default.ensures.step in
    is_not_granted g.C.Guest.allocates t (value_of c.args.value.now) (type-small r c.layouts-layouts.ensures.within c.args.ty c.requires.known) old new c.requires.typed refused

pub returns-in-Ok-store-clause-placed : goal.returns-in-Ok-store-clause-placed
returns-in-Ok-store-clause-placed g c =
    let r = c.args.«package».now.resolve in
    let laid_out = c.layouts-layouts.ensures.laid_out in
    let t = closed_type r c.args.ty in
    let v = value_of c.args.value.now in
    let old = g.C.Guest.memory c.args.caller.now in
    let mid = g.C.Guest.memory c.alloc.new.self in
    let new = g.C.Guest.memory c.store.new.guest in
    let granted = asked g.C.Guest.allocates t c.align.result c.size.result (Some c.in-Ok.at) old mid (c.align.ensures r laid_out) (c.size.ensures r laid_out) c.in-Ok.ensures.step in
    let stored = subst (λ q. IsStoredAt g.C.Guest.allocates (closed_type q c.args.ty) c.in-Ok.at v mid new) c.resolve.ensures c.in-Ok-store.ensures.stored in
    is_placed g.C.Guest.allocates t v (type-small r c.layouts-layouts.ensures.within c.args.ty c.requires.known) old c.in-Ok.at mid new granted stored

pub returns-in-Err-clause-placed : goal.returns-in-Err-clause-placed
returns-in-Err-clause-placed g c =
    let r = c.args.«package».now.resolve in
    let laid_out = c.layouts-layouts.ensures.laid_out in
    let t = closed_type r c.args.ty in
    let v = value_of c.args.value.now in
    let old = g.C.Guest.memory c.args.caller.now in
    let mid = g.C.Guest.memory c.alloc.new.self in
    let new = g.C.Guest.memory c.store.new.guest in
    let granted = asked g.C.Guest.allocates t c.align.result c.size.result (Some c.in-Ok.at) old mid (c.align.ensures r laid_out) (c.size.ensures r laid_out) c.in-Ok.ensures.step in
    let fails = subst (λ q. StoreFails g.C.Guest.allocates (closed_type q c.args.ty) c.in-Ok.at v mid c.in-Err.fault new) c.resolve.ensures c.in-Err.ensures.fault in
    is_not_stored g.C.Guest.allocates t v (type-small r c.layouts-layouts.ensures.within c.args.ty c.requires.known) old c.in-Ok.at mid new c.in-Err.fault c.requires.typed granted fails
