-- A value that is placed: a block is granted, and the value is stored there.
use Rattle.std.proofs.Common.{◌≡◌, inl, inr, ℕ, ◌+◌, ◌<◌, ◌≤◌, [], ◌∷◌, length, slice_range, Some, None, Ok, Err, refl, sym, ap, subst}
use Rattle.canonical_abi.specs.Guest.{Memory, Allocation}
use Rattle.canonical_abi.specs.Layout.{align, size}
use Rattle.canonical_abi.specs.Memory.{BlockFaulty}
use Rattle.canonical_abi.specs.Session.{PlacesValue}
use Rattle.canonical_abi.specs.Trace.{Grant, grant, RequestFails}
use Rattle.canonical_abi.specs.Types.{ClosedType}
use Rattle.canonical_abi.specs.Values.{Value, HasType}
use Rattle.canonical_abi.specs.declared.trap.Fault.{Fault}
use Rattle.canonical_abi.specs.declared.trap.Fault.TheVariants as ended
use Rattle.canonical_abi.specs.declared.trap.Step.TheVariants as step
use Rattle.canonical_abi.specs.declared.trap.TrapKind.{TrapKind}
use Rattle.canonical_abi.specs.declared.trap.TrapKind.TheVariants as trap
use Rattle.lift_lower.specs.Crossing.{IsStoredAt, StoreFails}
use Rattle.lift_lower.proofs.EachValueHasAScript.{stores-script}

module _ (allocates : Allocation) (t : ClosedType) (v : Value) (small : size t ≤ 16777216) (old : Memory) where
  pub is_placed : (at : ℕ) (mid new : Memory) → allocates old (align t) (size t) (Some at) mid → IsStoredAt allocates t at v mid new
      → PlacesValue allocates t v old (Ok (record { ty = t; at = at })) new
  is_placed at mid new granted s =
      let g : Grant = record { align = align t; size = size t; at = at; contents = slice_range mid.bytes at (at + size t) } in
      (g, s.1, (refl, refl), s.2, (small, s.3), (mid, (granted, record { aligned = s.0.0; inside = s.0.1 }, refl), s.4), refl)

  pub is_not_granted : (new : Memory) → HasType v t → allocates old (align t) (size t) None new
      → PlacesValue allocates t v old (Err (ended.Trap (record { kind = trap.Full; step = step.Place }))) new
  is_not_granted new typed refused =
      let s = stores-script t 0 v typed in
      let g : Grant = record { align = align t; size = size t; at = 0; contents = [] } in
      (g, s.0, (refl, refl), s.1, refl, ([], [], s.0, g, old, refl, tt, refl, refl, inr (small, refused)))

  -- a bad address of a block that was granted is a request that failed
  bad_address : (at : ℕ) (mid new : Memory) (k : TrapKind) → allocates old (align t) (size t) (Some at) mid → new ≡ mid
      → BlockFaulty mid.bytes at (align t) (size t) k → RequestFails allocates old (align t) (size t) k new
  bad_address at mid new k granted same (inl (not, is)) =
      subst (λ k. RequestFails allocates old (align t) (size t) k new) (sym is) (at, subst (λ m. allocates old (align t) (size t) (Some at) m) (sym same) granted, not)
  bad_address at mid new k granted same (inr (aligned, past, is)) =
      subst (λ k. RequestFails allocates old (align t) (size t) k new) (sym is)
      (at, subst (λ m. allocates old (align t) (size t) (Some at) m) (sym same) granted, aligned, subst (λ m. length m.bytes < at + size t) (sym same) past)

  pub is_not_stored : (at : ℕ) (mid new : Memory) (fault : Fault) → HasType v t → allocates old (align t) (size t) (Some at) mid
      → StoreFails allocates t at v mid fault new → PlacesValue allocates t v old (Err fault) new
  is_not_stored at mid new ended.NoMemory typed granted h = absurd h
  is_not_stored at mid new (ended.Trap fault) typed granted (is_place, inl (bad, same)) =
      let s = stores-script t 0 v typed in
      let g : Grant = record { align = align t; size = size t; at = 0; contents = [] } in
      (g, s.0, (refl, refl), s.1, is_place, ([], [], s.0, g, old, refl, tt, refl, refl, inr (small, bad_address at mid new fault.kind granted same bad)))
  is_not_stored at mid new (ended.Trap fault) typed granted (is_place, inr (holds, es, stores, (done, made, rest, next, asked, is, within, leaves, leads, ends))) =
      let g : Grant = record { align = align t; size = size t; at = at; contents = slice_range mid.bytes at (at + size t) } in (
        g,
        es,
        (refl, refl),
        stores,
        is_place,
        (
          grant g ∷ done,
          grant g ∷ made,
          rest,
          next,
          asked,
          ap (λ l. grant g ∷ l) is,
          (small, within),
          (made, refl, leaves),
          (mid, (granted, record { aligned = holds.0; inside = holds.1 }, refl), leads),
          ends,
        ),
      )
