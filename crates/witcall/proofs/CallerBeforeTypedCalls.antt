-- The caller before a typed call: the arguments stand there, and behind them the return area where there is one.
use Rattle.std.proofs.Common.{◌≡◌, ◌≤◌, inl, inr, ℕ, Bool, true, false, List, [], ◌∷◌, ◌++◌, length, Option, Some, None, refl, sym, ap, ◌∙◌, subst, append_assoc, arith}
use Rattle.canonical_abi.specs.Types.{Fields, FunctionType, record_type, result_fields}
use Rattle.canonical_abi.specs.Values.{Value}
use Rattle.canonical_abi.specs.Layout.{align, size, max_flat_results, fits_flat}
use Rattle.canonical_abi.specs.Guest.{Memory, Allocation}
use Rattle.canonical_abi.specs.Trace.{Grant, Event, grant, TraceLeads}
use Rattle.canonical_abi.specs.Session.{TypedTraceBreaks}
use Rattle.canonical_abi.specs.declared.flat.Flat.{Flat}
use Rattle.canonical_abi.specs.declared.flat.Flat.TheVariants.{I32}
use Rattle.canonical_abi.specs.declared.trap.Fault.{Fault}
use Rattle.canonical_abi.specs.declared.trap.Fault.TheVariants as ended
use Rattle.canonical_abi.specs.declared.trap.TrapKind.{TrapKind}
use Rattle.canonical_abi.proofs.Traces.StoppedTracesAreConfined.{leaves-none}
use Rattle.canonical_abi.proofs.Traces.ConfinedTraces.{leads-both}
use Rattle.lift_lower.specs.Crossing.{AreLowered, LowerFails}
use Rattle.lift_lower.specs.Placing.{IsAreaIn, IsAreaAsked, AreaFails}
use Rattle.lift_lower.proofs.ScriptPartsInOrder.{within-both}
use Rattle.witcall.specs.Session.{IsReady, IsNotReady}

-- a trace that breaks off breaks off whatever follows
more_breaks : (allocates : Allocation) (old : Memory) (es tail : List Event) (k : TrapKind) (new : Memory)
    → TypedTraceBreaks allocates old es k new → TypedTraceBreaks allocates old (es ++ tail) k new
more_breaks allocates old es tail k new b =
    let is : es ++ tail ≡ b.0 ++ grant b.3 ∷ (b.2 ++ tail) = ap (λ xs. xs ++ tail) b.5 ∙ append_assoc b.0 (grant b.3 ∷ b.2) tail in
    (b.0, b.1, b.2 ++ tail, b.3, b.4, is, b.6, b.7, b.8, b.9)

module _ (allocates : Allocation) (f : FunctionType) (arguments : List Value) (old : Memory) where
  -- a block for the result, wherever it stands
  abbrev block : Grant
  block = record { align = align (record_type (result_fields f.result)); size = size (record_type (result_fields f.result)); at = 0; contents = [] }

  pub ready_flat : (mid : Memory) (flats : List Flat) (new : Memory) → AreLowered allocates f.params arguments old flats mid
      → fits_flat max_flat_results (result_fields f.result) ≡ true → new ≡ mid → IsReady allocates f arguments old flats None new
  ready_flat mid flats new l fits same =
      (l.0, (l.0, flats, l.1, inl (fits, refl, refl, refl)), l.2, subst (λ m. TraceLeads allocates old l.0 m) (sym same) l.3)

  pub ready_with_area : (mid : Memory) (flats given : List Flat) (at : ℕ) (new : Memory) → AreLowered allocates f.params arguments old flats mid
      → fits_flat max_flat_results (result_fields f.result) ≡ false → IsAreaAsked allocates (result_fields f.result) mid (Some at) new
      → given ≡ flats ++ I32 at ∷ [] → IsReady allocates f arguments old given (Some at) new
  ready_with_area mid flats given at new l spilled a is =
      let g = a.1.0 in
      let events : l.0 ++ a.0 ≡ l.0 ++ grant g ∷ [] = ap (λ es. l.0 ++ es) a.1.3 in
      let last : given ≡ flats ++ I32 g.at ∷ [] = is ∙ ap (λ n. flats ++ I32 n ∷ []) (sym a.1.2) in (
        l.0 ++ a.0,
        (l.0, flats, l.1, inr (spilled, g, a.1.1, events, last, sym a.1.2)),
        within-both 16777216 l.0 a.0 l.2 a.2,
        leads-both allocates l.0 a.0 old mid new l.3 a.3,
      )

  pub arguments_fail : (fault : Fault) (new : Memory) → LowerFails allocates f.params arguments old fault new → IsNotReady allocates f arguments old fault new
  arguments_fail ended.NoMemory new h = absurd h
  arguments_fail (ended.Trap t) new h = by (fits_flat max_flat_results (result_fields f.result)) refl
    where
      by : (b : Bool) → fits_flat max_flat_results (result_fields f.result) ≡ b → IsNotReady allocates f arguments old (ended.Trap t) new
      by true fits = (h.0, (h.1, h.2, 0, (h.1, h.2, h.3, inl (fits, refl, refl, refl)), h.4))
      by false spilled = (
        h.0,
        (
          h.1 ++ grant block ∷ [],
          h.2 ++ I32 0 ∷ [],
          0,
          (h.1, h.2, h.3, inr (spilled, block, (refl, refl), refl, refl, refl)),
          more_breaks allocates old h.1 (grant block ∷ []) t.kind new h.4,
        ),
      )

  pub area_fails : (mid : Memory) (flats : List Flat) (fault : Fault) (new : Memory) → AreLowered allocates f.params arguments old flats mid
      → AreaFails allocates (result_fields f.result) mid fault new → IsNotReady allocates f arguments old fault new
  area_fails mid flats ended.NoMemory new l h = absurd h
  area_fails mid flats (ended.Trap t) new l h = (
    h.1,
    (
      l.0 ++ grant block ∷ [],
      flats ++ I32 0 ∷ [],
      0,
      (l.0, flats, l.1, inr (h.0, block, (refl, refl), refl, refl, refl)),
      (l.0, l.0, [], block, mid, refl, l.2, leaves-none l.0, l.3, h.2),
    ),
  )

-- a memory that is no shorter has the return area still
pub area_stays : (ts : Fields) (before after : List ℕ) (area : Option ℕ) → length before ≤ length after → IsAreaIn ts before area → IsAreaIn ts after area
area_stays ts before after None longer h = h
area_stays ts before after (Some at) longer h = (h.0, (h.1.0, omega (arith, h.1.1, longer)))
