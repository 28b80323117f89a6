-- A memory that is lent keeps the name of its bytes while values are put into it, so what is told of it is told of the host's bytes.
use Rattle.std.proofs.Common.{inl, inr, ◌≡◌, ◌≤◌, ℕ, List, [], ◌∷◌, ◌++◌, length, drop, refl, sym, ap, ◌∙◌, subst}
use Rattle.canonical_abi.specs.Guest.{Memory}
use Rattle.canonical_abi.specs.Trace.{Event, grant, TraceEnds}
use Rattle.canonical_abi.specs.Types.{Fields}
use Rattle.canonical_abi.specs.Values.{Value}
use Rattle.canonical_abi.specs.declared.flat.Flat.{Flat}
use Rattle.canonical_abi.specs.declared.trap.Fault.{Fault}
use Rattle.canonical_abi.specs.declared.trap.Fault.TheVariants.{Trap, NoMemory}
use Rattle.canonical_abi.specs.declared.trap.TrapKind.{TrapKind}
use Rattle.lift_lower.specs.Crossing.{AreLowered, LowerFails}
use Rattle.memory.specs.Lent.{lent, LentAllocates}
use Rattle.memory.specs.declared.block.Block.{Block}
use Rattle.memory.proofs.LentNamesStay.{IsNamed, trace_keeps, break_keeps}
use Rattle.host_calls.specs.Halves.{IsHalfError}
use Rattle.host_calls.specs.declared.half_error.HalfError.{HalfError}
use Rattle.host_calls.proofs.LentMemoriesKeepNames.{named_lent, left_are, left_fit, own, broken}
use Rattle.host_values.specs.Filling.{FillsLent, FillOfLentFails}

module _ (name : ℕ) (blocks : List Block) where
  ends_keep : (limit : ℕ) (es : List Event) (k : TrapKind) (old new : Memory) → TraceEnds limit LentAllocates old es k new → IsNamed name blocks old → IsNamed name blocks new
  ends_keep limit es k old new (done, made, rest, next, asked, is, within, left_out, leads, inl (large, by, same)) named =
      subst (IsNamed name blocks) (sym same) (trace_keeps name blocks made old asked leads named)
  ends_keep limit es k old new (done, made, rest, next, asked, is, within, left_out, leads, inr (few, fails)) named =
      break_keeps name blocks (made ++ grant next ∷ []) k old new (made, made, [], next, asked, refl, refl, leads, fails) named

  pub filled_keeps : (ts : Fields) (vs : List Value) (old new : Memory) (flats : List Flat) → AreLowered LentAllocates ts vs old flats new → IsNamed name blocks old → IsNamed name blocks new
  filled_keeps ts vs old new flats (es, passes, within, leads) named = trace_keeps name blocks es old new leads named

  pub failed_fill_keeps : (ts : Fields) (vs : List Value) (old new : Memory) (fault : Fault) → LowerFails LentAllocates ts vs old fault new → IsNamed name blocks old → IsNamed name blocks new
  failed_fill_keeps ts vs old new (Trap t) (step, es, flats, passes, ends) named = ends_keep 16777216 es t.kind old new ends named
  failed_fill_keeps ts vs old new NoMemory h named = absurd h

-- no more blocks are left than there were
pub failed_fill_leaves : (ts : Fields) (vs : List Value) (old new : Memory) (name other : ℕ) (before after : List ℕ) (blocks rest : List Block) (fault : Fault)
    → old ≡ lent name before blocks → new ≡ lent other after rest → LowerFails LentAllocates ts vs old fault new → length rest ≤ length blocks
failed_fill_leaves ts vs old new name other before after blocks rest fault is left failed =
    let kept = failed_fill_keeps name blocks ts vs old new fault failed (named_lent old name before blocks is) in
    left_fit name other after blocks rest (subst (IsNamed name blocks) left kept)

module _ (ts : Fields) (vs : List Value) (old : Memory) (name other : ℕ) (before after now : List ℕ) (blocks rest : List Block) (is : old ≡ lent name before blocks)
    (same : name ≡ other → now ≡ after) where
  pub filled : (flats : List Flat) → AreLowered LentAllocates ts vs old flats (lent other after rest) → FillsLent name ts vs before blocks flats now
  filled flats h =
      let kept = filled_keeps name blocks ts vs old (lent other after rest) flats h (named_lent old name before blocks is) in
      let e = own name other after now blocks rest kept same in (
        rest,
        subst (λ x. AreLowered LentAllocates ts vs x flats (lent name now rest)) is (subst (λ x. AreLowered LentAllocates ts vs old flats x) e h),
      )

  pub not_filled : (new : Memory) → new ≡ lent other after rest → (fault : Fault) (told : HalfError) → IsHalfError (length blocks) (length rest) fault told
      → LowerFails LentAllocates ts vs old fault new → FillOfLentFails name ts vs before blocks told now
  not_filled new left fault told tells failed =
      let h = subst (λ w. LowerFails LentAllocates ts vs old fault w) left failed in
      let kept = failed_fill_keeps name blocks ts vs old (lent other after rest) fault h (named_lent old name before blocks is) in
      let e = own name other after now blocks rest kept same in
      broken blocks rest fault told (left_are name other after blocks rest kept).1 tells (λ x r. LowerFails LentAllocates ts vs (lent name before blocks) x (lent name now r))
      (subst (λ x. LowerFails LentAllocates ts vs x fault (lent name now rest)) is (subst (λ x. LowerFails LentAllocates ts vs old fault x) e h))
