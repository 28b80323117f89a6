-- A memory that is lent keeps the name of its bytes while a result is put into it, so what is told of it is told of the guest's bytes.
use Rattle.std.proofs.Common.{inl, inr, ◌≡◌, ◌≤◌, ℕ, List, [], ◌∷◌, ◌++◌, length, refl, sym, subst}
use Rattle.canonical_abi.specs.Guest.{Memory}
use Rattle.canonical_abi.specs.Trace.{Event, grant, TraceEnds}
use Rattle.canonical_abi.specs.Types.{Fields}
use Rattle.canonical_abi.specs.Values.{Value}
use Rattle.canonical_abi.specs.declared.flat.Flat.{Flat}
use Rattle.canonical_abi.specs.declared.trap.Fault.{Fault}
use Rattle.canonical_abi.specs.declared.trap.Fault.TheVariants.{Trap, NoMemory}
use Rattle.canonical_abi.specs.declared.trap.TrapKind.{TrapKind}
use Rattle.memory.specs.Lent.{lent, LentAllocates}
use Rattle.memory.specs.declared.block.Block.{Block}
use Rattle.memory.proofs.LentNamesStay.{IsNamed, trace_keeps, break_keeps}
use Rattle.host_calls.specs.Halves.{IsHalfError}
use Rattle.host_calls.specs.declared.half_error.HalfError.{HalfError}
use Rattle.host_calls.proofs.LentMemoriesKeepNames.{named_lent, left_are, left_fit, own, broken}
use Rattle.host_values.specs.Results.{IsAnswered, AnswerFails, AnswersLent, AnswerOfLentFails}

module _ (name : ℕ) (blocks : List Block) (ts : Fields) (area : ℕ) (vs : List Value) where
  ends_keep : (limit : ℕ) (es : List Event) (k : TrapKind) (old new : Memory) → TraceEnds limit LentAllocates old es k new → IsNamed name blocks old → IsNamed name blocks new
  ends_keep limit es k old new (done, made, rest, next, asked, is, within, left_out, leads, inl (large, by, same)) named =
      subst (IsNamed name blocks) (sym same) (trace_keeps name blocks made old asked leads named)
  ends_keep limit es k old new (done, made, rest, next, asked, is, within, left_out, leads, inr (few, fails)) named =
      break_keeps name blocks (made ++ grant next ∷ []) k old new (made, made, [], next, asked, refl, refl, leads, fails) named

  answered_keeps : (old new : Memory) (given : List Flat) → IsAnswered LentAllocates ts area vs old given new → IsNamed name blocks old → IsNamed name blocks new
  answered_keeps old new given (stands, es, passes, within, leads) named = trace_keeps name blocks es old new leads named

  failed_answer_keeps : (old new : Memory) (fault : Fault) → AnswerFails LentAllocates ts area vs old fault new → IsNamed name blocks old → IsNamed name blocks new
  failed_answer_keeps old new (Trap t) (step, inl (faulty, same)) named = subst (IsNamed name blocks) (sym same) named
  failed_answer_keeps old new (Trap t) (step, inr (stands, es, given, passes, ends)) named = ends_keep 16777216 es t.kind old new ends named
  failed_answer_keeps old new NoMemory h named = absurd h

  -- no more blocks are left than there were
  pub failed_answer_leaves : (old new : Memory) (other : ℕ) (before after : List ℕ) (rest : List Block) (fault : Fault) → old ≡ lent name before blocks → new ≡ lent other after rest
      → AnswerFails LentAllocates ts area vs old fault new → length rest ≤ length blocks
  failed_answer_leaves old new other before after rest fault is left failed =
      let kept = failed_answer_keeps old new fault failed (named_lent old name before blocks is) in
      left_fit name other after blocks rest (subst (IsNamed name blocks) left kept)

  module _ (old : Memory) (other : ℕ) (before after now : List ℕ) (rest : List Block) (is : old ≡ lent name before blocks) (same : name ≡ other → now ≡ after) where
    pub answered : (given : List Flat) → IsAnswered LentAllocates ts area vs old given (lent other after rest) → AnswersLent name ts area vs before blocks given now
    answered given h =
        let kept = answered_keeps old (lent other after rest) given h (named_lent old name before blocks is) in
        let e = own name other after now blocks rest kept same in (
          rest,
          subst (λ x. IsAnswered LentAllocates ts area vs x given (lent name now rest)) is (subst (λ x. IsAnswered LentAllocates ts area vs old given x) e h),
        )

    pub not_answered : (new : Memory) → new ≡ lent other after rest → (fault : Fault) (told : HalfError) → IsHalfError (length blocks) (length rest) fault told
        → AnswerFails LentAllocates ts area vs old fault new → AnswerOfLentFails name ts area vs before blocks told now
    not_answered new left fault told tells failed =
        let h = subst (λ w. AnswerFails LentAllocates ts area vs old fault w) left failed in
        let kept = failed_answer_keeps old (lent other after rest) fault h (named_lent old name before blocks is) in
        let e = own name other after now blocks rest kept same in
        broken blocks rest fault told (left_are name other after blocks rest kept).1 tells (λ x r. AnswerFails LentAllocates ts area vs (lent name before blocks) x (lent name now r))
        (subst (λ x. AnswerFails LentAllocates ts area vs x fault (lent name now rest)) is (subst (λ x. AnswerFails LentAllocates ts area vs old fault x) e h))
