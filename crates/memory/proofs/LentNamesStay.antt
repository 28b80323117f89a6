-- The name of a lent memory's bytes stays, whatever is put into it, and the blocks that are left are the last ones of those that were lent.
use Rattle.std.proofs.Common.{◌≡◌, ℕ, zero, suc, List, [], ◌∷◌, drop, Option, Some, None, sym, ap, ◌∙◌, subst}
use Rattle.canonical_abi.specs.Guest.{Memory}
use Rattle.canonical_abi.specs.Trace.{Event, TraceLeads, RequestFails}
use Rattle.canonical_abi.specs.Trace.Event.{node, grant, write}
use Rattle.canonical_abi.specs.Call.{exact, Begins, Breaks}
use Rattle.canonical_abi.specs.declared.trap.TrapKind.{TrapKind}
use Rattle.canonical_abi.specs.declared.trap.TrapKind.TheVariants as trap
use Rattle.memory.specs.Lent.{numbers, LentAllocates}
use Rattle.memory.specs.declared.block.Block.{Block}
use Rattle.memory.proofs.LentAllocatesInOneWay.{same_state}

drop_tail : {A : Type 0} (xs : List A) (k : ℕ) (x : A) (rest : List A) → drop k xs ≡ x ∷ rest → drop (suc k) xs ≡ rest
drop_tail [] zero x rest e = cc
drop_tail [] (suc k) x rest e = cc
drop_tail (y ∷ ys) zero x rest e = let same : ys ≡ rest = cc in same
drop_tail (y ∷ ys) (suc k) x rest e = drop_tail ys k x rest e

-- the state of a memory begins with this name, and some of these blocks are left
abbrev pub IsNamed : ℕ → List Block → Memory → Type 0
IsNamed name blocks m = (k : ℕ) × (m.state ≡ name ∷ numbers (drop k blocks))

module _ (name : ℕ) (blocks : List Block) where
  allocation_keeps : (old : Memory) (align size : ℕ) (at : Option ℕ) (new : Memory) → LentAllocates old align size at new → IsNamed name blocks old → IsNamed name blocks new
  allocation_keeps old align size (Some at) new (other, b, bs, next, good, is_at, new_is) (k, is) =
      let same = same_state name other (drop k blocks) (b ∷ bs) (sym is ∙ ap (λ m. m.state) next.memory_is) in
      let left : drop (suc k) blocks ≡ bs = drop_tail blocks k b bs same.1 in
      (suc k, ap (λ m. m.state) new_is ∙ ap (λ n. n ∷ numbers bs) (sym same.0) ∙ ap (λ rest. name ∷ numbers rest) (sym left))
  allocation_keeps old align size None new (other, new_is) named = subst (IsNamed name blocks) (sym new_is) named

  pub trace_keeps : (es : List Event) (old new : Memory) → TraceLeads LentAllocates old es new → IsNamed name blocks old → IsNamed name blocks new
  trace_keeps [] old new h named = subst (IsNamed name blocks) (sym h) named
  trace_keeps (node ∷ es) old new h named = trace_keeps es h.0 new h.2 (subst (IsNamed name blocks) (sym h.1) named)
  trace_keeps (grant g ∷ es) old new h named = trace_keeps es h.0 new h.2 (allocation_keeps old g.align g.size (Some g.at) h.0 h.1.0 named)
  trace_keeps (write at part ∷ es) old new h named = trace_keeps es h.0 new h.2 (subst (IsNamed name blocks) (sym h.1.1) named)

  request_keeps : (old : Memory) (align size : ℕ) (k : TrapKind) (new : Memory) → RequestFails LentAllocates old align size k new → IsNamed name blocks old → IsNamed name blocks new
  request_keeps old align size trap.Full new h named = allocation_keeps old align size None new h named
  request_keeps old align size trap.Align new (at, h, bad) named = allocation_keeps old align size (Some at) new h named
  request_keeps old align size trap.Bounds new (at, h, good, bad) named = allocation_keeps old align size (Some at) new h named
  request_keeps old align size _ new h named = absurd h

  pub begun_keeps : (es : List Event) (old new : Memory) → Begins exact LentAllocates old es new → IsNamed name blocks old → IsNamed name blocks new
  begun_keeps es old new (made, all, leads) named = trace_keeps made old new leads named

  pub break_keeps : (es : List Event) (k : TrapKind) (old new : Memory) → Breaks exact LentAllocates old es k new → IsNamed name blocks old → IsNamed name blocks new
  break_keeps es k old new (done, made, rest, next, asked, is, all, leads, fails) named =
      request_keeps asked next.align next.size k new fails (trace_keeps made old asked leads named)
