-- A memory that is lent keeps the name of its bytes in each half of a call, so what is told of it is told of the host's bytes; and the blocks
-- that are left are the last ones.
use Rattle.std.proofs.Common.{inl, inr, ◌≡◌, ◌≤◌, ℕ, List, [], ◌∷◌, length, drop, refl, sym, ap, ◌∙◌, subst, arith}
use Rattle.std.proofs.lemmas.List.{length-drop}
use Rattle.canonical_abi.specs.Types.{FunctionType}
use Rattle.canonical_abi.specs.Guest.{Memory}
use Rattle.canonical_abi.specs.Halves.{HasEntered, EntryFails, HasReturned}
use Rattle.canonical_abi.specs.declared.flat.Flat.{Flat}
use Rattle.canonical_abi.specs.declared.trap.Fault.{Fault}
use Rattle.canonical_abi.specs.declared.trap.Fault.TheVariants.{Trap, NoMemory}
use Rattle.adapter.specs.Leaving.{LeaveFails}
use Rattle.memory.specs.Lent.{lent, LentAllocates}
use Rattle.memory.specs.declared.block.Block.{Block}
use Rattle.memory.proofs.LentNamesStay.{IsNamed, trace_keeps, begun_keeps, break_keeps}
use Rattle.memory.proofs.LentAllocatesInOneWay.{same_state}
use Rattle.host_calls.specs.Halves.{full_in, IsHalfError, IsBrokenOff, EntersLent, EntryOfLentFails, ReturnsLent, ReturnOfLentFails}
use Rattle.host_calls.specs.declared.half_error.HalfError.{HalfError}
use Rattle.host_calls.specs.declared.half_error.HalfError.TheVariants as error

module _ (f : FunctionType) (flats : List Flat) (m : List ℕ) (old new : Memory) (name count : ℕ) (blocks : List Block) where
  pub entry_keeps : (handed : List Flat) → HasEntered LentAllocates f flats m old handed new count → IsNamed name blocks old → IsNamed name blocks new
  entry_keeps handed (values, there, enters, is) named = trace_keeps name blocks there old new enters.leads named

  pub failed_entry_keeps : (fault : Fault) → EntryFails LentAllocates f flats m old fault new count → IsNamed name blocks old → IsNamed name blocks new
  failed_entry_keeps (Trap t) (inl (step, done, inl (kinds, k, none, same), is)) named = subst (λ w. IsNamed name blocks w.callee) (sym same) named
  failed_entry_keeps (Trap t) (inl (step, done, inr (inl (kinds, address, none, same)), is)) named = subst (λ w. IsNamed name blocks w.callee) (sym same) named
  failed_entry_keeps (Trap t) (inl (step, done, inr (inr (kinds, es, until, part, begun, caller, body)), is)) named = begun_keeps name blocks done old new begun named
  failed_entry_keeps (Trap t) (inr (step, done, (kinds, es, script, breaks, part, caller, body), is)) named = break_keeps name blocks es t.kind old new breaks named
  failed_entry_keeps NoMemory h named = absurd h

  pub return_keeps : (answer given : List Flat) → HasReturned LentAllocates f flats m answer old given new count → IsNamed name blocks old → IsNamed name blocks new
  return_keeps answer given (values, back, returns, is) named = trace_keeps name blocks back old new returns.leads named

  pub failed_return_keeps : (answer : List Flat) (fault : Fault) → LeaveFails LentAllocates f flats m answer old fault new count → IsNamed name blocks old → IsNamed name blocks new
  failed_return_keeps answer fault (inl (others, is, same, none)) named = subst (IsNamed name blocks) (sym same) named
  failed_return_keeps answer (Trap t) (inr (kinds, inl (step, done, inl (address, none, same), is))) named = subst (λ w. IsNamed name blocks w.caller) (sym same) named
  failed_return_keeps answer (Trap t) (inr (kinds, inl (step, done, inr (stands, es, until, part, begun, callee, body), is))) named = begun_keeps name blocks done old new begun named
  failed_return_keeps answer (Trap t) (inr (kinds, inr (step, done, inl (stands, area, none, same), is))) named = subst (λ w. IsNamed name blocks w.caller) (sym same) named
  failed_return_keeps answer (Trap t) (inr (kinds, inr (step, done, inr (area, es, script, breaks, part, callee, body), is))) named =
      break_keeps name blocks es t.kind old new breaks named
  failed_return_keeps answer NoMemory (inr (kinds, never)) named = absurd never

pub named_lent : (old : Memory) (name : ℕ) (bytes : List ℕ) (blocks : List Block) → old ≡ lent name bytes blocks → IsNamed name blocks old
named_lent old name bytes blocks is = (0, ap (λ memory. memory.state) is)

-- which blocks are left
pub left_are : (name other : ℕ) (bytes : List ℕ) (blocks rest : List Block) → IsNamed name blocks (lent other bytes rest) → (name ≡ other) × ((k : ℕ) × (rest ≡ drop k blocks))
left_are name other bytes blocks rest (k, is) =
    let same = same_state other name rest (drop k blocks) is in
    (sym same.0, (k, same.1))

pub left_fit : (name other : ℕ) (bytes : List ℕ) (blocks rest : List Block) → IsNamed name blocks (lent other bytes rest) → length rest ≤ length blocks
left_fit name other bytes blocks rest named =
    let left = (left_are name other bytes blocks rest named).1 in
    let count = ap length left.1 ∙ length-drop left.0 blocks in
    omega (arith, count)

-- the memory under its own name, with the bytes that the host has
pub own : (name other : ℕ) (bytes now : List ℕ) (blocks rest : List Block) → IsNamed name blocks (lent other bytes rest) → (name ≡ other → now ≡ bytes)
    → lent other bytes rest ≡ lent name now rest
own name other bytes now blocks rest named same =
    let e = (left_are name other bytes blocks rest named).0 in
    rw (e, same e) refl

no_blocks : (rest : List Block) → length rest ≡ 0 → rest ≡ []
no_blocks [] e = refl
no_blocks (b ∷ rest) e = cc

-- a fault that leaves the last blocks is told so
pub broken : (blocks rest : List Block) (fault : Fault) (told : HalfError) → ((k : ℕ) × (rest ≡ drop k blocks)) → IsHalfError (length blocks) (length rest) fault told
    → (Fails : Fault → List Block → Type 0) → Fails fault rest → IsBrokenOff blocks Fails told
broken blocks rest fault (error.OtherBlock index) (k, are) (sum, below, by) Fails h =
    let count = ap length are ∙ length-drop k blocks in
    let same : k ≡ index = omega (arith, count, sum, below) in
    (below, (by.0, subst (λ n. Fails (full_in by.0) (drop n blocks)) same (subst (Fails (full_in by.0)) are (subst (λ x. Fails x rest) by.1 h))))
broken blocks rest fault (error.Fault told) (k, are) (is, none) Fails h =
    (rest, subst (λ x. Fails x rest) (sym is) h, λ s e. no_blocks rest (none s (sym is ∙ e)))

module _ (f : FunctionType) (flats : List Flat) (m n : List ℕ) (old : Memory) (name other count : ℕ) (before after now : List ℕ) (blocks rest : List Block)
    (read : n ≡ m) (is : old ≡ lent name before blocks) (same : name ≡ other → now ≡ after) where
  pub entered : (handed : List Flat) → HasEntered LentAllocates f flats n old handed (lent other after rest) count → EntersLent name f flats m before blocks handed now
  entered handed h =
      let kept = entry_keeps f flats n old (lent other after rest) name count blocks handed h (named_lent old name before blocks is) in
      let e = own name other after now blocks rest kept same in (
        count,
        rest,
        subst (λ x. HasEntered LentAllocates f flats x (lent name before blocks) handed (lent name now rest) count) read
            (subst (λ x. HasEntered LentAllocates f flats n x handed (lent name now rest) count) is (subst (λ x. HasEntered LentAllocates f flats n old handed x count) e h)),
      )

  pub not_entered : (new : Memory) → new ≡ lent other after rest → (fault : Fault) (told : HalfError) → IsHalfError (length blocks) (length rest) fault told
      → EntryFails LentAllocates f flats n old fault new count → EntryOfLentFails name f flats m before blocks told now
  not_entered new left fault told tells failed =
      let h = subst (λ w. EntryFails LentAllocates f flats n old fault w count) left failed in
      let kept = failed_entry_keeps f flats n old (lent other after rest) name count blocks fault h (named_lent old name before blocks is) in
      let e = own name other after now blocks rest kept same in (
        count,
        broken blocks rest fault told (left_are name other after blocks rest kept).1 tells (λ x r. EntryFails LentAllocates f flats m (lent name before blocks) x (lent name now r) count)
            (subst (λ x. EntryFails LentAllocates f flats x (lent name before blocks) fault (lent name now rest) count) read
            (subst (λ x. EntryFails LentAllocates f flats n x fault (lent name now rest) count) is (subst (λ x. EntryFails LentAllocates f flats n old fault x count) e h))),
      )

  pub returned : (answer given : List Flat) → HasReturned LentAllocates f flats n answer old given (lent other after rest) count
      → ReturnsLent name f flats m answer before blocks given now
  returned answer given h =
      let kept = return_keeps f flats n old (lent other after rest) name count blocks answer given h (named_lent old name before blocks is) in
      let e = own name other after now blocks rest kept same in (
        count,
        rest,
        subst (λ x. HasReturned LentAllocates f flats x answer (lent name before blocks) given (lent name now rest) count) read
            (subst (λ x. HasReturned LentAllocates f flats n answer x given (lent name now rest) count) is (subst (λ x. HasReturned LentAllocates f flats n answer old given x count) e h)),
      )

  pub not_returned : (new : Memory) → new ≡ lent other after rest → (answer : List Flat) (fault : Fault) (told : HalfError) → IsHalfError (length blocks) (length rest) fault told
      → LeaveFails LentAllocates f flats n answer old fault new count → ReturnOfLentFails name f flats m answer before blocks told now
  not_returned new left answer fault told tells failed =
      let h = subst (λ w. LeaveFails LentAllocates f flats n answer old fault w count) left failed in
      let kept = failed_return_keeps f flats n old (lent other after rest) name count blocks answer fault h (named_lent old name before blocks is) in
      let e = own name other after now blocks rest kept same in (
        count,
        broken blocks rest fault told (left_are name other after blocks rest kept).1 tells (λ x r. LeaveFails LentAllocates f flats m answer (lent name before blocks) x (lent name now r) count)
            (subst (λ x. LeaveFails LentAllocates f flats x answer (lent name before blocks) fault (lent name now rest) count) read
            (subst (λ x. LeaveFails LentAllocates f flats n answer x fault (lent name now rest) count) is (subst (λ x. LeaveFails LentAllocates f flats n answer old fault x count) e h))),
      )
