-- Between tame guests a value that is held in live addresses of the caller stays held over every list of steps, and a value that was placed is read.
use Rattle.std.proofs.Common.{◌≡◌, inr, ℕ, ◌<◌, ◌≤◌, ◌^◌, Bool, true, false, List, [], ◌∷◌, ◌++◌, length, Some, Result, Ok, Err, refl, sym, ap, ◌∙◌, subst, arith}
use Rattle.std.specs.Prelude.{slice_get}
use Rattle.canonical_abi.specs.AnyHonest.{AnyGrant, AnyRelease}
use Rattle.canonical_abi.specs.Types.{ClosedType, IsStandard}
use Rattle.canonical_abi.specs.Values.{Value}
use Rattle.canonical_abi.specs.Memory.{HoldsInBlock}
use Rattle.canonical_abi.specs.Guest.{Memory, Allocation, Release, IsOutside, rounded_to_eight}
use Rattle.canonical_abi.specs.Footprint.{Reads, KeepsBytes, SameFootprint}
use Rattle.canonical_abi.specs.Trace.{grant, TraceLeads}
use Rattle.canonical_abi.specs.Call.{Parties, CallState, Order}
use Rattle.canonical_abi.specs.Session.{Held, SessionStep, call, place, read, release, SessionAnswer, released, PlacesValue, ReadsStep, TakesStep, RunsSession}
use Rattle.canonical_abi.specs.Keeping.{Footprint, IsLive, AreStandardSteps, Throughout, StaysLive, IsKept, ReleasesMiss, IsPlaced, HeldStaysHeld, HeldIsRead, PlacedIsRead}
use Rattle.canonical_abi.specs.Tame.{LeavesLive, IsTame, AreTame}
use Rattle.canonical_abi.specs.TameKeeping.{IsPlacedLive, PlacedIsHeldLive}
use Rattle.canonical_abi.specs.declared.trap.Fault.{Fault}
use Rattle.canonical_abi.specs.declared.trap.Fault.TheVariants.{Trap, NoMemory}
use Rattle.canonical_abi.proofs.ReadValues.FramesReading.{frames_reading, same_footprint}
use Rattle.canonical_abi.proofs.Traces.WhatTracesKeep.{not-both, not-true}
use Rattle.canonical_abi.proofs.FlatValues.LoweredIsDenoted.{Nowhere}
use Rattle.canonical_abi.proofs.Traces.ConfinedTraces.{small, Went, went-by}
use Rattle.canonical_abi.proofs.Traces.TameTraces.{leaves-same, any-is-honest, typed-broken, calm-trace}
use Rattle.canonical_abi.proofs.Calls.TameCallKeepsPromise.{call-leaves-caller}
use Rattle.canonical_abi.proofs.Sessions.HeldValues.{reads-inside, block-aligned, block-confined, held-read, placed-held as calm-held}
use Rattle.canonical_abi.proofs.Calls.WaysOfCalls.{own-left}

-- ---- a value that is placed

module _ (allocates : Allocation) (releases : Release) (tame : IsTame allocates releases) where
  -- whether it is placed, or there is no room for it
  pub place-went : (t : ClosedType) (v : Value) (old new : Memory) (result : Result Held Fault) → PlacesValue allocates t v old result new → Went allocates Nowhere old new
  place-went t v old new (Ok held) (g, rest, block, stores, within, leads, is) =
      went-by allocates Nowhere old (grant g ∷ rest) new (record { aligned = block-aligned t v g rest block stores; confined = block-confined t v g rest block stores; leads = leads })
  place-went t v old new (Err (Trap fault)) (g, rest, block, stores, is, breaks) =
      (typed-broken allocates releases tame Nowhere old (grant g ∷ rest) fault.kind new (block-aligned t v g rest block stores) (block-confined t v g rest block stores) breaks).0
  place-went t v old new (Err NoMemory) p = absurd p

  place-leaves : (t : ClosedType) (v : Value) (old new : Memory) (result : Result Held Fault) → PlacesValue allocates t v old result new → LeavesLive 0 0 old new
  place-leaves t v old new result places = own-left allocates releases tame old new (place-went t v old new result places)

  placed-held : (t : ClosedType) (v : Value) (old new : Memory) (held : Held) → IsStandard t → length new.bytes < 2 ^ 32 → PlacesValue allocates t v old (Ok held) new → IsPlacedLive t held.at v old new
  placed-held t v old new held standard small (g, rest, block, stores, within, leads, is) = record {
    holds = there.holds;
    live = there.live;
    was_free = λ x r. not-true (λ l. not-both (calm.1.live x l) (there.was_free x (there.own x r)));
    kept = place-leaves t v old new (Ok held) (g, rest, block, stores, within, leads, is);
  }
    where
      -- an honest guest puts it there, too
      calm : (m : Memory) × LeavesLive 0 0 old m × TraceLeads AnyGrant m (grant g ∷ rest) new
      calm = calm-trace allocates releases tame Nowhere (grant g ∷ rest) old new (λ x i. absurd i)
          (record { aligned = block-aligned t v g rest block stores; confined = block-confined t v g rest block stores; leads = leads })

      there : IsPlaced AnyGrant t held.at v calm.0 new
      there = calm-held AnyGrant AnyRelease any-is-honest t v calm.0 new held standard small (g, rest, block, stores, within, calm.2, is)

pub placed-is-held-live : (allocates : Allocation) (releases : Release) → IsTame allocates releases → PlacedIsHeldLive allocates
placed-is-held-live allocates releases tame = record {
  placed = placed-held allocates releases tame;
  failed = λ t v old new fault places. place-leaves allocates releases tame t v old new (Err fault) places;
}

-- ---- what each step leaves in the caller

-- what is live before and after keeps its bytes, and none is taken off the end
record StepLeaves (old new : Memory) : Type 0 where
  no_shorter : length old.bytes ≤ length new.bytes
  same : (x : ℕ) → x < length old.bytes → old.live x ≡ true → new.live x ≡ true → slice_get new.bytes x ≡ slice_get old.bytes x

by-left : (old new : Memory) → LeavesLive 0 0 old new → StepLeaves old new
by-left old new k = record { no_shorter = k.no_shorter; same = λ x below l m. k.bytes x l below (inr (omega arith)) }

first-standard : (s : SessionStep) (steps : List SessionStep) → AreStandardSteps (s ∷ steps) → AreStandardSteps (s ∷ []) × AreStandardSteps steps
first-standard (call f arguments) steps st = ((st.0, tt), st.1)
first-standard (place t v) steps st = (tt, st)
first-standard (read k) steps st = (tt, st)
first-standard (release at n) steps st = (tt, st)

module _ (parties : Parties) (caller_releases callee_releases : Release) (order : Order) (tame : AreTame parties caller_releases callee_releases) where
  release-leaves : (at n : ℕ) (old new : Memory) (taken : Bool) → caller_releases old at n taken new → StepLeaves old new
  release-leaves at n old new true r = let t = tame.caller.taken old at n new r in record { no_shorter = t.no_shorter; same = λ x below l m. t.bytes x l m below }
  release-leaves at n old new false r = by-left old new (tame.caller.not_taken old at n new r)

  step-leaves : (s : SessionStep) (before : List SessionAnswer) (old : CallState) (answer : SessionAnswer) (new : CallState) → AreStandardSteps (s ∷ []) → TakesStep parties caller_releases order before old s answer new → StepLeaves old.caller new.caller
  step-leaves (call f arguments) before old answer new standard (result, is, typed) =
      by-left old.caller new.caller (call-leaves-caller parties caller_releases callee_releases order f arguments tame standard.0 old result new typed)
  step-leaves (place t v) before old answer new standard (result, is, places, callee, body) =
      by-left old.caller new.caller (place-leaves parties.caller_allocates caller_releases tame.caller t v old.caller new.caller result places)
  step-leaves (read k) before old answer new standard (same, reads) = by-left old.caller new.caller (subst (λ w. LeavesLive 0 0 old.caller w.caller) (sym same) (leaves-same 0 0 old.caller))
  step-leaves (release at n) before old answer new standard (taken, is, releases, callee, body) = release-leaves at n old.caller new.caller taken releases

  -- ---- what a run of steps keeps

  now : (P : CallState → Type 0) (before : List SessionAnswer) (old : CallState) (steps : List SessionStep) (answers : List SessionAnswer) (new : CallState) (run : RunsSession parties caller_releases order before old steps answers new)
      → Throughout parties caller_releases order P before old steps answers new run → P old
  now P before old [] answers new run p = p
  now P before old (s ∷ steps) answers new run p = p.0

  as-well : (P Q : CallState → Type 0) → ((w : CallState) → P w → Q w) → (before : List SessionAnswer) (old : CallState) (steps : List SessionStep) (answers : List SessionAnswer) (new : CallState) (run : RunsSession parties caller_releases order before old steps answers new)
      → Throughout parties caller_releases order P before old steps answers new run → Throughout parties caller_releases order Q before old steps answers new run
  as-well P Q more before old [] answers new run p = more old p
  as-well P Q more before old (s ∷ steps) answers new run p = (more old p.0, as-well P Q more (before ++ run.answer ∷ []) run.between steps run.rest new run.others p.1)

  kept-by : (t : ClosedType) (a : ℕ) (v : Value) (old new : Memory) → HoldsInBlock t old.bytes a v → IsLive (Reads t old.bytes a) old → IsLive (Reads t old.bytes a) new → StepLeaves old new → IsKept t a v old new
  kept-by t a v old new holds live after left =
      let bytes : KeepsBytes t a old.bytes new.bytes = record {
        same = λ x r. left.same x (reads-inside old.bytes t a v holds.0.1 holds.1 x r) (live x r) (after x r);
        no_shorter = left.no_shorter;
      } in
      record {
        holds = ((holds.0.0, let i = holds.0.1 in let l = left.no_shorter in omega arith), frames_reading t a v old.bytes new.bytes bytes holds.1);
        footprint = same_footprint t a old.bytes new.bytes bytes;
      }

  run-leaves : (t : ClosedType) (a : ℕ) (v : Value) (before : List SessionAnswer) (old : CallState) (steps : List SessionStep) (answers : List SessionAnswer) (new : CallState) (run : RunsSession parties caller_releases order before old steps answers new)
      → AreStandardSteps steps → StaysLive parties caller_releases order t a v before old steps answers new run → IsKept t a v old.caller new.caller
  run-leaves t a v before old [] answers new run standard stay =
      let same : new.caller ≡ old.caller = ap (λ w. w.caller) run.1 in
      record {
        holds = subst (λ m. HoldsInBlock t m.bytes a v) (sym same) stay.holds;
        footprint = subst (λ m. SameFootprint t a old.caller.bytes m.bytes) (sym same) (λ x. ((λ q. q), (λ q. q)));
      }
  run-leaves t a v before old (s ∷ steps) answers new run standard stay =
      let split = first-standard s steps standard in
      let left = step-leaves s before old run.answer run.between split.0 run.takes in
      let after : IsLive (Reads t old.caller.bytes a) run.between.caller =
      now (λ w. IsLive (Reads t old.caller.bytes a) w.caller) (before ++ run.answer ∷ []) run.between steps run.rest new run.others stay.live.1 in
      let first = kept-by t a v old.caller run.between.caller stay.holds stay.live.0 after left in
      let later = run-leaves t a v (before ++ run.answer ∷ []) run.between steps run.rest new run.others split.1 (record {
        holds = first.holds;
        live = as-well (λ w. IsLive (Reads t old.caller.bytes a) w.caller) (λ w. IsLive (Reads t run.between.caller.bytes a) w.caller) (λ w l x r. l x ((first.footprint x).1 r)) (before ++ run.answer ∷ []) run.between steps run.rest new run.others stay.live.1;
      }) in
      record {
        holds = later.holds;
        footprint = λ x. ((λ q. (later.footprint x).0 ((first.footprint x).0 q)), (λ q. (first.footprint x).1 ((later.footprint x).1 q)));
      }

  -- ---- what is live stays live, until a release ends life in it

  module _ (F : Footprint) where
    left-lives : (old new : Memory) → LeavesLive 0 0 old new → IsLive F old → IsLive F new
    left-lives old new k live x f = k.live x (live x f)

    release-lives : (at n : ℕ) (taken : Bool) (old new : Memory) → caller_releases old at n taken new → (taken ≡ true → (x : ℕ) → F x → IsOutside x at (rounded_to_eight n)) → IsLive F old → IsLive F new
    release-lives at n true old new r miss live x f = (tame.caller.taken old at n new r).stays_live x (live x f) (miss refl x f)
    release-lives at n false old new r miss live x f = left-lives old new (tame.caller.not_taken old at n new r) live x f

    step-lives : (s : SessionStep) (before : List SessionAnswer) (old : CallState) (answer : SessionAnswer) (new : CallState) → AreStandardSteps (s ∷ []) → ReleasesMiss F (s ∷ []) (answer ∷ [])
        → TakesStep parties caller_releases order before old s answer new → IsLive F old.caller → IsLive F new.caller
    step-lives (call f arguments) before old answer new standard miss (result, is, typed) live =
        left-lives old.caller new.caller (call-leaves-caller parties caller_releases callee_releases order f arguments tame standard.0 old result new typed) live
    step-lives (place t v) before old answer new standard miss (result, is, places, callee, body) live =
        left-lives old.caller new.caller (place-leaves parties.caller_allocates caller_releases tame.caller t v old.caller new.caller result places) live
    step-lives (read k) before old answer new standard miss (same, reads) live = λ x f. ap (λ w. w.caller.live x) same ∙ live x f
    step-lives (release at n) before old answer new standard miss (taken, is, releases, callee, body) live = release-lives at n taken old.caller new.caller releases (λ e. miss.0 (is ∙ ap released e)) live

    first-miss : (s : SessionStep) (steps : List SessionStep) (answer : SessionAnswer) (answers : List SessionAnswer) → ReleasesMiss F (s ∷ steps) (answer ∷ answers)
        → ReleasesMiss F (s ∷ []) (answer ∷ []) × ReleasesMiss F steps answers
    first-miss (call f arguments) steps answer answers miss = (tt, miss)
    first-miss (place t v) steps answer answers miss = (tt, miss)
    first-miss (read k) steps answer answers miss = (tt, miss)
    first-miss (release at n) steps answer answers miss = ((miss.0, tt), miss.1)

    lives-throughout : (before : List SessionAnswer) (old : CallState) (steps : List SessionStep) (answers : List SessionAnswer) (new : CallState) (run : RunsSession parties caller_releases order before old steps answers new)
        → AreStandardSteps steps → ReleasesMiss F steps answers → IsLive F old.caller → Throughout parties caller_releases order (λ w. IsLive F w.caller) before old steps answers new run
    lives-throughout before old [] answers new run standard miss live = live
    lives-throughout before old (s ∷ steps) answers new run standard miss live =
        let split = first-standard s steps standard in
        let apart = first-miss s steps run.answer run.rest (subst (ReleasesMiss F (s ∷ steps)) run.answers_are miss) in
        (live, lives-throughout (before ++ run.answer ∷ []) run.between steps run.rest new run.others split.1 apart.1 (step-lives s before old run.answer run.between split.0 apart.0 run.takes live))

pub held-stays-held : (parties : Parties) (caller_releases callee_releases : Release) (order : Order) → HeldStaysHeld parties caller_releases order callee_releases
held-stays-held parties caller_releases callee_releases order t a v before old steps answers new run tame standard stay =
    run-leaves parties caller_releases callee_releases order tame t a v before old steps answers new run standard stay

pub held-is-read : (parties : Parties) (caller_releases callee_releases : Release) (order : Order) → HeldIsRead parties caller_releases order callee_releases
held-is-read parties caller_releases callee_releases order t a v before old steps answers new run answer tame standard stay reads =
    held-read t a v new.caller answer (run-leaves parties caller_releases callee_releases order tame t a v before old steps answers new run standard stay).holds reads

pub placed-is-read : (parties : Parties) (caller_releases callee_releases : Release) (order : Order) → PlacedIsRead parties caller_releases order callee_releases
placed-is-read parties caller_releases callee_releases order t v held before old placed steps answers new answer tame limited standard usual places run miss reads =
    let there = placed-held parties.caller_allocates caller_releases tame.caller t v old.caller placed.caller held standard (small placed.caller limited) places in
    let live = lives-throughout parties caller_releases callee_releases order tame (Reads t placed.caller.bytes held.at) before placed steps answers new run usual miss there.live in
    let is : held ≡ record { ty = t; at = held.at } = told places in
    let kept = run-leaves parties caller_releases callee_releases order tame t held.at v before placed steps answers new run usual (record { holds = there.holds; live = live }) in
    held-read t held.at v new.caller answer kept.holds (subst (λ (h : Held). ReadsStep new.caller (Some h) answer) is reads)
  where
    told : PlacesValue parties.caller_allocates t v old.caller (Ok held) placed.caller → held ≡ record { ty = t; at = held.at }
    told (g, rest, block, stores, within, leads, is) = is ∙ ap (λ k. record { ty = t; at = k }) (sym (ap (λ (h : Held). h.at) is))
