-- Traps have the causes of their steps.
use Rattle.std.proofs.Common.{inl, inr, ◌⊎◌, ℕ, zero, suc, ◌+◌, List, ◌++◌, ◌≡◌, ◌∙◌, subst}
use Rattle.canonical_abi.specs.Types.{ClosedType, prim_type, string_type, list_type, record_type, variant_type, flags_type, Fields, no_field, field, Cases, no_case, plain_case, case_with, Prim, boolean, unsigned, signed, scalar_value, FunctionType, result_fields}
use Rattle.canonical_abi.specs.Values.{Value}
use Rattle.canonical_abi.specs.Layout.{align, size, max_flat_params, max_flat_results}
use Rattle.canonical_abi.specs.Script.{AddressFaulty}
use Rattle.canonical_abi.specs.Memory.{PrimFaulty, TextFaulty, BlockFaulty, EachFaulty, Holds, Faulty, FieldsFaulty, CaseFaulty}
use Rattle.canonical_abi.specs.Flat.{DenotesFault, LiftFaulty, FieldsLiftFaulty, CaseLiftFaulty}
use Rattle.canonical_abi.specs.Guest.{Memory, Allocation}
use Rattle.canonical_abi.specs.Trace.{Event, TraceLeads}
use Rattle.canonical_abi.specs.Call.{Parties, CallState, Order, Breaks, Ways, argument_flats, area_of, Traps}
use Rattle.canonical_abi.specs.Session.{TypedTraceBreaks, HasResultFault, Placed, TypedTraps}
use Rattle.canonical_abi.specs.Causes.{IsOfValues, RequestFailed, HasCause, TrapsHaveCauses}
use Rattle.canonical_abi.specs.declared.flat.Flat.{Flat}
use Rattle.canonical_abi.specs.declared.trap.TrapKind.{TrapKind}
use Rattle.canonical_abi.specs.declared.trap.TrapKind.TheVariants as trap
use Rattle.canonical_abi.specs.declared.trap.Step.{Step}
use Rattle.canonical_abi.specs.declared.trap.Step.TheVariants as step
use Rattle.canonical_abi.proofs.Traces.ConfinedTraces.{leads-both}
use Rattle.canonical_abi.proofs.ReadValues.StopsAtFirstFault.{address-denotes-fault, params-denote-fault, result-denotes-fault}

-- ---- the faults of values

of-prim : (p : Prim) (n : ℕ) (k : TrapKind) → PrimFaulty p n k → IsOfValues k
of-prim boolean n k e = elim e [ ]
of-prim (unsigned w) n k e = elim e [ ]
of-prim (signed w) n k e = elim e [ ]
of-prim scalar_value n k e = rw e.1 tt

of-text : (m : List ℕ) (a n : ℕ) (k : TrapKind) → TextFaulty m a n k → IsOfValues k
of-text m a n k (inl e) = rw e.1 tt
of-text m a n k (inr e) = rw e.2 tt

of-block : (m : List ℕ) (a align n : ℕ) (k : TrapKind) → BlockFaulty m a align n k → IsOfValues k
of-block m a align n k (inl e) = rw e.1 tt
of-block m a align n k (inr e) = rw e.2 tt

of-each : (P : ℕ → Value → Type 0) (F : ℕ → TrapKind → Type 0) → ((a : ℕ) (k : TrapKind) → F a k → IsOfValues k) → (step a n : ℕ) (k : TrapKind) → EachFaulty P F step a n k → IsOfValues k
of-each P F h step a zero k e = elim e [ ]
of-each P F h step a (suc n) k (inl e) = h a k e
of-each P F h step a (suc n) k (inr e) = of-each P F h step (a + step) n k e.2

mutual
  of-faulty : (t : ClosedType) (m : List ℕ) (a : ℕ) (k : TrapKind) → Faulty t m a k → IsOfValues k
  of-faulty (prim_type p) m a k e = of-prim p _ k e
  of-faulty string_type m a k e = of-text m _ _ k e
  of-faulty (list_type t) m a k (inl e) = of-block m _ _ _ k e
  of-faulty (list_type t) m a k (inr e) = of-each (Holds t m) (Faulty t m) (λ b j p. of-faulty t m b j p) (size t) _ _ k e.1
  of-faulty (record_type fs) m a k e = of-fields fs m a 0 k e
  of-faulty (variant_type cs) m a k e = of-cases cs m _ _ k e
  of-faulty (flags_type n) m a k e = elim e [ ]

  of-fields : (fs : Fields) (m : List ℕ) (a from : ℕ) (k : TrapKind) → FieldsFaulty fs m a from k → IsOfValues k
  of-fields no_field m a from k e = elim e [ ]
  of-fields (field t fs) m a from k (inl e) = of-faulty t m _ k e
  of-fields (field t fs) m a from k (inr e) = of-fields fs m a _ k e.2

  of-cases : (cs : Cases) (m : List ℕ) (a n : ℕ) (k : TrapKind) → CaseFaulty cs m a n k → IsOfValues k
  of-cases no_case m a n k e = rw e tt
  of-cases (plain_case cs) m a zero k e = elim e [ ]
  of-cases (plain_case cs) m a (suc n) k e = of-cases cs m a n k e
  of-cases (case_with t cs) m a zero k e = of-faulty t m a k e
  of-cases (case_with t cs) m a (suc n) k e = of-cases cs m a n k e

mutual
  of-flat : (t : ClosedType) (m fs : List ℕ) (k : TrapKind) → LiftFaulty t m fs k → IsOfValues k
  of-flat (prim_type p) m fs k e = of-prim p _ k e
  of-flat string_type m fs k e = of-text m _ _ k e
  of-flat (list_type t) m fs k (inl e) = of-block m _ _ _ k e
  of-flat (list_type t) m fs k (inr e) = of-each (Holds t m) (Faulty t m) (λ b j p. of-faulty t m b j p) (size t) _ _ k e.1
  of-flat (record_type ts) m fs k e = of-flat-fields ts m fs k e
  of-flat (variant_type cs) m fs k e = of-flat-cases cs m _ _ k e
  of-flat (flags_type n) m fs k e = elim e [ ]

  of-flat-fields : (ts : Fields) (m fs : List ℕ) (k : TrapKind) → FieldsLiftFaulty ts m fs k → IsOfValues k
  of-flat-fields no_field m fs k e = elim e [ ]
  of-flat-fields (field t ts) m fs k (inl e) = of-flat t m fs k e
  of-flat-fields (field t ts) m fs k (inr e) = of-flat-fields ts m _ k e.2

  of-flat-cases : (cs : Cases) (m fs : List ℕ) (n : ℕ) (k : TrapKind) → CaseLiftFaulty cs m fs n k → IsOfValues k
  of-flat-cases no_case m fs n k e = rw e tt
  of-flat-cases (plain_case cs) m fs zero k e = elim e [ ]
  of-flat-cases (plain_case cs) m fs (suc n) k e = of-flat-cases cs m fs n k e
  of-flat-cases (case_with t cs) m fs zero k e = of-flat t m fs k e
  of-flat-cases (case_with t cs) m fs (suc n) k e = of-flat-cases cs m fs n k e

of-denoting : (limit : ℕ) (ts : Fields) (m : List ℕ) (flats : List Flat) (k : TrapKind) → DenotesFault limit ts m flats k → IsOfValues k
of-denoting limit ts m flats k (inl e) = rw e.1 tt
of-denoting limit ts m flats k (inr (kinds, inl e)) = of-flat-fields ts m _ k e.1
of-denoting limit ts m flats k (inr (kinds, inr (fits, inl e))) = of-block m _ _ _ k e
of-denoting limit ts m flats k (inr (kinds, inr (fits, inr e))) = of-fields ts m _ _ k e.1

of-address : (limit : ℕ) (ts : Fields) (m : List ℕ) (flats : List Flat) (k : TrapKind) → AddressFaulty limit ts m flats k → IsOfValues k
of-address limit ts m flats k e = of-denoting limit ts m flats k (address-denotes-fault limit ts m flats k e)

of-result : (results : Fields) (m : List ℕ) (back : List Flat) (area : ℕ) (k : TrapKind) → HasResultFault results m back area k → IsOfValues k
of-result results m back area k (inl e) = of-denoting max_flat_results results m back k e.1
of-result results m back area k (inr e) = of-fields results m area 0 k e.1

-- ---- those of requests

of-breaking : (order : Order) (allocates : Allocation) (old new : Memory) (es : List Event) (k : TrapKind) → Breaks order allocates old es k new → RequestFailed allocates old k new
of-breaking order allocates old new es k (done, made, rest, next, asked, is, part, leads, fails) = (made, asked, next.align, next.size, leads, fails)

of-ending : (allocates : Allocation) (old new : Memory) (es : List Event) (k : TrapKind) → TypedTraceBreaks allocates old es k new → (k ≡ trap.Bounds) ⊎ RequestFailed allocates old k new
of-ending allocates old new es k (done, made, rest, next, asked, is, within, leaves, leads, inl ends) = inl ends.1
of-ending allocates old new es k (done, made, rest, next, asked, is, within, leaves, leads, inr ends) = inr (made, asked, next.align, next.size, leads, ends.1)

-- after other events
of-later : (allocates : Allocation) (old mid new : Memory) (es : List Event) (k : TrapKind) → TraceLeads allocates old es mid → RequestFailed allocates mid k new → RequestFailed allocates old k new
of-later allocates old mid new es k before (made, asked, align, size, leads, fails) = (es ++ made, asked, align, size, leads-both allocates es made old mid asked before leads, fails)

-- ---- calls

module _ (parties : Parties) (order : Order) (f : FunctionType) where
  of-call : (flats : List Flat) (old : CallState) (s : Step) (k : TrapKind) (ways : Ways) (new : CallState) → Traps parties order f flats old s k ways new → HasCause parties old s k new
  of-call flats old step.LiftArgs k ways new (inl e, none) = rw e.1 tt
  of-call flats old step.LiftArgs k ways new (inr (inl e), none) = of-address max_flat_params f.params old.caller.bytes (argument_flats f flats) k e.1
  of-call flats old step.LiftArgs k ways new (inr (inr e), none) = of-denoting max_flat_params f.params old.caller.bytes (argument_flats f flats) k (params-denote-fault max_flat_params f.params old.caller.bytes (argument_flats f flats) k e.1 e.2)
  of-call flats old step.LowerArgs k ways new (e, none) = of-breaking order parties.callee_allocates old.callee new.callee e.1 k e.3
  of-call flats old step.Body k ways new e = (e.3, (_, _, _, e.5.run))
  of-call flats old step.LiftResult k ways new (answer, answered, before, inl e) = of-address max_flat_results (result_fields f.result) answered.callee.bytes answer k e.0
  of-call flats old step.LiftResult k ways new (answer, answered, before, inr e) = of-denoting max_flat_results (result_fields f.result) answered.callee.bytes answer k (result-denotes-fault max_flat_results (result_fields f.result) answered.callee.bytes answer (area_of f flats) k e.1 e.2)
  of-call flats old step.LowerResult k ways new (answer, answered, before, inl e) = inl (of-block answered.caller.bytes (area_of f flats) (align (record_type (result_fields f.result))) (size (record_type (result_fields f.result))) k e.1.1)
  of-call flats old step.LowerResult k ways new (answer, answered, before, inr e) =
      inr (subst (λ m. RequestFailed parties.caller_allocates m k new.caller) (before.runs.same_caller ∙ before.enters.same_caller) (of-breaking order parties.caller_allocates answered.caller new.caller e.1 k e.3))
  of-call flats old step.Post k ways new e = (e.3, (_, _, _, e.5.run))
  of-call flats old step.Place k ways new e = elim e [ ]
  of-call flats old step.Take k ways new e = elim e [ ]

  -- the arguments were placed before
  of-placed : (arguments : List Value) (old : CallState) (flats : List Flat) (area : ℕ) (placed : CallState) → Placed parties f arguments old flats area placed
      → (s : Step) (k : TrapKind) (new : CallState) → HasCause parties placed s k new → HasCause parties old s k new
  of-placed arguments old flats area placed p step.Place k new (inl large) = inl large
  of-placed arguments old flats area placed p step.Place k new (inr failed) = inr (of-later parties.caller_allocates old.caller placed.caller new.caller p.puts.0 k p.puts.3 failed)
  of-placed arguments old flats area placed p step.Take k new h = h
  of-placed arguments old flats area placed p step.LiftArgs k new h = h
  of-placed arguments old flats area placed p step.LowerArgs k new h = subst (λ m. RequestFailed parties.callee_allocates m k new.callee) p.same_callee h
  of-placed arguments old flats area placed p step.Body k new h = h
  of-placed arguments old flats area placed p step.LiftResult k new h = h
  of-placed arguments old flats area placed p step.LowerResult k new (inl values) = inl values
  of-placed arguments old flats area placed p step.LowerResult k new (inr failed) = inr (of-later parties.caller_allocates old.caller placed.caller new.caller p.puts.0 k p.puts.3 failed)
  of-placed arguments old flats area placed p step.Post k new h = h

  of-typed : (arguments : List Value) (old : CallState) (s : Step) (k : TrapKind) (new : CallState) → TypedTraps parties order f arguments old s k new → HasCause parties old s k new
  of-typed arguments old step.Place k new e = of-ending parties.caller_allocates old.caller new.caller e.fails.0 k e.fails.4
  of-typed arguments old step.Take k new e = of-result (result_fields f.result) new.caller.bytes e.0 e.1 k e.3
  of-typed arguments old step.LiftArgs k new e = of-placed arguments old e.0 e.1 e.2 e.3 step.LiftArgs k new (of-call e.0 e.2 step.LiftArgs k e.4 new e.5)
  of-typed arguments old step.LowerArgs k new e = of-placed arguments old e.0 e.1 e.2 e.3 step.LowerArgs k new (of-call e.0 e.2 step.LowerArgs k e.4 new e.5)
  of-typed arguments old step.Body k new e = of-placed arguments old e.0 e.1 e.2 e.3 step.Body k new (of-call e.0 e.2 step.Body k e.4 new e.5)
  of-typed arguments old step.LiftResult k new e = of-placed arguments old e.0 e.1 e.2 e.3 step.LiftResult k new (of-call e.0 e.2 step.LiftResult k e.4 new e.5)
  of-typed arguments old step.LowerResult k new e = of-placed arguments old e.0 e.1 e.2 e.3 step.LowerResult k new (of-call e.0 e.2 step.LowerResult k e.4 new e.5)
  of-typed arguments old step.Post k new e = of-placed arguments old e.0 e.1 e.2 e.3 step.Post k new (of-call e.0 e.2 step.Post k e.4 new e.5)

pub traps-have-causes : (parties : Parties) (order : Order) → TrapsHaveCauses parties order
traps-have-causes parties order = record {
  call = λ f flats old t ways new e. of-call parties order f flats old t.step t.kind ways new e;
  typed = λ f arguments old t new e. of-typed parties order f arguments old t.step t.kind new e;
}
