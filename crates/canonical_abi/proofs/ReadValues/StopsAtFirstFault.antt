-- What stops a source after its events is the first fault of what it holds.
use Rattle.std.proofs.Common.{inl, inr, ℕ, zero, suc, ◌+◌, List}
use Rattle.canonical_abi.specs.Types.{ClosedType, prim_type, string_type, list_type, record_type, variant_type, flags_type, Fields, no_field, field, Cases, no_case, plain_case, case_with}
use Rattle.canonical_abi.specs.Values.{Value}
use Rattle.canonical_abi.specs.Layout.{size}
use Rattle.canonical_abi.specs.Memory.{EachFaulty, Holds, Faulty, FieldsFaulty, CaseFaulty}
use Rattle.canonical_abi.specs.Flat.{DenotesFault, LiftFaulty, FieldsLiftFaulty, CaseLiftFaulty}
use Rattle.canonical_abi.specs.Trace.{Event}
use Rattle.canonical_abi.specs.Storing.{Stores}
use Rattle.canonical_abi.specs.Script.{EachStops, StoresUntil, FieldsStoreUntil, CaseStoresUntil, LowersUntil, FieldsLowerUntil, CaseLowersUntil, AddressFaulty, ParamsUntil, ResultUntil}
use Rattle.canonical_abi.specs.declared.flat.Flat.{Flat}
use Rattle.canonical_abi.specs.declared.trap.TrapKind.{TrapKind}
use Rattle.canonical_abi.proofs.Traces.WhatTracesKeep.{not-both}

each-faulty : (P : ℕ → Value → Type 0) (S : ℕ → Value → List Event → Type 0) (F : ℕ → ℕ → TrapKind → List Event → Type 0) (G : ℕ → TrapKind → Type 0)
    → ((a at : ℕ) (k : TrapKind) (es : List Event) → F a at k es → G a k) → (step a at n : ℕ) (k : TrapKind) (es : List Event) → EachStops P S F step a at n k es → EachFaulty P G step a n k
each-faulty P S F G h step a at zero k es e = elim e [ ]
each-faulty P S F G h step a at (suc n) k es (inl e) = inl (h a at k es e)
each-faulty P S F G h step a at (suc n) k es (inr e) = inr (e.0, e.4, each-faulty P S F G h step (a + step) (at + step) n k e.2 e.6)

mutual
  until-faulty : (t : ClosedType) (m : List ℕ) (a at : ℕ) (k : TrapKind) (es : List Event) → StoresUntil t m a at k es → Faulty t m a k
  until-faulty (prim_type p) m a at k es s = s.0
  until-faulty string_type m a at k es s = s.0
  until-faulty (list_type t) m a at k es (inl s) = inl s.0
  until-faulty (list_type t) m a at k es (inr s) =
      inr (s.0, each-faulty (Holds t m) (Stores t) (StoresUntil t m) (Faulty t m) (λ b c j fs p. until-faulty t m b c j fs p) (size t) _ s.1.at _ k s.2 s.5)
  until-faulty (record_type fs) m a at k es s = fields-until-faulty fs m a at 0 k s.0 s.2
  until-faulty (variant_type cs) m a at k es s = case-until-faulty cs m _ _ _ _ k es s
  until-faulty (flags_type n) m a at k es s = s

  fields-until-faulty : (fs : Fields) (m : List ℕ) (a at from : ℕ) (k : TrapKind) (es : List Event) → FieldsStoreUntil fs m a at from k es → FieldsFaulty fs m a from k
  fields-until-faulty no_field m a at from k es s = s
  fields-until-faulty (field t fs) m a at from k es (inl s) = inl (until-faulty t m _ _ k es s)
  fields-until-faulty (field t fs) m a at from k es (inr s) = inr (s.0, s.4, fields-until-faulty fs m a at _ k s.2 s.6)

  case-until-faulty : (cs : Cases) (m : List ℕ) (a at n : ℕ) (own : Event) (k : TrapKind) (es : List Event) → CaseStoresUntil cs m a at n own k es → CaseFaulty cs m a n k
  case-until-faulty no_case m a at n own k es s = s.0
  case-until-faulty (plain_case cs) m a at zero own k es s = s
  case-until-faulty (plain_case cs) m a at (suc n) own k es s = case-until-faulty cs m a at n own k es s
  case-until-faulty (case_with t cs) m a at zero own k es s = until-faulty t m a at k s.0 s.2
  case-until-faulty (case_with t cs) m a at (suc n) own k es s = case-until-faulty cs m a at n own k es s

mutual
  lift-faulty : (t : ClosedType) (m fs : List ℕ) (k : TrapKind) (es : List Event) → LowersUntil t m fs k es → LiftFaulty t m fs k
  lift-faulty (prim_type p) m fs k es s = s.0
  lift-faulty string_type m fs k es s = s.0
  lift-faulty (list_type t) m fs k es (inl s) = inl s.0
  lift-faulty (list_type t) m fs k es (inr s) =
      inr (s.0, each-faulty (Holds t m) (Stores t) (StoresUntil t m) (Faulty t m) (λ b c j gs p. until-faulty t m b c j gs p) (size t) _ s.1.at _ k s.2 s.5)
  lift-faulty (record_type ts) m fs k es s = fields-lift-faulty ts m fs k s.0 s.2
  lift-faulty (variant_type cs) m fs k es s = case-lift-faulty cs m _ _ k s.0 s.2
  lift-faulty (flags_type n) m fs k es s = s

  fields-lift-faulty : (ts : Fields) (m fs : List ℕ) (k : TrapKind) (es : List Event) → FieldsLowerUntil ts m fs k es → FieldsLiftFaulty ts m fs k
  fields-lift-faulty no_field m fs k es s = s
  fields-lift-faulty (field t ts) m fs k es (inl s) = inl (lift-faulty t m fs k es s)
  fields-lift-faulty (field t ts) m fs k es (inr s) = inr (s.0, s.4, fields-lift-faulty ts m _ k s.2 s.6)

  case-lift-faulty : (cs : Cases) (m fs : List ℕ) (n : ℕ) (k : TrapKind) (es : List Event) → CaseLowersUntil cs m fs n k es → CaseLiftFaulty cs m fs n k
  case-lift-faulty no_case m fs n k es s = s.0
  case-lift-faulty (plain_case cs) m fs zero k es s = s
  case-lift-faulty (plain_case cs) m fs (suc n) k es s = case-lift-faulty cs m fs n k es s
  case-lift-faulty (case_with t cs) m fs zero k es s = lift-faulty t m fs k es s
  case-lift-faulty (case_with t cs) m fs (suc n) k es s = case-lift-faulty cs m fs n k es s

-- ---- whole lists

pub address-denotes-fault : (limit : ℕ) (ts : Fields) (m : List ℕ) (flats : List Flat) (k : TrapKind) → AddressFaulty limit ts m flats k → DenotesFault limit ts m flats k
address-denotes-fault limit ts m flats k (inl a) = inl a
address-denotes-fault limit ts m flats k (inr a) = inr (a.0, inr (a.1, inl a.2))

pub params-denote-fault : (limit : ℕ) (ts : Fields) (m : List ℕ) (flats : List Flat) (k : TrapKind) (es : List Event) → ParamsUntil limit ts m flats k es → DenotesFault limit ts m flats k
params-denote-fault limit ts m flats k es ((kinds, stands), inl s) = inr (kinds, inl (s.0, fields-lift-faulty ts m _ k es s.1))
params-denote-fault limit ts m flats k es ((kinds, inl fits), inr s) = absurd (not-both fits s.0)
params-denote-fault limit ts m flats k es ((kinds, inr block), inr s) = inr (kinds, inr (s.0, inr (block.1, fields-until-faulty ts m _ s.1.at 0 k s.2 s.5)))

pub result-denotes-fault : (limit : ℕ) (ts : Fields) (m : List ℕ) (flats : List Flat) (area : ℕ) (k : TrapKind) (es : List Event) → ResultUntil limit ts m flats area k es → DenotesFault limit ts m flats k
result-denotes-fault limit ts m flats area k es ((kinds, stands), inl s) = inr (kinds, inl (s.0, fields-lift-faulty ts m _ k es s.1))
result-denotes-fault limit ts m flats area k es ((kinds, inl fits), inr s) = absurd (not-both fits s.0)
result-denotes-fault limit ts m flats area k es ((kinds, inr block), inr s) = inr (kinds, inr (s.0, inr (block.1, fields-until-faulty ts m _ area 0 k es s.1)))
