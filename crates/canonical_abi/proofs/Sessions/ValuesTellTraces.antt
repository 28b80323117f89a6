-- A trace over one memory is told by its values, whose allocator answers in one way.
use Rattle.std.proofs.Common.{◌≡◌, ◌⊎◌, inl, inr, ℕ, zero, suc, ◌+◌, ◌≤◌, true, List, [], ◌∷◌, ◌++◌, length, map, Option, Some, refl, sym, ap, ◌∙◌, subst, arith}
use Rattle.std.specs.Prelude.{slice_get}
use Rattle.canonical_abi.specs.Types.{ClosedType, prim_type, string_type, list_type, record_type, variant_type, flags_type, Fields, no_field, field, Cases, no_case, plain_case, case_with}
use Rattle.canonical_abi.specs.Values.{Value}
use Rattle.canonical_abi.specs.Layout.{size, payload_place}
use Rattle.canonical_abi.specs.Guest.{Memory, Allocation, Release, overwrite, with_bytes, IsWithin, IsOutside}
use Rattle.canonical_abi.specs.Trace.{Grant, Event, node, grant, write, Request, grants_of, requests_of, TraceLeads, byte_over}
use Rattle.canonical_abi.specs.Stands.{AreAligned}
use Rattle.canonical_abi.specs.Storing.{EachStores, Stores, FieldsStore, CaseStores}
use Rattle.canonical_abi.specs.Lowering.{Lowers, FieldsLower, CaseLowers, PassesParams, PassesResult}
use Rattle.canonical_abi.specs.Told.{AllocatesInOneWay, IgnoresBytes, SameButBytes}
use Rattle.canonical_abi.specs.Tame.{IsTame}
use Rattle.canonical_abi.specs.TameValues.{SameButLive, IgnoresLive}
use Rattle.canonical_abi.specs.declared.flat.Flat.{Flat}
use Rattle.canonical_abi.proofs.Traces.BytesWrittenOver.{length-overwrite, within_or_not}
use Rattle.canonical_abi.proofs.Traces.TracesLeaveImages.{byte_over-before, byte_over-after, overwrite-get}
use Rattle.canonical_abi.proofs.Traces.WhatTracesKeep.{not-both}
use Rattle.canonical_abi.proofs.StoredValues.WritesOwnPlaceAndBlocks.{Confined}
use Rattle.canonical_abi.proofs.StoredValues.AsksRequests.{asks-requests}
use Rattle.canonical_abi.proofs.FlatValues.SameLowering.{same-passing}

-- ---- traces without what stood in the blocks

abbrev bare : Grant → Grant
bare g = record { align = g.align; size = g.size; at = g.at; contents = [] }

abbrev erased : List Event → List Event
erased [] = []
erased (node ∷ es) = node ∷ erased es
erased (grant g ∷ es) = grant (bare g) ∷ erased es
erased (write a bs ∷ es) = write a bs ∷ erased es

erased-both : (es fs : List Event) → erased (es ++ fs) ≡ erased es ++ erased fs
erased-both [] fs = refl
erased-both (node ∷ es) fs = ap (λ l. node ∷ l) (erased-both es fs)
erased-both (grant g ∷ es) fs = ap (λ l. grant (bare g) ∷ l) (erased-both es fs)
erased-both (write a bs ∷ es) fs = ap (λ l. write a bs ∷ l) (erased-both es fs)

erased-grants : (es : List Event) → grants_of (erased es) ≡ map bare (grants_of es)
erased-grants [] = refl
erased-grants (node ∷ es) = erased-grants es
erased-grants (grant g ∷ es) = ap (λ l. bare g ∷ l) (erased-grants es)
erased-grants (write a bs ∷ es) = erased-grants es

each-erased : (P : ℕ → Value → List Event → Type 0) (step : ℕ) → ((a : ℕ) (v : Value) (es : List Event) → P a v es → P a v (erased es)) → (a : ℕ) (vs : List Value) (es : List Event) → EachStores P step a vs es → EachStores P step a vs (erased es)
each-erased P step h a [] es s = ap erased s
each-erased P step h a (v ∷ vs) es s = (erased s.0, erased s.1, ap erased s.2 ∙ erased-both s.0 s.1, h a v s.0 s.3, each-erased P step h (a + step) vs s.1 s.4)

mutual
  stores-erased : (t : ClosedType) (a : ℕ) (v : Value) (es : List Event) → Stores t a v es → Stores t a v (erased es)
  stores-erased (prim_type p) a v es s = (s.0, ap erased s.1)
  stores-erased string_type a v es s = (s.0, bare s.1, s.2, s.3, s.4, ap erased s.5)
  stores-erased (list_type t) a v es s =
      (s.0, bare s.1, erased s.2, s.3, s.4, ap erased s.5, each-erased (Stores t) (size t) (λ b w fs p. stores-erased t b w fs p) s.1.at s.0 s.2 s.6)
  stores-erased (record_type fs) a v es s = (s.0, erased s.1, s.2, ap erased s.3, fields-erased fs a 0 s.0 s.1 s.4)
  stores-erased (variant_type cs) a v es s = (s.0, erased s.1, ap erased s.2, case-erased cs (a + payload_place cs) s.0 s.0 v s.1 s.3)
  stores-erased (flags_type n) a v es s = (s.0, s.1, s.2, ap erased s.3)

  fields-erased : (fs : Fields) (a from : ℕ) (vs : List Value) (es : List Event) → FieldsStore fs a from vs es → FieldsStore fs a from vs (erased es)
  fields-erased no_field a from vs es s = (s.0, ap erased s.1)
  fields-erased (field t fs) a from vs es s =
      (s.0, s.1, erased s.2, erased s.3, s.4, ap erased s.5 ∙ erased-both s.2 s.3, stores-erased t _ s.0 s.2 s.6, fields-erased fs a _ s.1 s.3 s.7)

  case-erased : (cs : Cases) (a i n : ℕ) (v : Value) (es : List Event) → CaseStores cs a i n v es → CaseStores cs a i n v (erased es)
  case-erased no_case a i n v es s = s
  case-erased (plain_case cs) a i zero v es s = (s.0, ap erased s.1)
  case-erased (plain_case cs) a i (suc n) v es s = case-erased cs a i n v es s
  case-erased (case_with t cs) a i zero v es s = (s.0, s.1, stores-erased t a s.0 es s.2)
  case-erased (case_with t cs) a i (suc n) v es s = case-erased cs a i n v es s

mutual
  lowers-erased : (t : ClosedType) (v : Value) (es : List Event) (flats : List Flat) → Lowers t v es flats → Lowers t v (erased es) flats
  lowers-erased (prim_type p) v es flats s = (s.0, ap erased s.1, s.2)
  lowers-erased string_type v es flats s = (s.0, bare s.1, s.2, s.3, s.4, ap erased s.5, s.6)
  lowers-erased (list_type t) v es flats s =
      (s.0, bare s.1, erased s.2, s.3, s.4, ap erased s.5, each-erased (Stores t) (size t) (λ b w fs p. stores-erased t b w fs p) s.1.at s.0 s.2 s.6, s.7)
  lowers-erased (record_type ts) v es flats s = (s.0, erased s.1, s.2, ap erased s.3, fields-lower-erased ts s.0 s.1 flats s.4)
  lowers-erased (variant_type cs) v es flats s = (s.0, erased s.1, s.2, ap erased s.3, case-lower-erased cs s.0 s.0 v s.1 s.2 s.4, s.5)
  lowers-erased (flags_type n) v es flats s = (s.0, s.1, s.2, ap erased s.3, s.4)

  fields-lower-erased : (ts : Fields) (vs : List Value) (es : List Event) (flats : List Flat) → FieldsLower ts vs es flats → FieldsLower ts vs (erased es) flats
  fields-lower-erased no_field vs es flats s = (s.0, ap erased s.1, s.2)
  fields-lower-erased (field t ts) vs es flats s =
      (s.0, s.1, erased s.2, erased s.3, s.4, s.5, s.6, ap erased s.7 ∙ erased-both s.2 s.3, s.8, lowers-erased t s.0 s.2 s.4 s.9, fields-lower-erased ts s.1 s.3 s.5 s.10)

  case-lower-erased : (cs : Cases) (i n : ℕ) (v : Value) (es : List Event) (flats : List Flat) → CaseLowers cs i n v es flats → CaseLowers cs i n v (erased es) flats
  case-lower-erased no_case i n v es flats s = s
  case-lower-erased (plain_case cs) i zero v es flats s = (s.0, ap erased s.1, s.2)
  case-lower-erased (plain_case cs) i (suc n) v es flats s = case-lower-erased cs i n v es flats s
  case-lower-erased (case_with t cs) i zero v es flats s = (s.0, s.1, lowers-erased t s.0 es flats s.2)
  case-lower-erased (case_with t cs) i (suc n) v es flats s = case-lower-erased cs i n v es flats s

passes-erased : (limit : ℕ) (ts : Fields) (vs : List Value) (es : List Event) (flats : List Flat) → PassesParams limit ts vs es flats → PassesParams limit ts vs (erased es) flats
passes-erased limit ts vs es flats (inl s) = inl (s.0, fields-lower-erased ts vs es flats s.1)
passes-erased limit ts vs es flats (inr (spills, (g, rest, block, is, stores, flat))) = inr (spills, (bare g, erased rest, block, ap erased is, fields-erased ts g.at 0 vs rest stores, flat))

result-erased : (limit : ℕ) (ts : Fields) (area : ℕ) (vs : List Value) (es : List Event) (flats : List Flat) → PassesResult limit ts area vs es flats → PassesResult limit ts area vs (erased es) flats
result-erased limit ts area vs es flats (inl s) = inl (s.0, fields-lower-erased ts vs es flats s.1)
result-erased limit ts area vs es flats (inr (spills, stores, none)) = inr (spills, fields-erased ts area 0 vs es stores, none)

-- ---- which blocks are granted

same-ever : (m : Memory) → SameButBytes m m
same-ever m = record { same_length = refl; same_live = λ a. refl; same_state = refl }

-- a write changes bytes alone
same-written : (m m' n : Memory) (a : ℕ) (bs : List ℕ) → (a + length bs ≤ length m.bytes) × (m' ≡ with_bytes m (overwrite m.bytes a bs)) → SameButBytes m n → SameButBytes m' n
same-written m m' n a bs w s = record {
  same_length = ap (λ k. length k.bytes) w.1 ∙ length-overwrite m.bytes a bs w.0 ∙ s.same_length;
  same_live = λ x. ap (λ k. k.live x) w.1 ∙ s.same_live x;
  same_state = ap (λ k. k.state) w.1 ∙ s.same_state;
}

same-turned : (m n : Memory) → SameButBytes m n → SameButBytes n m
same-turned m n s = record { same_length = sym s.same_length; same_live = λ x. sym (s.same_live x); same_state = sym s.same_state }

some-one : (x y : ℕ) → ◌≡◌ {A = Option ℕ} (Some x) (Some y) → x ≡ y
some-one x y e = cc

bare-one : (g h : Grant) → g.align ≡ h.align → g.size ≡ h.size → g.at ≡ h.at → bare g ≡ bare h
bare-one g h p q r = rw (p, q, r) refl

first-align : (x y : Request) (xs ys : List Request) → x ∷ xs ≡ y ∷ ys → x.align ≡ y.align
first-align x y xs ys e = cc

first-size : (x y : Request) (xs ys : List Request) → x ∷ xs ≡ y ∷ ys → x.size ≡ y.size
first-size x y xs ys e = cc

first-rest : (x y : Request) (xs ys : List Request) → x ∷ xs ≡ y ∷ ys → xs ≡ ys
first-rest x y xs ys e = cc

rest-of : (x y : Event) (xs ys : List Event) → x ∷ xs ≡ y ∷ ys → xs ≡ ys
rest-of x y xs ys e = cc

cons-one : (x y : Grant) (xs ys : List Grant) → x ≡ y → xs ≡ ys → x ∷ xs ≡ y ∷ ys
cons-one x y xs ys p q = cc

module _ (allocates : Allocation) (one_way : AllocatesInOneWay allocates) where
  -- a trace that is the same but for what stood in the blocks leads to the same memory
  same-end : (es fs : List Event) (m n n' : Memory) → AreAligned es → erased es ≡ erased fs → TraceLeads allocates m es n → TraceLeads allocates m fs n' → n ≡ n'
  same-end [] [] m n n' al e r q = r ∙ sym q
  same-end [] (node ∷ fs) m n n' al e r q = absurd (cc)
  same-end [] (grant h ∷ fs) m n n' al e r q = absurd (cc)
  same-end [] (write b cs ∷ fs) m n n' al e r q = absurd (cc)
  same-end (node ∷ es) [] m n n' al e r q = absurd (cc)
  same-end (node ∷ es) (node ∷ fs) m n n' al e r q = same-end es fs m n n' al (rest-of _ _ _ _ e) (subst (λ k. TraceLeads allocates k es n) r.1 r.2) (subst (λ k. TraceLeads allocates k fs n') q.1 q.2)
  same-end (node ∷ es) (grant h ∷ fs) m n n' al e r q = absurd (cc)
  same-end (node ∷ es) (write b cs ∷ fs) m n n' al e r q = absurd (cc)
  same-end (grant g ∷ es) [] m n n' al e r q = absurd (cc)
  same-end (grant g ∷ es) (node ∷ fs) m n n' al e r q = absurd (cc)
  same-end (grant g ∷ es) (grant h ∷ fs) m n n' al e r q =
      let block : bare g ≡ bare h = cc in
      let align_is : h.align ≡ g.align = sym (ap (λ (k : Grant). k.align) block) in
      let size_is : h.size ≡ g.size = sym (ap (λ (k : Grant). k.size) block) in
      let granted : allocates m g.align g.size (Some h.at) q.0 = subst (λ a. allocates m a g.size (Some h.at) q.0) align_is (subst (λ b. allocates m h.align b (Some h.at) q.0) size_is q.1.0) in
      let both = one_way m g.align g.size (Some g.at) (Some h.at) r.0 q.0 al.0 r.1.0 granted in
      same-end es fs q.0 n n' al.1 (rest-of _ _ _ _ e) (subst (λ k. TraceLeads allocates k es n) both.1 r.2) q.2
  same-end (grant g ∷ es) (write b cs ∷ fs) m n n' al e r q = absurd (cc)
  same-end (write a bs ∷ es) [] m n n' al e r q = absurd (cc)
  same-end (write a bs ∷ es) (node ∷ fs) m n n' al e r q = absurd (cc)
  same-end (write a bs ∷ es) (grant h ∷ fs) m n n' al e r q = absurd (cc)
  same-end (write a bs ∷ es) (write b cs ∷ fs) m n n' al e r q =
      let at_is : b ≡ a = cc in
      let part_is : cs ≡ bs = cc in
      let written : q.0 ≡ with_bytes m (overwrite m.bytes a bs) = q.1.1 ∙ ap (λ x. with_bytes m (overwrite m.bytes x cs)) at_is ∙ ap (λ x. with_bytes m (overwrite m.bytes a x)) part_is in
      same-end es fs (with_bytes m (overwrite m.bytes a bs)) n n' al (rest-of _ _ _ _ e) (subst (λ k. TraceLeads allocates k es n) r.1.1 r.2) (subst (λ k. TraceLeads allocates k fs n') written q.2)

module _ (allocates : Allocation) (one_way : AllocatesInOneWay allocates) (ignores : IgnoresBytes allocates) where
  -- equal requests of memories that are the same but for their bytes are granted equal blocks
  same-grants : (es fs : List Event) (m m' n n' : Memory) → AreAligned es → SameButBytes m n → TraceLeads allocates m es m' → TraceLeads allocates n fs n' → requests_of es ≡ requests_of fs → map bare (grants_of es) ≡ map bare (grants_of fs)
  same-grants [] fs m m' n n' al s r q e = none fs e
    where
      none : (fs : List Event) → ◌≡◌ {A = List Request} [] (requests_of fs) → ◌≡◌ {A = List Grant} [] (map bare (grants_of fs))
      none [] e = refl
      none (node ∷ fs) e = none fs e
      none (write a bs ∷ fs) e = none fs e
      none (grant g ∷ fs) e = absurd (cc)
  same-grants (node ∷ es) fs m m' n n' al s r q e = same-grants es fs r.0 m' n n' al (subst (λ k. SameButBytes k n) (sym r.1) s) r.2 q e
  same-grants (write a bs ∷ es) fs m m' n n' al s r q e = same-grants es fs r.0 m' n n' al (same-written m r.0 n a bs r.1 s) r.2 q e
  same-grants (grant g ∷ es) fs m m' n n' al s r q e = next (λ gs k t p u. same-grants es gs r.0 m' k n' al.1 t r.2 p u) fs n s q e
    where
      next : ((gs : List Event) (k : Memory) → SameButBytes r.0 k → TraceLeads allocates k gs n' → requests_of es ≡ requests_of gs → map bare (grants_of es) ≡ map bare (grants_of gs))
          → (fs : List Event) (n : Memory) → SameButBytes m n → TraceLeads allocates n fs n' → requests_of (grant g ∷ es) ≡ requests_of fs → map bare (grants_of (grant g ∷ es)) ≡ map bare (grants_of fs)
      next rest [] n s q e = absurd (cc)
      next rest (node ∷ fs) n s q e = next rest fs q.0 (subst (λ k. SameButBytes m k) (sym q.1) s) q.2 e
      next rest (write a bs ∷ fs) n s q e = next rest fs q.0 (same-turned q.0 m (same-written n q.0 m a bs q.1 (same-turned m n s))) q.2 e
      next rest (grant h ∷ fs) n s q e =
          let align_is : h.align ≡ g.align = sym (first-align _ _ _ _ e) in
          let size_is : h.size ≡ g.size = sym (first-size _ _ _ _ e) in
          let granted : allocates n g.align g.size (Some h.at) q.0 = subst (λ a. allocates n a g.size (Some h.at) q.0) align_is (subst (λ b. allocates n h.align b (Some h.at) q.0) size_is q.1.0) in
          let both = ignores m n g.align g.size (Some g.at) (Some h.at) r.0 q.0 al.0 s r.1.0 granted in
          let here : bare g ≡ bare h = bare-one g h (sym align_is) (sym size_is) (some-one g.at h.at both.0) in
          let there = rest fs q.0 both.1 q.2 (first-rest _ _ _ _ e) in
          cons-one (bare g) (bare h) _ _ here there

  -- so parameters that are put into one memory give one trace's end and the same core values
  pub same-entry : (limit : ℕ) (ts : Fields) (vs : List Value) (es fs : List Event) (flats others : List Flat) (m n n' : Memory) → AreAligned es
      → PassesParams limit ts vs es flats → PassesParams limit ts vs fs others → TraceLeads allocates m es n → TraceLeads allocates m fs n' → (n ≡ n') × (flats ≡ others)
  same-entry limit ts vs es fs flats others m n n' al p o r q =
      let asked : requests_of es ≡ requests_of fs = asks-requests.params limit ts vs es flats p ∙ sym (asks-requests.params limit ts vs fs others o) in
      let blocks = same-grants es fs m n m n' al (same-ever m) r q asked in
      let same = same-passing.params limit ts vs (erased es) (erased fs) flats others (passes-erased limit ts vs es flats p) (passes-erased limit ts vs fs others o) (erased-grants es ∙ blocks ∙ sym (erased-grants fs)) in
      (same-end allocates one_way es fs m n n' al same.0 r q, same.1)

  pub same-return : (limit : ℕ) (ts : Fields) (area : ℕ) (vs : List Value) (es fs : List Event) (flats others : List Flat) (m n n' : Memory) → AreAligned es
      → PassesResult limit ts area vs es flats → PassesResult limit ts area vs fs others → TraceLeads allocates m es n → TraceLeads allocates m fs n' → (n ≡ n') × (flats ≡ others)
  same-return limit ts area vs es fs flats others m n n' al p o r q =
      let asked : requests_of es ≡ requests_of fs = asks-requests.result limit ts area vs es flats p ∙ sym (asks-requests.result limit ts area vs fs others o) in
      let blocks = same-grants es fs m n m n' al (same-ever m) r q asked in
      let same = same-passing.result limit ts area vs (erased es) (erased fs) flats others (result-erased limit ts area vs es flats p) (result-erased limit ts area vs fs others o) (erased-grants es ∙ blocks ∙ sym (erased-grants fs)) in
      (same-end allocates one_way es fs m n n' al same.0 r q, same.1)

-- ---- the same where the allocator keeps notes in bytes that are not live

live-turned : (m n : Memory) → SameButLive m n → SameButLive n m
live-turned m n s = record {
  same_length = sym s.same_length;
  same_live = λ x. sym (s.same_live x);
  same_state = sym s.same_state;
  same_notes = λ x free. sym (s.same_notes x (s.same_live x ∙ free));
}

-- a write to live addresses changes no notes
live-written : (m n : Memory) (a : ℕ) (bs : List ℕ) → a + length bs ≤ length m.bytes → ((x : ℕ) → IsWithin x a (length bs) → m.live x ≡ true) → SameButLive m n → SameButLive (with_bytes m (overwrite m.bytes a bs)) n
live-written m n a bs fits live s = record {
  same_length = length-overwrite m.bytes a bs fits ∙ s.same_length;
  same_live = s.same_live;
  same_state = s.same_state;
  same_notes = λ x free. overwrite-get m.bytes bs a x fits ∙ beside x (elim (within_or_not x a (length bs)) [ inl w ↦ absurd (not-both (live x w) free) | inr o ↦ o ]) ∙ s.same_notes x free;
}
  where
    beside : (x : ℕ) → IsOutside x a (length bs) → byte_over a bs x (slice_get m.bytes x) ≡ slice_get m.bytes x
    beside x (inl l) = byte_over-before a bs x (slice_get m.bytes x) l
    beside x (inr r) = byte_over-after a bs x (slice_get m.bytes x) (omega arith) r

module _ (allocates : Allocation) (releases : Release) (tame : IsTame allocates releases) (one_way : AllocatesInOneWay allocates) (ignores : IgnoresLive allocates) where
  -- this many events of a memory are still to come, in places that are live, of blocks with alignments that a guest may be asked for
  pub record Coming (P : ℕ → Type 0) (es : List Event) (m m' : Memory) : Type 0 where
    pub aligned : AreAligned es
    pub confined : Confined P es
    pub live : (x : ℕ) → P x → m.live x ≡ true
    pub leads : TraceLeads allocates m es m'

  after-node : (P : ℕ → Type 0) (es : List Event) (m m' : Memory) → Coming P (node ∷ es) m m' → Coming P es m m'
  after-node P es m m' c = record { aligned = c.aligned; confined = c.confined; live = c.live; leads = subst (λ k. TraceLeads allocates k es m') c.leads.1 c.leads.2 }

  after-write : (P : ℕ → Type 0) (a : ℕ) (bs : List ℕ) (es : List Event) (m m' : Memory) → Coming P (write a bs ∷ es) m m' → Coming P es (with_bytes m (overwrite m.bytes a bs)) m'
  after-write P a bs es m m' c = record { aligned = c.aligned; confined = c.confined.1; live = c.live; leads = subst (λ k. TraceLeads allocates k es m') c.leads.1.1 c.leads.2 }

  wrote : (P : ℕ → Type 0) (a : ℕ) (bs : List ℕ) (es : List Event) (m m' n : Memory) → Coming P (write a bs ∷ es) m m' → SameButLive m n → SameButLive (with_bytes m (overwrite m.bytes a bs)) n
  wrote P a bs es m m' n c s = live-written m n a bs c.leads.1.0 (λ x w. c.live x (c.confined.0 x w)) s

  after-grant : (P : ℕ → Type 0) (g : Grant) (es : List Event) (m m' : Memory) (c : Coming P (grant g ∷ es) m m') → Coming (λ x. P x ⊎ IsWithin x g.at g.size) es c.leads.0 m'
  after-grant P g es m m' c =
      let t = tame.granted m g.align g.size g.at c.leads.0 c.aligned.0 c.leads.1.0 in
      record {
        aligned = c.aligned.1;
        confined = c.confined;
        live = λ x i. elim i [ inl p ↦ t.leaves.live x (c.live x p) | inr w ↦ t.is_live x w ];
        leads = c.leads.2;
      }

  -- equal requests of memories that are the same but for their live bytes are granted equal blocks
  same-grants-live : (P Q : ℕ → Type 0) (es fs : List Event) (m m' n n' : Memory) → Coming P es m m' → Coming Q fs n n' → SameButLive m n → requests_of es ≡ requests_of fs → map bare (grants_of es) ≡ map bare (grants_of fs)
  same-grants-live P Q [] fs m m' n n' c d s e = none fs e
    where
      none : (fs : List Event) → ◌≡◌ {A = List Request} [] (requests_of fs) → ◌≡◌ {A = List Grant} [] (map bare (grants_of fs))
      none [] e = refl
      none (node ∷ fs) e = none fs e
      none (write a bs ∷ fs) e = none fs e
      none (grant g ∷ fs) e = absurd (cc)
  same-grants-live P Q (node ∷ es) fs m m' n n' c d s e = same-grants-live P Q es fs m m' n n' (after-node P es m m' c) d s e
  same-grants-live P Q (write a bs ∷ es) fs m m' n n' c d s e =
      same-grants-live P Q es fs (with_bytes m (overwrite m.bytes a bs)) m' n n' (after-write P a bs es m m' c) d (wrote P a bs es m m' n c s) e
  same-grants-live P Q (grant g ∷ es) fs m m' n n' c d s e =
      next (λ R gs k x t p. same-grants-live (λ y. P y ⊎ IsWithin y g.at g.size) R es gs c.leads.0 m' k n' (after-grant P g es m m' c) x t p) Q fs n d s e
    where
      next : ((R : ℕ → Type 0) (gs : List Event) (k : Memory) → Coming R gs k n' → SameButLive c.leads.0 k → requests_of es ≡ requests_of gs → map bare (grants_of es) ≡ map bare (grants_of gs))
          → (Q : ℕ → Type 0) (fs : List Event) (n : Memory) → Coming Q fs n n' → SameButLive m n → requests_of (grant g ∷ es) ≡ requests_of fs → map bare (grants_of (grant g ∷ es)) ≡ map bare (grants_of fs)
      next rest Q [] n d s e = absurd (cc)
      next rest Q (node ∷ fs) n d s e = next rest Q fs n (after-node Q fs n n' d) s e
      next rest Q (write a bs ∷ fs) n d s e =
          let over = with_bytes n (overwrite n.bytes a bs) in
          next rest Q fs over (after-write Q a bs fs n n' d) (live-turned over m (wrote Q a bs fs n n' m d (live-turned m n s))) e
      next rest Q (grant h ∷ fs) n d s e =
          let align_is : h.align ≡ g.align = sym (first-align _ _ _ _ e) in
          let size_is : h.size ≡ g.size = sym (first-size _ _ _ _ e) in
          let q = d.leads in
          let granted : allocates n g.align g.size (Some h.at) q.0 = subst (λ a. allocates n a g.size (Some h.at) q.0) align_is (subst (λ b. allocates n h.align b (Some h.at) q.0) size_is q.1.0) in
          let both = ignores m n g.align g.size (Some g.at) (Some h.at) c.leads.0 q.0 c.aligned.0 s c.leads.1.0 granted in
          let here : bare g ≡ bare h = bare-one g h (sym align_is) (sym size_is) (some-one g.at h.at both.0) in
          let there = rest (λ y. Q y ⊎ IsWithin y h.at h.size) fs q.0 (after-grant Q h fs n n' d) both.1 (first-rest _ _ _ _ e) in
          cons-one (bare g) (bare h) _ _ here there

  notes-same : (m : Memory) → SameButLive m m
  notes-same m = record { same_length = refl; same_live = λ a. refl; same_state = refl; same_notes = λ a free. refl }

  pub same-entry-live : (limit : ℕ) (ts : Fields) (vs : List Value) (es fs : List Event) (flats others : List Flat) (m n n' : Memory) (P Q : ℕ → Type 0) → Coming P es m n → Coming Q fs m n'
      → PassesParams limit ts vs es flats → PassesParams limit ts vs fs others → (n ≡ n') × (flats ≡ others)
  same-entry-live limit ts vs es fs flats others m n n' P Q c d p o =
      let asked : requests_of es ≡ requests_of fs = asks-requests.params limit ts vs es flats p ∙ sym (asks-requests.params limit ts vs fs others o) in
      let blocks = same-grants-live P Q es fs m n m n' c d (notes-same m) asked in
      let same = same-passing.params limit ts vs (erased es) (erased fs) flats others (passes-erased limit ts vs es flats p) (passes-erased limit ts vs fs others o) (erased-grants es ∙ blocks ∙ sym (erased-grants fs)) in
      (same-end allocates one_way es fs m n n' c.aligned same.0 c.leads d.leads, same.1)

  pub same-return-live : (limit : ℕ) (ts : Fields) (area : ℕ) (vs : List Value) (es fs : List Event) (flats others : List Flat) (m n n' : Memory) (P Q : ℕ → Type 0) → Coming P es m n → Coming Q fs m n'
      → PassesResult limit ts area vs es flats → PassesResult limit ts area vs fs others → (n ≡ n') × (flats ≡ others)
  same-return-live limit ts area vs es fs flats others m n n' P Q c d p o =
      let asked : requests_of es ≡ requests_of fs = asks-requests.result limit ts area vs es flats p ∙ sym (asks-requests.result limit ts area vs fs others o) in
      let blocks = same-grants-live P Q es fs m n m n' c d (notes-same m) asked in
      let same = same-passing.result limit ts area vs (erased es) (erased fs) flats others (result-erased limit ts area vs es flats p) (result-erased limit ts area vs fs others o) (erased-grants es ∙ blocks ∙ sym (erased-grants fs)) in
      (same-end allocates one_way es fs m n n' c.aligned same.0 c.leads d.leads, same.1)
