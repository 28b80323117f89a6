-- Two traces of one memory that put the same values do the same, as long as the same is granted.
use Rattle.std.proofs.Common.{◌≡◌, ◌⊎◌, inl, inr, ℕ, zero, suc, ◌+◌, ◌*◌, ◌%◌, ◌<◌, ◌≤◌, List, [], ◌∷◌, ◌++◌, length, Option, Some, None, refl, sym, ap, ◌∙◌, subst, arith}
use Rattle.std.specs.Int.{to_le_bytes}
use Rattle.canonical_abi.specs.Types.{ClosedType, prim_type, string_type, list_type, record_type, variant_type, flags_type, Fields, no_field, field, Cases, no_case, plain_case, case_with, case_count}
use Rattle.canonical_abi.specs.Values.{Value}
use Rattle.canonical_abi.specs.Layout.{size, discriminant_size, payload_place, payload_kinds}
use Rattle.canonical_abi.specs.Reading.{byte_width}
use Rattle.canonical_abi.specs.Guest.{Memory, Allocation, IsAlignment, overwrite, with_bytes}
use Rattle.canonical_abi.specs.Trace.{Grant, Event, node, grant, write, EventLeads, TraceLeads, RequestFails}
use Rattle.canonical_abi.specs.Stands.{AreAligned}
use Rattle.canonical_abi.specs.Storing.{pointer_pair, EachStores, Stores, FieldsStore, CaseStores}
use Rattle.canonical_abi.specs.Lowering.{joined_flats, Lowers, FieldsLower, CaseLowers, PassesParams}
use Rattle.canonical_abi.specs.Told.{AllocatesInOneWay}
use Rattle.canonical_abi.specs.declared.flat.Flat.{Flat}
use Rattle.canonical_abi.specs.declared.flat.Flat.TheVariants.{I32}
use Rattle.canonical_abi.specs.declared.trap.TrapKind.{TrapKind}
use Rattle.canonical_abi.specs.declared.trap.TrapKind.TheVariants as trap
use Rattle.canonical_abi.proofs.StoredValues.AsksRequests.{case-tag, case-lower-tag}
use Rattle.canonical_abi.proofs.Traces.WhatTracesKeep.{not-both}
use Rattle.canonical_abi.proofs.StoredValues.SameSteps.{values-inj}

-- the traces ask for the same blocks and write the same until one is granted elsewhere; where both come to their ends so, P holds
abbrev pub AreAlike : Type 0 → List Event → List Event → Type 0
AreAlike P [] fs = (fs ≡ []) × P
AreAlike P (node ∷ es) fs = (rest : List Event) × (fs ≡ node ∷ rest) × AreAlike P es rest
AreAlike P (write a bs ∷ es) fs = (rest : List Event) × (fs ≡ write a bs ∷ rest) × AreAlike P es rest
AreAlike P (grant g ∷ es) fs =
    (h : Grant) × (rest : List Event) × (fs ≡ grant h ∷ rest) × (g.align ≡ h.align) × (g.size ≡ h.size) × (g.at ≡ h.at → AreAlike P es rest)

moved : (P : Type 0) (es es' fs fs' : List Event) → es ≡ es' → fs ≡ fs' → AreAlike P es' fs' → AreAlike P es fs
moved P es es' fs fs' e f a = subst (λ l. AreAlike P l fs) (sym e) (subst (λ l. AreAlike P es' l) (sym f) a)

alike-then : (P Q : Type 0) (es fs es' fs' : List Event) → AreAlike P es fs → (P → AreAlike Q es' fs') → AreAlike Q (es ++ es') (fs ++ fs')
alike-then P Q [] fs es' fs' a k = subst (λ l. AreAlike Q es' (l ++ fs')) (sym a.0) (k a.1)
alike-then P Q (node ∷ es) fs es' fs' a k = (a.0 ++ fs', ap (λ l. l ++ fs') a.1, alike-then P Q es a.0 es' fs' a.2 k)
alike-then P Q (write b bs ∷ es) fs es' fs' a k = (a.0 ++ fs', ap (λ l. l ++ fs') a.1, alike-then P Q es a.0 es' fs' a.2 k)
alike-then P Q (grant g ∷ es) fs es' fs' a k = (a.0, a.1 ++ fs', ap (λ l. l ++ fs') a.2, a.3, a.4, λ at. alike-then P Q es a.1 es' fs' (a.5 at) k)

alike-so : (P Q : Type 0) (es fs : List Event) → (P → Q) → AreAlike P es fs → AreAlike Q es fs
alike-so P Q [] fs h a = (a.0, h a.1)
alike-so P Q (node ∷ es) fs h a = (a.0, a.1, alike-so P Q es a.0 h a.2)
alike-so P Q (write b bs ∷ es) fs h a = (a.0, a.1, alike-so P Q es a.0 h a.2)
alike-so P Q (grant g ∷ es) fs h a = (a.0, a.1, a.2, a.3, a.4, λ at. alike-so P Q es a.1 h (a.5 at))

-- ---- the traces of the same values

each-alike : (P : ℕ → Value → List Event → Type 0) (step : ℕ) → ((a : ℕ) (v : Value) (es fs : List Event) → P a v es → P a v fs → AreAlike (Unit {0}) es fs) → (a : ℕ) (vs : List Value) (es fs : List Event)
    → EachStores P step a vs es → EachStores P step a vs fs → AreAlike (Unit {0}) es fs
each-alike P step h a [] es fs s r = moved (Unit {0}) es [] fs [] s r (refl, tt)
each-alike P step h a (v ∷ vs) es fs s r =
    moved (Unit {0}) es (s.0 ++ s.1) fs (r.0 ++ r.1) s.2 r.2 (alike-then (Unit {0}) (Unit {0}) s.0 r.0 s.1 r.1 (h a v s.0 r.0 s.3 r.3) (λ _. each-alike P step h (a + step) vs s.1 r.1 s.4 r.4))

mutual
  stores-alike : (t : ClosedType) (a : ℕ) (v : Value) (es fs : List Event) → Stores t a v es → Stores t a v fs → AreAlike (Unit {0}) es fs
  stores-alike (prim_type p) a v es fs s r = moved (Unit {0}) es _ fs _ s.1 r.1 (_, refl, (_, refl, (refl, tt)))
  stores-alike string_type a v es fs s r =
      let text : r.0 ≡ s.0 = let p = s.2 in let q = r.2 in cc in
      moved (Unit {0}) es (node ∷ grant s.1 ∷ write s.1.at s.0 ∷ write a (pointer_pair s.1.at (length s.0)) ∷ []) fs (node ∷ grant r.1 ∷ write r.1.at s.0 ∷ write a (pointer_pair r.1.at (length s.0)) ∷ [])
      s.5 (r.5 ∙ ap (λ x. node ∷ grant r.1 ∷ write r.1.at x ∷ write a (pointer_pair r.1.at (length x)) ∷ []) text) (
        _,
        refl,
        (
          r.1,
          _,
          refl,
          s.4.0 ∙ sym r.4.0,
          s.4.1 ∙ ap length (sym text) ∙ sym r.4.1,
          λ at.
              (_, ap (λ x. write x s.0 ∷ write a (pointer_pair r.1.at (length s.0)) ∷ []) (sym at), (_, ap (λ x. write a (pointer_pair x (length s.0)) ∷ []) (sym at), (refl, tt))),
        ),
      )
  stores-alike (list_type t) a v es fs s r =
      let members : r.0 ≡ s.0 = values-inj r.0 s.0 (let p = s.3 in let q = r.3 in cc) in
      moved (Unit {0}) es (node ∷ grant s.1 ∷ write a (pointer_pair s.1.at (length s.0)) ∷ s.2) fs (node ∷ grant r.1 ∷ write a (pointer_pair r.1.at (length s.0)) ∷ r.2)
      s.5 (r.5 ∙ ap (λ vs. node ∷ grant r.1 ∷ write a (pointer_pair r.1.at (length vs)) ∷ r.2) members) (
        _,
        refl,
        (
          r.1,
          _,
          refl,
          s.4.0 ∙ sym r.4.0,
          s.4.1 ∙ ap (λ vs. length vs * size t) (sym members) ∙ sym r.4.1,
          λ at. (
            r.2,
            ap (λ x. write a (pointer_pair x (length s.0)) ∷ r.2) (sym at),
            each-alike (Stores t) (size t) (λ b w gs hs p q. stores-alike t b w gs hs p q) s.1.at s.0 s.2 r.2 s.6
                (subst (λ x. EachStores (Stores t) (size t) x s.0 r.2) (sym at) (subst (λ vs. EachStores (Stores t) (size t) r.1.at vs r.2) members r.6)),
          ),
        ),
      )
  stores-alike (record_type gs) a v es fs s r =
      let members : r.0 ≡ s.0 = values-inj r.0 s.0 (let p = s.2 in let q = r.2 in cc) in
      moved (Unit {0}) es (node ∷ s.1) fs (node ∷ r.1) s.3 r.3 (_, refl, fields-alike gs a 0 s.0 s.1 r.1 s.4 (subst (λ vs. FieldsStore gs a 0 vs r.1) members r.4))
  stores-alike (variant_type cs) a v es fs s r =
      let number : r.0 ≡ s.0 = sym (case-tag cs (a + payload_place cs) r.0 r.0 v r.1 r.3) ∙ case-tag cs (a + payload_place cs) s.0 s.0 v s.1 s.3 in
      let tagged : ℕ → List Event → List Event = λ i rest. node ∷ write a (to_le_bytes (byte_width (discriminant_size (case_count cs))) i) ∷ rest in
      moved (Unit {0}) es (tagged s.0 s.1) fs (tagged s.0 r.1) s.2 (r.2 ∙ ap (λ i. tagged i r.1) number)
      (_, refl, (_, refl, case-alike cs (a + payload_place cs) s.0 s.0 v s.1 r.1 s.3 (subst (λ i. CaseStores cs (a + payload_place cs) i i v r.1) number r.3)))
  stores-alike (flags_type n) a v es fs s r =
      let labels : r.0 ≡ s.0 = let p = s.1 in let q = r.1 in cc in
      moved (Unit {0}) es _ fs _ s.3 (r.3 ∙ ap (λ k. node ∷ write a (to_le_bytes _ k) ∷ []) labels) (_, refl, (_, refl, (refl, tt)))

  fields-alike : (gs : Fields) (a from : ℕ) (vs : List Value) (es fs : List Event) → FieldsStore gs a from vs es → FieldsStore gs a from vs fs → AreAlike (Unit {0}) es fs
  fields-alike no_field a from vs es fs s r = moved (Unit {0}) es [] fs [] s.1 r.1 (refl, tt)
  fields-alike (field t gs) a from vs es fs s r =
      let head : r.0 ≡ s.0 = let p = s.4 in let q = r.4 in cc in
      let tail : r.1 ≡ s.1 = let p = s.4 in let q = r.4 in cc in
      moved (Unit {0}) es (s.2 ++ s.3) fs (r.2 ++ r.3) s.5 r.5
      (alike-then (Unit {0}) (Unit {0}) s.2 r.2 s.3 r.3 (stores-alike t _ s.0 s.2 r.2 s.6 (subst (λ w. Stores t _ w r.2) head r.6)) (λ _. fields-alike gs a _ s.1 s.3 r.3 s.7 (subst (λ ws. FieldsStore gs a _ ws r.3) tail r.7)))

  case-alike : (cs : Cases) (a i n : ℕ) (v : Value) (es fs : List Event) → CaseStores cs a i n v es → CaseStores cs a i n v fs → AreAlike (Unit {0}) es fs
  case-alike no_case a i n v es fs s r = elim s [ ]
  case-alike (plain_case cs) a i zero v es fs s r = moved (Unit {0}) es [] fs [] s.1 r.1 (refl, tt)
  case-alike (plain_case cs) a i (suc n) v es fs s r = case-alike cs a i n v es fs s r
  case-alike (case_with t cs) a i zero v es fs s r =
      let payload : r.0 ≡ s.0 = let p = s.1 in let q = r.1 in cc in
      stores-alike t a s.0 es fs s.2 (subst (λ w. Stores t a w fs) payload r.2)
  case-alike (case_with t cs) a i (suc n) v es fs s r = case-alike cs a i n v es fs s r

mutual
  lowers-alike : (t : ClosedType) (v : Value) (es fs : List Event) (flats others : List Flat) → Lowers t v es flats → Lowers t v fs others → AreAlike (flats ≡ others) es fs
  lowers-alike (prim_type p) v es fs flats others s r = moved (flats ≡ others) es _ fs _ s.1 r.1 (_, refl, (refl, s.2 ∙ sym r.2))
  lowers-alike string_type v es fs flats others s r =
      let text : r.0 ≡ s.0 = let p = s.2 in let q = r.2 in cc in
      moved (flats ≡ others) es (node ∷ grant s.1 ∷ write s.1.at s.0 ∷ []) fs (node ∷ grant r.1 ∷ write r.1.at s.0 ∷ [])
      s.5 (r.5 ∙ ap (λ x. node ∷ grant r.1 ∷ write r.1.at x ∷ []) text) (
        _,
        refl,
        (
          r.1,
          _,
          refl,
          s.4.0 ∙ sym r.4.0,
          s.4.1 ∙ ap length (sym text) ∙ sym r.4.1,
          λ at.
              (_, ap (λ x. write x s.0 ∷ []) (sym at), (refl, s.6 ∙ ap (λ x. I32 x ∷ I32 (length s.0) ∷ []) at ∙ ap (λ x. I32 r.1.at ∷ I32 (length x) ∷ []) (sym text) ∙ sym r.6)),
        ),
      )
  lowers-alike (list_type t) v es fs flats others s r =
      let members : r.0 ≡ s.0 = values-inj r.0 s.0 (let p = s.3 in let q = r.3 in cc) in
      moved (flats ≡ others) es (node ∷ grant s.1 ∷ s.2) fs (node ∷ grant r.1 ∷ r.2) s.5 r.5 (
        _,
        refl,
        (
          r.1,
          _,
          refl,
          s.4.0 ∙ sym r.4.0,
          s.4.1 ∙ ap (λ vs. length vs * size t) (sym members) ∙ sym r.4.1,
          λ at.
              alike-so (Unit {0}) (flats ≡ others) s.2 r.2 (λ _. s.7 ∙ ap (λ x. I32 x ∷ I32 (length s.0) ∷ []) at ∙ ap (λ vs. I32 r.1.at ∷ I32 (length vs) ∷ []) (sym members) ∙ sym r.7)
              (each-alike (Stores t) (size t) (λ b w gs hs p q. stores-alike t b w gs hs p q) s.1.at s.0 s.2 r.2 s.6
              (subst (λ x. EachStores (Stores t) (size t) x s.0 r.2) (sym at) (subst (λ vs. EachStores (Stores t) (size t) r.1.at vs r.2) members r.6))),
        ),
      )
  lowers-alike (record_type gs) v es fs flats others s r =
      let members : r.0 ≡ s.0 = values-inj r.0 s.0 (let p = s.2 in let q = r.2 in cc) in
      moved (flats ≡ others) es (node ∷ s.1) fs (node ∷ r.1) s.3 r.3 (_, refl, fields-lower-alike gs s.0 s.1 r.1 flats others s.4 (subst (λ vs. FieldsLower gs vs r.1 others) members r.4))
  lowers-alike (variant_type cs) v es fs flats others s r =
      let number : r.0 ≡ s.0 = sym (case-lower-tag cs r.0 r.0 v r.1 r.2 r.4) ∙ case-lower-tag cs s.0 s.0 v s.1 s.2 s.4 in
      moved (flats ≡ others) es (node ∷ s.1) fs (node ∷ r.1) s.3 r.3 (
        _,
        refl,
        alike-so (s.2 ≡ r.2) (flats ≡ others) s.1 r.1 (λ e. s.5 ∙ ap (λ i. I32 i ∷ joined_flats (payload_kinds cs) s.2) (sym number) ∙ ap (λ gs. I32 r.0 ∷ joined_flats (payload_kinds cs) gs) e ∙ sym r.5)
            (case-lower-alike cs s.0 s.0 v s.1 r.1 s.2 r.2 s.4 (subst (λ i. CaseLowers cs i i v r.1 r.2) number r.4)),
      )
  lowers-alike (flags_type n) v es fs flats others s r =
      let labels : r.0 ≡ s.0 = let p = s.1 in let q = r.1 in cc in
      moved (flats ≡ others) es _ fs _ s.3 r.3 (_, refl, (refl, s.4 ∙ ap (λ k. I32 k ∷ []) (sym labels) ∙ sym r.4))

  fields-lower-alike : (ts : Fields) (vs : List Value) (es fs : List Event) (flats others : List Flat) → FieldsLower ts vs es flats → FieldsLower ts vs fs others → AreAlike (flats ≡ others) es fs
  fields-lower-alike no_field vs es fs flats others s r = moved (flats ≡ others) es [] fs [] s.1 r.1 (refl, s.2 ∙ sym r.2)
  fields-lower-alike (field t ts) vs es fs flats others s r =
      let head : r.0 ≡ s.0 = let p = s.6 in let q = r.6 in cc in
      let tail : r.1 ≡ s.1 = let p = s.6 in let q = r.6 in cc in
      moved (flats ≡ others) es (s.2 ++ s.3) fs (r.2 ++ r.3) s.7 r.7
      (alike-then (s.4 ≡ r.4) (flats ≡ others) s.2 r.2 s.3 r.3 (lowers-alike t s.0 s.2 r.2 s.4 r.4 s.9 (subst (λ w. Lowers t w r.2 r.4) head r.9))
      (λ p. alike-so (s.5 ≡ r.5) (flats ≡ others) s.3 r.3 (λ q. s.8 ∙ ap (λ l. l ++ s.5) p ∙ ap (λ l. r.4 ++ l) q ∙ sym r.8)
      (fields-lower-alike ts s.1 s.3 r.3 s.5 r.5 s.10 (subst (λ ws. FieldsLower ts ws r.3 r.5) tail r.10))))

  case-lower-alike : (cs : Cases) (i n : ℕ) (v : Value) (es fs : List Event) (flats others : List Flat) → CaseLowers cs i n v es flats → CaseLowers cs i n v fs others → AreAlike (flats ≡ others) es fs
  case-lower-alike no_case i n v es fs flats others s r = elim s [ ]
  case-lower-alike (plain_case cs) i zero v es fs flats others s r = moved (flats ≡ others) es [] fs [] s.1 r.1 (refl, s.2 ∙ sym r.2)
  case-lower-alike (plain_case cs) i (suc n) v es fs flats others s r = case-lower-alike cs i n v es fs flats others s r
  case-lower-alike (case_with t cs) i zero v es fs flats others s r =
      let payload : r.0 ≡ s.0 = let p = s.1 in let q = r.1 in cc in
      lowers-alike t s.0 es fs flats others s.2 (subst (λ w. Lowers t w fs others) payload r.2)
  case-lower-alike (case_with t cs) i (suc n) v es fs flats others s r = case-lower-alike cs i n v es fs flats others s r

pub alike-params : (limit : ℕ) (ts : Fields) (vs : List Value) (es fs : List Event) (flats others : List Flat) → PassesParams limit ts vs es flats → PassesParams limit ts vs fs others → AreAlike (flats ≡ others) es fs
alike-params limit ts vs es fs flats others (inl s) (inl r) = fields-lower-alike ts vs es fs flats others s.1 r.1
alike-params limit ts vs es fs flats others (inl s) (inr r) = absurd (not-both s.0 r.0)
alike-params limit ts vs es fs flats others (inr s) (inl r) = absurd (not-both r.0 s.0)
alike-params limit ts vs es fs flats others (inr (spills, s)) (inr (spilt, r)) =
    moved (flats ≡ others) es (grant s.0 ∷ s.1) fs (grant r.0 ∷ r.1) s.3 r.3 (
      r.0,
      r.1,
      refl,
      s.2.0 ∙ sym r.2.0,
      s.2.1 ∙ sym r.2.1,
      λ at.
          alike-so (Unit {0}) (flats ≡ others) s.1 r.1 (λ _. s.5 ∙ ap (λ x. I32 x ∷ []) at ∙ sym r.5)
          (fields-alike ts s.0.at 0 vs s.1 r.1 s.4 (subst (λ x. FieldsStore ts x 0 vs r.1) (sym at) r.4)),
    )

-- ---- what an allocator in one way makes of them

module _ (allocates : Allocation) where
  -- the events happened up to a request that failed
  abbrev Broken : Memory → List Event → Memory → Type 0
  Broken m [] n = ⊥
  Broken m (node ∷ es) n = (between : Memory) × EventLeads allocates m node between × Broken between es n
  Broken m (write a bs ∷ es) n = (between : Memory) × EventLeads allocates m (write a bs) between × Broken between es n
  Broken m (grant g ∷ es) n =
      ((k : TrapKind) × RequestFails allocates m g.align g.size k n) ⊎ ((between : Memory) × EventLeads allocates m (grant g) between × Broken between es n)

  broken-of : (done rest : List Event) (next : Grant) (m asked n : Memory) (k : TrapKind) → TraceLeads allocates m done asked → RequestFails allocates asked next.align next.size k n → Broken m (done ++ grant next ∷ rest) n
  broken-of [] rest next m asked n k l f = inl (k, subst (λ x. RequestFails allocates x next.align next.size k n) l f)
  broken-of (node ∷ es) rest next m asked n k l f = (l.0, l.1, broken-of es rest next l.0 asked n k l.2 f)
  broken-of (write a bs ∷ es) rest next m asked n k l f = (l.0, l.1, broken-of es rest next l.0 asked n k l.2 f)
  broken-of (grant g ∷ es) rest next m asked n k l f = inr (l.0, l.1, broken-of es rest next l.0 asked n k l.2 f)

  -- an allocator's answer to a request that failed
  answer-of : (m n : Memory) (align size : ℕ) (k : TrapKind) → RequestFails allocates m align size k n → (a : Option ℕ) × allocates m align size a n
  answer-of m n align size trap.Full f = (None, f)
  answer-of m n align size trap.Align f = (Some f.0, f.1)
  answer-of m n align size trap.Bounds f = (Some f.0, f.1)
  answer-of m n align size trap.Char f = absurd f
  answer-of m n align size trap.Case f = absurd f
  answer-of m n align size trap.Utf8 f = absurd f
  answer-of m n align size trap.Body f = absurd f
  answer-of m n align size trap.CoreSignature f = absurd f

  module _ (one_way : AllocatesInOneWay allocates) where
    same-at : (m n n' : Memory) (g h : Grant) (a : Option ℕ) → g.align ≡ h.align → g.size ≡ h.size → IsAlignment g.align → allocates m g.align g.size a n → allocates m h.align h.size (Some h.at) n' → (a ≡ Some h.at) × (n ≡ n')
    same-at m n n' g h a p s al x y =
        one_way m g.align g.size a (Some h.at) n n' al x (subst (λ b. allocates m b g.size (Some h.at) n') (sym p) (subst (λ b. allocates m h.align b (Some h.at) n') (sym s) y))

    some-at : (x y : ℕ) → ◌≡◌ {A = Option ℕ} (Some x) (Some y) → x ≡ y
    some-at x y e = cc

    -- what fails isn't granted
    not-granted : (m n n' : Memory) (g h : Grant) (k : TrapKind) → g.align ≡ h.align → g.size ≡ h.size → IsAlignment g.align → RequestFails allocates m g.align g.size k n → EventLeads allocates m (grant h) n' → ⊥
    not-granted m n n' g h trap.Full p s al f l = let e = (same-at m n n' g h None p s al f l.0).0 in absurd (cc)
    not-granted m n n' g h trap.Align p s al f l =
        let both = same-at m n n' g h (Some f.0) p s al f.1 l.0 in
        f.2 (ap (λ x. x % g.align) (some-at f.0 h.at both.0) ∙ ap (λ x. h.at % x) p ∙ l.1.aligned)
    not-granted m n n' g h trap.Bounds p s al f l =
        let both = same-at m n n' g h (Some f.0) p s al f.1 l.0 in
        let at : f.0 ≡ h.at = some-at f.0 h.at both.0 in
        let inside : h.at + h.size ≤ length n'.bytes = l.1.inside in
        let here : f.0 + g.size ≤ length n.bytes = subst (λ x. f.0 + g.size ≤ length x.bytes) (sym both.1) (subst (λ x. x + g.size ≤ length n'.bytes) (sym at) (subst (λ x. h.at + x ≤ length n'.bytes) (sym s) inside)) in
        let past : length n.bytes < f.0 + g.size = f.3 in
        omega arith
    not-granted m n n' g h trap.Char p s al f l = absurd f
    not-granted m n n' g h trap.Case p s al f l = absurd f
    not-granted m n n' g h trap.Utf8 p s al f l = absurd f
    not-granted m n n' g h trap.Body p s al f l = absurd f
    not-granted m n n' g h trap.CoreSignature p s al f l = absurd f

    pub alike-end : (P : Type 0) (es fs : List Event) (m n n' : Memory) → AreAligned es → AreAlike P es fs → TraceLeads allocates m es n → TraceLeads allocates m fs n' → (n ≡ n') × P
    alike-end P [] fs m n n' al (is, p) r q = (r ∙ sym (subst (λ l. TraceLeads allocates m l n') is q), p)
    alike-end P (node ∷ es) fs m n n' al (rest, is, a) r q =
        let w : TraceLeads allocates m (node ∷ rest) n' = subst (λ l. TraceLeads allocates m l n') is q in
        alike-end P es rest m n n' al a (subst (λ k. TraceLeads allocates k es n) r.1 r.2) (subst (λ k. TraceLeads allocates k rest n') w.1 w.2)
    alike-end P (write b bs ∷ es) fs m n n' al (rest, is, a) r q =
        let w : TraceLeads allocates m (write b bs ∷ rest) n' = subst (λ l. TraceLeads allocates m l n') is q in
        alike-end P es rest (with_bytes m (overwrite m.bytes b bs)) n n' al a (subst (λ k. TraceLeads allocates k es n) r.1.1 r.2) (subst (λ k. TraceLeads allocates k rest n') w.1.1 w.2)
    alike-end P (grant g ∷ es) fs m n n' al (h, rest, is, p, s, a) r q =
        let w : TraceLeads allocates m (grant h ∷ rest) n' = subst (λ l. TraceLeads allocates m l n') is q in
        let both = same-at m r.0 w.0 g h (Some g.at) p s al.0 r.1.0 w.1.0 in
        alike-end P es rest w.0 n n' al.1 (a (some-at g.at h.at both.0)) (subst (λ k. TraceLeads allocates k es n) both.1 r.2) w.2

    both-broken : (P : Type 0) (es fs : List Event) (m n n' : Memory) → AreAligned es → AreAlike P es fs → Broken m es n → Broken m fs n' → n ≡ n'
    both-broken P [] fs m n n' al a r q = absurd r
    both-broken P (node ∷ es) fs m n n' al (rest, is, a) r q =
        let w : Broken m (node ∷ rest) n' = subst (λ l. Broken m l n') is q in
        both-broken P es rest m n n' al a (subst (λ k. Broken k es n) r.1 r.2) (subst (λ k. Broken k rest n') w.1 w.2)
    both-broken P (write b bs ∷ es) fs m n n' al (rest, is, a) r q =
        let w : Broken m (write b bs ∷ rest) n' = subst (λ l. Broken m l n') is q in
        both-broken P es rest (with_bytes m (overwrite m.bytes b bs)) n n' al a (subst (λ k. Broken k es n) r.1.1 r.2) (subst (λ k. Broken k rest n') w.1.1 w.2)
    both-broken P (grant g ∷ es) fs m n n' al (h, rest, is, p, s, a) r q = by (λ k b t u. both-broken P es rest k n n' al.1 (a b) t u) r (subst (λ l. Broken m l n') is q)
      where
        by : ((k : Memory) → g.at ≡ h.at → Broken k es n → Broken k rest n' → n ≡ n') → Broken m (grant g ∷ es) n → Broken m (grant h ∷ rest) n' → n ≡ n'
        by more (inl (k, f)) (inl (j, e)) =
            let one = answer-of m n g.align g.size k f in
            let two = answer-of m n' h.align h.size j e in
            (one_way m g.align g.size one.0 two.0 n n' al.0 one.1 (subst (λ b. allocates m b g.size two.0 n') (sym p) (subst (λ b. allocates m h.align b two.0 n') (sym s) two.1))).1
        by more (inl (k, f)) (inr w) = absurd (not-granted m n w.0 g h k p s al.0 f w.1)
        by more (inr x) (inl (j, e)) = absurd (not-granted m n' x.0 h g j (sym p) (sym s) (subst IsAlignment p al.0) e x.1)
        by more (inr x) (inr w) =
            let both = same-at m x.0 w.0 g h (Some g.at) p s al.0 x.1.0 w.1.0 in
            more w.0 (some-at g.at h.at both.0) (subst (λ k. Broken k es n) both.1 x.2) w.2

    one-broken : (P : Type 0) (es fs : List Event) (m n n' : Memory) → AreAligned es → AreAlike P es fs → Broken m es n → TraceLeads allocates m fs n' → ⊥
    one-broken P [] fs m n n' al a r q = absurd r
    one-broken P (node ∷ es) fs m n n' al (rest, is, a) r q =
        let w : TraceLeads allocates m (node ∷ rest) n' = subst (λ l. TraceLeads allocates m l n') is q in
        one-broken P es rest m n n' al a (subst (λ k. Broken k es n) r.1 r.2) (subst (λ k. TraceLeads allocates k rest n') w.1 w.2)
    one-broken P (write b bs ∷ es) fs m n n' al (rest, is, a) r q =
        let w : TraceLeads allocates m (write b bs ∷ rest) n' = subst (λ l. TraceLeads allocates m l n') is q in
        one-broken P es rest (with_bytes m (overwrite m.bytes b bs)) n n' al a (subst (λ k. Broken k es n) r.1.1 r.2) (subst (λ k. TraceLeads allocates k rest n') w.1.1 w.2)
    one-broken P (grant g ∷ es) fs m n n' al (h, rest, is, p, s, a) r q = by (λ k b t u. one-broken P es rest k n n' al.1 (a b) t u) r (subst (λ l. TraceLeads allocates m l n') is q)
      where
        by : ((k : Memory) → g.at ≡ h.at → Broken k es n → TraceLeads allocates k rest n' → ⊥) → Broken m (grant g ∷ es) n → TraceLeads allocates m (grant h ∷ rest) n' → ⊥
        by more (inl (k, f)) w = not-granted m n w.0 g h k p s al.0 f w.1
        by more (inr x) w =
            let both = same-at m x.0 w.0 g h (Some g.at) p s al.0 x.1.0 w.1.0 in
            more w.0 (some-at g.at h.at both.0) (subst (λ k. Broken k es n) both.1 x.2) w.2

    pub alike-broken : (P : Type 0) (done rest : List Event) (next : Grant) (finished more : List Event) (other : Grant) (m asked requested n n' : Memory) (k j : TrapKind) → AreAligned (done ++ grant next ∷ rest)
        → AreAlike P (done ++ grant next ∷ rest) (finished ++ grant other ∷ more) → TraceLeads allocates m done asked → RequestFails allocates asked next.align next.size k n
        → TraceLeads allocates m finished requested → RequestFails allocates requested other.align other.size j n' → n ≡ n'
    alike-broken P done rest next finished more other m asked requested n n' k j al a l f q e =
        both-broken P (done ++ grant next ∷ rest) (finished ++ grant other ∷ more) m n n' al a (broken-of done rest next m asked n k l f) (broken-of finished more other m requested n' j q e)

    pub alike-unbroken : (P : Type 0) (done rest : List Event) (next : Grant) (fs : List Event) (m asked n n' : Memory) (k : TrapKind) → AreAligned (done ++ grant next ∷ rest)
        → AreAlike P (done ++ grant next ∷ rest) fs → TraceLeads allocates m done asked → RequestFails allocates asked next.align next.size k n → TraceLeads allocates m fs n' → ⊥
    alike-unbroken P done rest next fs m asked n n' k al a l f q = one-broken P (done ++ grant next ∷ rest) fs m n n' al a (broken-of done rest next m asked n k l f) q
