-- A value and the blocks that were granted tell its flat values and all the events.
use Rattle.std.proofs.Common.{◌≡◌, inl, inr, ℕ, zero, suc, List, [], ◌∷◌, ◌++◌, length, refl, sym, ap, ◌∙◌, subst, append_assoc, append-nil}
use Rattle.canonical_abi.specs.Types.{ClosedType, prim_type, string_type, list_type, record_type, variant_type, flags_type, Fields, no_field, field, Cases, no_case, plain_case, case_with}
use Rattle.canonical_abi.specs.Values.{Value}
use Rattle.canonical_abi.specs.Layout.{size, payload_kinds}
use Rattle.canonical_abi.specs.Trace.{Grant, Event, node, write, grant, grants_of}
use Rattle.canonical_abi.specs.Storing.{EachStores, Stores, FieldsStore}
use Rattle.canonical_abi.specs.Lowering.{joined_flats, Lowers, FieldsLower, CaseLowers, SpilledLower, PassesParams, PassesResult}
use Rattle.canonical_abi.specs.Laws.{SameLowering, SamePassing}
use Rattle.canonical_abi.specs.declared.flat.Flat.{Flat}
use Rattle.canonical_abi.specs.declared.flat.Flat.TheVariants.{I32}
use Rattle.canonical_abi.proofs.StoredValues.SameSteps.{Same, values-inj, told-one, told-each, told-grant, told-node, told-stores, told-fields}
use Rattle.canonical_abi.proofs.StoredValues.AsksRequests.{case-lower-tag}
use Rattle.canonical_abi.proofs.Traces.WhatTracesKeep.{not-both}

-- the events and the flat values are the same, and so are the grants of what follows
abbrev SameBoth : List Event → List Event → List Event → List Event → List Flat → List Flat → Type 0
SameBoth es fs more others flats back = Same es fs more others × (flats ≡ back)

abbrev ToldBoth : (List Event → List Flat → Type 0) → Type 0
ToldBoth P = (es fs more others : List Event) (flats back : List Flat) → P es flats → P fs back → grants_of (es ++ more) ≡ grants_of (fs ++ others) → SameBoth es fs more others flats back

-- the blocks at the heads of two equal traces
same-block : (g h : Grant) (rest more : List Event) → ◌≡◌ {A = List Event} (node ∷ grant g ∷ rest) (node ∷ grant h ∷ more) → h ≡ g
same-block g h rest more e = cc

mutual
  told-lowers : (t : ClosedType) (v : Value) → ToldBoth (Lowers t v)
  told-lowers (prim_type p) v es fs more others flats back s r e = (told-one (node ∷ []) es fs more others s.1 r.1 e, s.2 ∙ sym r.2)
  told-lowers string_type v es fs more others flats back s r e =
      let text : r.0 ≡ s.0 = let p = s.2 in let q = r.2 in cc in
      let same = told-node (λ es. (g : Grant) × (rest : List Event) × (es ≡ grant g ∷ rest) × (rest ≡ write g.at s.0 ∷ []))
      (told-grant (λ g es. es ≡ write g.at s.0 ∷ []) (λ g. told-one (write g.at s.0 ∷ []))) es fs more others
      (_, s.5, (s.1, write s.1.at s.0 ∷ [], refl, refl))
      (_, r.5 ∙ ap (λ x. node ∷ grant r.1 ∷ write r.1.at x ∷ []) text, (r.1, write r.1.at s.0 ∷ [], refl, refl)) e in
      let block : r.1 ≡ s.1 = same-block s.1 r.1 _ _ (sym s.5 ∙ same.0 ∙ r.5) in
      (same, s.6 ∙ ap (λ g. I32 g.at ∷ I32 (length s.0) ∷ []) (sym block) ∙ ap (λ x. I32 r.1.at ∷ I32 (length x) ∷ []) (sym text) ∙ sym r.6)
  told-lowers (list_type t) v es fs more others flats back s r e =
      let members : r.0 ≡ s.0 = values-inj r.0 s.0 (let p = s.3 in let q = r.3 in cc) in
      let same = told-node (λ es. (g : Grant) × (rest : List Event) × (es ≡ grant g ∷ rest) × EachStores (Stores t) (size t) g.at s.0 rest)
      (told-grant (λ g es. EachStores (Stores t) (size t) g.at s.0 es) (λ g. told-each (Stores t) (λ c w. told-stores t c w) (size t) g.at s.0)) es fs more others
      (_, s.5, (s.1, s.2, refl, s.6))
      (_, r.5, (r.1, r.2, refl, subst (λ vs. EachStores (Stores t) (size t) r.1.at vs r.2) members r.6)) e in
      let block : r.1 ≡ s.1 = same-block s.1 r.1 _ _ (sym s.5 ∙ same.0 ∙ r.5) in
      (same, s.7 ∙ ap (λ g. I32 g.at ∷ I32 (length s.0) ∷ []) (sym block) ∙ ap (λ vs. I32 r.1.at ∷ I32 (length vs) ∷ []) (sym members) ∙ sym r.7)
  told-lowers (record_type gs) v es fs more others flats back s r e =
      let members : r.0 ≡ s.0 = values-inj r.0 s.0 (let p = s.2 in let q = r.2 in cc) in
      let e1 : grants_of (s.1 ++ more) ≡ grants_of (r.1 ++ others) = ap (λ l. grants_of (l ++ more)) (sym s.3) ∙ e ∙ ap (λ l. grants_of (l ++ others)) r.3 in
      let h = told-fields-lower gs s.0 s.1 r.1 more others flats back s.4 (subst (λ vs. FieldsLower gs vs r.1 back) members r.4) e1 in
      ((let a = s.3 in let b = r.3 in let c = h.0.0 in cc, h.0.1), h.1)
  told-lowers (variant_type cs) v es fs more others flats back s r e =
      let number : r.0 ≡ s.0 = sym (case-lower-tag cs r.0 r.0 v r.1 r.2 r.4) ∙ case-lower-tag cs s.0 s.0 v s.1 s.2 s.4 in
      let e1 : grants_of (s.1 ++ more) ≡ grants_of (r.1 ++ others) = ap (λ l. grants_of (l ++ more)) (sym s.3) ∙ e ∙ ap (λ l. grants_of (l ++ others)) r.3 in
      let h = told-case-lower cs s.0 s.0 v s.1 r.1 more others s.2 r.2 s.4 (subst (λ i. CaseLowers cs i i v r.1 r.2) number r.4) e1 in (
        (let a = s.3 in let b = r.3 in let c = h.0.0 in cc, h.0.1),
        s.5 ∙ ap (λ i. I32 i ∷ joined_flats (payload_kinds cs) s.2) (sym number) ∙ ap (λ fs. I32 r.0 ∷ joined_flats (payload_kinds cs) fs) h.1 ∙ sym r.5,
      )
  told-lowers (flags_type n) v es fs more others flats back s r e =
      let labels : r.0 ≡ s.0 = let p = s.1 in let q = r.1 in cc in
      (told-one (node ∷ []) es fs more others s.3 r.3 e, s.4 ∙ ap (λ k. I32 k ∷ []) (sym labels) ∙ sym r.4)

  told-fields-lower : (gs : Fields) (vs : List Value) → ToldBoth (FieldsLower gs vs)
  told-fields-lower no_field vs es fs more others flats back s r e = (told-one [] es fs more others s.1 r.1 e, s.2 ∙ sym r.2)
  told-fields-lower (field t gs) vs es fs more others flats back s r e =
      let head : r.0 ≡ s.0 = let p = s.6 in let q = r.6 in cc in
      let tail : r.1 ≡ s.1 = let p = s.6 in let q = r.6 in cc in
      let e1 : grants_of (s.2 ++ (s.3 ++ more)) ≡ grants_of (r.2 ++ (r.3 ++ others)) =
      ap grants_of (sym (append_assoc s.2 s.3 more)) ∙ ap (λ l. grants_of (l ++ more)) (sym s.7) ∙ e ∙ ap (λ l. grants_of (l ++ others)) r.7 ∙ ap grants_of (append_assoc r.2 r.3 others) in
      let first = told-lowers t s.0 s.2 r.2 (s.3 ++ more) (r.3 ++ others) s.4 r.4 s.9 (subst (λ w. Lowers t w r.2 r.4) head r.9) e1 in
      let second = told-fields-lower gs s.1 s.3 r.3 more others s.5 r.5 s.10 (subst (λ ws. FieldsLower gs ws r.3 r.5) tail r.10) first.0.1 in
      ((let a = s.7 in let b = r.7 in let c = first.0.0 in let d = second.0.0 in cc, second.0.1), let a = s.8 in let b = r.8 in let c = first.1 in let d = second.1 in cc)

  told-case-lower : (cs : Cases) (i n : ℕ) (v : Value) → ToldBoth (CaseLowers cs i n v)
  told-case-lower no_case i n v es fs more others flats back s r e = elim s [ ]
  told-case-lower (plain_case cs) i zero v es fs more others flats back s r e = (told-one [] es fs more others s.1 r.1 e, s.2 ∙ sym r.2)
  told-case-lower (plain_case cs) i (suc n) v es fs more others flats back s r e = told-case-lower cs i n v es fs more others flats back s r e
  told-case-lower (case_with t cs) i zero v es fs more others flats back s r e =
      let payload : r.0 ≡ s.0 = let p = s.1 in let q = r.1 in cc in
      told-lowers t s.0 es fs more others flats back s.2 (subst (λ w. Lowers t w fs back) payload r.2) e
  told-case-lower (case_with t cs) i (suc n) v es fs more others flats back s r e = told-case-lower cs i n v es fs more others flats back s r e

pub same-lowering : SameLowering
same-lowering t v es fs flats others s r e =
    let h = told-lowers t v es fs [] [] flats others s r (ap grants_of (append-nil es) ∙ e ∙ ap grants_of (sym (append-nil fs))) in (h.0.0, h.1)

-- ---- a whole list of values

lone : (es fs : List Event) → grants_of es ≡ grants_of fs → grants_of (es ++ []) ≡ grants_of (fs ++ [])
lone es fs e = ap grants_of (append-nil es) ∙ e ∙ ap grants_of (sym (append-nil fs))

same-flat : (ts : Fields) (vs : List Value) (es fs : List Event) (flats others : List Flat) → FieldsLower ts vs es flats → FieldsLower ts vs fs others → grants_of es ≡ grants_of fs
    → (es ≡ fs) × (flats ≡ others)
same-flat ts vs es fs flats others s r e = let h = told-fields-lower ts vs es fs [] [] flats others s r (lone es fs e) in (h.0.0, h.1)

same-spilled : (ts : Fields) (vs : List Value) (es fs : List Event) (flats others : List Flat) → SpilledLower ts vs es flats → SpilledLower ts vs fs others → grants_of es ≡ grants_of fs
    → (es ≡ fs) × (flats ≡ others)
same-spilled ts vs es fs flats others s r e =
    let same = told-grant (λ g es. FieldsStore ts g.at 0 vs es) (λ g. told-fields ts g.at 0 vs) es fs [] [] (s.0, s.1, s.3, s.4) (r.0, r.1, r.3, r.4) (lone es fs e) in
    let block : s.0 ≡ r.0 = let a = s.3 in let b = r.3 in let c = same.0 in cc in
    (same.0, s.5 ∙ ap (λ g. I32 g.at ∷ []) block ∙ sym r.5)

pub same-passing : SamePassing
same-passing = record { params = params; result = result }
  where
    params : (limit : ℕ) (ts : Fields) (vs : List Value) (es fs : List Event) (flats others : List Flat) → PassesParams limit ts vs es flats → PassesParams limit ts vs fs others
        → grants_of es ≡ grants_of fs → (es ≡ fs) × (flats ≡ others)
    params limit ts vs es fs flats others (inl s) (inl r) e = same-flat ts vs es fs flats others s.1 r.1 e
    params limit ts vs es fs flats others (inl s) (inr r) e = absurd (not-both s.0 r.0)
    params limit ts vs es fs flats others (inr s) (inl r) e = absurd (not-both r.0 s.0)
    params limit ts vs es fs flats others (inr s) (inr r) e = same-spilled ts vs es fs flats others s.1 r.1 e

    result : (limit : ℕ) (ts : Fields) (area : ℕ) (vs : List Value) (es fs : List Event) (flats others : List Flat) → PassesResult limit ts area vs es flats → PassesResult limit ts area vs fs others
        → grants_of es ≡ grants_of fs → (es ≡ fs) × (flats ≡ others)
    result limit ts area vs es fs flats others (inl s) (inl r) e = same-flat ts vs es fs flats others s.1 r.1 e
    result limit ts area vs es fs flats others (inl s) (inr r) e = absurd (not-both s.0 r.0)
    result limit ts area vs es fs flats others (inr s) (inl r) e = absurd (not-both r.0 s.0)
    result limit ts area vs es fs flats others (inr s) (inr r) e = ((told-fields ts area 0 vs es fs [] [] s.1 r.1 (lone es fs e)).0, s.2 ∙ sym r.2)
