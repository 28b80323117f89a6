-- Each value of a type has events by which it is stored and lowered.
use Rattle.std.proofs.Common.{ℕ, zero, suc, ◌+◌, ◌*◌, List, [], ◌∷◌, ◌++◌, length, refl}
use Rattle.std.specs.Int.{next_multiple_of}
use Rattle.std.specs.List.{AllByRecursion}
use Rattle.canonical_abi.specs.Types.{ClosedType, prim_type, string_type, list_type, record_type, variant_type, flags_type, Fields, no_field, field, Cases, no_case, plain_case, case_with}
use Rattle.canonical_abi.specs.Values.{Value, HasType, HaveTypes, IsOfCase}
use Rattle.canonical_abi.specs.Layout.{align, size, payload_place}
use Rattle.canonical_abi.specs.Trace.{Grant, Event}
use Rattle.canonical_abi.specs.Storing.{EachStores, Stores, FieldsStore, CaseStores}
use Rattle.canonical_abi.specs.Lowering.{Lowers, FieldsLower, CaseLowers}
use Rattle.canonical_abi.specs.declared.flat.Flat.{Flat}

-- a block at address 0
abbrev pub block : ℕ → ℕ → Grant
block alignment n = record { align = alignment; size = n; at = 0; contents = [] }

pub each-script : (P : ℕ → Value → List Event → Type 0) (Q : Value → Type 0) (step : ℕ) → ((a : ℕ) (v : Value) → Q v → (es : List Event) × P a v es)
    → (a : ℕ) (vs : List Value) → AllByRecursion Q vs → (es : List Event) × EachStores P step a vs es
each-script P Q step h a [] all = ([], refl)
each-script P Q step h a (v ∷ vs) all =
    let first = h a v all.0 in
    let rest = each-script P Q step h (a + step) vs all.1 in
    (first.0 ++ rest.0, (first.0, rest.0, refl, first.1, rest.1))

mutual
  pub stores-script : (t : ClosedType) (a : ℕ) (v : Value) → HasType v t → (es : List Event) × Stores t a v es
  stores-script (prim_type p) a v h = (_, (h, refl))
  stores-script string_type a v h =
      let g = block 1 (length h.0) in
      (_, (h.0, g, h.2, h.1, (refl, refl), refl))
  stores-script (list_type t) a v h =
      let g = block (align t) (length h.0 * size t) in
      let rest = each-script (Stores t) (λ w. HasType w t) (size t) (λ b w typed. stores-script t b w typed) 0 h.0 h.1 in
      (_, (h.0, g, rest.0, h.2, (refl, refl), refl, rest.1))
  stores-script (record_type fs) a v h = let rest = fields-script fs a 0 h.0 h.1 in (_, (h.0, rest.0, h.2, refl, rest.1))
  stores-script (variant_type cs) a v h = let rest = case-script cs (a + payload_place cs) h.0 h.0 v h.1 in (_, (h.0, rest.0, refl, rest.1))
  stores-script (flags_type n) a v h = (_, (h.0, h.2, h.1, refl))

  pub fields-script : (fs : Fields) (a from : ℕ) (vs : List Value) → HaveTypes vs fs → (es : List Event) × FieldsStore fs a from vs es
  fields-script no_field a from vs h = ([], (h, refl))
  fields-script (field t fs) a from vs h =
      let place = next_multiple_of from (align t) in
      let first = stores-script t (a + place) h.0 h.3 in
      let rest = fields-script fs a (place + size t) h.1 h.4 in
      (first.0 ++ rest.0, (h.0, h.1, first.0, rest.0, h.2, refl, first.1, rest.1))

  pub case-script : (cs : Cases) (a i n : ℕ) (v : Value) → IsOfCase v cs i n → (es : List Event) × CaseStores cs a i n v es
  case-script no_case a i n v h = absurd h
  case-script (plain_case cs) a i zero v h = ([], (h, refl))
  case-script (plain_case cs) a i (suc n) v h = case-script cs a i n v h
  case-script (case_with t cs) a i zero v h = let rest = stores-script t a h.0 h.1 in (rest.0, (h.0, h.2, rest.1))
  case-script (case_with t cs) a i (suc n) v h = case-script cs a i n v h

mutual
  pub lowers-script : (t : ClosedType) (v : Value) → HasType v t → (es : List Event) × (flats : List Flat) × Lowers t v es flats
  lowers-script (prim_type p) v h = (_, _, (h, refl, refl))
  lowers-script string_type v h =
      let g = block 1 (length h.0) in
      (_, _, (h.0, g, h.2, h.1, (refl, refl), refl, refl))
  lowers-script (list_type t) v h =
      let g = block (align t) (length h.0 * size t) in
      let rest = each-script (Stores t) (λ w. HasType w t) (size t) (λ b w typed. stores-script t b w typed) 0 h.0 h.1 in
      (_, _, (h.0, g, rest.0, h.2, (refl, refl), refl, rest.1, refl))
  lowers-script (record_type fs) v h = let rest = fields-lower-script fs h.0 h.1 in (_, rest.1, (h.0, rest.0, h.2, refl, rest.2))
  lowers-script (variant_type cs) v h = let rest = case-lower-script cs h.0 h.0 v h.1 in (_, _, (h.0, rest.0, rest.1, refl, rest.2, refl))
  lowers-script (flags_type n) v h = (_, _, (h.0, h.2, h.1, refl, refl))

  pub fields-lower-script : (fs : Fields) (vs : List Value) → HaveTypes vs fs → (es : List Event) × (flats : List Flat) × FieldsLower fs vs es flats
  fields-lower-script no_field vs h = ([], [], (h, refl, refl))
  fields-lower-script (field t fs) vs h =
      let first = lowers-script t h.0 h.3 in
      let rest = fields-lower-script fs h.1 h.4 in
      (first.0 ++ rest.0, first.1 ++ rest.1, (h.0, h.1, first.0, rest.0, first.1, rest.1, h.2, refl, refl, first.2, rest.2))

  pub case-lower-script : (cs : Cases) (i n : ℕ) (v : Value) → IsOfCase v cs i n → (es : List Event) × (flats : List Flat) × CaseLowers cs i n v es flats
  case-lower-script no_case i n v h = absurd h
  case-lower-script (plain_case cs) i zero v h = ([], [], (h, refl, refl))
  case-lower-script (plain_case cs) i (suc n) v h = case-lower-script cs i n v h
  case-lower-script (case_with t cs) i zero v h = let rest = lowers-script t h.0 h.1 in (rest.0, rest.1, (h.0, h.2, rest.2))
  case-lower-script (case_with t cs) i (suc n) v h = case-lower-script cs i n v h
