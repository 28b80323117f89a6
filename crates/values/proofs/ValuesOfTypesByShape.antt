-- Which values are of a type, by the value's form and the type's shape.
use Rattle.std.proofs.Common.{Box, Global, ◌≡◌, ℕ, zero, suc, ◌+◌, ◌<◌, ◌^◌, List, [], ◌∷◌, length, take, drop, get_or, Option, Some, None, refl, sym, ap, ◌∙◌, subst, arith, add-one, drop-cons}
use Rattle.std.proofs.lemmas.List.{drop_all}
use Rattle.std.specs.List.{AllByRecursion}
use Rattle.canonical_abi.specs.Types.{Prim, boolean, unsigned, signed, scalar_value, ClosedType, prim_type, string_type, list_type, record_type, variant_type, flags_type, Fields, no_field, field, Cases, no_case, plain_case, case_with, nth_field, nth_case, field_count, IsStandard, AreStandardFields, AreStandardCases}
use Rattle.canonical_abi.specs.Values.{Value, Values, values_of, bool_value, unsigned_value, signed_value, char_value, string_value, list_value, record_value, plain_value, payload_value, flags_value, HasPrimType, HasType, HaveTypes, IsOfCase}
use Rattle.std.specs.Prelude.{IsUtf8}
use Rattle.std.proofs.lemmas.Str.{is_utf8-from_IsUtf8}
use Rattle.std.proofs.lemmas.Option.{same_Some}
use Rattle.canonical_abi.specs.Types.{record_fields, variant_cases}
use Rattle.values.specs.Val.{variant_value, value_of}
use Rattle.values.specs.declared.val.Val.{Val}
use Rattle.values.specs.Types.{HasShapeIn}
use Rattle.layout.specs.declared.queries.Shape.{Shape}
use Rattle.layout.specs.declared.queries.Shape.TheVariants as shape
use Rattle.values.proofs.FieldsFromAPlace.{fields_from, fields-next, fields-last}
use Rattle.tables.specs.declared.tables.ValType.{ValType}

-- ---- forms: what a value and a type have in common

abbrev form : Value → ℕ
form (bool_value b) = 0
form (unsigned_value w n) = 0
form (signed_value w n) = 0
form (char_value code) = 0
form (string_value s) = 1
form (list_value vs) = 2
form (record_value vs) = 3
form (plain_value i) = 4
form (payload_value i v) = 4
form (flags_value n) = 5

abbrev form_of : ClosedType → ℕ
form_of (prim_type p) = 0
form_of string_type = 1
form_of (list_type t) = 2
form_of (record_type fs) = 3
form_of (variant_type cs) = 4
form_of (flags_type n) = 5

abbrev form_in : Shape → ℕ
form_in (shape.Primitive p) = 0
form_in shape.String = 1
form_in (shape.List e) = 2
form_in (shape.Record n) = 3
form_in (shape.Variant n) = 4
form_in (shape.Flags n) = 5

prim-form : (v : Value) (p : Prim) → HasPrimType v p → form v ≡ 0
prim-form v boolean (b, is) = ap form is
prim-form v (unsigned w) (n, fits, is) = ap form is
prim-form v (signed w) (n, fits, is) = ap form is
prim-form v scalar_value (code, scalar, is) = ap form is

case-form : (v : Value) (cs : Cases) (i n : ℕ) → IsOfCase v cs i n → form v ≡ 4
case-form v no_case i n h = absurd h
case-form v (plain_case cs) i zero h = ap form h
case-form v (plain_case cs) i (suc n) h = case-form v cs i n h
case-form v (case_with t cs) i zero (w, typed, is) = ap form is
case-form v (case_with t cs) i (suc n) h = case-form v cs i n h

typed-form : (v : Value) (t : ClosedType) → HasType v t → form v ≡ form_of t
typed-form v (prim_type p) h = prim-form v p h
typed-form v string_type (text, utf8, is) = ap form is
typed-form v (list_type t) (vs, all, is) = ap form is
typed-form v (record_type fs) (vs, all, is) = ap form is
typed-form v (variant_type cs) (i, h) = case-form v cs i i h
typed-form v (flags_type n) (labels, few, is) = ap form is

shape-form : (rows : List ClosedType) (t : ClosedType) (s : Shape) → HasShapeIn rows t s → form_of t ≡ form_in s
shape-form rows t (shape.Primitive p) h = ap form_of h
shape-form rows t shape.String h = ap form_of h
shape-form rows t (shape.List e) h = ap form_of h
shape-form rows t (shape.Record n) (fs, is, count) = ap form_of is
shape-form rows t (shape.Variant n) (cs, is, count) = ap form_of is
shape-form rows t (shape.Flags n) h = ap form_of h

-- a value is of types of its own form alone
pub has-form : (rows : List ClosedType) (t : ClosedType) (s : Shape) (v : Value) → HasShapeIn rows t s → HasType v t → form v ≡ form_in s
has-form rows t s v shaped h = typed-form v t h ∙ shape-form rows t s shaped

pub not-scalar : (rows : List ClosedType) (t : ClosedType) (s : Shape) (v : Value) (p : Prim) → HasShapeIn rows t s → HasPrimType v p → ((q : _) → s ≡ shape.Primitive q → ⊥) → HasType v t → ⊥
not-scalar rows t (shape.Primitive q) v p shaped prim other h = other q refl
not-scalar rows t shape.String v p shaped prim other h = let e = sym (prim-form v p prim) ∙ has-form rows t shape.String v shaped h in cc
not-scalar rows t (shape.List e) v p shaped prim other h = let e = sym (prim-form v p prim) ∙ has-form rows t (shape.List e) v shaped h in cc
not-scalar rows t (shape.Record n) v p shaped prim other h = let e = sym (prim-form v p prim) ∙ has-form rows t (shape.Record n) v shaped h in cc
not-scalar rows t (shape.Variant n) v p shaped prim other h = let e = sym (prim-form v p prim) ∙ has-form rows t (shape.Variant n) v shaped h in cc
not-scalar rows t (shape.Flags n) v p shaped prim other h = let e = sym (prim-form v p prim) ∙ has-form rows t (shape.Flags n) v shaped h in cc

pub not-list : (rows : List ClosedType) (t : ClosedType) (s : Shape) (vs : Values) → HasShapeIn rows t s → ((e : ValType) → s ≡ shape.List e → ⊥) → HasType (list_value vs) t → ⊥
not-list rows t (shape.List e) vs shaped other h = other e refl
not-list rows t (shape.Primitive p) vs shaped other h = let e = has-form rows t (shape.Primitive p) (list_value vs) shaped h in cc
not-list rows t shape.String vs shaped other h = let e = has-form rows t shape.String (list_value vs) shaped h in cc
not-list rows t (shape.Record n) vs shaped other h = let e = has-form rows t (shape.Record n) (list_value vs) shaped h in cc
not-list rows t (shape.Variant n) vs shaped other h = let e = has-form rows t (shape.Variant n) (list_value vs) shaped h in cc
not-list rows t (shape.Flags n) vs shaped other h = let e = has-form rows t (shape.Flags n) (list_value vs) shaped h in cc

pub not-record : (rows : List ClosedType) (t : ClosedType) (s : Shape) (vs : Values) → HasShapeIn rows t s → ((n : ℕ) → s ≡ shape.Record n → ⊥) → HasType (record_value vs) t → ⊥
not-record rows t (shape.Record n) vs shaped other h = other n refl
not-record rows t (shape.Primitive p) vs shaped other h = let e = has-form rows t (shape.Primitive p) (record_value vs) shaped h in cc
not-record rows t shape.String vs shaped other h = let e = has-form rows t shape.String (record_value vs) shaped h in cc
not-record rows t (shape.List x) vs shaped other h = let e = has-form rows t (shape.List x) (record_value vs) shaped h in cc
not-record rows t (shape.Variant n) vs shaped other h = let e = has-form rows t (shape.Variant n) (record_value vs) shaped h in cc
not-record rows t (shape.Flags n) vs shaped other h = let e = has-form rows t (shape.Flags n) (record_value vs) shaped h in cc

pub not-flags : (rows : List ClosedType) (t : ClosedType) (s : Shape) (bits : ℕ) → HasShapeIn rows t s → ((n : ℕ) → s ≡ shape.Flags n → ⊥) → HasType (flags_value bits) t → ⊥
not-flags rows t (shape.Flags n) bits shaped other h = other n refl
not-flags rows t (shape.Primitive p) bits shaped other h = let e = has-form rows t (shape.Primitive p) (flags_value bits) shaped h in cc
not-flags rows t shape.String bits shaped other h = let e = has-form rows t shape.String (flags_value bits) shaped h in cc
not-flags rows t (shape.List x) bits shaped other h = let e = has-form rows t (shape.List x) (flags_value bits) shaped h in cc
not-flags rows t (shape.Record n) bits shaped other h = let e = has-form rows t (shape.Record n) (flags_value bits) shaped h in cc
not-flags rows t (shape.Variant n) bits shaped other h = let e = has-form rows t (shape.Variant n) (flags_value bits) shaped h in cc

pub not-string : (rows : List ClosedType) (t : ClosedType) (s : Shape) (text : List ℕ) → HasShapeIn rows t s → (s ≡ shape.String → ⊥) → HasType (string_value text) t → ⊥
not-string rows t shape.String text shaped other h = other refl
not-string rows t (shape.Primitive p) text shaped other h = let e = has-form rows t (shape.Primitive p) (string_value text) shaped h in cc
not-string rows t (shape.List x) text shaped other h = let e = has-form rows t (shape.List x) (string_value text) shaped h in cc
not-string rows t (shape.Record n) text shaped other h = let e = has-form rows t (shape.Record n) (string_value text) shaped h in cc
not-string rows t (shape.Variant n) text shaped other h = let e = has-form rows t (shape.Variant n) (string_value text) shaped h in cc
not-string rows t (shape.Flags n) text shaped other h = let e = has-form rows t (shape.Flags n) (string_value text) shaped h in cc

-- ---- values of types of their form

pub values_of-same : (vs ws : List Value) → values_of vs ≡ values_of ws → vs ≡ ws
values_of-same [] [] e = refl
values_of-same [] (w ∷ ws) e = cc
values_of-same (v ∷ vs) [] e = cc
values_of-same (v ∷ vs) (w ∷ ws) e =
    let first : v ≡ w = cc in
    let rest : values_of vs ≡ values_of ws = cc in
    let others = values_of-same vs ws rest in cc

pub typed-list : (t : ClosedType) (vs : List Value) → HasType (list_value (values_of vs)) (list_type t) → AllByRecursion (λ w. HasType w t) vs
typed-list t vs (ws, all, is) =
    let same : values_of vs ≡ values_of ws = cc in
    subst (AllByRecursion (λ w. HasType w t)) (sym (values_of-same vs ws same)) all

pub typed-record : (fs : Fields) (vs : List Value) → HasType (record_value (values_of vs)) (record_type fs) → HaveTypes vs fs
typed-record fs vs (ws, all, is) =
    let same : values_of vs ≡ values_of ws = cc in
    let P : List Value → Type 0 = λ xs. HaveTypes xs fs in
    subst P (sym (values_of-same vs ws same)) all

pub typed-flags : (n bits : ℕ) → HasType (flags_value bits) (flags_type n) → bits < 2 ^ n
typed-flags n bits (labels, few, is) = let same : bits ≡ labels = cc in rw same few

plain-of : (i : ℕ) (cs : Cases) (n : ℕ) → nth_case cs n ≡ Some None → IsOfCase (plain_value i) cs i n
plain-of i no_case n e = cc
plain-of i (plain_case cs) zero e = refl
plain-of i (plain_case cs) (suc n) e = plain-of i cs n e
plain-of i (case_with t cs) zero e = cc
plain-of i (case_with t cs) (suc n) e = plain-of i cs n e

-- a plain case of a variant
pub of-plain : (i : ℕ) (cs : Cases) → nth_case cs i ≡ Some None → HasType (plain_value i) (variant_type cs)
of-plain i cs e = (i, plain-of i cs i e)

plain-only : (c i : ℕ) (cs : Cases) (n : ℕ) → IsOfCase (plain_value c) cs i n → (c ≡ i) × (nth_case cs n ≡ Some None)
plain-only c i no_case n h = absurd h
plain-only c i (plain_case cs) zero h = (cc, refl)
plain-only c i (plain_case cs) (suc n) h = plain-only c i cs n h
plain-only c i (case_with t cs) zero (w, typed, is) = cc
plain-only c i (case_with t cs) (suc n) h = plain-only c i cs n h

pub plain-typed : (c : ℕ) (cs : Cases) → HasType (plain_value c) (variant_type cs) → nth_case cs c ≡ Some None
plain-typed c cs (i, h) = let only = plain-only c i cs i h in rw only.0 only.1

payload-of : (i : ℕ) (cs : Cases) (n : ℕ) (t : ClosedType) (v : Value) → nth_case cs n ≡ Some (Some t) → HasType v t → IsOfCase (payload_value i v) cs i n
payload-of i no_case n t v e h = cc
payload-of i (plain_case cs) zero t v e h = cc
payload-of i (plain_case cs) (suc n) t v e h = payload-of i cs n t v e h
payload-of i (case_with u cs) zero t v e h =
    let same : u ≡ t = same_Some _ _ (same_Some _ _ e) in
    let P : ClosedType → Type 0 = λ x. HasType v x in
    (v, subst P (sym same) h, refl)
payload-of i (case_with u cs) (suc n) t v e h = payload-of i cs n t v e h

pub of-payload : (i : ℕ) (cs : Cases) (t : ClosedType) (v : Value) → nth_case cs i ≡ Some (Some t) → HasType v t → HasType (payload_value i v) (variant_type cs)
of-payload i cs t v e h = (i, payload-of i cs i t v e h)

payload-only : (c i : ℕ) (cs : Cases) (n : ℕ) (v : Value) → IsOfCase (payload_value c v) cs i n → (c ≡ i) × ((t : ClosedType) × (nth_case cs n ≡ Some (Some t)) × HasType v t)
payload-only c i no_case n v h = absurd h
payload-only c i (plain_case cs) zero v h = cc
payload-only c i (plain_case cs) (suc n) v h = payload-only c i cs n v h
payload-only c i (case_with t cs) zero v (w, typed, is) =
    let same : v ≡ w = cc in
    let P : Value → Type 0 = λ x. HasType x t in
    (cc, (t, refl, subst P (sym same) typed))
payload-only c i (case_with t cs) (suc n) v h = payload-only c i cs n v h

pub payload-typed : (c : ℕ) (cs : Cases) (v : Value) → HasType (payload_value c v) (variant_type cs) → (t : ClosedType) × (nth_case cs c ≡ Some (Some t)) × HasType v t
payload-typed c cs v (i, h) =
    let only = payload-only c i cs i v h in
    let P : ℕ → Type 0 = λ n. (t : ClosedType) × (nth_case cs n ≡ Some (Some t)) × HasType v t in
    subst P (sym only.0) only.1

-- ---- types that are known by a value of theirs

prim-one : (v : Value) (p q : Prim) → HasPrimType v p → HasPrimType v q → p ≡ q
prim-one v boolean boolean h k = refl
prim-one v boolean (unsigned x) h k = let e = sym h.1 ∙ k.2 in cc
prim-one v boolean (signed x) h k = let e = sym h.1 ∙ k.2 in cc
prim-one v boolean scalar_value h k = let e = sym h.1 ∙ k.2 in cc
prim-one v (unsigned w) boolean h k = let e = sym h.2 ∙ k.1 in cc
prim-one v (unsigned w) (unsigned x) h k = let e = sym h.2 ∙ k.2 in cc
prim-one v (unsigned w) (signed x) h k = let e = sym h.2 ∙ k.2 in cc
prim-one v (unsigned w) scalar_value h k = let e = sym h.2 ∙ k.2 in cc
prim-one v (signed w) boolean h k = let e = sym h.2 ∙ k.1 in cc
prim-one v (signed w) (unsigned x) h k = let e = sym h.2 ∙ k.2 in cc
prim-one v (signed w) (signed x) h k = let e = sym h.2 ∙ k.2 in cc
prim-one v (signed w) scalar_value h k = let e = sym h.2 ∙ k.2 in cc
prim-one v scalar_value boolean h k = let e = sym h.2 ∙ k.1 in cc
prim-one v scalar_value (unsigned x) h k = let e = sym h.2 ∙ k.2 in cc
prim-one v scalar_value (signed x) h k = let e = sym h.2 ∙ k.2 in cc
prim-one v scalar_value scalar_value h k = refl

pub type-of-scalar : (t : ClosedType) (v : Value) (p : Prim) → HasPrimType v p → HasType v t → t ≡ prim_type p
type-of-scalar (prim_type q) v p typed h = ap prim_type (prim-one v q p h typed)
type-of-scalar string_type v p typed h = let e = sym (prim-form v p typed) ∙ typed-form v string_type h in cc
type-of-scalar (list_type t) v p typed h = let e = sym (prim-form v p typed) ∙ typed-form v (list_type t) h in cc
type-of-scalar (record_type fs) v p typed h = let e = sym (prim-form v p typed) ∙ typed-form v (record_type fs) h in cc
type-of-scalar (variant_type cs) v p typed h = let e = sym (prim-form v p typed) ∙ typed-form v (variant_type cs) h in cc
type-of-scalar (flags_type n) v p typed h = let e = sym (prim-form v p typed) ∙ typed-form v (flags_type n) h in cc

pub type-of-text : (t : ClosedType) (text : List ℕ) → HasType (string_value text) t → t ≡ string_type
type-of-text string_type text h = refl
type-of-text (prim_type q) text h = let e = typed-form (string_value text) (prim_type q) h in cc
type-of-text (list_type t) text h = let e = typed-form (string_value text) (list_type t) h in cc
type-of-text (record_type fs) text h = let e = typed-form (string_value text) (record_type fs) h in cc
type-of-text (variant_type cs) text h = let e = typed-form (string_value text) (variant_type cs) h in cc
type-of-text (flags_type n) text h = let e = typed-form (string_value text) (flags_type n) h in cc

pub type-of-flags : (t : ClosedType) (bits : ℕ) → HasType (flags_value bits) t → (n : ℕ) × (t ≡ flags_type n) × (bits < 2 ^ n)
type-of-flags (flags_type n) bits h = (n, refl, typed-flags n bits h)
type-of-flags (prim_type q) bits h = let e = typed-form (flags_value bits) (prim_type q) h in cc
type-of-flags string_type bits h = let e = typed-form (flags_value bits) string_type h in cc
type-of-flags (list_type t) bits h = let e = typed-form (flags_value bits) (list_type t) h in cc
type-of-flags (record_type fs) bits h = let e = typed-form (flags_value bits) (record_type fs) h in cc
type-of-flags (variant_type cs) bits h = let e = typed-form (flags_value bits) (variant_type cs) h in cc

pub type-of-record : (t : ClosedType) (vs : Values) → HasType (record_value vs) t → t ≡ record_type (record_fields t)
type-of-record (record_type fs) vs h = refl
type-of-record (prim_type q) vs h = let e = typed-form (record_value vs) (prim_type q) h in cc
type-of-record string_type vs h = let e = typed-form (record_value vs) string_type h in cc
type-of-record (list_type t) vs h = let e = typed-form (record_value vs) (list_type t) h in cc
type-of-record (variant_type cs) vs h = let e = typed-form (record_value vs) (variant_type cs) h in cc
type-of-record (flags_type n) vs h = let e = typed-form (record_value vs) (flags_type n) h in cc

-- ---- one after another

all-more : (P : Value → Type 0) (vs : List Value) (i : ℕ) (d : Value) → i < length vs → AllByRecursion P (take i vs) → P (get_or vs i d) → AllByRecursion P (take (i + 1) vs)
all-more P [] i d below h here = absurd (omega arith)
all-more P (v ∷ vs) zero d below h here = (here, tt)
all-more P (v ∷ vs) (suc i) d below h here = rw add-one (h.0, rw add-one at (all-more P vs i d (omega arith) h.1 here))

pub all-step : (P : Value → Type 0) (vs : List Value) (i : ℕ) (d : Value) → i < length vs → AllByRecursion P (take i vs) → P (get_or vs i d) → AllByRecursion P (take (i + 1) vs)
all-step = all-more

pub all-at : (P : Value → Type 0) (vs : List Value) (i : ℕ) (d : Value) → i < length vs → AllByRecursion P vs → P (get_or vs i d)
all-at P [] i d below h = absurd (omega arith)
all-at P (v ∷ vs) zero d below h = h.0
all-at P (v ∷ vs) (suc i) d below h = all-at P vs i d (omega arith) h.1

pub drop-next : {A : Type 0} (i : ℕ) (xs : List A) (d : A) → i < length xs → drop i xs ≡ get_or xs i d ∷ drop (i + 1) xs
drop-next i xs d below = rw add-one (drop-cons xs i d below)

-- as many values as fields
pub typed-count : (fs : Fields) (vs : List Value) → HaveTypes vs fs → length vs ≡ field_count fs
typed-count no_field vs h = ap length h
typed-count (field t fs) vs (v, rest, is, here, there) = ap length is ∙ ap suc (typed-count fs rest there)

module _ (fs : Fields) (vs : List Value) (i : ℕ) (t : ClosedType) (d : Value) (next : nth_field fs i ≡ Some t) (below : i < length vs) where
  -- the values and the fields from place i on are one and the others
  pub have-both : HasType (get_or vs i d) t → HaveTypes (drop (i + 1) vs) (fields_from (i + 1) fs) → HaveTypes (drop i vs) (fields_from i fs)
  have-both here there =
      let P : Fields → Type 0 = λ us. HaveTypes (drop i vs) us in
      subst P (sym (fields-next fs i t next)) (get_or vs i d, drop (i + 1) vs, drop-next i vs d below, here, there)

  have-parts : HaveTypes (drop i vs) (fields_from i fs) → HasType (get_or vs i d) t × HaveTypes (drop (i + 1) vs) (fields_from (i + 1) fs)
  have-parts h =
      let P : Fields → Type 0 = λ us. HaveTypes (drop i vs) us in
      let parts : HaveTypes (drop i vs) (field t (fields_from (i + 1) fs)) = subst P (fields-next fs i t next) h in
      let same : get_or vs i d ∷ drop (i + 1) vs ≡ parts.0 ∷ parts.1 = sym (drop-next i vs d below) ∙ parts.2 in
      let first : get_or vs i d ≡ parts.0 = cc in
      let others : drop (i + 1) vs ≡ parts.1 = cc in
      let Q : Value → Type 0 = λ w. HasType w t in
      let R : List Value → Type 0 = λ ws. HaveTypes ws (fields_from (i + 1) fs) in
      (subst Q (sym first) parts.3, subst R (sym others) parts.4)

  pub have-first : HaveTypes (drop i vs) (fields_from i fs) → HasType (get_or vs i d) t
  have-first h = (have-parts h).0

  pub have-rest : HaveTypes (drop i vs) (fields_from i fs) → HaveTypes (drop (i + 1) vs) (fields_from (i + 1) fs)
  have-rest h = (have-parts h).1

-- none is left
pub have-none : (fs : Fields) (vs : List Value) (n : ℕ) → field_count fs ≡ n → length vs ≡ n → HaveTypes (drop n vs) (fields_from n fs)
have-none fs vs n fields values =
    let P : Fields → Type 0 = λ us. HaveTypes (drop n vs) us in
    subst P (sym (fields-last fs n fields)) (drop_all n vs (omega (arith, values)))

-- ---- types that are known by an equation

pub string-is : (s : List ℕ) (t : ClosedType) → t ≡ string_type → IsUtf8 s → HasType (string_value s) t
string-is s t is u =
    let Q : ClosedType → Type 0 = λ x. HasType (string_value s) x in
    subst Q (sym is) (s, is_utf8-from_IsUtf8 s u, refl)

pub list-is : (vs : List Value) (t u : ClosedType) → t ≡ list_type u → AllByRecursion (λ w. HasType w u) vs → HasType (list_value (values_of vs)) t
list-is vs t u is h =
    let Q : ClosedType → Type 0 = λ x. HasType (list_value (values_of vs)) x in
    subst Q (sym is) (vs, h, refl)

pub is-list : (vs : List Value) (t u : ClosedType) → t ≡ list_type u → HasType (list_value (values_of vs)) t → AllByRecursion (λ w. HasType w u) vs
is-list vs t u is h =
    let Q : ClosedType → Type 0 = λ x. HasType (list_value (values_of vs)) x in
    typed-list u vs (subst Q is h)

pub record-is : (vs : List Value) (t : ClosedType) (fs : Fields) → t ≡ record_type fs → HaveTypes vs (record_fields t) → HasType (record_value (values_of vs)) t
record-is vs t fs is h =
    let Q : ClosedType → Type 0 = λ x. HasType (record_value (values_of vs)) x in
    let P : ClosedType → Type 0 = λ x. HaveTypes vs (record_fields x) in
    subst Q (sym is) (vs, subst P is h, refl)

pub is-record : (vs : List Value) (t : ClosedType) (fs : Fields) → t ≡ record_type fs → HasType (record_value (values_of vs)) t → HaveTypes vs (record_fields t)
is-record vs t fs is h =
    let Q : ClosedType → Type 0 = λ x. HasType (record_value (values_of vs)) x in
    let P : ClosedType → Type 0 = λ x. HaveTypes vs (record_fields x) in
    subst P (sym is) (typed-record fs vs (subst Q is h))

module _ (t : ClosedType) (i : ℕ) (variant : variant_type (variant_cases t) ≡ t) where
  pub plain-is : nth_case (variant_cases t) i ≡ Some None → HasType (plain_value i) t
  plain-is e =
      let P : ClosedType → Type 0 = λ x. HasType (plain_value i) x in
      subst P variant (of-plain i (variant_cases t) e)

  pub is-plain : HasType (plain_value i) t → nth_case (variant_cases t) i ≡ Some None
  is-plain h =
      let P : ClosedType → Type 0 = λ x. HasType (plain_value i) x in
      plain-typed i (variant_cases t) (subst P (sym variant) h)

  pub payload-is : (u : ClosedType) (w : Value) → nth_case (variant_cases t) i ≡ Some (Some u) → HasType w u → HasType (payload_value i w) t
  payload-is u w e h =
      let P : ClosedType → Type 0 = λ x. HasType (payload_value i w) x in
      subst P variant (of-payload i (variant_cases t) u w e h)

  payload-of-it : (w : Value) → HasType (payload_value i w) t → (u : ClosedType) × (nth_case (variant_cases t) i ≡ Some (Some u)) × HasType w u
  payload-of-it w h =
      let P : ClosedType → Type 0 = λ x. HasType (payload_value i w) x in
      payload-typed i (variant_cases t) w (subst P (sym variant) h)

  pub is-payload : (u : ClosedType) (w : Value) → nth_case (variant_cases t) i ≡ Some (Some u) → HasType (payload_value i w) t → HasType w u
  is-payload u w e h =
      let p = payload-of-it w h in
      let same : p.0 ≡ u = same_Some _ _ (same_Some _ _ (sym p.1 ∙ e)) in
      let P : ClosedType → Type 0 = λ x. HasType w x in
      subst P same p.2

  pub no-payload : (w : Value) → nth_case (variant_cases t) i ≡ Some None → HasType (payload_value i w) t → ⊥
  no-payload w e h = let p = payload-of-it w h in let both : Some None ≡ Some (Some p.0) = sym e ∙ p.1 in cc

  pub no-plain : (u : ClosedType) → nth_case (variant_cases t) i ≡ Some (Some u) → HasType (plain_value i) t → ⊥
  no-plain u e h = let both : Some (Some u) ≡ Some None = sym e ∙ is-plain h in cc

  pub no-case : (o : Option (Box Val Global)) → nth_case (variant_cases t) i ≡ None → HasType (variant_value i o) t → ⊥
  no-case None e h = let both : None ≡ Some None = sym e ∙ is-plain h in cc
  no-case (Some b) e h = let p = payload-of-it (value_of b.value) h in let both : None ≡ Some (Some p.0) = sym e ∙ p.1 in cc

-- ---- standard types: those of fields and of payloads

pub field-standard : (fs : Fields) (i : ℕ) (t : ClosedType) → nth_field fs i ≡ Some t → AreStandardFields fs → IsStandard t
field-standard no_field i t e h = absurd (let n : None ≡ Some t = e in cc)
field-standard (field u fs) zero t e h = subst IsStandard (same_Some _ _ e) h.0
field-standard (field u fs) (suc i) t e h = field-standard fs i t e h.1

cases-standard : (cs : Cases) (i : ℕ) (t : ClosedType) → nth_case cs i ≡ Some (Some t) → AreStandardCases cs → IsStandard t
cases-standard no_case i t e h = absurd (let n : None ≡ Some (Some t) = e in cc)
cases-standard (plain_case cs) zero t e h = cc
cases-standard (plain_case cs) (suc i) t e h = cases-standard cs i t e h
cases-standard (case_with u cs) zero t e h = subst IsStandard (same_Some _ _ (same_Some _ _ e)) h.0
cases-standard (case_with u cs) (suc i) t e h = cases-standard cs i t e h.1

pub case-standard : (cs : Cases) (i : ℕ) (t : ClosedType) → nth_case cs i ≡ Some (Some t) → IsStandard (variant_type cs) → IsStandard t
case-standard cs i t e h = cases-standard cs i t e h.2
