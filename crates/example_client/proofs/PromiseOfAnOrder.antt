-- What the promise says of an order.
use Rattle.std.proofs.Common.{◌≡◌, inl, inr, ℕ, zero, suc, ◌+◌, ◌-◌, ◌%◌, ◌^◌, ◌<◌, ◌≤◌, true, List, [], ◌∷◌, length, map, drop, get_or-drop, slice_range, Option, Some, Result, Ok, Err, String, Global, string_bytes, refl, sym, ap, ◌∙◌, subst, arith, rules}
use Rattle.std.specs.Prelude.{IfOk, option_map}
use Rattle.std.specs.Str.{is_utf8}
use Rattle.canonical_abi.specs.Types.{int32, boolean, unsigned, signed, scalar_value, ClosedType, prim_type, string_type, list_type, record_type, variant_type, flags_type, Fields, no_field, field, Cases, no_case, plain_case, case_with, FunctionType}
use Rattle.canonical_abi.specs.Values.{string_value, unsigned_value, HasType, HaveTypes, IsOfCase}
use Rattle.canonical_abi.specs.Layout.{max_flat_params}
use Rattle.canonical_abi.specs.Reading.{kind_of, low_bits, number_of}
use Rattle.canonical_abi.specs.Flat.{Denotes}
use Rattle.canonical_abi.specs.Guest.{Memory, IsWithin}
use Rattle.canonical_abi.specs.Call.{Parties, Run, PostRun, CallState, exact}
use Rattle.canonical_abi.specs.Tame.{LeavesLive, KeepsLivePromise}
use Rattle.canonical_abi.specs.declared.flat.Flat.{Flat}
use Rattle.canonical_abi.specs.declared.flat.CoreKind.TheVariants.{I32}
use Rattle.canonical_abi.specs.declared.trap.Fault.{Fault}
use Rattle.canonical_abi.proofs.ReadValues.FramesReading.{take-same}
use Rattle.canonical_abi.proofs.Traces.TracesLeaveImages.{slice_get-drop}
use Rattle.values.specs.declared.val.Val.{Val, String as Text, U32, the_lemmas}
use Rattle.values.specs.Val.{value_of}
use Rattle.values.proofs.ValueOfEachVariant.{value_of-String}
use Rattle.witcall.specs.Session.{typed_answer}
use Rattle.example_client.specs.Order.{FindsOrder, KeepsLiveRanges, TakesOrder, word}

-- ---- which functions take an order

no-text-case : (text : List ℕ) (cs : Cases) (i n : ℕ) → IsOfCase (string_value text) cs i n → ⊥
no-text-case text no_case i n h = h
no-text-case text (plain_case cs) i zero h = cc
no-text-case text (plain_case cs) i (suc n) h = no-text-case text cs i n h
no-text-case text (case_with t cs) i zero (w, is, same) = cc
no-text-case text (case_with t cs) i (suc n) h = no-text-case text cs i n h

no-number-case : (n : ℕ) (cs : Cases) (i k : ℕ) → IsOfCase (unsigned_value int32 n) cs i k → ⊥
no-number-case n no_case i k h = h
no-number-case n (plain_case cs) i zero h = cc
no-number-case n (plain_case cs) i (suc k) h = no-number-case n cs i k h
no-number-case n (case_with t cs) i zero (w, is, same) = cc
no-number-case n (case_with t cs) i (suc k) h = no-number-case n cs i k h

text-type : (text : List ℕ) (t : ClosedType) → HasType (string_value text) t → t ≡ string_type
text-type text (prim_type boolean) (b, is) = absurd (cc)
text-type text (prim_type (unsigned w)) (n, small, is) = absurd (cc)
text-type text (prim_type (signed w)) (n, small, is) = absurd (cc)
text-type text (prim_type scalar_value) (c, is, same) = absurd (cc)
text-type text string_type h = refl
text-type text (list_type t) (vs, are, is) = absurd (cc)
text-type text (record_type fs) (vs, are, is) = absurd (cc)
text-type text (variant_type cs) (i, is) = absurd (no-text-case text cs i i is)
text-type text (flags_type n) (labels, small, is) = absurd (cc)

number-type : (n : ℕ) (t : ClosedType) → HasType (unsigned_value int32 n) t → t ≡ prim_type (unsigned int32)
number-type n (prim_type boolean) (b, is) = absurd (cc)
number-type n (prim_type (unsigned w)) (k, small, is) = cc
number-type n (prim_type (signed w)) (k, small, is) = absurd (cc)
number-type n (prim_type scalar_value) (c, is, same) = absurd (cc)
number-type n string_type (text, is, same) = absurd (cc)
number-type n (list_type t) (vs, are, is) = absurd (cc)
number-type n (record_type fs) (vs, are, is) = absurd (cc)
number-type n (variant_type cs) (i, is) = absurd (no-number-case n cs i i is)
number-type n (flags_type k) (labels, small, is) = absurd (cc)

pub takes : (f : FunctionType) (text : List ℕ) (n : ℕ) → HaveTypes (string_value text ∷ unsigned_value int32 n ∷ []) f.params → TakesOrder f
takes f text n h = by f.params h
  where
    by : (fs : Fields) → HaveTypes (string_value text ∷ unsigned_value int32 n ∷ []) fs → fs ≡ field string_type (field (prim_type (unsigned int32)) no_field)
    by no_field h = absurd (cc)
    by (field t no_field) (v, rest, is, typed, none) = absurd (cc)
    by (field t (field u no_field)) (v, rest, is, typed, (w, more, are, counted, none)) =
        let item : t ≡ string_type = text-type text t (subst (λ x. HasType x t) (let e : v ≡ string_value text = cc in e) typed) in
        let count : u ≡ prim_type (unsigned int32) = number-type n u (subst (λ x. HasType x u) (let e : w ≡ unsigned_value int32 n = cc in e) counted) in
        cc
    by (field t (field u (field s fs))) (v, rest, is, typed, (w, more, are, counted, (x, others, last, typed-third, end))) = absurd (cc)

pub typed : (f : FunctionType) (text : List ℕ) (n : ℕ) → is_utf8 text ≡ true → n < 2 ^ 32 → TakesOrder f → HaveTypes (string_value text ∷ unsigned_value int32 n ∷ []) f.params
typed f text n utf8 small is =
    subst (λ fs. HaveTypes (string_value text ∷ unsigned_value int32 n ∷ []) fs) (sym is)
    (string_value text, unsigned_value int32 n ∷ [], refl, (text, utf8, refl), (unsigned_value int32 n, [], refl, (n, small, refl), refl))

value_of-U32 : (n : ℕ) → value_of (U32 n) ≡ unsigned_value int32 n
value_of-U32 n = search (rules, the_lemmas)

-- the values of the two arguments
pub values : (item : String Global) (n : ℕ) → map value_of (Text item ∷ U32 n ∷ []) ≡ string_value (string_bytes item) ∷ unsigned_value int32 n ∷ []
values item n = rw (value_of-String item, value_of-U32 n)

-- ---- what the body finds

-- core value 2 is the first after two
third : (fs : List ℕ) → low_bits (drop 2 fs) 0 32 ≡ low_bits fs 2 32
unfolding low_bits
third fs = ap (λ k. k % 2 ^ 32) (get_or-drop 2 fs 0 0)

same-text : (a b : List ℕ) → string_value a ≡ string_value b → b ≡ a
same-text a b e = cc

same-number : (a b : ℕ) → unsigned_value int32 a ≡ unsigned_value int32 b → b ≡ a
same-number a b e = cc

abbrev Stands : List ℕ → ℕ → List ℕ → List Flat → Type 0
Stands item count m flats =
    (map kind_of flats ≡ I32 ∷ I32 ∷ I32 ∷ []) × (word flats 0 + word flats 1 ≤ length m)
    × (slice_range m (word flats 0) (word flats 0 + word flats 1) ≡ item) × (word flats 2 ≡ count)

stands : (m item : List ℕ) (count : ℕ) (flats : List Flat)
    → Denotes max_flat_params (field string_type (field (prim_type (unsigned int32)) no_field)) m flats (string_value item ∷ unsigned_value int32 count ∷ [])
    → Stands item count m flats
stands m item count flats (kinds, inl (fits, (v, rest, is, (inside, utf8, text), (w, none, more, number, end)))) =
    let is_text : string_value item ≡ string_value (slice_range m (word flats 0) (word flats 0 + word flats 1)) = cc in
    let is_number : unsigned_value int32 count ≡ unsigned_value int32 (low_bits (drop 2 (map number_of flats)) 0 32) = cc in
    (kinds, inside, same-text _ _ is_text, sym (third (map number_of flats)) ∙ same-number _ _ is_number)
stands m item count flats (kinds, inr (fits, held)) = absurd (cc)

module _ (parties : Parties) (f : FunctionType) (item : List ℕ) (count : ℕ) (old new : CallState) where
  pub found : (result : Result (Option Val) Fault) → TakesOrder f → KeepsLivePromise parties exact f (string_value item ∷ unsigned_value int32 count ∷ []) old (typed_answer result) new
      → IfOk result (λ v. FindsOrder item count f (option_map value_of v) parties.runs parties.posts old.body new.body new.callee)
  found (Ok v) is promise =
      let ran = promise.lifts.1 in
      let once = promise.lifts.2 in
      let are = stands once.entered.callee.bytes item count once.handed
      (subst (λ fs. Denotes max_flat_params fs once.entered.callee.bytes once.handed (string_value item ∷ unsigned_value int32 count ∷ [])) is once.finds) in
      record {
        memory = once.entered.callee;
        flats = once.handed;
        kinds = are.0;
        inside = are.1;
        item_stands = are.2;
        count_is = are.3;
        state_after = ran.body;
        memory_after = ran.callee;
        answer = promise.lifts.0;
        run = subst (λ s. parties.runs s once.entered.callee once.handed ran.body ran.callee (Some promise.lifts.0)) once.same_body once.run;
        lifted = promise.lifts.3.lifted;
        post = promise.lifts.4;
      }
  found (Err e) is promise = tt

-- ---- what the caller keeps

pub kept : (old new : Memory) → LeavesLive 0 0 old new → KeepsLiveRanges old new
kept old new keeps at size inside live = (
  λ a within. keeps.live a (live a within),
  take-same (at + size - at) (drop at old.bytes) (drop at new.bytes)
      (λ i below.
      let within : IsWithin (at + i) at size = (omega arith, omega (arith, below)) in
      slice_get-drop at new.bytes i ∙ keeps.bytes (at + i) (live (at + i) within) (omega (arith, below, inside)) (inr (omega arith)) ∙ sym (slice_get-drop at old.bytes i)),
)
