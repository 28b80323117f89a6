-- Requests that are told one after another, and what values ask for, part by part.
use Rattle.std.proofs.Common.{◌≡◌, ℕ, zero, suc, ◌+◌, ◌*◌, ◌<◌, ◌≤◌, List, [], ◌∷◌, ◌++◌, length, map, drop, get_or, Some, None, Result, Ok, Err, refl, sym, ap, ◌∙◌, false, subst, append_assoc, append-nil, arith}
use Rattle.std.specs.Prelude.{min, ◌^◌, ◌-◌}
use Rattle.std.proofs.lemmas.List.{map-append}
use Rattle.std.specs.List.{AllByRecursion}
use Rattle.canonical_abi.specs.Types.{ClosedType, Fields, no_field, field, Cases, no_case, plain_case, case_with, nth_field, nth_case, list_type, record_type, variant_type, variant_cases}
use Rattle.canonical_abi.specs.Values.{Value, values_of, list_value, record_value, plain_value}
use Rattle.canonical_abi.specs.Layout.{align, size, fits_flat}
use Rattle.canonical_abi.specs.Requests.{items_of, request, requests, each_request, fields_requests, case_requests, params_requests}
use Rattle.canonical_abi.specs.Trace
use Rattle.canonical_abi.specs.declared.trap.Fault.{Fault}
use Rattle.canonical_abi.specs.declared.trap.Fault.TheVariants.{Trap, NoMemory}
use Rattle.canonical_abi.proofs.StoredValues.AsksRequests.{items-of}
use Rattle.adapter.proofs.asking.RequestsOfParts.{plain-asks}
use Rattle.adapter.specs.declared.asking.request.Request.{Request}
use Rattle.std.proofs.lemmas.Option.{same_Some}
use Rattle.values.proofs.FieldsFromAPlace.{fields_from, fields-next}
use Rattle.values.proofs.ValuesOfTypesByShape.{drop-next}
use Rattle.adapter.specs.Asking.{slot}
use Rattle.host_values.specs.Requests.{IsAllowed, HasTooLarge, AreToldBehind, AreNotTold, Tells}

-- ---- one after another

pub told-none : (old : List Request) → AreToldBehind old [] old
told-none old = (sym (append-nil old), tt)

all-allowed : (rs ss : List Trace.Request) → AllByRecursion IsAllowed rs → AllByRecursion IsAllowed ss → AllByRecursion IsAllowed (rs ++ ss)
all-allowed [] ss a b = b
all-allowed (r ∷ rs) ss a b = (a.0, all-allowed rs ss a.1 b)

pub told-both : (rs ss : List Trace.Request) (old mid new : List Request) → AreToldBehind old rs mid → AreToldBehind mid ss new → AreToldBehind old (rs ++ ss) new
told-both rs ss old mid new a b =
    (b.0 ∙ ap (λ l. l ++ map slot ss) a.0 ∙ append_assoc old (map slot rs) (map slot ss) ∙ ap (λ l. old ++ l) (sym (map-append slot rs ss)), all-allowed rs ss a.1 b.1)

-- what stops a part stops the whole
pub stops-whole : (whole before part behind : List Trace.Request) (e : Fault) → whole ≡ before ++ (part ++ behind) → AreNotTold part e → AreNotTold whole e
stops-whole whole before part behind (Trap t) is h =
    let (front, back, r, split, large) = h.1 in (
      h.0,
      (
        before ++ front,
        back ++ behind,
        r,
        is ∙ ap (λ p. before ++ (p ++ behind)) split ∙ ap (λ l. before ++ l) (append_assoc front (r ∷ back) behind) ∙ sym (append_assoc before front (r ∷ (back ++ behind))),
        large,
      ),
    )
stops-whole whole before part behind NoMemory is h = tt

-- ---- a block of so many bytes, as far as 64 bits count

one-large : (r : Trace.Request) → HasTooLarge (r ∷ []) → 16777216 < r.size
one-large r ([], behind, s, is, large) = let same : r ≡ s = cc in subst (λ (x : Trace.Request). 16777216 < x.size) (sym same) large
one-large r (x ∷ before, behind, s, is, large) = absurd (nothing before behind s cc)
  where
    nothing : (xs ys : List Trace.Request) (y : Trace.Request) → [] ≡ xs ++ y ∷ ys → ⊥
    nothing [] ys y e = cc
    nothing (z ∷ xs) ys y e = cc

pub told-saturated : (alignment n m : ℕ) (old new : List Request) → m ≡ min n (2 ^ 64 - 1) → AreToldBehind old (request alignment m ∷ []) new → AreToldBehind old (request alignment n ∷ []) new
told-saturated alignment n m old new is h =
    let few : m ≤ 16777216 = h.1.0 in
    let same : m ≡ n = omega (arith, is, few) in
    subst (λ (k : ℕ). AreToldBehind old (request alignment k ∷ []) new) same h

pub not-saturated : (alignment n m : ℕ) (e : Fault) → m ≡ min n (2 ^ 64 - 1) → AreNotTold (request alignment m ∷ []) e → AreNotTold (request alignment n ∷ []) e
not-saturated alignment n m (Trap t) is h =
    let large = one-large (request alignment m) h.1 in
    (h.0, ([], [], request alignment n, refl, omega (arith, is, large)))
not-saturated alignment n m NoMemory is h = tt

-- ---- a list

pub list-asks : (t : ClosedType) (vs : List Value) → requests (list_type t) (list_value (values_of vs)) ≡ request (align t) (length vs * size t) ∷ each_request (requests t) vs
list-asks t vs = ap (λ l. request (align t) (length l * size t) ∷ each_request (requests t) l) (items-of vs)

-- place i of a list: one value, and the others
pub each-next : (f : Value → List Trace.Request) (vs : List Value) (i : ℕ) (v : Value) → i < length vs → get_or vs i v ≡ v
    → each_request f (drop i vs) ≡ f v ++ each_request f (drop (i + 1) vs)
each-next f vs i v below here = ap (each_request f) (drop-next i vs v below ∙ ap (λ w. w ∷ drop (i + 1) vs) here)

pub done-next : (whole done part rest more : List Trace.Request) → whole ≡ done ++ rest → rest ≡ part ++ more → whole ≡ (done ++ part) ++ more
done-next whole done part rest more a b = a ∙ ap (λ l. done ++ l) b ∙ sym (append_assoc done part more)

-- all of it is done
pub done-all : (whole done rest : List Trace.Request) → whole ≡ done ++ rest → rest ≡ [] → done ≡ whole
done-all whole done rest a b = sym (append-nil done) ∙ ap (λ l. done ++ l) (sym b) ∙ sym a

-- ---- a record

pub fields-next-asks : (fs : Fields) (vs : List Value) (i : ℕ) (t : ClosedType) (v : Value) → nth_field fs i ≡ Some t → i < length vs → get_or vs i v ≡ v
    → fields_requests (fields_from i fs) (drop i vs) ≡ requests t v ++ fields_requests (fields_from (i + 1) fs) (drop (i + 1) vs)
fields-next-asks fs vs i t v found below here =
    ap (λ us. fields_requests us (drop i vs)) (fields-next fs i t found)
    ∙ ap (fields_requests (field t (fields_from (i + 1) fs))) (drop-next i vs v below ∙ ap (λ w. w ∷ drop (i + 1) vs) here)

pub no-value-asks : (fs : Fields) → fields_requests fs [] ≡ []
no-value-asks no_field = refl
no-value-asks (field t fs) = refl

pub record-asks : (fs : Fields) (vs : List Value) → requests (record_type fs) (record_value (values_of vs)) ≡ fields_requests fs vs
record-asks fs vs = ap (fields_requests fs) (items-of vs)

-- ---- a variant

pub plain-none : (t : ClosedType) (i : ℕ) → variant_type (variant_cases t) ≡ t → nth_case (variant_cases t) i ≡ Some None → requests t (plain_value i) ≡ []
plain-none t i variant e = ap (λ x. requests x (plain_value i)) (sym variant) ∙ plain-asks (variant_cases t) i e

-- ---- parameters that spill

pub spilled-is : (limit : ℕ) (ts : Fields) (vs : List Value) → fits_flat limit ts ≡ false
    → params_requests limit ts vs ≡ (request (align (record_type ts)) (size (record_type ts)) ∷ []) ++ fields_requests ts vs
spilled-is limit ts vs fits = rw fits refl

pub spilled-stops : (limit : ℕ) (ts : Fields) (vs : List Value) → fits_flat limit ts ≡ false → (e : Fault)
    → AreNotTold (request (align (record_type ts)) (size (record_type ts)) ∷ []) e → AreNotTold (params_requests limit ts vs) e
spilled-stops limit ts vs fits e h = stops-whole (params_requests limit ts vs) [] (request (align (record_type ts)) (size (record_type ts)) ∷ []) (fields_requests ts vs) e (spilled-is limit ts vs fits) h

pub spilled-told : (limit : ℕ) (ts : Fields) (vs : List Value) → fits_flat limit ts ≡ false → (old mid new : List Request) (r : Result (Unit {0}) Fault)
    → AreToldBehind old (request (align (record_type ts)) (size (record_type ts)) ∷ []) mid → Tells (fields_requests ts vs) mid r new → Tells (params_requests limit ts vs) old r new
spilled-told limit ts vs fits old mid new (Ok done) a b =
    subst (λ rs. AreToldBehind old rs new) (sym (spilled-is limit ts vs fits)) (told-both (request (align (record_type ts)) (size (record_type ts)) ∷ []) (fields_requests ts vs) old mid new a b)
spilled-told limit ts vs fits old mid new (Err e) a b =
    stops-whole (params_requests limit ts vs) (request (align (record_type ts)) (size (record_type ts)) ∷ []) (fields_requests ts vs) [] e
    (spilled-is limit ts vs fits ∙ ap (λ l. (request (align (record_type ts)) (size (record_type ts)) ∷ []) ++ l) (sym (append-nil (fields_requests ts vs)))) b
