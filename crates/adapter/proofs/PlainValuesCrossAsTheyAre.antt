-- Core values that cross as they are: one more of them, and what they say of a half of a call.
use Rattle.std.proofs.Common.{◌≡◌, ◌+◌, ◌<◌, ◌≤◌, ◌%◌, ◌^◌, inl, ℕ, zero, suc, true, List, [], ◌∷◌, length, map, take, get_or, refl, sym, ap, ◌∙◌, subst, arith, add-one}
use Rattle.std.proofs.Math.Seq.{take-length}
use Rattle.std.proofs.lemmas.Bool.{le-leb}
use Rattle.std.proofs.lemmas.List.{length-map}
use Rattle.canonical_abi.specs.Types.{Prim, ClosedType, prim_type, string_type, list_type, record_type, variant_type, flags_type, Fields, no_field, field, FunctionType, result_fields}
use Rattle.canonical_abi.specs.Values.{Value}
use Rattle.canonical_abi.specs.Layout.{prim_kind, field_kinds, fits_flat, passed_kinds, max_flat_params, max_flat_results}
use Rattle.canonical_abi.specs.Lowering.{core_of, FieldsLower}
use Rattle.canonical_abi.specs.Flat.{FieldsLift}
use Rattle.canonical_abi.specs.Reading.{kind_of, number_of, low_bits}
use Rattle.canonical_abi.specs.Guest.{Memory, Allocation, IsLimited}
use Rattle.canonical_abi.specs.Trace.{Event, node, nodes_of, TraceLeads}
use Rattle.canonical_abi.specs.Call.{argument_flats, KindsFit}
use Rattle.canonical_abi.specs.Halves.{HasEntered, HasReturned}
use Rattle.canonical_abi.specs.declared.flat.CoreKind.{CoreKind}
use Rattle.canonical_abi.specs.declared.flat.CoreKind.TheVariants as kind
use Rattle.canonical_abi.specs.declared.flat.Flat.{Flat}
use Rattle.tables.specs.Closed.{closed_type}
use Rattle.tables.specs.declared.tables.Parameter.{Parameter}
use Rattle.tables.specs.declared.tables.Resolve.{Resolve}
use Rattle.tables.specs.declared.tables.ValType.{ValType}
use Rattle.values.specs.Members.{fields_of_types, AreAllInside}
use Rattle.values.specs.Types.{IsInside}
use Rattle.crossing.proofs.ParametersInOrder.{parameter-at, parameter-inside as inside-there}
use Rattle.adapter.specs.Plain.{IsOwn, IsOwnOf, AreOwn, PassAsTheyAre, ArePlainArguments}

-- one more
pub own-more : (r : Resolve) (i : ℕ) (types : List ValType) (flats : List Flat) (e : ValType) (d : Flat) → i < length types → i < length flats → AreOwn (fields_of_types r (take i types)) (take i flats)
    → IsOwnOf (closed_type r (get_or types i e)) (get_or flats i d) → AreOwn (fields_of_types r (take (i + 1) types)) (take (i + 1) flats)
own-more r i [] flats e d t f h is = absurd (omega arith)
own-more r i (y ∷ types) [] e d t f h is = absurd (omega arith)
own-more r zero (y ∷ types) (x ∷ flats) e d t f h is = (is, tt)
own-more r (suc i) (y ∷ types) (x ∷ flats) e d t f h is = rw add-one (h.0, rw add-one at (own-more r i types flats e d (omega arith) (omega arith) h.1 is))

-- a primitive's own core value
pub own-of : (t : ClosedType) (p : Prim) (f : Flat) → t ≡ prim_type p → IsOwn p f → IsOwnOf t f
own-of t p f is own = subst (λ u. IsOwnOf u f) (sym is) own

-- ---- what they denote, and what carries that

core-kind : (k : CoreKind) (v : Value) → kind_of (core_of k v) ≡ k
core-kind kind.I32 v = refl
core-kind kind.I64 v = refl

first-bits : (n : ℕ) (ns : List ℕ) (b : ℕ) → low_bits (n ∷ ns) 0 b ≡ n % 2 ^ b
unfolding low_bits
first-bits n ns b = refl

pub own-kinds : (ts : Fields) (flats : List Flat) → AreOwn ts flats → map kind_of flats ≡ field_kinds ts
own-kinds no_field [] h = refl
own-kinds no_field (f ∷ fs) h = absurd h
own-kinds (field t ts) [] h = absurd h
own-kinds (field (prim_type p) ts) (f ∷ fs) ((v, stands, typed, same), rest) =
    let one : kind_of f ≡ prim_kind p = ap kind_of same ∙ core-kind (prim_kind p) v in
    let others : map kind_of fs ≡ field_kinds ts = own-kinds ts fs rest in
    rw (one, others) refl
own-kinds (field string_type ts) (f ∷ fs) h = absurd h.0
own-kinds (field (list_type t) ts) (f ∷ fs) h = absurd h.0
own-kinds (field (record_type us) ts) (f ∷ fs) h = absurd h.0
own-kinds (field (variant_type cs) ts) (f ∷ fs) h = absurd h.0
own-kinds (field (flags_type n) ts) (f ∷ fs) h = absurd h.0

-- a node for each of them
abbrev pub only-nodes : List Flat → List Event
only-nodes [] = []
only-nodes (f ∷ fs) = node ∷ only-nodes fs

count-nodes : (flats : List Flat) → nodes_of (only-nodes flats) ≡ length flats
count-nodes [] = refl
count-nodes (f ∷ fs) = ap suc (count-nodes fs)

nodes-lead : (allocates : Allocation) (m : Memory) (flats : List Flat) → TraceLeads allocates m (only-nodes flats) m
nodes-lead allocates m [] = refl
nodes-lead allocates m (f ∷ fs) = (m, refl, nodes-lead allocates m fs)

-- whatever the memory, they denote values, which they carry
pub own-cross : (ts : Fields) (flats : List Flat) → AreOwn ts flats → (m : List ℕ) → (vs : List Value) × FieldsLift ts m (map number_of flats) vs × FieldsLower ts vs (only-nodes flats) flats
own-cross no_field [] h m = ([], refl, (refl, refl, refl))
own-cross no_field (f ∷ fs) h m = absurd h
own-cross (field t ts) [] h m = absurd h
own-cross (field (prim_type p) ts) (f ∷ fs) ((v, stands, typed, same), rest) m =
    let (vs, lifts, lowers) = own-cross ts fs rest m in (
      v ∷ vs,
      (v, vs, refl, rw first-bits stands, lifts),
      (v, vs, node ∷ [], only-nodes fs, f ∷ [], fs, refl, refl, refl, (typed, refl, ap (λ g. g ∷ []) same), lowers),
    )
own-cross (field string_type ts) (f ∷ fs) h m = absurd h.0
own-cross (field (list_type t) ts) (f ∷ fs) h m = absurd h.0
own-cross (field (record_type us) ts) (f ∷ fs) h m = absurd h.0
own-cross (field (variant_type cs) ts) (f ∷ fs) h m = absurd h.0
own-cross (field (flags_type n) ts) (f ∷ fs) h m = absurd h.0

-- ---- the two halves

own-fit : (ts : Fields) (flats : List Flat) (limit : ℕ) → AreOwn ts flats → length flats ≤ limit → fits_flat limit ts ≡ true
own-fit ts flats limit own few =
    let count : length flats ≡ length (field_kinds ts) = sym (length-map flats kind_of) ∙ ap length (own-kinds ts flats own) in
    le-leb (length (field_kinds ts)) limit (omega (arith, few, count))

pub own-passed : (ts : Fields) (flats : List Flat) (limit : ℕ) → AreOwn ts flats → length flats ≤ limit → map kind_of flats ≡ passed_kinds limit ts
own-passed ts flats limit own few = rw (own-fit ts flats limit own few) (own-kinds ts flats own)

-- they are of the function's kinds
pub plain-kinds : (f : FunctionType) (flats : List Flat) → PassAsTheyAre f flats → KindsFit f flats
plain-kinds f flats (goes, few, own) = rw goes (own-passed f.params flats max_flat_params own few)

-- all of them are arguments
pub all-arguments : (f : FunctionType) (flats : List Flat) → PassAsTheyAre f flats → ArePlainArguments f flats flats
all-arguments f flats (goes, few, own) =
    let passed = own-passed f.params flats max_flat_params own few in
    let count : length (passed_kinds max_flat_params f.params) ≡ length flats = sym (ap length passed) ∙ length-map flats kind_of in
    (plain-kinds f flats (goes, few, own), sym (ap (λ n. take n flats) count ∙ take-length flats), few, own)

-- those in front are
pub front-arguments : (f : FunctionType) (flats arguments : List Flat) (count : ℕ) → KindsFit f flats → arguments ≡ take count flats → length arguments ≡ count → count ≤ 16 → AreOwn f.params arguments
    → ArePlainArguments f flats arguments
front-arguments f flats arguments count kinds is counted small own =
    let few : length arguments ≤ 16 = omega (arith, counted, small) in
    let passed = own-passed f.params arguments max_flat_params own few in
    let same : length (passed_kinds max_flat_params f.params) ≡ count = sym (ap length passed) ∙ length-map arguments kind_of ∙ counted in
    (kinds, is ∙ sym (ap (λ n. take n flats) same), few, own)

-- so are all of them, where that many are passed
pub whole-front : (f : FunctionType) (flats arguments : List Flat) (count : ℕ) → arguments ≡ take count flats → count ≡ length flats → count ≤ 16
    → fits_flat max_flat_results (result_fields f.result) ≡ true → AreOwn f.params arguments → ArePlainArguments f flats arguments
whole-front f flats arguments count is counted small goes own =
    let all : arguments ≡ flats = is ∙ ap (λ n. take n flats) counted ∙ take-length flats in
    let plain : PassAsTheyAre f flats = (goes, omega (arith, counted, small), subst (AreOwn f.params) all own) in
    subst (ArePlainArguments f flats) (sym all) (all-arguments f flats plain)

pub arguments-entered : (allocates : Allocation) (f : FunctionType) (flats arguments : List Flat) (m : List ℕ) (callee : Memory) (c : ℕ) → ArePlainArguments f flats arguments → c ≡ length arguments
    → IsLimited callee → HasEntered allocates f flats m callee arguments callee c
arguments-entered allocates f flats arguments m callee c (kinds, is, few, own) counted small =
    let fits = own-fit f.params arguments max_flat_params own few in
    let passed = own-passed f.params arguments max_flat_params own few in
    let whole : argument_flats f flats ≡ arguments = sym is in
    let (vs, lifts, lowers) = own-cross f.params arguments own m in (
      vs,
      only-nodes arguments,
      record {
        kinds = kinds;
        denoted = rw whole (passed, inl (fits, lifts));
        passes = inl (fits, lowers);
        leads = nodes-lead allocates callee arguments;
        small = small;
        same_caller = refl;
        same_body = refl;
      },
      omega (arith, counted, count-nodes arguments, few),
    )

pub plain-entered : (allocates : Allocation) (f : FunctionType) (flats : List Flat) (m : List ℕ) (callee : Memory) (c : ℕ) → PassAsTheyAre f flats → c ≡ length flats → IsLimited callee
    → HasEntered allocates f flats m callee flats callee c
plain-entered allocates f flats m callee c plain counted small =
    arguments-entered allocates f flats flats m callee c (all-arguments f flats plain) counted small

pub plain-returned : (allocates : Allocation) (f : FunctionType) (flats answer : List Flat) (m : List ℕ) (caller : Memory) (c : ℕ) → AreOwn (result_fields f.result) answer → length answer ≤ 1 → c ≡ length answer → IsLimited caller
    → HasReturned allocates f flats m answer caller answer caller c
plain-returned allocates f flats answer m caller c own few counted small =
    let ts = result_fields f.result in
    let fits = own-fit ts answer max_flat_results own few in
    let (vs, lifts, lowers) = own-cross ts answer own m in (
      vs,
      only-nodes answer,
      record {
        denoted = (own-passed ts answer max_flat_results own few, inl (fits, lifts));
        area_stands = inl fits;
        passes = inl (fits, lowers);
        leads = nodes-lead allocates caller answer;
        small = small;
        same_callee = refl;
        same_body = refl;
      },
      omega (arith, counted, count-nodes answer, few),
    )

-- ---- types in a table

pub parameter-inside : (r : Resolve) (params : List Parameter) (i : ℕ) (p : Parameter) → i < length params → p ≡ get_or params i p → AreAllInside r (map (λ p. p.ty) params) → IsInside r p.ty
parameter-inside r params i p t is all = inside-there r params i p t is all

pub parameter-own : (r : Resolve) (params : List Parameter) (flats : List Flat) (i : ℕ) (p : Parameter) (d : Flat) → i < length params → length flats ≡ length params → p ≡ get_or params i p
    → AreOwn (fields_of_types r (take i (map (λ p. p.ty) params))) (take i flats) → IsOwnOf (closed_type r p.ty) (get_or flats i d) → AreOwn (fields_of_types r (take (i + 1) (map (λ p. p.ty) params))) (take (i + 1) flats)
parameter-own r params flats i p d t same is h own =
    let q : ValType → Type 0 = λ v. IsOwnOf (closed_type r v) (get_or flats i d) in
    own-more r i (map (λ p. p.ty) params) flats p.ty d (omega (arith, t, length-map params (λ p. p.ty))) (omega (arith, t, same)) h (subst q (parameter-at params i p t is) own)
