-- Core values that carry their values alone: one after another, and what they say of a half of a call.
use Rattle.std.proofs.Common.{◌≡◌, ◌+◌, ◌-◌, ◌<◌, ◌≤◌, ◌%◌, ◌^◌, inl, ℕ, zero, suc, true, List, [], ◌∷◌, ◌++◌, length, map, take, drop, get_or, replicate, Option, Some, None, IfSome, refl, sym, ap, ◌∙◌, subst, append_assoc, append-nil, zero-add, arith}
use Rattle.std.proofs.Math.Nat.{mod-lt}
use Rattle.std.proofs.Math.Seq.{take-length, take-add}
use Rattle.std.proofs.lemmas.Bool.{le-leb, leb-true}
use Rattle.std.proofs.lemmas.Nat.{pow_pos}
use Rattle.std.proofs.lemmas.List.{length-map, length-take, replicate-append-replicate}
use Rattle.canonical_abi.specs.Types.{Prim, ClosedType, prim_type, record_type, variant_type, variant_cases, flags_type, Fields, no_field, field, field_count, nth_field, nth_case, FunctionType, result_fields, AreStandardFields}
use Rattle.canonical_abi.specs.Values.{values_of, record_value, plain_value, flags_value}
use Rattle.canonical_abi.specs.Layout.{field_kinds, payload_kinds, fits_flat, passed_kinds, max_flat_params, max_flat_results}
use Rattle.canonical_abi.specs.Lowering.{joined_flats}
use Rattle.canonical_abi.specs.Flat.{FieldsLift}
use Rattle.canonical_abi.specs.Reading.{kind_of, number_of}
use Rattle.canonical_abi.specs.Guest.{Memory, Allocation, IsLimited}
use Rattle.canonical_abi.specs.Stands.{Carries}
use Rattle.canonical_abi.specs.Trace.{node, nodes_of, TraceLeads}
use Rattle.canonical_abi.specs.Call.{argument_flats, KindsFit}
use Rattle.canonical_abi.specs.Halves.{HasEntered}
use Rattle.canonical_abi.specs.declared.flat.CoreKind.{CoreKind}
use Rattle.canonical_abi.specs.declared.flat.Flat.{Flat}
use Rattle.canonical_abi.specs.declared.flat.Flat.TheVariants.{I32}
use Rattle.canonical_abi.proofs.FlatValues.LoweredValuesLift.{fields-lower-kinds, fields-lift}
use Rattle.lift_lower.proofs.LiftingStepByStep.{drop-more}
use Rattle.lift_lower.proofs.LoweredFromParts.{plain-lowered}
use Rattle.values.proofs.FieldsFromAPlace.{fields_from, fields-next, fields-last}
use Rattle.adapter.specs.Plain.{IsOwn, CarriesAlone, CarryAlone, GrewBy, CarriesBetween, CarryBetween, AreNestedArguments}

-- ---- one node

pub own-alone : (p : Prim) (f : Flat) → IsOwn p f → CarriesAlone (prim_type p) (f ∷ []) 1
own-alone p f (v, stands, typed, same) = (v, (typed, refl, ap (λ g. g ∷ []) same))

-- flags without a bit behind their labels
pub flags-alone : (n bits : ℕ) (f : Flat) → f ≡ I32 bits → bits % 2 ^ n ≡ bits → CarriesAlone (flags_type n) (f ∷ []) 1
flags-alone n bits f is low = (flags_value bits, (bits, refl, subst (λ k. k < 2 ^ n) low (mod-lt bits (pow_pos n)), refl, ap (λ g. g ∷ []) is))

no-kinds : (ks : List CoreKind) → length (ks ++ []) ≤ 0 → ks ≡ []
no-kinds [] h = refl
no-kinds (k ∷ ks) h = absurd (omega (arith, h))

-- a case of a variant that is carried by its number alone
pub case-alone : (t : ClosedType) (i : ℕ) (f : Flat) → variant_type (variant_cases t) ≡ t → f ≡ I32 i → fits_flat 1 (field t no_field) ≡ true → nth_case (variant_cases t) i ≡ Some None
    → CarriesAlone t (f ∷ []) 1
case-alone t i f same is fits found =
    let cs = variant_cases t in
    let one : fits_flat 1 (field (variant_type cs) no_field) ≡ true = subst (λ u. fits_flat 1 (field u no_field) ≡ true) (sym same) fits in
    let none : payload_kinds cs ≡ [] = no-kinds (payload_kinds cs) (omega (arith, leb-true _ _ one)) in
    let carried : f ∷ [] ≡ I32 i ∷ joined_flats (payload_kinds cs) [] = ap (λ g. g ∷ []) is ∙ ap (λ ks. I32 i ∷ joined_flats ks []) (sym none) in
    subst (λ u. CarriesAlone u (f ∷ []) 1) same (plain_value i, (i, [], [], refl, plain-lowered cs i i found, carried))

one-at : (flats : List Flat) (i : ℕ) (d : Flat) → i < length flats → take 1 (drop i flats) ≡ get_or flats i d ∷ []
one-at [] i d h = absurd (omega arith)
one-at (f ∷ flats) zero d h = refl
one-at (f ∷ flats) (suc i) d h = one-at flats i d (omega arith)

-- the core value at a place
pub one-between : (t : ClosedType) (flats : List Flat) (from : ℕ) (d : Flat) (old new : ℕ) → from < length flats → CarriesAlone t (get_or flats from d ∷ []) 1 → GrewBy 1 old new
    → CarriesBetween t flats from (from + 1) old new
one-between t flats from d old new inside alone grew =
    let count : (from + 1) - from ≡ 1 = omega arith in
    (omega arith, omega (arith, inside), 1, subst (λ l. CarriesAlone t l 1) (sym (ap (λ k. take k (drop from flats)) count ∙ one-at flats from d inside)) alone, grew)

-- ---- records

-- a record is one node more than its fields
record-between : (ts : Fields) (flats : List Flat) (from end old mid new : ℕ) → GrewBy 1 old mid → CarryBetween ts flats from end mid new → CarriesBetween (record_type ts) flats from end old new
record-between ts flats from end old mid new first (order, within, n, (vs, lowers), grew) =
    (order, within, suc n, (record_value (values_of vs), (vs, replicate n node, refl, refl, lowers)), omega (arith, first, grew))

pub if-record : (ts : Fields) (flats : List Flat) (from old mid new : ℕ) (r : Option ℕ) → GrewBy 1 old mid → IfSome r (λ end. CarryBetween ts flats from end mid new)
    → IfSome r (λ end. CarriesBetween (record_type ts) flats from end old new)
if-record ts flats from old mid new None first carried = tt
if-record ts flats from old mid new (Some end) first carried = record-between ts flats from end old mid new first carried

alone-next : (t : ClosedType) (ts : Fields) (fs gs : List Flat) (n k : ℕ) → CarriesAlone t fs n → CarryAlone ts gs k → CarryAlone (field t ts) (fs ++ gs) (n + k)
alone-next t ts fs gs n k (v, first) (vs, others) =
    (v ∷ vs, (v, vs, replicate n node, replicate k node, fs, gs, refl, sym (replicate-append-replicate n k node), refl, first, others))

-- the fields before place i are carried, whatever carries the others behind them
abbrev pub AreBegun : Fields → List Flat → ℕ → ℕ → ℕ → ℕ → ℕ → Type 0
AreBegun ts flats i from end old new =
    (from ≤ end) × (end ≤ length flats) × (n : ℕ)
    × ((more : List Flat) (k : ℕ) → CarryAlone (fields_from i ts) more k → CarryAlone ts (take (end - from) (drop from flats) ++ more) (n + k)) × GrewBy n old new

pub begun : (ts : Fields) (flats : List Flat) (from old : ℕ) → from ≤ length flats → AreBegun ts flats 0 from from old old
begun ts flats from old within =
    let none : take (from - from) (drop from flats) ≡ [] = ap (λ k. take k (drop from flats)) (let z : from - from ≡ 0 = omega arith in z) in
    (omega arith, within, 0, (λ more k rest. subst (λ l. CarryAlone ts (l ++ more) (0 + k)) (sym none) (subst (CarryAlone ts more) (sym (zero-add k)) rest)), omega arith)

seam : (flats : List Flat) (from mid end : ℕ) → from ≤ mid → mid ≤ end → take (end - from) (drop from flats) ≡ take (mid - from) (drop from flats) ++ take (end - mid) (drop mid flats)
seam flats from mid end a b =
    let parts : end - from ≡ (mid - from) + (end - mid) = omega (arith, a, b) in
    let place : from + (mid - from) ≡ mid = omega (arith, a) in
    ap (λ k. take k (drop from flats)) parts ∙ take-add (mid - from) (end - mid) (drop from flats)
    ∙ ap (λ l. take (mid - from) (drop from flats) ++ take (end - mid) l) (drop-more from (mid - from) flats ∙ ap (λ k. drop k flats) place)

pub begun-next : (ts : Fields) (flats : List Flat) (i : ℕ) (t : ClosedType) (from mid end old between new : ℕ) → nth_field ts i ≡ Some t → AreBegun ts flats i from mid old between
    → CarriesBetween t flats mid end between new → AreBegun ts flats (i + 1) from end old new
begun-next ts flats i t from mid end old between new found (a, b, n, whole, grew) (c, d, k, one, more-grew) =
    (omega (arith, a, c), d, n + k, go, omega (arith, grew, more-grew))
  where
    go : (more : List Flat) (j : ℕ) → CarryAlone (fields_from (i + 1) ts) more j → CarryAlone ts (take (end - from) (drop from flats) ++ more) ((n + k) + j)
    go more j rest =
        let here = take (end - mid) (drop mid flats) in
        let step : CarryAlone (fields_from i ts) (here ++ more) (k + j) =
        subst (λ us. CarryAlone us (here ++ more) (k + j)) (sym (fields-next ts i t found)) (alone-next t (fields_from (i + 1) ts) here more k j one rest) in
        let all = whole (here ++ more) (k + j) step in
        let listed : take (mid - from) (drop from flats) ++ (here ++ more) ≡ take (end - from) (drop from flats) ++ more =
        sym (append_assoc (take (mid - from) (drop from flats)) here more) ∙ ap (λ l. l ++ more) (sym (seam flats from mid end a c)) in
        let count : n + (k + j) ≡ (n + k) + j = omega arith in
        subst (CarryAlone ts (take (end - from) (drop from flats) ++ more)) count (subst (λ l. CarryAlone ts l (n + (k + j))) listed all)

pub begun-done : (ts : Fields) (flats : List Flat) (i from end old new : ℕ) → field_count ts ≡ i → AreBegun ts flats i from end old new → CarryBetween ts flats from end old new
begun-done ts flats i from end old new count (a, b, n, whole, grew) =
    let none : CarryAlone (fields_from i ts) [] 0 = subst (λ us. CarryAlone us [] 0) (sym (fields-last ts i count)) ([], (refl, refl, refl)) in
    let all = whole [] 0 none in
    let same : n + 0 ≡ n = omega arith in
    (a, b, n, subst (λ l. CarryAlone ts l n) (append-nil (take (end - from) (drop from flats))) (subst (CarryAlone ts (take (end - from) (drop from flats) ++ [])) same all), grew)

-- ---- a call's arguments

alone-kinds : (ts : Fields) (flats : List Flat) (n : ℕ) → CarryAlone ts flats n → map kind_of flats ≡ field_kinds ts
alone-kinds ts flats n (vs, lowers) = fields-lower-kinds ts vs (replicate n node) flats lowers

alone-fit : (ts : Fields) (flats : List Flat) (n limit : ℕ) → CarryAlone ts flats n → length flats ≤ limit → fits_flat limit ts ≡ true
alone-fit ts flats n limit alone few =
    let count : length flats ≡ length (field_kinds ts) = sym (length-map flats kind_of) ∙ ap length (alone-kinds ts flats n alone) in
    le-leb (length (field_kinds ts)) limit (omega (arith, few, count))

alone-passed : (ts : Fields) (flats : List Flat) (n limit : ℕ) → CarryAlone ts flats n → length flats ≤ limit → map kind_of flats ≡ passed_kinds limit ts
alone-passed ts flats n limit alone few = rw (alone-fit ts flats n limit alone few) (alone-kinds ts flats n alone)

from-first : (ts : Fields) (flats : List Flat) (end n : ℕ) → CarryAlone ts (take (end - 0) (drop 0 flats)) n → CarryAlone ts (take end flats) n
from-first ts flats end n alone = subst (λ k. CarryAlone ts (take k flats) n) (let z : end - 0 ≡ end = omega arith in z) alone

-- those in front, where the call's are of the function's kinds
pub front-nested : (f : FunctionType) (flats : List Flat) (end c : ℕ) → CarryBetween f.params flats 0 end 0 c → KindsFit f flats → end ≤ 16 → c < 2 ^ 64 → AreNestedArguments f flats c (take end flats)
front-nested f flats end c (order, within, n, between, grew) kinds small counted =
    let alone = from-first f.params flats end n between in
    let long : length (take end flats) ≡ end = omega (arith, within, length-take end flats) in
    let few : length (take end flats) ≤ 16 = omega (arith, long, small) in
    let passed = alone-passed f.params (take end flats) n max_flat_params alone few in
    let same : length (passed_kinds max_flat_params f.params) ≡ end = sym (ap length passed) ∙ length-map (take end flats) kind_of ∙ long in
    (kinds, sym (ap (λ k. take k flats) same), few, n, alone, omega (arith, grew, counted))

-- all of them, where the result goes flat
pub whole-nested : (f : FunctionType) (flats : List Flat) (end c : ℕ) → CarryBetween f.params flats 0 end 0 c → end ≡ length flats → fits_flat max_flat_results (result_fields f.result) ≡ true → end ≤ 16 → c < 2 ^ 64
    → AreNestedArguments f flats c (take end flats)
whole-nested f flats end c carried all goes small counted =
    front-nested f flats end c carried (rw goes kinds) small counted
  where
    alone : CarryAlone f.params flats carried.2
    alone = subst (λ l. CarryAlone f.params l carried.2) (ap (λ k. take k flats) all ∙ take-length flats) (from-first f.params flats end carried.2 carried.3)

    kinds : map kind_of flats ≡ passed_kinds max_flat_params f.params
    kinds = alone-passed f.params flats carried.2 max_flat_params alone (omega (arith, all, small))

-- ---- the first half

count-nodes : (n : ℕ) → nodes_of (replicate n node) ≡ n
count-nodes zero = refl
count-nodes (suc n) = ap suc (count-nodes n)

nodes-lead : (allocates : Allocation) (m : Memory) (n : ℕ) → TraceLeads allocates m (replicate n node) m
nodes-lead allocates m zero = refl
nodes-lead allocates m (suc n) = (m, refl, nodes-lead allocates m n)

nodes-carry : (m : List ℕ) (n : ℕ) → Carries m (replicate n node)
nodes-carry m zero = tt
nodes-carry m (suc n) = nodes-carry m n

pub nested-entered : (allocates : Allocation) (f : FunctionType) (flats arguments : List Flat) (m : List ℕ) (callee : Memory) (c : ℕ) → AreNestedArguments f flats c arguments → AreStandardFields f.params
    → length m < 2 ^ 32 → IsLimited callee → HasEntered allocates f flats m callee arguments callee c
nested-entered allocates f flats arguments m callee c (kinds, is, few, n, (vs, lowers), counted) standard short small =
    let fits = alone-fit f.params arguments n max_flat_params (vs, lowers) few in
    let passed = alone-passed f.params arguments n max_flat_params (vs, lowers) few in
    let whole : argument_flats f flats ≡ arguments = sym is in
    let lifts : FieldsLift f.params m (map number_of arguments) vs =
    subst (λ ns. FieldsLift f.params m ns vs) (append-nil (map number_of arguments)) (fields-lift m short f.params standard vs (replicate n node) arguments [] lowers (nodes-carry m n)) in (
      vs,
      replicate n node,
      record {
        kinds = kinds;
        denoted = rw whole (passed, inl (fits, lifts));
        passes = inl (fits, lowers);
        leads = nodes-lead allocates callee n;
        small = small;
        same_caller = refl;
        same_body = refl;
      },
      omega (arith, counted, count-nodes n),
    )
