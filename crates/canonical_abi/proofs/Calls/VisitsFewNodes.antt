-- How many nodes a beginning of a script visits: at most as many for each byte of its place and of the blocks that it was granted, or for each of
-- its core values, as types are nested.
use Rattle.std.proofs.Common.{◌≡◌, ◌⊎◌, inl, inr, ℕ, zero, suc, ◌+◌, ◌*◌, ◌≤◌, max, true, false, List, [], ◌∷◌, ◌++◌, length, drop, fold, Result, Ok, Err, refl, sym, ap, ◌∙◌, subst, append-nil, length-append, arith}
use Rattle.std.specs.Int.{w32, next_multiple_of}
use Rattle.std.proofs.lemmas.Nat.{mul-le}
use Rattle.std.proofs.lemmas.Bool.{leb-true}
use Rattle.canonical_abi.specs.Types.{ClosedType, IsStandard, AreStandardFields, AreStandardCases, prim_type, string_type, list_type, record_type, variant_type, flags_type, Fields, no_field, field, Cases, no_case, plain_case, case_with, depth, fields_depth, cases_depth, FunctionType, result_fields}
use Rattle.canonical_abi.specs.Values.{Value}
use Rattle.canonical_abi.specs.Layout.{align, size, fields_size, end_from, field_extents, payload_extents, payload_place, flat_kinds, field_kinds, payload_kinds, join, fits_flat, max_flat_params, max_flat_results}
use Rattle.canonical_abi.specs.Reading.{number_at, case_number, low_bits}
use Rattle.canonical_abi.specs.Memory.{Holds}
use Rattle.canonical_abi.specs.Storing.{Stores, EachStores, FieldsStore, CaseStores}
use Rattle.canonical_abi.specs.Lowering.{Lowers, FieldsLower, CaseLowers, PassesParams, PassesResult}
use Rattle.canonical_abi.specs.Script.{StoresUntil, EachStops, FieldsStoreUntil, CaseStoresUntil, LowersUntil, FieldsLowerUntil, CaseLowersUntil, ParamsUntil, ResultUntil, ParamsScript, ResultScript}
use Rattle.canonical_abi.specs.Trace.{Grant, Event, node, grant, write, nodes_of}
use Rattle.canonical_abi.specs.Call.{Parties, CallState, Ways, exact, Enters, Returns, ArgumentsFaulty, ArgumentsFail, ResultFaulty, ResultFails, Traps, Calls, argument_flats, area_of, Returned}
use Rattle.canonical_abi.specs.Halves.{entering, returning}
use Rattle.canonical_abi.specs.Headline.{IsStandardFunction, area_size}
use Rattle.canonical_abi.specs.Guest.{Allocation}
use Rattle.canonical_abi.specs.Few.{granted_size, AreFew, AreFewNodes, IsShallowFunction, VisitsFewNodes, EntryVisitsFew, ReturnVisitsFew, HalvesVisitFew}
use Rattle.canonical_abi.specs.declared.flat.CoreKind.{CoreKind}
use Rattle.canonical_abi.specs.declared.flat.Flat.{Flat}
use Rattle.canonical_abi.specs.declared.trap.Fault.{Fault}
use Rattle.canonical_abi.specs.declared.trap.Fault.TheVariants.{Trap, NoMemory}
use Rattle.canonical_abi.specs.declared.trap.Step.{Step}
use Rattle.canonical_abi.specs.declared.trap.Step.TheVariants as step
use Rattle.canonical_abi.specs.declared.trap.TrapKind.{TrapKind}
use Rattle.canonical_abi.proofs.Layouts.AlignmentsAndSizes.{one-size, greatest-le}
use Rattle.canonical_abi.proofs.StoredValues.VisitsNodes.{visited-both}

-- each beginning of these events visits at most d nodes for each of s bytes and of those that were granted
abbrev pub IsFew : ℕ → ℕ → List Event → Type 0
IsFew d s es = (done rest : List Event) → es ≡ done ++ rest → nodes_of done ≤ d * (s + granted_size done)

-- ---- beginnings of two lists in a row

tail-of : {x y : Event} {xs ys : List Event} → x ∷ xs ≡ y ∷ ys → xs ≡ ys
tail-of e = cc

head-of : {x y : Event} {xs ys : List Event} → x ∷ xs ≡ y ∷ ys → x ≡ y
head-of e = cc

split-front : (first more done rest : List Event) → first ++ more ≡ done ++ rest
    → ((over : List Event) × (first ≡ done ++ over)) ⊎ ((behind : List Event) × (done ≡ first ++ behind) × (more ≡ behind ++ rest))
split-front [] more done rest e = inr (done, refl, e)
split-front (x ∷ first) more [] rest e = inl (x ∷ first, refl)
split-front (x ∷ first) more (y ∷ done) rest e = go (split-front first more done rest (tail-of e))
  where
    same : x ≡ y
    same = head-of e

    go : ((over : List Event) × (first ≡ done ++ over)) ⊎ ((behind : List Event) × (done ≡ first ++ behind) × (more ≡ behind ++ rest))
        → ((over : List Event) × (x ∷ first ≡ (y ∷ done) ++ over)) ⊎ ((behind : List Event) × (y ∷ done ≡ (x ∷ first) ++ behind) × (more ≡ behind ++ rest))
    go (inl (over, is)) = inl (over, rw (same, is) refl)
    go (inr (behind, is, left)) = inr (behind, rw (same, is) refl, left)

granted_size-both : (es fs : List Event) → granted_size (es ++ fs) ≡ granted_size es + granted_size fs
granted_size-both [] fs = omega arith
granted_size-both (node ∷ es) fs = granted_size-both es fs
granted_size-both (grant g ∷ es) fs = let h = granted_size-both es fs in omega (arith, h)
granted_size-both (write a bs ∷ es) fs = granted_size-both es fs

-- ---- d for each byte

pub times-both : (d x y : ℕ) → d * (x + y) ≡ d * x + d * y
times-both zero x y = omega arith
times-both (suc d) x y = let h = times-both d x y in omega (arith, h)

few-more : (d s t : ℕ) (es : List Event) → s ≤ t → IsFew d s es → IsFew d t es
few-more d s t es le few done rest e =
    let h = few done rest e in
    let more : d * (s + granted_size done) ≤ d * (t + granted_size done) = mul-le d (s + granted_size done) d (t + granted_size done) (omega arith) (omega (arith, le)) in
    omega (arith, h, more)

few-both : (d s t : ℕ) (first more : List Event) → IsFew d s first → IsFew d t more → IsFew d (s + t) (first ++ more)
few-both d s t first more p q done rest e = by (split-front first more done rest e)
  where
    by : ((over : List Event) × (first ≡ done ++ over)) ⊎ ((behind : List Event) × (done ≡ first ++ behind) × (more ≡ behind ++ rest)) → nodes_of done ≤ d * (s + t + granted_size done)
    by (inl (over, is)) =
        let h = p done over is in
        let wide : d * (s + granted_size done) ≤ d * (s + t + granted_size done) = mul-le d (s + granted_size done) d (s + t + granted_size done) (omega arith) (omega arith) in
        omega (arith, h, wide)
    by (inr (behind, is, left)) =
        let h = p first [] (sym (append-nil first)) in
        let k = q behind rest left in
        let n = visited-both first behind in
        let g = granted_size-both first behind in
        let sum = times-both d (s + granted_size first) (t + granted_size behind) in
        let all : s + granted_size first + (t + granted_size behind) ≡ s + t + (granted_size first + granted_size behind) = omega arith in
        let wide : d * (s + granted_size first + (t + granted_size behind)) ≡ d * (s + t + (granted_size first + granted_size behind)) = ap (λ x. d * x) all in
        rw (is, n, g) (omega (arith, h, k, sum, wide))

-- one node more, and one more for each byte
few-node : (d s : ℕ) (es : List Event) → 1 ≤ s → IsFew d s es → IsFew (suc d) s (node ∷ es)
few-node d s es one few [] rest e = omega arith
few-node d s es one few (x ∷ done) rest e =
    let is : node ≡ x = head-of e in
    let h = few done rest (tail-of e) in
    subst (λ y. nodes_of (y ∷ done) ≤ suc d * (s + granted_size (y ∷ done))) is (omega (arith, h, one))

few-write : (d s at : ℕ) (part : List ℕ) (es : List Event) → IsFew d s es → IsFew d s (write at part ∷ es)
few-write d s at part es few [] rest e = omega arith
few-write d s at part es few (x ∷ done) rest e =
    let is : write at part ≡ x = head-of e in
    subst (λ y. nodes_of (y ∷ done) ≤ d * (s + granted_size (y ∷ done))) is (few done rest (tail-of e))

few-grant : (d s : ℕ) (g : Grant) (es : List Event) → IsFew d (s + g.size) es → IsFew d s (grant g ∷ es)
few-grant d s g es few [] rest e = omega arith
few-grant d s g es few (x ∷ done) rest e =
    let is : grant g ≡ x = head-of e in
    let h = few done rest (tail-of e) in
    let same : s + g.size + granted_size done ≡ s + (g.size + granted_size done) = omega arith in
    let wide : d * (s + g.size + granted_size done) ≡ d * (s + (g.size + granted_size done)) = ap (λ x. d * x) same in
    subst (λ y. nodes_of (y ∷ done) ≤ d * (s + granted_size (y ∷ done))) is (omega (arith, h, wide))

few-none : (d s : ℕ) → IsFew d s []
few-none d s [] rest e = omega arith
few-none d s (x ∷ done) rest e = absurd (cc)

node-few : (d s : ℕ) (es : List Event) → 1 ≤ s → es ≡ node ∷ [] → IsFew (suc d) s es
node-few d s es one is = subst (λ l. IsFew (suc d) s l) (sym is) (few-node d s [] one (few-none d s))

-- ---- values

pub no-depth : (t : ClosedType) → depth t ≤ 0 → ⊥
no-depth (prim_type p) h = omega (arith, h)
no-depth string_type h = omega (arith, h)
no-depth (list_type t) h = omega (arith, h)
no-depth (record_type fs) h = omega (arith, h)
no-depth (variant_type cs) h = omega (arith, h)
no-depth (flags_type n) h = omega (arith, h)

sizes-le : (fs : Fields) (from : ℕ) → from + fields_size fs ≤ end_from from (field_extents fs)
sizes-le no_field from = omega arith
sizes-le (field t fs) from = let h = sizes-le fs (next_multiple_of from (align t) + size t) in omega (arith, h)

pub record-le : (fs : Fields) → fields_size fs ≤ size (record_type fs)
record-le fs = let h = sizes-le fs 0 in omega (arith, h)

-- every payload of these cases needs at most so much
abbrev PayloadsWithin : (ClosedType → ℕ) → Cases → ℕ → Type 0
PayloadsWithin need no_case s = Unit {0}
PayloadsWithin need (plain_case cs) s = PayloadsWithin need cs s
PayloadsWithin need (case_with t cs) s = (need t ≤ s) × PayloadsWithin need cs s

sizes-within : (cs : Cases) (q s : ℕ) → fold (λ n x. max n x.size) q (payload_extents cs) ≤ s → PayloadsWithin (λ t. size t) cs s
sizes-within no_case q s h = tt
sizes-within (plain_case cs) q s h = sizes-within cs q s h
sizes-within (case_with t cs) q s h =
    let first = greatest-le (max q (size t)) (payload_extents cs) in
    (omega (arith, first, h), sizes-within cs (max q (size t)) s h)

payloads-within : (cs : Cases) → PayloadsWithin (λ t. size t) cs (size (variant_type cs))
payloads-within cs = sizes-within cs 0 (size (variant_type cs)) (omega arith)

each-few : (P : ℕ → Value → List Event → Type 0) (d s : ℕ) → ((a : ℕ) (v : Value) (es : List Event) → P a v es → IsFew d s es)
    → (step a : ℕ) (vs : List Value) (es : List Event) → EachStores P step a vs es → IsFew d (length vs * s) es
each-few P d s one step a [] es e = subst (λ l. IsFew d (0 * s) l) (sym e) (few-none d (0 * s))
each-few P d s one step a (v ∷ vs) es (first, rest, is, here, there) =
    let h = few-both d s (length vs * s) first rest (one a v first here) (each-few P d s one step (a + step) vs rest there) in
    let n : s + length vs * s ≡ suc (length vs) * s = omega arith in
    subst (λ l. IsFew d (suc (length vs) * s) l) (sym is) (subst (λ k. IsFew d k (first ++ rest)) n h)

mutual
  pub stores-few : (t : ClosedType) → IsStandard t → (d : ℕ) → depth t ≤ d → (a : ℕ) (v : Value) (es : List Event) → Stores t a v es → IsFew d (size t) es
  stores-few t h zero deep a v es st = absurd (no-depth t deep)
  stores-few (prim_type p) h (suc d) deep a v es st =
      let s = size (prim_type p) in
      subst (λ l. IsFew (suc d) s l) (sym st.1) (few-node d s _ (one-size (prim_type p) h) (few-write d s _ _ [] (few-none d s)))
  stores-few (flags_type n) h (suc d) deep a v es st =
      let s = size (flags_type n) in
      subst (λ l. IsFew (suc d) s l) (sym st.3) (few-node d s _ (one-size (flags_type n) h) (few-write d s _ _ [] (few-none d s)))
  stores-few string_type h (suc d) deep a v es (text, g, is, utf8, block, made) =
      subst (λ l. IsFew (suc d) 8 l) (sym made) (few-node d 8 _ (omega arith) (few-grant d 8 g _ (few-write d (8 + g.size) _ _ _ (few-write d (8 + g.size) _ _ [] (few-none d (8 + g.size))))))
  stores-few (list_type t) h (suc d) deep a v es (vs, g, rest, is, block, made, each) =
      let inner = each-few (Stores t) d (size t) (λ b w fs k. stores-few t h d (omega (arith, deep)) b w fs k) (size t) g.at vs rest each in
      let le : length vs * size t ≤ 8 + g.size = omega (arith, block.1) in
      subst (λ l. IsFew (suc d) 8 l) (sym made) (few-node d 8 _ (omega arith) (few-grant d 8 g _ (few-write d (8 + g.size) _ _ _ (few-more d (length vs * size t) (8 + g.size) rest le inner))))
  stores-few (record_type fs) h (suc d) deep a v es (vs, rest, is, made, fields) =
      let s = size (record_type fs) in
      let inner = fields-few fs h.1 d (omega (arith, deep)) a 0 vs rest fields in
      subst (λ l. IsFew (suc d) s l) (sym made) (few-node d s rest (one-size (record_type fs) h) (few-more d (fields_size fs) s rest (record-le fs) inner))
  stores-few (variant_type cs) h (suc d) deep a v es (i, rest, made, stored) =
      let s = size (variant_type cs) in
      let within = payloads-within cs in
      let inner = case-few cs h.2 d (omega (arith, deep)) s within (a + payload_place cs) i i v rest stored in
      subst (λ l. IsFew (suc d) s l) (sym made) (few-node d s _ (one-size (variant_type cs) h) (few-write d s _ _ rest inner))

  fields-few : (fs : Fields) → AreStandardFields fs → (d : ℕ) → fields_depth fs ≤ d → (a from : ℕ) (vs : List Value) (es : List Event) → FieldsStore fs a from vs es → IsFew d (fields_size fs) es
  fields-few no_field h d deep a from vs es st = subst (λ l. IsFew d 0 l) (sym st.1) (few-none d 0)
  fields-few (field t fs) h d deep a from vs es (v, others, first, rest, is, made, here, there) =
      let place = next_multiple_of from (align t) in
      subst (λ l. IsFew d (size t + fields_size fs) l) (sym made) (few-both d (size t) (fields_size fs) first rest
      (stores-few t h.0 d (omega (arith, deep)) (a + place) v first here) (fields-few fs h.1 d (omega (arith, deep)) a (place + size t) others rest there))

  case-few : (cs : Cases) → AreStandardCases cs → (d : ℕ) → cases_depth cs ≤ d → (s : ℕ) → PayloadsWithin (λ u. size u) cs s → (a i n : ℕ) (v : Value) (es : List Event) → CaseStores cs a i n v es → IsFew d s es
  case-few no_case h d deep s within a i n v es st = absurd st
  case-few (plain_case cs) h d deep s within a i zero v es st = subst (λ l. IsFew d s l) (sym st.1) (few-none d s)
  case-few (plain_case cs) h d deep s within a i (suc n) v es st = case-few cs h d deep s within a i n v es st
  case-few (case_with t cs) h d deep s within a i zero v es (w, is, st) =
      few-more d (size t) s es within.0 (stores-few t h.0 d (omega (arith, deep)) a w es st)
  case-few (case_with t cs) h d deep s within a i (suc n) v es st = case-few cs h.1 d (omega (arith, deep)) s within.1 a i n v es st

-- ---- sources with a fault

module _ (m : List ℕ) where
  each-until-few : (t : ClosedType) (F : ℕ → ℕ → TrapKind → List Event → Type 0) (d : ℕ) → IsStandard t → depth t ≤ d → ((a at : ℕ) (k : TrapKind) (es : List Event) → F a at k es → IsFew d (size t) es)
      → (step a at n : ℕ) (k : TrapKind) (es : List Event) → EachStops (Holds t m) (Stores t) F step a at n k es → IsFew d (n * size t) es
  each-until-few t F d h deep one step a at zero k es st = absurd st
  each-until-few t F d h deep one step a at (suc n) k es (inl here) = few-more d (size t) (suc n * size t) es (omega arith) (one a at k es here)
  each-until-few t F d h deep one step a at (suc n) k es (inr (v, first, rest, is, held, here, there)) =
      let q = few-both d (size t) (n * size t) first rest (stores-few t h d deep at v first here) (each-until-few t F d h deep one step (a + step) (at + step) n k rest there) in
      let s : size t + n * size t ≡ suc n * size t = omega arith in
      subst (λ l. IsFew d (suc n * size t) l) (sym is) (subst (λ j. IsFew d j (first ++ rest)) s q)

  mutual
    pub until-few : (t : ClosedType) → IsStandard t → (d : ℕ) → depth t ≤ d → (a at : ℕ) (k : TrapKind) (es : List Event) → StoresUntil t m a at k es → IsFew d (size t) es
    until-few t h zero deep a at k es st = absurd (no-depth t deep)
    until-few (prim_type p) h (suc d) deep a at k es st = node-few d (size (prim_type p)) es (one-size (prim_type p) h) st.1
    until-few string_type h (suc d) deep a at k es st = node-few d 8 es (omega arith) st.1
    until-few (flags_type n) h (suc d) deep a at k es st = absurd st
    until-few (list_type t) h (suc d) deep a at k es (inl st) = node-few d 8 es (omega arith) st.1
    until-few (list_type t) h (suc d) deep a at k es (inr (stands, g, rest, block, made, each)) =
        let n = number_at m (a + 4) w32 in
        let inner = each-until-few t (StoresUntil t m) d h (omega (arith, deep)) (λ b c j fs u. until-few t h d (omega (arith, deep)) b c j fs u) (size t) (number_at m a w32) g.at n k rest each in
        let le : n * size t ≤ 8 + g.size = omega (arith, block.1) in
        subst (λ l. IsFew (suc d) 8 l) (sym made) (few-node d 8 _ (omega arith) (few-grant d 8 g _ (few-write d (8 + g.size) _ _ _ (few-more d (n * size t) (8 + g.size) rest le inner))))
    until-few (record_type fs) h (suc d) deep a at k es (rest, made, fields) =
        let s = size (record_type fs) in
        let inner = fields-until-few fs h.1 d (omega (arith, deep)) a at 0 k rest fields in
        subst (λ l. IsFew (suc d) s l) (sym made) (few-node d s rest (one-size (record_type fs) h) (few-more d (fields_size fs) s rest (record-le fs) inner))
    until-few (variant_type cs) h (suc d) deep a at k es st =
        let s = size (variant_type cs) in
        let within = payloads-within cs in
        case-until-few cs h.2 d (omega (arith, deep)) s (one-size (variant_type cs) h) within (a + payload_place cs) (at + payload_place cs) (case_number cs m a) at _ k es st

    fields-until-few : (fs : Fields) → AreStandardFields fs → (d : ℕ) → fields_depth fs ≤ d → (a at from : ℕ) (k : TrapKind) (es : List Event) → FieldsStoreUntil fs m a at from k es → IsFew d (fields_size fs) es
    fields-until-few no_field h d deep a at from k es st = absurd st
    fields-until-few (field t fs) h d deep a at from k es (inl here) =
        let place = next_multiple_of from (align t) in
        few-more d (size t) (size t + fields_size fs) es (omega arith) (until-few t h.0 d (omega (arith, deep)) (a + place) (at + place) k es here)
    fields-until-few (field t fs) h d deep a at from k es (inr (v, first, rest, is, held, here, there)) =
        let place = next_multiple_of from (align t) in
        subst (λ l. IsFew d (size t + fields_size fs) l) (sym is) (few-both d (size t) (fields_size fs) first rest
        (stores-few t h.0 d (omega (arith, deep)) (at + place) v first here) (fields-until-few fs h.1 d (omega (arith, deep)) a at (place + size t) k rest there))

    case-until-few : (cs : Cases) → AreStandardCases cs → (d : ℕ) → cases_depth cs ≤ d → (s : ℕ) → 1 ≤ s → PayloadsWithin (λ u. size u) cs s → (a at n to : ℕ) (part : List ℕ) (k : TrapKind) (es : List Event)
        → CaseStoresUntil cs m a at n (write to part) k es → IsFew (suc d) s es
    case-until-few no_case h d deep s one within a at n to part k es st = node-few d s es one st.1
    case-until-few (plain_case cs) h d deep s one within a at zero to part k es st = absurd st
    case-until-few (plain_case cs) h d deep s one within a at (suc n) to part k es st = case-until-few cs h d deep s one within a at n to part k es st
    case-until-few (case_with t cs) h d deep s one within a at zero to part k es (rest, is, st) =
        let inner = few-more d (size t) s rest within.0 (until-few t h.0 d (omega (arith, deep)) a at k rest st) in
        subst (λ l. IsFew (suc d) s l) (sym is) (few-node d s _ one (few-write d s to part rest inner))
    case-until-few (case_with t cs) h d deep s one within a at (suc n) to part k es st = case-until-few cs h.1 d (omega (arith, deep)) s one within.1 a at n to part k es st

-- ---- flat values

join-longer : (js ks : List CoreKind) → (length js ≤ length (join js ks)) × (length ks ≤ length (join js ks))
join-longer [] ks = (omega arith, omega arith)
join-longer (j ∷ js) [] = (omega arith, omega arith)
join-longer (j ∷ js) (k ∷ ks) = let h = join-longer js ks in (omega (arith, h.0), omega (arith, h.1))

abbrev kinds_size : ClosedType → ℕ
kinds_size t = length (flat_kinds t)

kinds-within : (cs : Cases) (s : ℕ) → length (payload_kinds cs) ≤ s → PayloadsWithin kinds_size cs s
kinds-within no_case s h = tt
kinds-within (plain_case cs) s h = kinds-within cs s h
kinds-within (case_with t cs) s h =
    let both = join-longer (flat_kinds t) (payload_kinds cs) in
    (omega (arith, both.0, h), kinds-within cs s (omega (arith, both.1, h)))

one-kind : (t : ClosedType) → IsStandard t → 1 ≤ kinds_size t
one-kind (prim_type p) h = omega arith
one-kind string_type h = omega arith
one-kind (list_type t) h = omega arith
one-kind (record_type no_field) h = absurd (omega (arith, h.0))
one-kind (record_type (field t fs)) h = let one = one-kind t h.1.0 in omega (arith, one, length-append (flat_kinds t) (field_kinds fs))
one-kind (variant_type cs) h = omega arith
one-kind (flags_type n) h = omega arith

mutual
  lowers-few : (t : ClosedType) → IsStandard t → (d : ℕ) → depth t ≤ d → (v : Value) (es : List Event) (flats : List Flat) → Lowers t v es flats → IsFew d (kinds_size t) es
  lowers-few t h zero deep v es flats st = absurd (no-depth t deep)
  lowers-few (prim_type p) h (suc d) deep v es flats st = node-few d 1 es (omega arith) st.1
  lowers-few (flags_type n) h (suc d) deep v es flats st = node-few d 1 es (omega arith) st.3
  lowers-few string_type h (suc d) deep v es flats (text, g, is, utf8, block, made, core) =
      subst (λ l. IsFew (suc d) 2 l) (sym made) (few-node d 2 _ (omega arith) (few-grant d 2 g _ (few-write d (2 + g.size) _ _ [] (few-none d (2 + g.size)))))
  lowers-few (list_type t) h (suc d) deep v es flats (vs, g, rest, is, block, made, each, core) =
      let inner = each-few (Stores t) d (size t) (λ b w fs k. stores-few t h d (omega (arith, deep)) b w fs k) (size t) g.at vs rest each in
      let le : length vs * size t ≤ 2 + g.size = omega (arith, block.1) in
      subst (λ l. IsFew (suc d) 2 l) (sym made) (few-node d 2 _ (omega arith) (few-grant d 2 g _ (few-more d (length vs * size t) (2 + g.size) rest le inner)))
  lowers-few (record_type ts) h (suc d) deep v es flats (vs, rest, is, made, fields) =
      let s = length (field_kinds ts) in
      let inner = fields-lower-few ts h.1 d (omega (arith, deep)) vs rest flats fields in
      subst (λ l. IsFew (suc d) s l) (sym made) (few-node d s rest (one-kind (record_type ts) h) inner)
  lowers-few (variant_type cs) h (suc d) deep v es flats (i, rest, payload, made, lowered, core) =
      let s = suc (length (payload_kinds cs)) in
      let inner = case-lower-few cs h.2 d (omega (arith, deep)) s (kinds-within cs s (omega arith)) i i v rest payload lowered in
      subst (λ l. IsFew (suc d) s l) (sym made) (few-node d s rest (omega arith) inner)

  fields-lower-few : (ts : Fields) → AreStandardFields ts → (d : ℕ) → fields_depth ts ≤ d → (vs : List Value) (es : List Event) (flats : List Flat) → FieldsLower ts vs es flats → IsFew d (length (field_kinds ts)) es
  fields-lower-few no_field h d deep vs es flats st = subst (λ l. IsFew d 0 l) (sym st.1) (few-none d 0)
  fields-lower-few (field t ts) h d deep vs es flats (v, others, first, rest, fs, gs, is, made, core, here, there) =
      let both = few-both d (kinds_size t) (length (field_kinds ts)) first rest (lowers-few t h.0 d (omega (arith, deep)) v first fs here) (fields-lower-few ts h.1 d (omega (arith, deep)) others rest gs there) in
      subst (λ l. IsFew d (length (flat_kinds t ++ field_kinds ts)) l) (sym made) (subst (λ n. IsFew d n (first ++ rest)) (sym (length-append (flat_kinds t) (field_kinds ts))) both)

  case-lower-few : (cs : Cases) → AreStandardCases cs → (d : ℕ) → cases_depth cs ≤ d → (s : ℕ) → PayloadsWithin kinds_size cs s → (i n : ℕ) (v : Value) (es : List Event) (flats : List Flat) → CaseLowers cs i n v es flats
      → IsFew d s es
  case-lower-few no_case h d deep s within i n v es flats st = absurd st
  case-lower-few (plain_case cs) h d deep s within i zero v es flats st = subst (λ l. IsFew d s l) (sym st.1) (few-none d s)
  case-lower-few (plain_case cs) h d deep s within i (suc n) v es flats st = case-lower-few cs h d deep s within i n v es flats st
  case-lower-few (case_with t cs) h d deep s within i zero v es flats (w, is, st) = few-more d (kinds_size t) s es within.0 (lowers-few t h.0 d (omega (arith, deep)) w es flats st)
  case-lower-few (case_with t cs) h d deep s within i (suc n) v es flats st = case-lower-few cs h.1 d (omega (arith, deep)) s within.1 i n v es flats st

module _ (m : List ℕ) where
  mutual
    lowers-until-few : (t : ClosedType) → IsStandard t → (d : ℕ) → depth t ≤ d → (ns : List ℕ) (k : TrapKind) (es : List Event) → LowersUntil t m ns k es → IsFew d (kinds_size t) es
    lowers-until-few t h zero deep ns k es st = absurd (no-depth t deep)
    lowers-until-few (prim_type p) h (suc d) deep ns k es st = node-few d 1 es (omega arith) st.1
    lowers-until-few string_type h (suc d) deep ns k es st = node-few d 2 es (omega arith) st.1
    lowers-until-few (flags_type n) h (suc d) deep ns k es st = absurd st
    lowers-until-few (list_type t) h (suc d) deep ns k es (inl st) = node-few d 2 es (omega arith) st.1
    lowers-until-few (list_type t) h (suc d) deep ns k es (inr (stands, g, rest, block, made, each)) =
        let n = low_bits ns 1 32 in
        let inner = each-until-few m t (StoresUntil t m) d h (omega (arith, deep)) (λ b c j fs u. until-few m t h d (omega (arith, deep)) b c j fs u) (size t) (low_bits ns 0 32) g.at n k rest each in
        let le : n * size t ≤ 2 + g.size = omega (arith, block.1) in
        subst (λ l. IsFew (suc d) 2 l) (sym made) (few-node d 2 _ (omega arith) (few-grant d 2 g _ (few-more d (n * size t) (2 + g.size) rest le inner)))
    lowers-until-few (record_type ts) h (suc d) deep ns k es (rest, made, fields) =
        let s = length (field_kinds ts) in
        let inner = fields-lower-until-few ts h.1 d (omega (arith, deep)) ns k rest fields in
        subst (λ l. IsFew (suc d) s l) (sym made) (few-node d s rest (one-kind (record_type ts) h) inner)
    lowers-until-few (variant_type cs) h (suc d) deep ns k es (rest, made, st) =
        let s = suc (length (payload_kinds cs)) in
        let inner = case-lower-until-few cs h.2 d (omega (arith, deep)) s (kinds-within cs s (omega arith)) (drop 1 ns) (low_bits ns 0 32) k rest st in
        subst (λ l. IsFew (suc d) s l) (sym made) (few-node d s rest (omega arith) inner)

    fields-lower-until-few : (ts : Fields) → AreStandardFields ts → (d : ℕ) → fields_depth ts ≤ d → (ns : List ℕ) (k : TrapKind) (es : List Event) → FieldsLowerUntil ts m ns k es → IsFew d (length (field_kinds ts)) es
    fields-lower-until-few no_field h d deep ns k es st = absurd st
    fields-lower-until-few (field t ts) h d deep ns k es (inl here) =
        few-more d (kinds_size t) (length (flat_kinds t ++ field_kinds ts)) es (omega (arith, length-append (flat_kinds t) (field_kinds ts))) (lowers-until-few t h.0 d (omega (arith, deep)) ns k es here)
    fields-lower-until-few (field t ts) h d deep ns k es (inr (v, first, rest, is, held, (flats, here), there)) =
        let both = few-both d (kinds_size t) (length (field_kinds ts)) first rest (lowers-few t h.0 d (omega (arith, deep)) v first flats here)
        (fields-lower-until-few ts h.1 d (omega (arith, deep)) (drop (length (flat_kinds t)) ns) k rest there) in
        subst (λ l. IsFew d (length (flat_kinds t ++ field_kinds ts)) l) (sym is) (subst (λ n. IsFew d n (first ++ rest)) (sym (length-append (flat_kinds t) (field_kinds ts))) both)

    case-lower-until-few : (cs : Cases) → AreStandardCases cs → (d : ℕ) → cases_depth cs ≤ d → (s : ℕ) → PayloadsWithin kinds_size cs s → (ns : List ℕ) (n : ℕ) (k : TrapKind) (es : List Event) → CaseLowersUntil cs m ns n k es
        → IsFew d s es
    case-lower-until-few no_case h d deep s within ns n k es st = subst (λ l. IsFew d s l) (sym st.1) (few-none d s)
    case-lower-until-few (plain_case cs) h d deep s within ns zero k es st = absurd st
    case-lower-until-few (plain_case cs) h d deep s within ns (suc n) k es st = case-lower-until-few cs h d deep s within ns n k es st
    case-lower-until-few (case_with t cs) h d deep s within ns zero k es st = few-more d (kinds_size t) s es within.0 (lowers-until-few t h.0 d (omega (arith, deep)) ns k es st)
    case-lower-until-few (case_with t cs) h d deep s within ns (suc n) k es st = case-lower-until-few cs h.1 d (omega (arith, deep)) s within.1 ns n k es st

-- ---- whole ways

fits-length : (limit : ℕ) (ts : Fields) → fits_flat limit ts ≡ true → length (field_kinds ts) ≤ limit
fits-length limit ts h = leb-true (length (field_kinds ts)) limit h

module _ (ts : Fields) (standard : AreStandardFields ts) (shallow : fields_depth ts ≤ 64) where
  spilled-few : (g : Grant) (rest es : List Event) → g.size ≡ size (record_type ts) → es ≡ grant g ∷ rest → IsFew 64 (fields_size ts) rest → IsFew 64 16 es
  spilled-few g rest es block made inner =
      subst (λ l. IsFew 64 16 l) (sym made) (few-grant 64 16 g rest (few-more 64 (fields_size ts) (16 + g.size) rest (let le = record-le ts in omega (arith, le, block)) inner))

  params-few : (vs : List Value) (es : List Event) (flats : List Flat) → PassesParams max_flat_params ts vs es flats → IsFew 64 16 es
  params-few vs es flats (inl (fits, lowered)) = few-more 64 (length (field_kinds ts)) 16 es (fits-length 16 ts fits) (fields-lower-few ts standard 64 shallow vs es flats lowered)
  params-few vs es flats (inr (spilled, (g, rest, block, made, stored, core))) = spilled-few g rest es block.1 made (fields-few ts standard 64 shallow g.at 0 vs rest stored)

  params-until-few : (m : List ℕ) (flats : List Flat) (k : TrapKind) (es : List Event) → ParamsUntil max_flat_params ts m flats k es → IsFew 64 16 es
  params-until-few m flats k es (stands, inl (fits, stops)) = few-more 64 (length (field_kinds ts)) 16 es (fits-length 16 ts fits) (fields-lower-until-few m ts standard 64 shallow _ k es stops)
  params-until-few m flats k es (stands, inr (spilled, g, rest, block, made, stops)) = spilled-few g rest es block.1 made (fields-until-few m ts standard 64 shallow _ g.at 0 k rest stops)

  params-script-few : (m : List ℕ) (flats : List Flat) (es : List Event) → ParamsScript max_flat_params ts m flats es → IsFew 64 16 es
  params-script-few m flats es (inl (vs, handed, denoted, passes)) = params-few vs es handed passes
  params-script-few m flats es (inr (k, stops)) = params-until-few m flats k es stops

  module _ (room : ℕ) (fit : fits_flat max_flat_results ts ≡ false → size (record_type ts) ≤ room) where
    result-flat-few : (es : List Event) → fits_flat max_flat_results ts ≡ true → IsFew 64 (length (field_kinds ts)) es → IsFew 64 (room + 16) es
    result-flat-few es fits h = few-more 64 (length (field_kinds ts)) (room + 16) es (let le = fits-length 1 ts fits in omega (arith, le)) h

    result-spilled-few : (es : List Event) → fits_flat max_flat_results ts ≡ false → IsFew 64 (fields_size ts) es → IsFew 64 (room + 16) es
    result-spilled-few es spilled h = few-more 64 (fields_size ts) (room + 16) es (let le = record-le ts in let fits = fit spilled in omega (arith, le, fits)) h

    result-few : (area : ℕ) (vs : List Value) (es : List Event) (flats : List Flat) → PassesResult max_flat_results ts area vs es flats → IsFew 64 (room + 16) es
    result-few area vs es flats (inl (fits, lowered)) = result-flat-few es fits (fields-lower-few ts standard 64 shallow vs es flats lowered)
    result-few area vs es flats (inr (spilled, stored, core)) = result-spilled-few es spilled (fields-few ts standard 64 shallow area 0 vs es stored)

    result-until-few : (m : List ℕ) (flats : List Flat) (area : ℕ) (k : TrapKind) (es : List Event) → ResultUntil max_flat_results ts m flats area k es → IsFew 64 (room + 16) es
    result-until-few m flats area k es (stands, inl (fits, stops)) = result-flat-few es fits (fields-lower-until-few m ts standard 64 shallow _ k es stops)
    result-until-few m flats area k es (stands, inr (spilled, stops)) = result-spilled-few es spilled (fields-until-few m ts standard 64 shallow _ area 0 k es stops)

    result-script-few : (m : List ℕ) (flats : List Flat) (area : ℕ) (es : List Event) → ResultScript max_flat_results ts m flats area es → IsFew 64 (room + 16) es
    result-script-few m flats area es (inl (vs, back, denoted, passes)) = result-few area vs es back passes
    result-script-few m flats area es (inr (k, stops)) = result-until-few m flats area k es stops

-- ---- calls

module _ (parties : Parties) (f : FunctionType) (flats : List Flat) (standard : IsStandardFunction f) (shallow : IsShallowFunction f) where
  abbrev ThereFew : List Event → Type 0
  ThereFew es = nodes_of es ≤ 64 * (granted_size es + 16)

  abbrev BackFew : List Event → Type 0
  BackFew es = nodes_of es ≤ 64 * (granted_size es + area_size f + 16)

  there-few : (done rest es : List Event) → IsFew 64 16 es → es ≡ done ++ rest → ThereFew done
  there-few done rest es few e = let h = few done rest e in omega (arith, h)

  back-few : (done rest es : List Event) → IsFew 64 (area_size f + 16) es → es ≡ done ++ rest → BackFew done
  back-few done rest es few e = let h = few done rest e in omega (arith, h)

  -- no event at all
  none-there : (done : List Event) → done ≡ [] → ThereFew done
  none-there done is = subst ThereFew (sym is) (omega arith)

  none-back : (done : List Event) → done ≡ [] → BackFew done
  none-back done is = subst BackFew (sym is) (omega arith)

  all-there : (vs : List Value) (es : List Event) (handed : List Flat) → PassesParams max_flat_params f.params vs es handed → ThereFew es
  all-there vs es handed passes = there-few es [] es (params-few f.params standard.params shallow.params vs es handed passes) (sym (append-nil es))

  area-fits : fits_flat max_flat_results (result_fields f.result) ≡ false → size (record_type (result_fields f.result)) ≤ area_size f
  area-fits spilled = rw spilled (omega arith)

  all-back : (vs : List Value) (es : List Event) (given : List Flat) → PassesResult max_flat_results (result_fields f.result) (area_of f flats) vs es given → BackFew es
  all-back vs es given passes =
      back-few es [] es (result-few (result_fields f.result) standard.result shallow.result (area_size f) area-fits (area_of f flats) vs es given passes) (sym (append-nil es))

  arguments-faulty : (old : CallState) (k : TrapKind) (done : List Event) (new : CallState) → ArgumentsFaulty parties exact f flats old k done new → ThereFew done
  arguments-faulty old k done new (inl (other, is, none, same)) = none-there done none
  arguments-faulty old k done new (inr (inl (kinds, faulty, none, same))) = none-there done none
  arguments-faulty old k done new (inr (inr (kinds, es, until, is, begun, caller, body))) =
      there-few done [] es (params-until-few f.params standard.params shallow.params old.caller.bytes (argument_flats f flats) k es until) (sym is ∙ sym (append-nil done))

  arguments-fail : (old : CallState) (k : TrapKind) (done : List Event) (new : CallState) → ArgumentsFail parties exact f flats old k done new → ThereFew done
  arguments-fail old k done new (kinds, es, script, (front, made, rest, next, asked, is, left, leads, fails), same, caller, body) =
      there-few done (grant next ∷ rest) es (params-script-few f.params standard.params shallow.params old.caller.bytes (argument_flats f flats) es script) (is ∙ ap (λ l. l ++ grant next ∷ rest) (sym same))

  result-faulty : (answered : CallState) (answer : List Flat) (k : TrapKind) (done : List Event) (new : CallState) → ResultFaulty parties exact f flats answered answer k done new → BackFew done
  result-faulty answered answer k done new (inl (faulty, none, same)) = none-back done none
  result-faulty answered answer k done new (inr (tested, es, until, is, begun, callee, body)) =
      back-few done [] es (result-until-few (result_fields f.result) standard.result shallow.result (area_size f) area-fits answered.callee.bytes answer (area_of f flats) k es until) (sym is ∙ sym (append-nil done))

  result-fails : (answered : CallState) (answer : List Flat) (k : TrapKind) (done : List Event) (new : CallState) → ResultFails parties exact f flats answered answer k done new → BackFew done
  result-fails answered answer k done new (inl (tested, faulty, none, same)) = none-back done none
  result-fails answered answer k done new (inr (stands, es, script, (front, made, rest, next, asked, is, left, leads, fails), same, callee, body)) =
      back-few done (grant next ∷ rest) es (result-script-few (result_fields f.result) standard.result shallow.result (area_size f) area-fits answered.callee.bytes answer (area_of f flats) es script)
      (is ∙ ap (λ l. l ++ grant next ∷ rest) (sym same))

  returned : (old : CallState) (answer given : List Flat) (ways : Ways) (new : CallState) → Returned parties f flats old answer given ways new → AreFewNodes f ways
  returned old answer given ways new r =
      let e = r.answers.enters in
      record { there = all-there r.answers.values ways.there r.answers.handed e.passes; back = all-back r.values ways.back given r.returns.passes }

  traps : (old : CallState) (s : Step) (k : TrapKind) (ways : Ways) (new : CallState) → Traps parties exact f flats old s k ways new → AreFewNodes f ways
  traps old step.Place k ways new t = absurd t
  traps old step.Take k ways new t = absurd t
  traps old step.LiftArgs k ways new (faulty, none) = record { there = arguments-faulty old k ways.there new faulty; back = none-back ways.back none }
  traps old step.LowerArgs k ways new (fails, none) = record { there = arguments-fail old k ways.there new fails; back = none-back ways.back none }
  traps old step.Body k ways new (values, handed, entered, is, enters, runs, none) = record { there = all-there values ways.there handed enters.passes; back = none-back ways.back none }
  traps old step.LiftResult k ways new (answer, answered, a, faulty) =
      record { there = all-there a.values ways.there a.handed a.enters.passes; back = result-faulty answered answer k ways.back new faulty }
  traps old step.LowerResult k ways new (answer, answered, a, fails) =
      record { there = all-there a.values ways.there a.handed a.enters.passes; back = result-fails answered answer k ways.back new fails }
  traps old step.Post k ways new (answer, given, last, is, r, finishes) = returned old answer given ways last r

  calls : (old : CallState) (result : Result (List Flat) Fault) (ways : Ways) (new : CallState) → Calls parties exact f flats old result ways new → AreFewNodes f ways
  calls old (Ok given) ways new c = returned old c.answer given ways c.returned c.returns
  calls old (Err (Trap t)) ways new c = traps old t.step t.kind ways new c
  calls old (Err NoMemory) ways new c = absurd c

pub visits-few-nodes : (parties : Parties) → VisitsFewNodes parties
visits-few-nodes parties = λ f flats old result ways new standard shallow c. calls parties f flats standard shallow old result ways new c

-- ---- halves

module _ (allocates : Allocation) (f : FunctionType) (flats : List Flat) (standard : IsStandardFunction f) (shallow : IsShallowFunction f) (old new : CallState) where
  few-there : (es : List Event) → ThereFew (entering allocates) f flats standard shallow es → AreFew 0 es
  few-there es few = let h : nodes_of es ≤ 64 * (granted_size es + 16) = few in omega (arith, h)

  entry : EntryVisitsFew allocates f flats old new
  entry = record {
    entered = λ values handed there e. few-there there (all-there (entering allocates) f flats standard shallow values there handed e.passes);
    faulty = λ k done e. few-there done (arguments-faulty (entering allocates) f flats standard shallow old k done new e);
    failed = λ k done e. few-there done (arguments-fail (entering allocates) f flats standard shallow old k done new e);
  }

  return : ReturnVisitsFew allocates f flats old new
  return = record {
    returned = λ answer values given back r. all-back (returning allocates) f flats standard shallow values back given r.passes;
    faulty = λ answer k done r. result-faulty (returning allocates) f flats standard shallow old answer k done new r;
    failed = λ answer k done r. result-fails (returning allocates) f flats standard shallow old answer k done new r;
  }

pub halves-visit-few : (allocates : Allocation) → HalvesVisitFew allocates
halves-visit-few allocates = λ f flats old new standard shallow. (entry allocates f flats standard shallow old new, return allocates f flats standard shallow old new)
