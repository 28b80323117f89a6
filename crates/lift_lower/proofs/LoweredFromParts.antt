-- How the core values of a value, and what stands in memory for it, are made of those of its parts.
use Rattle.std.proofs.Common.{◌≡◌, ℕ, zero, suc, ◌+◌, ◌-◌, ◌*◌, ◌^◌, ◌<◌, ◌≤◌, true, List, [], ◌∷◌, ◌++◌, length, take, drop, get_or, Some, None, refl, sym, ap, ◌∙◌, subst, append_assoc, append-nil, arith}
use Rattle.std.proofs.lemmas.List.{length-map, length-append, take_all}
use Rattle.std.specs.List.{AllByRecursion}
use Rattle.std.specs.Str.{is_utf8}
use Rattle.std.proofs.lemmas.Option.{same_Some}
use Rattle.canonical_abi.specs.Guest.{Memory, Allocation}
use Rattle.canonical_abi.specs.Types.{Prim, ClosedType, prim_type, string_type, list_type, record_type, variant_type, flags_type, Fields, Cases, no_case, plain_case, case_with, nth_field, nth_case, field_count}
use Rattle.canonical_abi.specs.Values.{Value, HasPrimType, HasType, HaveTypes, values_of, string_value, list_value, record_value, plain_value, payload_value, flags_value}
use Rattle.canonical_abi.specs.Layout.{align, size, prim_kind, flat_kinds, field_kinds, payload_kinds}
use Rattle.canonical_abi.specs.Reading.{kind_of}
use Rattle.canonical_abi.specs.Trace.{Event, node}
use Rattle.canonical_abi.specs.Storing.{EachStores, Stores, FieldsStore}
use Rattle.canonical_abi.specs.Lowering.{core_of, joined_flats, Lowers, FieldsLower, CaseLowers, SpilledLower}
use Rattle.canonical_abi.specs.declared.flat.Flat.{Flat}
use Rattle.canonical_abi.specs.declared.flat.Flat.TheVariants.{I32}
use Rattle.canonical_abi.specs.declared.trap.TrapKind.{TrapKind}
use Rattle.canonical_abi.proofs.FlatValues.LoweredValuesLift.{lowers-kinds}
use Rattle.lift_lower.specs.Lowered.{LowersInto, LowersBy, FieldsLowerInto, FieldsLowerBy, SpilledLowerBy}
use Rattle.lift_lower.specs.Scripts.{IsDone, HasEnded, IsBegun, AsksBlock, GrantsBlock, PutsText, PutsTextAt}
use Rattle.lift_lower.proofs.EachValueHasAScript.{each-script, stores-script, fields-script, fields-lower-script}
use Rattle.lift_lower.proofs.ScriptPartsInOrder.{begun, begun-then, begun-done, begun-ended, begun-last, ended-last, ended-as, done-as, node-done, node-ended, node-alone}
use Rattle.canonical_abi.specs.declared.flat.CoreKind.{CoreKind}
use Rattle.lift_lower.proofs.LiftingStepByStep.{kinds-next}
use Rattle.values.proofs.FieldsFromAPlace.{fields_from, fields-next, fields-last}
use Rattle.values.proofs.ValuesOfTypesByShape.{drop-next, have-rest}

pub lowers-length : (t : ClosedType) (v : Value) (es : List Event) (flats : List Flat) → Lowers t v es flats → length flats ≡ length (flat_kinds t)
lowers-length t v es flats h = sym (length-map flats kind_of) ∙ ap length (lowers-kinds t v es flats h)

-- ---- cases by their number

pub plain-lowered : (cs : Cases) (i n : ℕ) → nth_case cs n ≡ Some None → CaseLowers cs i n (plain_value i) [] []
plain-lowered no_case i n e = cc
plain-lowered (plain_case cs) i zero e = (refl, refl, refl)
plain-lowered (plain_case cs) i (suc n) e = plain-lowered cs i n e
plain-lowered (case_with t cs) i zero e = cc
plain-lowered (case_with t cs) i (suc n) e = plain-lowered cs i n e

pub payload-lowered : (cs : Cases) (i n : ℕ) (t : ClosedType) (w : Value) (es : List Event) (flats : List Flat) → nth_case cs n ≡ Some (Some t) → Lowers t w es flats
    → CaseLowers cs i n (payload_value i w) es flats
payload-lowered no_case i n t w es flats e s = cc
payload-lowered (plain_case cs) i zero t w es flats e s = cc
payload-lowered (plain_case cs) i (suc n) t w es flats e s = payload-lowered cs i n t w es flats e s
payload-lowered (case_with u cs) i zero t w es flats e s =
    let same : u ≡ t = same_Some _ _ (same_Some _ _ e) in
    (w, refl, subst (λ x. Lowers x w es flats) (sym same) s)
payload-lowered (case_with u cs) i (suc n) t w es flats e s = payload-lowered cs i n t w es flats e s

-- ---- the members of a record

-- the first i values are lowered behind what was there; whatever the others' core values
abbrev pub AreLowering : ℕ → Allocation → Fields → List Value → List Flat → ℕ → List Flat → Memory → Memory → Type 0
AreLowering limit allocates ts vs before i now old mid =
    (mine : List Flat) × (now ≡ before ++ mine)
    × ((tail : List Flat) → IsBegun limit allocates (λ es. FieldsLower ts vs es (mine ++ tail)) (λ es. FieldsLower (fields_from i ts) (drop i vs) es tail) old mid)

module _ (limit : ℕ) (allocates : Allocation) (ts : Fields) (vs : List Value) (before : List Flat) where
  pub lowering-begun : (m : Memory) → AreLowering limit allocates ts vs before 0 before m m
  lowering-begun m = ([], sym (append-nil before), λ tail. begun limit allocates (λ es. FieldsLower ts vs es tail) m)

  module _ (i : ℕ) (u : ClosedType) (w : Value) (next : nth_field ts i ≡ Some u) (below : i < length vs) (is : get_or vs i w ≡ w) where
    lowered-next : (fs tail : List Flat) (first rest : List Event) → Lowers u w first fs → FieldsLower (fields_from (i + 1) ts) (drop (i + 1) vs) rest tail
        → FieldsLower (fields_from i ts) (drop i vs) (first ++ rest) (fs ++ tail)
    lowered-next fs tail first rest h r =
        subst (λ gs. FieldsLower gs (drop i vs) (first ++ rest) (fs ++ tail)) (sym (fields-next ts i u next))
        (get_or vs i w, drop (i + 1) vs, first, rest, fs, tail, drop-next i vs w below, refl, refl, subst (λ x. Lowers u x first fs) (sym is) h, r)

    pub lowering-next : (now more : List Flat) (old mid new : Memory) → AreLowering limit allocates ts vs before i now old mid → IsDone limit allocates (LowersInto u w now more) mid new
        → AreLowering limit allocates ts vs before (i + 1) more old new
    lowering-next now more old mid new b d =
        let fs = d.scripted.0 in
        let here : IsDone limit allocates (λ es. Lowers u w es fs) mid new =
        record { events = d.events; scripted = d.scripted.1; within = d.within; leads = d.leads; no_shorter = d.no_shorter } in
        let T : List Flat → List Event → Type 0 = λ tail es. FieldsLower (fields_from (i + 1) ts) (drop (i + 1) vs) es tail in (
          b.0 ++ fs,
          d.scripted.2 ∙ ap (λ l. l ++ fs) b.1 ∙ append_assoc before b.0 fs,
          λ tail. subst (λ l. IsBegun limit allocates (λ es. FieldsLower ts vs es l) (T tail) old new) (sym (append_assoc b.0 fs tail))
              (begun-then limit allocates (λ es. FieldsLower ts vs es (b.0 ++ (fs ++ tail))) (λ es. FieldsLower (fields_from i ts) (drop i vs) es (fs ++ tail)) (λ es. Lowers u w es fs) (T tail) old mid new (b.2 (fs ++ tail)) here
              (λ first rest h r. lowered-next fs tail first rest h r)),
        )

    pub lowering-ended : (now : List Flat) (old mid : Memory) (k : TrapKind) (new : Memory) → HaveTypes (drop i vs) (fields_from i ts) → AreLowering limit allocates ts vs before i now old mid
        → HasEnded limit allocates (LowersBy u w) mid k new → HasEnded limit allocates (FieldsLowerBy ts vs) old k new
    lowering-ended now old mid k new typed b e =
        let fs = e.scripted.0 in
        let here : HasEnded limit allocates (λ es. Lowers u w es fs) mid k new = record { events = e.events; scripted = e.scripted.1; ends = e.ends } in
        let rest = fields-lower-script (fields_from (i + 1) ts) (drop (i + 1) vs) (have-rest ts vs i u w next below typed) in
        let tail : List Flat = fs ++ rest.1 in
        ended-as limit allocates (λ es. FieldsLower ts vs es (b.0 ++ tail)) (FieldsLowerBy ts vs) old k new (λ es h. (b.0 ++ tail, h))
        (begun-ended limit allocates (λ es. FieldsLower ts vs es (b.0 ++ tail)) (λ es. FieldsLower (fields_from i ts) (drop i vs) es tail) (λ es. Lowers u w es fs) old mid k new (b.2 tail) here
        (λ first h. (rest.0, lowered-next fs rest.1 first rest.0 h rest.2)))

  pub lowering-done : (n : ℕ) (now : List Flat) (old new : Memory) → field_count ts ≡ n → drop n vs ≡ [] → AreLowering limit allocates ts vs before n now old new
      → IsDone limit allocates (FieldsLowerInto ts vs before now) old new
  lowering-done n now old new count none b =
      let S : List Event → Type 0 = λ es. FieldsLower ts vs es (b.0 ++ []) in
      let T : List Event → Type 0 = λ es. FieldsLower (fields_from n ts) (drop n vs) es [] in
      let last : T [] = subst (λ gs. FieldsLower gs (drop n vs) [] []) (sym (fields-last ts n count)) (none, refl, refl) in
      done-as limit allocates S (FieldsLowerInto ts vs before now) old new (λ es h. (b.0, subst (λ l. FieldsLower ts vs es l) (append-nil b.0) h, b.1))
      (begun-done limit allocates S T old new (b.2 []) last)

-- what is left to lower has room behind what was lowered
pub lowering-room : (limit : ℕ) (allocates : Allocation) (ts : Fields) (i : ℕ) (u : ClosedType) (w : Value) (now more : List Flat) (mid new : Memory) → nth_field ts i ≡ Some u
    → IsDone limit allocates (LowersInto u w now more) mid new → length now + length (field_kinds (fields_from i ts)) ≤ 16 → length more + length (field_kinds (fields_from (i + 1) ts)) ≤ 16
lowering-room limit allocates ts i u w now more mid new next d room =
    let both : length more ≡ length now + length d.scripted.0 = ap length d.scripted.2 ∙ length-append now d.scripted.0 in
    let own = lowers-length u w d.events d.scripted.0 d.scripted.1 in
    omega (arith, both, own, kinds-next ts i u next, room)

pub behind-first : {A : Type 0} (s : List A) (k : A) (ks : List A) → s ≡ k ∷ ks → take (length s - 1) (drop 1 s) ≡ ks
behind-first s k ks e =
    let n : length (k ∷ ks) - 1 ≡ length ks = omega arith in
    ap (λ x. take (length x - 1) (drop 1 x)) e ∙ ap (λ m. take m ks) n ∙ take_all (length ks) ks (omega arith)

-- the number of a case, and the payload's core values in the joined kinds
pub joined-told : (before pushed after : List Flat) (i : ℕ) (ks js : List CoreKind) (carried : List Flat) → pushed ≡ before ++ (I32 i ∷ []) → after ≡ pushed ++ joined_flats ks carried → ks ≡ js
    → after ≡ before ++ (I32 i ∷ joined_flats js carried)
joined-told before pushed after i ks js carried e f same =
    f ∙ ap (λ l. l ++ joined_flats ks carried) e ∙ append_assoc before (I32 i ∷ []) (joined_flats ks carried) ∙ ap (λ x. before ++ (I32 i ∷ joined_flats x carried)) same

-- ---- nodes

module _ (limit : ℕ) (allocates : Allocation) (before after : List Flat) where
  pub text-lowered : (text : List ℕ) (start : ℕ) (old new : Memory) → is_utf8 text ≡ true → after ≡ before ++ (I32 start ∷ I32 (length text) ∷ [])
      → IsDone limit allocates (PutsTextAt text start) old new → IsDone limit allocates (LowersInto string_type (string_value text) before after) old new
  text-lowered text start old new utf8 told d =
      node-done limit allocates (LowersInto string_type (string_value text) before after) (PutsTextAt text start) old new (λ es p.
      (I32 start ∷ I32 (length text) ∷ [], (text, p.0, refl, utf8, p.1, ap (λ fs. node ∷ fs) p.3, ap (λ a. I32 a ∷ I32 (length text) ∷ []) (sym p.2)), told)) d

  pub list-lowered : (t : ClosedType) (vs : List Value) (start : ℕ) (old mid new : Memory) → after ≡ before ++ (I32 start ∷ I32 (length vs) ∷ [])
      → IsDone limit allocates (GrantsBlock (align t) (length vs * size t) start) old mid → IsDone limit allocates (EachStores (Stores t) (size t) start vs) mid new
      → IsDone limit allocates (LowersInto (list_type t) (list_value (values_of vs)) before after) old new
  list-lowered t vs start old mid new told granted items =
      let S = LowersInto (list_type t) (list_value (values_of vs)) before after in
      let I : List Event → Type 0 = λ es. S (node ∷ es) in
      let E : List Event → Type 0 = λ es. EachStores (Stores t) (size t) start vs es in
      node-done limit allocates S I old new (λ es h. h)
      (begun-last limit allocates I E E old mid new
      (begun-then limit allocates I I (GrantsBlock (align t) (length vs * size t) start) E old old mid (begun limit allocates I old) granted (λ first rest p r. (
        I32 start ∷ I32 (length vs) ∷ [],
        (
          vs,
          p.0,
          rest,
          refl,
          p.1,
          ap (λ es. node ∷ (es ++ rest)) p.3,
          subst (λ b. EachStores (Stores t) (size t) b vs rest) (sym p.2) r,
          ap (λ a. I32 a ∷ I32 (length vs) ∷ []) (sym p.2),
        ),
        told,
      ))) items (λ es e. e))

  pub record-lowered : (ts : Fields) (vs : List Value) (old new : Memory) → IsDone limit allocates (FieldsLowerInto ts vs before after) old new
      → IsDone limit allocates (LowersInto (record_type ts) (record_value (values_of vs)) before after) old new
  record-lowered ts vs old new d =
      node-done limit allocates (LowersInto (record_type ts) (record_value (values_of vs)) before after) (FieldsLowerInto ts vs before after) old new (λ es p. (p.0, (vs, es, refl, refl, p.1), p.2)) d

  pub case-lowered : (cs : Cases) (i : ℕ) (u : ClosedType) (w : Value) (carried : List Flat) (old new : Memory) → nth_case cs i ≡ Some (Some u)
      → after ≡ before ++ (I32 i ∷ joined_flats (payload_kinds cs) carried) → IsDone limit allocates (LowersInto u w [] carried) old new
      → IsDone limit allocates (LowersInto (variant_type cs) (payload_value i w) before after) old new
  case-lowered cs i u w carried old new found told d =
      node-done limit allocates (LowersInto (variant_type cs) (payload_value i w) before after) (LowersInto u w [] carried) old new (λ es p. (
        I32 i ∷ joined_flats (payload_kinds cs) p.0,
        (i, es, p.0, refl, payload-lowered cs i i u w es p.0 found p.1, refl),
        told ∙ ap (λ fs. before ++ (I32 i ∷ joined_flats (payload_kinds cs) fs)) p.2,
      )) d

  pub plain-case-lowered : (cs : Cases) (i : ℕ) (m : Memory) → nth_case cs i ≡ Some None → after ≡ before ++ (I32 i ∷ joined_flats (payload_kinds cs) [])
      → IsDone limit allocates (LowersInto (variant_type cs) (plain_value i) before after) m m
  plain-case-lowered cs i m found told =
      node-alone limit allocates (LowersInto (variant_type cs) (plain_value i) before after) m (I32 i ∷ joined_flats (payload_kinds cs) [], (i, [], [], refl, plain-lowered cs i i found, refl), told)

  pub scalar-lowered : (p : Prim) (v : Value) (m : Memory) → HasPrimType v p → after ≡ before ++ (core_of (prim_kind p) v ∷ []) → IsDone limit allocates (LowersInto (prim_type p) v before after) m m
  scalar-lowered p v m typed told = node-alone limit allocates (LowersInto (prim_type p) v before after) m (core_of (prim_kind p) v ∷ [], (typed, refl, refl), told)

  pub flags-lowered : (n bits : ℕ) (m : Memory) → bits < 2 ^ n → after ≡ before ++ (I32 bits ∷ []) → IsDone limit allocates (LowersInto (flags_type n) (flags_value bits) before after) m m
  flags-lowered n bits m few told = node-alone limit allocates (LowersInto (flags_type n) (flags_value bits) before after) m (I32 bits ∷ [], (bits, refl, few, refl, refl), told)

-- ---- nodes that a request ends

module _ (limit : ℕ) (allocates : Allocation) (old : Memory) (k : TrapKind) (new : Memory) where
  pub text-lowering-ended : (text : List ℕ) → is_utf8 text ≡ true → HasEnded limit allocates (PutsText text) old k new → HasEnded limit allocates (LowersBy string_type (string_value text)) old k new
  text-lowering-ended text utf8 e =
      node-ended limit allocates (LowersBy string_type (string_value text)) (PutsText text) old k new (λ es p.
      (I32 p.0.at ∷ I32 (length text) ∷ [], (text, p.0, refl, utf8, p.1, ap (λ fs. node ∷ fs) p.2, refl))) e

  pub list-lowering-refused : (t : ClosedType) (vs : List Value) → AllByRecursion (λ w. HasType w t) vs → HasEnded limit allocates (AsksBlock (align t) (length vs * size t)) old k new
      → HasEnded limit allocates (LowersBy (list_type t) (list_value (values_of vs))) old k new
  list-lowering-refused t vs typed e =
      let S = LowersBy (list_type t) (list_value (values_of vs)) in
      let I : List Event → Type 0 = λ es. S (node ∷ es) in
      node-ended limit allocates S I old k new (λ es h. h)
      (begun-ended limit allocates I I (AsksBlock (align t) (length vs * size t)) old old k new (begun limit allocates I old) e (λ first p.
      let rest = each-script (Stores t) (λ w. HasType w t) (size t) (λ b w h. stores-script t b w h) p.0.at vs typed in
      (rest.0, (I32 p.0.at ∷ I32 (length vs) ∷ [], (vs, p.0, rest.0, refl, p.1, ap (λ es. node ∷ (es ++ rest.0)) p.2, rest.1, refl)))))

  pub list-lowering-ended : (t : ClosedType) (vs : List Value) (start : ℕ) (mid : Memory) → IsDone limit allocates (GrantsBlock (align t) (length vs * size t) start) old mid
      → HasEnded limit allocates (EachStores (Stores t) (size t) start vs) mid k new → HasEnded limit allocates (LowersBy (list_type t) (list_value (values_of vs))) old k new
  list-lowering-ended t vs start mid granted e =
      let S = LowersBy (list_type t) (list_value (values_of vs)) in
      let I : List Event → Type 0 = λ es. S (node ∷ es) in
      let E : List Event → Type 0 = λ es. EachStores (Stores t) (size t) start vs es in
      node-ended limit allocates S I old k new (λ es h. h)
      (ended-last limit allocates I E E old mid k new
      (begun-then limit allocates I I (GrantsBlock (align t) (length vs * size t) start) E old old mid (begun limit allocates I old) granted (λ first rest p r. (
        I32 p.0.at ∷ I32 (length vs) ∷ [],
        (vs, p.0, rest, refl, p.1, ap (λ es. node ∷ (es ++ rest)) p.3, subst (λ b. EachStores (Stores t) (size t) b vs rest) (sym p.2) r, refl),
      ))) e (λ es h. h))

  pub record-lowering-ended : (ts : Fields) (vs : List Value) → HasEnded limit allocates (FieldsLowerBy ts vs) old k new → HasEnded limit allocates (LowersBy (record_type ts) (record_value (values_of vs))) old k new
  record-lowering-ended ts vs e =
      node-ended limit allocates (LowersBy (record_type ts) (record_value (values_of vs))) (FieldsLowerBy ts vs) old k new (λ es p. (p.0, (vs, es, refl, refl, p.1))) e

  pub case-lowering-ended : (cs : Cases) (i : ℕ) (u : ClosedType) (w : Value) → nth_case cs i ≡ Some (Some u) → HasEnded limit allocates (LowersBy u w) old k new
      → HasEnded limit allocates (LowersBy (variant_type cs) (payload_value i w)) old k new
  case-lowering-ended cs i u w found e =
      node-ended limit allocates (LowersBy (variant_type cs) (payload_value i w)) (LowersBy u w) old k new (λ es p.
      (I32 i ∷ joined_flats (payload_kinds cs) p.0, (i, es, p.0, refl, payload-lowered cs i i u w es p.0 found p.1, refl))) e

-- ---- parameters that spill

module _ (limit : ℕ) (allocates : Allocation) (ts : Fields) (vs : List Value) where
  abbrev SpilledBlock : List Event → Type 0
  SpilledBlock = AsksBlock (align (record_type ts)) (size (record_type ts))

  pub spilled-refused : (old : Memory) (k : TrapKind) (new : Memory) → HaveTypes vs ts → HasEnded limit allocates SpilledBlock old k new → HasEnded limit allocates (SpilledLowerBy ts vs) old k new
  spilled-refused old k new typed e =
      let S = SpilledLowerBy ts vs in
      begun-ended limit allocates S S SpilledBlock old old k new (begun limit allocates S old) e (λ first p.
      let rest = fields-script ts p.0.at 0 vs typed in
      (rest.0, (I32 p.0.at ∷ [], (p.0, rest.0, p.1, ap (λ es. es ++ rest.0) p.2, rest.1, refl))))

  module _ (start : ℕ) (old mid : Memory) (granted : IsDone limit allocates (GrantsBlock (align (record_type ts)) (size (record_type ts)) start) old mid) where
    pub spilled-ended : (k : TrapKind) (new : Memory) → HasEnded limit allocates (FieldsStore ts start 0 vs) mid k new → HasEnded limit allocates (SpilledLowerBy ts vs) old k new
    spilled-ended k new e =
        let S = SpilledLowerBy ts vs in
        let F = FieldsStore ts start 0 vs in
        ended-last limit allocates S F F old mid k new
        (begun-then limit allocates S S (GrantsBlock (align (record_type ts)) (size (record_type ts)) start) F old old mid (begun limit allocates S old) granted (λ first rest p r.
        (I32 p.0.at ∷ [], (p.0, rest, p.1, ap (λ es. es ++ rest) p.3, subst (λ a. FieldsStore ts a 0 vs rest) (sym p.2) r, refl)))) e (λ es h. h)

    pub spilled-done : (flats : List Flat) (new : Memory) → flats ≡ I32 start ∷ [] → IsDone limit allocates (FieldsStore ts start 0 vs) mid new → IsDone limit allocates (λ es. SpilledLower ts vs es flats) old new
    spilled-done flats new told d =
        let S : List Event → Type 0 = λ es. SpilledLower ts vs es flats in
        let F = FieldsStore ts start 0 vs in
        begun-last limit allocates S F F old mid new
        (begun-then limit allocates S S (GrantsBlock (align (record_type ts)) (size (record_type ts)) start) F old old mid (begun limit allocates S old) granted (λ first rest p r.
        (p.0, rest, p.1, ap (λ es. es ++ rest) p.3, subst (λ a. FieldsStore ts a 0 vs rest) (sym p.2) r, told ∙ ap (λ a. I32 a ∷ []) (sym p.2)))) d (λ es h. h)
