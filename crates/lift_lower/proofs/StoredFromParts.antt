-- How the script of a value is made of those of its parts.
use Rattle.std.proofs.Common.{◌≡◌, ℕ, zero, suc, ◌+◌, ◌*◌, ◌^◌, ◌<◌, ◌≤◌, true, List, [], ◌∷◌, ◌++◌, length, drop, get_or, Some, None, refl, sym, ap, ◌∙◌, subst, arith}
use Rattle.std.specs.Int.{next_multiple_of, to_le_bytes}
use Rattle.std.specs.List.{AllByRecursion}
use Rattle.std.proofs.lemmas.Nat.{mul-le}
use Rattle.std.specs.Str.{is_utf8}
use Rattle.std.proofs.lemmas.Option.{same_Some}
use Rattle.canonical_abi.specs.Guest.{Memory, Allocation}
use Rattle.canonical_abi.specs.Types.{Prim, ClosedType, prim_type, string_type, list_type, record_type, variant_type, flags_type, Fields, Cases, no_case, plain_case, case_with, case_count, nth_field, nth_case, field_count}
use Rattle.canonical_abi.specs.Values.{Value, HasPrimType, HasType, HaveTypes, values_of, string_value, list_value, record_value, plain_value, payload_value, flags_value}
use Rattle.canonical_abi.specs.Layout.{align, size, prim_width, flags_size, discriminant_size, payload_place}
use Rattle.canonical_abi.specs.Reading.{byte_width}
use Rattle.canonical_abi.specs.Trace.{Event, node, grant, write, EventLeads}
use Rattle.canonical_abi.specs.Storing.{pointer_pair, number_in, EachStores, Stores, FieldsStore, CaseStores}
use Rattle.canonical_abi.specs.declared.trap.TrapKind.{TrapKind}
use Rattle.lift_lower.specs.Scripts.{IsDone, HasEnded, IsBegun, AsksBlock, GrantsBlock, PutsText, PutsTextAt}
use Rattle.lift_lower.proofs.EachValueHasAScript.{each-script, stores-script, fields-script}
use Rattle.lift_lower.proofs.ScriptPartsInOrder.{begun, begun-then, begun-done, begun-ended, begun-event, begun-last, ended-last, wrote, visited}
use Rattle.values.proofs.FieldsFromAPlace.{fields_from, fields-next, fields-last}
use Rattle.values.proofs.ValuesOfTypesByShape.{drop-next, have-rest}

-- ---- cases by their number

pub plain-stored : (cs : Cases) (a i n : ℕ) → nth_case cs n ≡ Some None → CaseStores cs a i n (plain_value i) []
plain-stored no_case a i n e = cc
plain-stored (plain_case cs) a i zero e = (refl, refl)
plain-stored (plain_case cs) a i (suc n) e = plain-stored cs a i n e
plain-stored (case_with t cs) a i zero e = cc
plain-stored (case_with t cs) a i (suc n) e = plain-stored cs a i n e

pub payload-stored : (cs : Cases) (a i n : ℕ) (t : ClosedType) (w : Value) (es : List Event) → nth_case cs n ≡ Some (Some t) → Stores t a w es → CaseStores cs a i n (payload_value i w) es
payload-stored no_case a i n t w es e s = cc
payload-stored (plain_case cs) a i zero t w es e s = cc
payload-stored (plain_case cs) a i (suc n) t w es e s = payload-stored cs a i n t w es e s
payload-stored (case_with u cs) a i zero t w es e s =
    let same : u ≡ t = same_Some _ _ (same_Some _ _ e) in
    (w, refl, subst (λ x. Stores x a w es) (sym same) s)
payload-stored (case_with u cs) a i (suc n) t w es e s = payload-stored cs a i n t w es e s

-- ---- one after another

module _ (t : ClosedType) (start : ℕ) (vs : List Value) where
  -- the elements from place i on
  abbrev pub ItemsFrom : ℕ → List Event → Type 0
  ItemsFrom i es = EachStores (Stores t) (size t) (start + i * size t) (drop i vs) es

  pub items-first : (es : List Event) → ItemsFrom 0 es → EachStores (Stores t) (size t) start vs es
  items-first es s = let e : start + 0 * size t ≡ start = omega arith in subst (λ a. EachStores (Stores t) (size t) a vs es) e s

  pub items-next : (i : ℕ) (d : Value) → i < length vs → (first rest : List Event) → Stores t (start + i * size t) (get_or vs i d) first → ItemsFrom (i + 1) rest → ItemsFrom i (first ++ rest)
  items-next i d below first rest u v =
      let place : start + (i + 1) * size t ≡ start + i * size t + size t = omega arith in
      subst (λ ws. EachStores (Stores t) (size t) (start + i * size t) ws (first ++ rest)) (sym (drop-next i vs d below))
      (first, rest, refl, u, subst (λ a. EachStores (Stores t) (size t) a (drop (i + 1) vs) rest) place v)

  pub items-none : (i : ℕ) → drop i vs ≡ [] → ItemsFrom i []
  items-none i e = subst (λ ws. EachStores (Stores t) (size t) (start + i * size t) ws []) (sym e) refl

-- an element ends inside the block of all
pub item-inside : (start n i s whole : ℕ) → i < n → start + n * s ≤ whole → start + i * s + s ≤ whole
item-inside start n i s whole h inside =
    let more : (i + 1) * s ≤ n * s = mul-le (i + 1) s n s (omega arith) (omega arith) in
    let next : (i + 1) * s ≡ i * s + s = omega arith in
    omega (arith, more, next, inside)

all-drop : (P : Value → Type 0) (vs : List Value) (i : ℕ) → AllByRecursion P vs → AllByRecursion P (drop i vs)
all-drop P vs zero h = h
all-drop P [] (suc i) h = tt
all-drop P (v ∷ vs) (suc i) h = all-drop P vs i h.1

module _ (fs : Fields) (at : ℕ) (vs : List Value) where
  -- the fields from place i on, behind what ends there
  abbrev pub FieldsFrom : ℕ → ℕ → List Event → Type 0
  FieldsFrom i end es = FieldsStore (fields_from i fs) at end (drop i vs) es

  pub stored-next : (i end : ℕ) (u : ClosedType) (d : Value) → nth_field fs i ≡ Some u → i < length vs → (first rest : List Event)
      → Stores u (at + next_multiple_of end (align u)) (get_or vs i d) first → FieldsFrom (i + 1) (next_multiple_of end (align u) + size u) rest → FieldsFrom i end (first ++ rest)
  stored-next i end u d next below first rest s r =
      subst (λ gs. FieldsStore gs at end (drop i vs) (first ++ rest)) (sym (fields-next fs i u next))
      (get_or vs i d, drop (i + 1) vs, first, rest, drop-next i vs d below, refl, s, r)

  pub stored-none : (end n : ℕ) → field_count fs ≡ n → drop n vs ≡ [] → FieldsFrom n end []
  stored-none end n count none = subst (λ gs. FieldsStore gs at end (drop n vs) []) (sym (fields-last fs n count)) (none, refl)

-- ---- nodes

module _ (limit : ℕ) (allocates : Allocation) where
  -- an element of a list, stored a step behind the one before
  module _ (t : ClosedType) (start : ℕ) (vs : List Value) (i : ℕ) (w : Value) (step : ℕ) (below : i < length vs) (is : get_or vs i w ≡ w) (stepped : step ≡ size t) where
    abbrev ItemsScript : List Event → Type 0
    ItemsScript = EachStores (Stores t) (size t) start vs

    item-here : (first : List Event) → Stores t (start + i * step) w first → Stores t (start + i * size t) (get_or vs i w) first
    item-here first u =
        subst (λ v. Stores t (start + i * size t) v first) (sym is) (subst (λ s. Stores t (start + i * s) w first) stepped u)

    pub item-done : (old mid new : Memory) → IsBegun limit allocates ItemsScript (ItemsFrom t start vs i) old mid → IsDone limit allocates (Stores t (start + i * step) w) mid new
        → IsBegun limit allocates ItemsScript (ItemsFrom t start vs (i + 1)) old new
    item-done old mid new b d =
        begun-then limit allocates ItemsScript (ItemsFrom t start vs i) (Stores t (start + i * step) w) (ItemsFrom t start vs (i + 1)) old mid new b d
        (λ first rest u v. items-next t start vs i w below first rest (item-here first u) v)

    pub item-ended : (old mid : Memory) (k : TrapKind) (new : Memory) → AllByRecursion (λ v. HasType v t) vs → IsBegun limit allocates ItemsScript (ItemsFrom t start vs i) old mid
        → HasEnded limit allocates (Stores t (start + i * step) w) mid k new → HasEnded limit allocates ItemsScript old k new
    item-ended old mid k new typed b e =
        let rest = each-script (Stores t) (λ v. HasType v t) (size t) (λ a v h. stores-script t a v h) (start + (i + 1) * size t) (drop (i + 1) vs) (all-drop (λ v. HasType v t) vs (i + 1) typed) in
        begun-ended limit allocates ItemsScript (ItemsFrom t start vs i) (Stores t (start + i * step) w) old mid k new b e
        (λ first u. (rest.0, items-next t start vs i w below first rest.0 (item-here first u) rest.1))

  -- a field of a record, stored at its place
  module _ (fs : Fields) (at : ℕ) (vs : List Value) (i end : ℕ) (u : ClosedType) (w : Value) (place step : ℕ) (next : nth_field fs i ≡ Some u) (below : i < length vs) (is : get_or vs i w ≡ w) (placed : place ≡ next_multiple_of end (align u)) (stepped : step ≡ size u) where
    abbrev FieldsScript : List Event → Type 0
    FieldsScript = FieldsStore fs at 0 vs

    field-here : (first : List Event) → Stores u (at + place) w first → Stores u (at + next_multiple_of end (align u)) (get_or vs i w) first
    field-here first s =
        subst (λ v. Stores u (at + next_multiple_of end (align u)) v first) (sym is) (subst (λ p. Stores u (at + p) w first) placed s)

    field-rest : (rest : List Event) → FieldsFrom fs at vs (i + 1) (place + step) rest → FieldsFrom fs at vs (i + 1) (next_multiple_of end (align u) + size u) rest
    field-rest rest r =
        subst (λ p. FieldsFrom fs at vs (i + 1) (p + size u) rest) placed (subst (λ s. FieldsFrom fs at vs (i + 1) (place + s) rest) stepped r)

    pub field-done : (old mid new : Memory) → IsBegun limit allocates FieldsScript (FieldsFrom fs at vs i end) old mid → IsDone limit allocates (Stores u (at + place) w) mid new
        → IsBegun limit allocates FieldsScript (FieldsFrom fs at vs (i + 1) (place + step)) old new
    field-done old mid new b d =
        begun-then limit allocates FieldsScript (FieldsFrom fs at vs i end) (Stores u (at + place) w) (FieldsFrom fs at vs (i + 1) (place + step)) old mid new b d
        (λ first rest s r. stored-next fs at vs i end u w next below first rest (field-here first s) (field-rest rest r))

    pub field-ended : (old mid : Memory) (k : TrapKind) (new : Memory) → HaveTypes (drop i vs) (fields_from i fs) → IsBegun limit allocates FieldsScript (FieldsFrom fs at vs i end) old mid
        → HasEnded limit allocates (Stores u (at + place) w) mid k new → HasEnded limit allocates FieldsScript old k new
    field-ended old mid k new typed b e =
        let rest = fields-script (fields_from (i + 1) fs) at (next_multiple_of end (align u) + size u) (drop (i + 1) vs) (have-rest fs vs i u w next below typed) in
        begun-ended limit allocates FieldsScript (FieldsFrom fs at vs i end) (Stores u (at + place) w) old mid k new b e
        (λ first s. (rest.0, stored-next fs at vs i end u w next below first rest.0 (field-here first s) rest.1))

  text-begun : (text : List ℕ) (at : ℕ) (old : Memory) → IsBegun limit allocates (Stores string_type at (string_value text)) (λ rest. Stores string_type at (string_value text) (node ∷ rest)) old old
  text-begun text at old =
      let S = Stores string_type at (string_value text) in
      begun-event limit allocates S S node old old old (begun limit allocates S old) (visited limit allocates old)

  pub text-done : (text : List ℕ) (start at : ℕ) (old mid new : Memory) → is_utf8 text ≡ true → IsDone limit allocates (PutsTextAt text start) old mid
      → EventLeads allocates mid (write at (pointer_pair start (length text))) new → length new.bytes ≡ length mid.bytes
      → IsDone limit allocates (Stores string_type at (string_value text)) old new
  text-done text start at old mid new utf8 put led same =
      let S = Stores string_type at (string_value text) in
      let told = write at (pointer_pair start (length text)) in
      let T : List Event → Type 0 = λ rest. rest ≡ told ∷ [] in
      let b = begun-then limit allocates S (λ rest. S (node ∷ rest)) (PutsTextAt text start) T old old mid (text-begun text at old) put (λ first rest p r. (
        text,
        p.0,
        refl,
        utf8,
        p.1,
        ap (λ es. node ∷ (es ++ rest)) p.3 ∙ ap (λ es. node ∷ grant p.0 ∷ write p.0.at text ∷ es) r ∙ ap (λ b. node ∷ grant p.0 ∷ write p.0.at text ∷ write at (pointer_pair b (length text)) ∷ []) (sym p.2),
      )) in
      begun-last limit allocates S T (λ es. es ≡ told ∷ []) old mid new b (wrote limit allocates mid new at (pointer_pair start (length text)) led same) (λ es u. u)

  pub text-ended : (text : List ℕ) (at : ℕ) (old : Memory) (k : TrapKind) (new : Memory) → is_utf8 text ≡ true → HasEnded limit allocates (PutsText text) old k new
      → HasEnded limit allocates (Stores string_type at (string_value text)) old k new
  text-ended text at old k new utf8 ended =
      let S = Stores string_type at (string_value text) in
      begun-ended limit allocates S (λ rest. S (node ∷ rest)) (PutsText text) old old k new (text-begun text at old) ended (λ first p.
      (write at (pointer_pair p.0.at (length text)) ∷ [], (text, p.0, refl, utf8, p.1, ap (λ es. node ∷ (es ++ write at (pointer_pair p.0.at (length text)) ∷ [])) p.2)))

  module _ (t : ClosedType) (at : ℕ) (vs : List Value) where
    abbrev ListScript : List Event → Type 0
    ListScript = Stores (list_type t) at (list_value (values_of vs))

    -- the header and the elements of a list whose block is at this address
    abbrev Headed : ℕ → List Event → Type 0
    Headed start es = (rest : List Event) × (es ≡ write at (pointer_pair start (length vs)) ∷ rest) × EachStores (Stores t) (size t) start vs rest

    list-begun : (old : Memory) → IsBegun limit allocates ListScript (λ rest. ListScript (node ∷ rest)) old old
    list-begun old = begun-event limit allocates ListScript ListScript node old old old (begun limit allocates ListScript old) (visited limit allocates old)

    list-headed : (start : ℕ) (old mid next : Memory) → IsDone limit allocates (GrantsBlock (align t) (length vs * size t) start) old mid
        → EventLeads allocates mid (write at (pointer_pair start (length vs))) next → length next.bytes ≡ length mid.bytes
        → IsBegun limit allocates ListScript (λ rest. Headed start (write at (pointer_pair start (length vs)) ∷ rest)) old next
    list-headed start old mid next granted led same =
        let told = write at (pointer_pair start (length vs)) in
        let b = begun-then limit allocates ListScript (λ rest. ListScript (node ∷ rest)) (GrantsBlock (align t) (length vs * size t) start) (Headed start) old old mid (list-begun old) granted (λ first rest p r. (
          vs,
          p.0,
          r.0,
          refl,
          p.1,
          ap (λ es. node ∷ (es ++ rest)) p.3 ∙ ap (λ es. node ∷ grant p.0 ∷ es) r.1 ∙ ap (λ b. node ∷ grant p.0 ∷ write at (pointer_pair b (length vs)) ∷ r.0) (sym p.2),
          subst (λ b. EachStores (Stores t) (size t) b vs r.0) (sym p.2) r.2,
        )) in
        begun-event limit allocates ListScript (Headed start) told old mid next b (wrote limit allocates mid next at (pointer_pair start (length vs)) led same)

    pub list-done : (start : ℕ) (old mid next new : Memory) → IsDone limit allocates (GrantsBlock (align t) (length vs * size t) start) old mid
        → EventLeads allocates mid (write at (pointer_pair start (length vs))) next → length next.bytes ≡ length mid.bytes
        → IsDone limit allocates (EachStores (Stores t) (size t) start vs) next new → IsDone limit allocates ListScript old new
    list-done start old mid next new granted led same items =
        begun-last limit allocates ListScript (λ rest. Headed start (write at (pointer_pair start (length vs)) ∷ rest)) (EachStores (Stores t) (size t) start vs) old next new
        (list-headed start old mid next granted led same) items (λ es u. (es, refl, u))

    pub list-ended : (start : ℕ) (old mid next : Memory) (k : TrapKind) (new : Memory) → IsDone limit allocates (GrantsBlock (align t) (length vs * size t) start) old mid
        → EventLeads allocates mid (write at (pointer_pair start (length vs))) next → length next.bytes ≡ length mid.bytes
        → HasEnded limit allocates (EachStores (Stores t) (size t) start vs) next k new → HasEnded limit allocates ListScript old k new
    list-ended start old mid next k new granted led same items =
        ended-last limit allocates ListScript (λ rest. Headed start (write at (pointer_pair start (length vs)) ∷ rest)) (EachStores (Stores t) (size t) start vs) old next k new
        (list-headed start old mid next granted led same) items (λ es u. (es, refl, u))

    pub list-refused : (old : Memory) (k : TrapKind) (new : Memory) → AllByRecursion (λ w. HasType w t) vs → HasEnded limit allocates (AsksBlock (align t) (length vs * size t)) old k new
        → HasEnded limit allocates ListScript old k new
    list-refused old k new typed ended =
        begun-ended limit allocates ListScript (λ rest. ListScript (node ∷ rest)) (AsksBlock (align t) (length vs * size t)) old old k new (list-begun old) ended (λ first p.
        let rest = each-script (Stores t) (λ w. HasType w t) (size t) (λ b w typed. stores-script t b w typed) p.0.at vs typed in
        (write at (pointer_pair p.0.at (length vs)) ∷ rest.0, (vs, p.0, rest.0, refl, p.1, ap (λ es. node ∷ (es ++ write at (pointer_pair p.0.at (length vs)) ∷ rest.0)) p.2, rest.1)))

  module _ (fs : Fields) (at : ℕ) (vs : List Value) where
    abbrev RecordScript : List Event → Type 0
    RecordScript = Stores (record_type fs) at (record_value (values_of vs))

    record-begun : (old : Memory) → IsBegun limit allocates RecordScript (λ rest. RecordScript (node ∷ rest)) old old
    record-begun old = begun-event limit allocates RecordScript RecordScript node old old old (begun limit allocates RecordScript old) (visited limit allocates old)

    pub record-done : (old new : Memory) → IsDone limit allocates (FieldsStore fs at 0 vs) old new → IsDone limit allocates RecordScript old new
    record-done old new fields =
        begun-last limit allocates RecordScript (λ rest. RecordScript (node ∷ rest)) (FieldsStore fs at 0 vs) old old new (record-begun old) fields (λ es u. (vs, es, refl, refl, u))

    pub record-ended : (old : Memory) (k : TrapKind) (new : Memory) → HasEnded limit allocates (FieldsStore fs at 0 vs) old k new → HasEnded limit allocates RecordScript old k new
    record-ended old k new fields =
        ended-last limit allocates RecordScript (λ rest. RecordScript (node ∷ rest)) (FieldsStore fs at 0 vs) old old k new (record-begun old) fields (λ es u. (vs, es, refl, refl, u))

  module _ (cs : Cases) (at i : ℕ) (v : Value) where
    abbrev VariantScript : List Event → Type 0
    VariantScript = Stores (variant_type cs) at v

    abbrev told_case : Event
    told_case = write at (to_le_bytes (byte_width (discriminant_size (case_count cs))) i)

    case-begun : (old mid : Memory) → EventLeads allocates old told_case mid → length mid.bytes ≡ length old.bytes
        → IsBegun limit allocates VariantScript (λ rest. VariantScript (node ∷ told_case ∷ rest)) old mid
    case-begun old mid led same =
        begun-event limit allocates VariantScript (λ rest. VariantScript (node ∷ rest)) told_case old old mid
        (begun-event limit allocates VariantScript VariantScript node old old old (begun limit allocates VariantScript old) (visited limit allocates old))
        (wrote limit allocates old mid at (to_le_bytes (byte_width (discriminant_size (case_count cs))) i) led same)

    pub case-done : (old mid new : Memory) → EventLeads allocates old told_case mid → length mid.bytes ≡ length old.bytes
        → IsDone limit allocates (CaseStores cs (at + payload_place cs) i i v) mid new → IsDone limit allocates VariantScript old new
    case-done old mid new led same payload =
        begun-last limit allocates VariantScript (λ rest. VariantScript (node ∷ told_case ∷ rest)) (CaseStores cs (at + payload_place cs) i i v) old mid new (case-begun old mid led same) payload (λ es u. (i, es, refl, u))

    pub case-ended : (old mid : Memory) (k : TrapKind) (new : Memory) → EventLeads allocates old told_case mid → length mid.bytes ≡ length old.bytes
        → HasEnded limit allocates (CaseStores cs (at + payload_place cs) i i v) mid k new → HasEnded limit allocates VariantScript old k new
    case-ended old mid k new led same payload =
        ended-last limit allocates VariantScript (λ rest. VariantScript (node ∷ told_case ∷ rest)) (CaseStores cs (at + payload_place cs) i i v) old mid k new (case-begun old mid led same) payload (λ es u. (i, es, refl, u))

    pub plain-done : (old mid : Memory) → EventLeads allocates old told_case mid → length mid.bytes ≡ length old.bytes
        → CaseStores cs (at + payload_place cs) i i v [] → IsDone limit allocates VariantScript old mid
    plain-done old mid led same plain =
        begun-done limit allocates VariantScript (λ rest. VariantScript (node ∷ told_case ∷ rest)) old mid (case-begun old mid led same) (i, [], refl, plain)

  -- a node that is one write
  number-done : (S : List Event → Type 0) (at : ℕ) (bytes : List ℕ) (old new : Memory) → EventLeads allocates old (write at bytes) new → length new.bytes ≡ length old.bytes
      → S (node ∷ write at bytes ∷ []) → IsDone limit allocates S old new
  number-done S at bytes old new led same s =
      begun-done limit allocates S (λ rest. S (node ∷ write at bytes ∷ rest)) old new
      (begun-event limit allocates S (λ rest. S (node ∷ rest)) (write at bytes) old old new
      (begun-event limit allocates S S node old old old (begun limit allocates S old) (visited limit allocates old)) (wrote limit allocates old new at bytes led same)) s

  pub scalar-done : (p : Prim) (at : ℕ) (v : Value) (old new : Memory) → HasPrimType v p → EventLeads allocates old (write at (to_le_bytes (prim_width p) (number_in (prim_width p) v))) new
      → length new.bytes ≡ length old.bytes → IsDone limit allocates (Stores (prim_type p) at v) old new
  scalar-done p at v old new typed led same = number-done (Stores (prim_type p) at v) at _ old new led same (typed, refl)

  pub flags-done : (n at bits : ℕ) (old new : Memory) → bits < 2 ^ n → EventLeads allocates old (write at (to_le_bytes (byte_width (flags_size n)) bits)) new
      → length new.bytes ≡ length old.bytes → IsDone limit allocates (Stores (flags_type n) at (flags_value bits)) old new
  flags-done n at bits old new few led same = number-done (Stores (flags_type n) at (flags_value bits)) at _ old new led same (bits, refl, few, refl)
