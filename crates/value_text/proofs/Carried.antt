-- The values that core values carry, part by part.
use Rattle.std.proofs.Common.{◌≡◌, ◌<◌, ◌≤◌, ◌+◌, ℕ, zero, suc, Bool, IsTrue, List, [], ◌∷◌, ◌++◌, map, length, drop, get_or, max, Option, Some, None, Result, refl, sym, ap, ◌∙◌, subst, length-append, append-nil, arith}
use Rattle.std.proofs.lemmas.List.{length-map}
use Rattle.std.specs.List.{list_all, AllByRecursion}
use Rattle.canonical_abi.specs.Flat.{Lifts, FieldsLift, CaseLifts}
use Rattle.canonical_abi.specs.Labelled.{Label, LabelledType, labelled_list, labelled_tuple, labelled_record, LabelledTypes, LabelledFields, Payload, no_payload, payload, closed, closed_members, closed_fields, closed_payload, closed_cases, plain_cases, none_label, some_label, ok_label, error_label}
use Rattle.canonical_abi.specs.Layout.{flat_kinds, field_kinds, payload_kinds}
use Rattle.canonical_abi.specs.Memory.{PrimIs}
use Rattle.canonical_abi.specs.Reading.{low_bits}
use Rattle.canonical_abi.specs.Types.{Prim, boolean, unsigned, signed, scalar_value, Cases, variant_type}
use Rattle.canonical_abi.specs.Values.{Value, values_of, list_value, plain_value, payload_value}
use Rattle.canonical_abi.proofs.StoredValues.AsksRequests.{items-of}
use Rattle.layout.proofs.JoinsOfFlatKinds.{length-join}
use Rattle.lift_lower.proofs.LiftingStepByStep.{drop-more}
use Rattle.serde_json.specs.Data as json
use Rattle.serde_json.specs.Data.{Data, array, object}
use Rattle.serde_json.specs.View.{items_of}
use Rattle.serde_json.specs.Written.{compact_text}
use Rattle.std.specs.Prelude.{if◌then◌else◌, ◌==◌}
use Rattle.tables.proofs.ClosedTypesRowByRow.{split}
use Rattle.tables.specs.Labelled.{labelled_val, labelled_payload, labelled_members, labelled_fields, labelled_cases, labelled_kind}
use Rattle.tables.specs.Tables.{kind_all, option_all, is_below, is_type}
use Rattle.tables.specs.declared.tables.Case.{Case}
use Rattle.tables.specs.declared.tables.Definition.{Definition}
use Rattle.tables.specs.declared.tables.Field.{Field}
use Rattle.tables.specs.declared.tables.TypeDefKind.{TypeDefKind}
use Rattle.tables.specs.declared.tables.TypeDefKind.TheVariants as kind
use Rattle.tables.specs.declared.tables.ValType.{ValType}
use Rattle.tables.specs.declared.tables.ValType.TheVariants as val
use Rattle.value_json.specs.Json.{one_member}
use Rattle.value_json.proofs.RanksOfTypes.{rank, rank-below}
use Rattle.value_text.specs.Cases.{HasCases, label_case, cases_of_kind, IsCase, IsAnyCase}
use Rattle.value_text.specs.Flats.{PutsCarried, PutsAllCarried, PutsFieldsCarried, flats_before}
use Rattle.value_text.specs.Function.{json_of, payload_json, members_json, cases_json, fields_json, label_of, case_index, inner}
use Rattle.value_text.specs.Puts.{PutsWithin}
use Rattle.json.specs.Print.{quoted}
use Rattle.value_text.specs.Texts.{key_at}
use Rattle.value_text.proofs.Elements.{IsAt, at-map}
use Rattle.value_text.proofs.FieldsInOrder.{object-parts, members_in, fields-in-order}
use Rattle.value_json.specs.Apart.{HaveLabelsApart}
use Rattle.value_text.specs.Orders.{IsLabelOrder}
use Rattle.value_text.proofs.RowsInOrder.{in-range}

-- ---- scalars and texts

pub prim-one : (p : Prim) (n : ℕ) (v w : Value) → PrimIs p n v → PrimIs p n w → v ≡ w
prim-one boolean n v w a b = a ∙ sym b
prim-one (unsigned x) n v w a b = a ∙ sym b
prim-one (signed x) n v w a b = a ∙ sym b
prim-one scalar_value n v w (_, a) (_, b) = a ∙ sym b

-- ---- places in the table

-- the greatest rank of these types
abbrev pub most : List ValType → ℕ
most [] = 0
most (t ∷ ts) = max (rank t) (most ts)

pub rank-among : (ts : List ValType) (i : ℕ) (t : ValType) → IsAt ts i t → rank t ≤ most ts
rank-among [] i t at = absurd at
rank-among (u ∷ ts) zero t at = let same : rank u ≡ rank t = ap rank at in omega (arith, same)
rank-among (u ∷ ts) (suc i) t at = let less = rank-among ts i t at in omega (arith, less)

pub most-below : (n : ℕ) (ts : List ValType) → IsTrue (list_all (is_below n) ts) → most ts ≤ n
most-below n [] h = omega arith
most-below n (t ∷ ts) h =
    let both = split (is_below n t) (list_all (is_below n) ts) h in
    let first = rank-below n t both.0 in
    let rest = most-below n ts both.1 in omega (arith, first, rest)

pub known-below : (ds : List Definition) (t : ValType) → IsTrue (is_type ds t) → IsTrue (is_below (length ds) t)
known-below ds (val.Primitive p) h = search arith
known-below ds val.String h = search arith
known-below ds (val.Id i) h = let less = in-range ds i.0 h in grind (arith, less)

pub index-below : (n : ℕ) (is : List ℕ) (k d : ℕ) → k < length is → AllByRecursion (λ i. i < n) is → get_or is k d < n
index-below n [] k d h all = absurd (omega arith)
index-below n (i ∷ is) zero d h (here, all) = here
index-below n (i ∷ is) (suc k) d h (here, all) = index-below n is k d (omega (arith, h)) all

pub at-or : {A : Type 0} (xs : List A) (i : ℕ) (x : A) → i < length xs → IsAt xs i (get_or xs i x)
at-or [] i x h = absurd (omega arith)
at-or (y ∷ ys) zero x h = refl
at-or (y ∷ ys) (suc i) x h = at-or ys i x (omega (arith, h))

pub field-at : (fs : List Field) (i : ℕ) (f : Field) → i < length fs → IsAt (map (λ f. f.ty) fs) i (get_or fs i f).ty
field-at [] i f h = absurd (omega arith)
field-at (g ∷ fs) zero f h = refl
field-at (g ∷ fs) (suc i) f h = field-at fs i f (omega (arith, h))

-- ---- fields

module _ (rows : List LabelledType) where
  pub before-none : (ts : List ValType) → flats_before rows ts 0 ≡ 0
  before-none [] = refl
  before-none (t ∷ ts) = refl

  pub before-next : (ts : List ValType) (i : ℕ) (t : ValType) → IsAt ts i t → flats_before rows ts (i + 1) ≡ flats_before rows ts i + length (flat_kinds (closed (labelled_val rows t)))
  before-next [] i t at = absurd at
  before-next (u ∷ ts) zero t at =
      let none = before-none ts in
      let same : length (flat_kinds (closed (labelled_val rows u))) ≡ length (flat_kinds (closed (labelled_val rows t))) = ap (λ x. length (flat_kinds (closed (labelled_val rows x)))) at in
      omega (arith, none, same)
  before-next (u ∷ ts) (suc i) t at =
      let next = before-next ts i t at in
      let one : suc i + 1 ≡ suc (i + 1) = omega arith in
      let more : flats_before rows (u ∷ ts) (suc (i + 1)) ≡ length (flat_kinds (closed (labelled_val rows u))) + flats_before rows ts (i + 1) = refl in
      let same : flats_before rows (u ∷ ts) (suc i + 1) ≡ flats_before rows (u ∷ ts) (suc (i + 1)) = ap (flats_before rows (u ∷ ts)) one in
      omega (arith, next, more, same)

  pub before-room : (ts : List ValType) (i : ℕ) (t : ValType) → IsAt ts i t
      → flats_before rows ts i + length (flat_kinds (closed (labelled_val rows t))) ≤ length (field_kinds (closed_members (labelled_members rows ts)))
  before-room [] i t at = absurd at
  before-room (u ∷ ts) zero t at =
      let same : length (flat_kinds (closed (labelled_val rows u))) ≡ length (flat_kinds (closed (labelled_val rows t))) = ap (λ x. length (flat_kinds (closed (labelled_val rows x)))) at in
      omega (arith, same, length-append (flat_kinds (closed (labelled_val rows u))) (field_kinds (closed_members (labelled_members rows ts))))
  before-room (u ∷ ts) (suc i) t at =
      let less = before-room ts i t at in
      omega (arith, less, length-append (flat_kinds (closed (labelled_val rows u))) (field_kinds (closed_members (labelled_members rows ts))))

  pub as-members : (fs : List Field) → closed_fields (labelled_fields rows fs) ≡ closed_members (labelled_members rows (map (λ f. f.ty) fs))
  as-members [] = refl
  as-members (f ∷ fs) = rw (as-members fs) refl

  pub member-lifts : (ts : List ValType) (m ns : List ℕ) (vs : List Value) (i : ℕ) (t : ValType) → IsAt ts i t → FieldsLift (closed_members (labelled_members rows ts)) m ns vs
      → (v : Value) × Lifts (closed (labelled_val rows t)) m (drop (flats_before rows ts i) ns) v × IsAt vs i v
  member-lifts [] m ns vs i t at h = absurd at
  member-lifts (u ∷ ts) m ns vs zero t at (v, rest, is, here, more) =
      (v, subst (λ x. Lifts (closed (labelled_val rows x)) m ns v) at here, subst (λ xs. IsAt xs 0 v) (sym is) refl)
  member-lifts (u ∷ ts) m ns vs (suc i) t at (v, rest, is, here, more) =
      let k = length (flat_kinds (closed (labelled_val rows u))) in
      let (w, lifts, there) = member-lifts ts m (drop k ns) rest i t at more in
      (w, subst (λ xs. Lifts (closed (labelled_val rows t)) m xs w) (drop-more k (flats_before rows ts i) ns) lifts, subst (λ xs. IsAt xs (suc i) w) (sym is) there)

  pub member-json : (ts : List ValType) (vs : List Value) (i : ℕ) (t : ValType) (v : Value) → IsAt ts i t → IsAt vs i v
      → IsAt (members_json (labelled_members rows ts) vs) i (json_of (labelled_val rows t) v)
  member-json [] vs i t v at is = absurd at
  member-json (u ∷ ts) [] i t v at is = absurd is
  member-json (u ∷ ts) (w ∷ vs) zero t v at is = ap (λ x. json_of (labelled_val rows x) w) at ∙ ap (json_of (labelled_val rows t)) is
  member-json (u ∷ ts) (w ∷ vs) (suc i) t v at is = member-json ts vs i t v at is

  pub members-many : (ts : List ValType) (m ns : List ℕ) (vs : List Value) → FieldsLift (closed_members (labelled_members rows ts)) m ns vs → length (members_json (labelled_members rows ts) vs) ≡ length ts
  members-many [] m ns vs h = refl
  members-many (u ∷ ts) m ns vs (v, rest, is, here, more) =
      let many = members-many ts m (drop (length (flat_kinds (closed (labelled_val rows u)))) ns) rest more in
      ap (λ xs. length (members_json (labelled_members rows (u ∷ ts)) xs)) is ∙ ap suc many

  pub values-many : (ts : List ValType) (m ns : List ℕ) (vs : List Value) → FieldsLift (closed_members (labelled_members rows ts)) m ns vs → length vs ≡ length ts
  values-many [] m ns vs h = ap length h
  values-many (u ∷ ts) m ns vs (v, rest, is, here, more) =
      ap length is ∙ ap suc (values-many ts m (drop (length (flat_kinds (closed (labelled_val rows u)))) ns) rest more)

  pub field-lifts : (fs : List Field) (m ns : List ℕ) (vs : List Value) (i : ℕ) (f : Field) → IsAt fs i f → FieldsLift (closed_fields (labelled_fields rows fs)) m ns vs
      → (v : Value) × Lifts (closed (labelled_val rows f.ty)) m (drop (flats_before rows (map (λ x. x.ty) fs) i) ns) v × IsAt vs i v
  field-lifts fs m ns vs i f at h = member-lifts (map (λ x. x.ty) fs) m ns vs i f.ty (at-map (λ x. x.ty) fs i f at) (subst (λ ts. FieldsLift ts m ns vs) (as-members fs) h)

  -- the members of the object in the order of their labels
  pub fields-say : (fs : List Field) (m ns : List ℕ) (vs : List Value) (order : List ℕ) → HaveLabelsApart fs → IsLabelOrder fs order → FieldsLift (closed_fields (labelled_fields rows fs)) m ns vs
      → fields_json (labelled_fields rows fs) vs ≡ members_in rows fs vs order
  fields-say fs m ns vs order apart sorted h =
      let many = values-many (map (λ x. x.ty) fs) m ns vs (subst (λ ts. FieldsLift ts m ns vs) (as-members fs) h) in
      fields-in-order rows fs vs order apart (many ∙ length-map fs (λ x. x.ty)) sorted

-- ---- cases

-- v is of case i, with the payload that these core values carry where the case has one
abbrev pub PayloadLifts : Payload → List ℕ → List ℕ → ℕ → Value → Type 0
PayloadLifts no_payload m ns i v = v ≡ plain_value i
PayloadLifts (payload t) m ns i v = (w : Value) × Lifts (closed t) m ns w × (v ≡ payload_value i w)

pub payload-index : (p : Payload) (m ns : List ℕ) (i : ℕ) (v : Value) → PayloadLifts p m ns i v → case_index v ≡ i
payload-index no_payload m ns i v is = ap case_index is
payload-index (payload t) m ns i v (w, lifts, is) = ap case_index is

module _ (rows : List LabelledType) where
  module _ (m ns : List ℕ) where
    first-lifts : (p : Payload) (cs : Cases) (i : ℕ) (v : Value) → CaseLifts (closed_payload p cs) m ns i 0 v → PayloadLifts p m ns i v
    first-lifts no_payload cs i v h = h
    first-lifts (payload t) cs i v h = h

    later-lifts : (p : Payload) (cs : Cases) (i n : ℕ) (v : Value) → CaseLifts (closed_payload p cs) m ns i (suc n) v → CaseLifts cs m ns i n v
    later-lifts no_payload cs i n v h = h
    later-lifts (payload t) cs i n v h = h

    pub case-found : (cs : List Case) (i n : ℕ) (v : Value) → CaseLifts (closed_cases (labelled_cases rows cs)) m ns i n v → IsAnyCase cs n
    case-found [] i n v h = absurd h
    case-found (c ∷ cs) i zero v h = (c.name, c.ty, (refl, refl))
    case-found (c ∷ cs) i (suc n) v h = case-found cs i n v (later-lifts (labelled_payload rows c.ty) (closed_cases (labelled_cases rows cs)) i n v h)

    pub case-lifts : (cs : List Case) (i n : ℕ) (v : Value) (l : Label) (p : Option ValType) → IsCase cs n l p
        → CaseLifts (closed_cases (labelled_cases rows cs)) m ns i n v → PayloadLifts (labelled_payload rows p) m ns i v
    case-lifts [] i n v l p is h = absurd is
    case-lifts (c ∷ cs) i zero v l p (is_l, is_p) h =
        subst (λ o. PayloadLifts (labelled_payload rows o) m ns i v) is_p (first-lifts (labelled_payload rows c.ty) (closed_cases (labelled_cases rows cs)) i v h)
    case-lifts (c ∷ cs) i (suc n) v l p is h =
        case-lifts cs i n v l p is (later-lifts (labelled_payload rows c.ty) (closed_cases (labelled_cases rows cs)) i n v h)

  cases-say : (cs : List Case) (n : ℕ) (v : Value) (l : Label) (p : Option ValType) → IsCase cs n l p
      → cases_json (labelled_cases rows cs) n v ≡ payload_json (labelled_payload rows p) l v
  cases-say [] n v l p is = absurd is
  cases-say (c ∷ cs) zero v l p (is_l, is_p) =
      ap (λ k. payload_json (labelled_payload rows c.ty) k v) is_l ∙ ap (λ o. payload_json (labelled_payload rows o) l v) is_p
  cases-say (c ∷ cs) (suc n) v l p is = cases-say cs n v l p is

  labels-say : (ls : List Label) (n : ℕ) (v : Value) (l : Label) (p : Option ValType) → IsCase (map label_case ls) n l p
      → json.string (label_of ls n) ≡ payload_json (labelled_payload rows p) l v
  labels-say [] n v l p is = absurd is
  labels-say (k ∷ ls) zero v l p (is_l, is_p) = ap json.string is_l ∙ ap (λ o. payload_json (labelled_payload rows o) l v) is_p
  labels-say (k ∷ ls) (suc n) v l p is = labels-say ls n v l p is

  -- the JSON value of a value of a case
  pub kind-says : (k : TypeDefKind) (n : ℕ) (v : Value) (l : Label) (p : Option ValType) → IsCase (cases_of_kind k) n l p → case_index v ≡ n
      → json_of (labelled_kind rows k) v ≡ payload_json (labelled_payload rows p) l v
  kind-says (kind.Use t) n v l p is i = absurd is
  kind-says (kind.Alias t) n v l p is i = absurd is
  kind-says (kind.List t) n v l p is i = absurd is
  kind-says (kind.Tuple ts) n v l p is i = absurd is
  kind-says (kind.Record fs) n v l p is i = absurd is
  kind-says (kind.Flags ls) n v l p is i = absurd is
  kind-says (kind.Variant cs) n v l p is i = ap (λ x. cases_json (labelled_cases rows cs) x v) i ∙ cases-say cs n v l p is
  kind-says (kind.Enum ls) n v l p is i = ap (λ x. json.string (label_of ls x)) i ∙ labels-say ls n v l p is
  kind-says (kind.Option t) zero v l p (is_l, is_p) i =
      ap (λ x. if x == 0 then json.string none_label else one_member some_label (json_of (labelled_val rows t) (inner v))) i
      ∙ ap json.string is_l ∙ ap (λ o. payload_json (labelled_payload rows o) l v) is_p
  kind-says (kind.Option t) (suc zero) v l p (is_l, is_p) i =
      ap (λ x. if x == 0 then json.string none_label else one_member some_label (json_of (labelled_val rows t) (inner v))) i
      ∙ ap (λ x. one_member x (json_of (labelled_val rows t) (inner v))) is_l ∙ ap (λ o. payload_json (labelled_payload rows o) l v) is_p
  kind-says (kind.Option t) (suc (suc n)) v l p is i = absurd is
  kind-says (kind.Result ok error) zero v l p (is_l, is_p) i =
      ap (λ x. if x == 0 then payload_json (labelled_payload rows ok) ok_label v else payload_json (labelled_payload rows error) error_label v) i
      ∙ ap (λ x. payload_json (labelled_payload rows ok) x v) is_l ∙ ap (λ o. payload_json (labelled_payload rows o) l v) is_p
  kind-says (kind.Result ok error) (suc zero) v l p (is_l, is_p) i =
      ap (λ x. if x == 0 then payload_json (labelled_payload rows ok) ok_label v else payload_json (labelled_payload rows error) error_label v) i
      ∙ ap (λ x. payload_json (labelled_payload rows error) x v) is_l ∙ ap (λ o. payload_json (labelled_payload rows o) l v) is_p
  kind-says (kind.Result ok error) (suc (suc n)) v l p is i = absurd is

  plain-erased : (ls : List Label) → plain_cases ls ≡ closed_cases (labelled_cases rows (map label_case ls))
  plain-erased [] = refl
  plain-erased (l ∷ ls) = rw (plain-erased ls) refl

  -- the closed type of a type that has cases
  pub kind-closed : (k : TypeDefKind) → HasCases k → closed (labelled_kind rows k) ≡ variant_type (closed_cases (labelled_cases rows (cases_of_kind k)))
  kind-closed (kind.Use t) h = absurd h
  kind-closed (kind.Alias t) h = absurd h
  kind-closed (kind.List t) h = absurd h
  kind-closed (kind.Tuple ts) h = absurd h
  kind-closed (kind.Record fs) h = absurd h
  kind-closed (kind.Flags ls) h = absurd h
  kind-closed (kind.Variant cs) h = refl
  kind-closed (kind.Option t) h = refl
  kind-closed (kind.Result ok error) h = refl
  kind-closed (kind.Enum ls) h = ap variant_type (plain-erased ls)

  lifted : (k : TypeDefKind) (m ns : List ℕ) (n : ℕ) (v : Value) → HasCases k → n ≡ low_bits ns 0 32 → Lifts (closed (labelled_kind rows k)) m ns v
      → CaseLifts (closed_cases (labelled_cases rows (cases_of_kind k))) m (drop 1 ns) n n v
  lifted k m ns n v has is lifts =
      let whole = subst (λ t. Lifts t m ns v) (kind-closed k has) lifts in
      subst (λ i. CaseLifts (closed_cases (labelled_cases rows (cases_of_kind k))) m (drop 1 ns) i i v) (sym is) whole

  -- the discriminant is the number of a case
  pub named : (k : TypeDefKind) (m ns : List ℕ) (n : ℕ) (v : Value) → HasCases k → n ≡ low_bits ns 0 32 → Lifts (closed (labelled_kind rows k)) m ns v → IsAnyCase (cases_of_kind k) n
  named k m ns n v has is lifts = case-found m (drop 1 ns) (cases_of_kind k) n n v (lifted k m ns n v has is lifts)

  -- the text of a value of a case without a payload
  pub plain-text : (k : TypeDefKind) (m ns : List ℕ) (n : ℕ) (v : Value) (l : Label) → HasCases k → n ≡ low_bits ns 0 32 → IsCase (cases_of_kind k) n l None
      → Lifts (closed (labelled_kind rows k)) m ns v → compact_text (json_of (labelled_kind rows k) v) ≡ quoted l
  plain-text k m ns n v l has is one lifts =
      let p = case-lifts m (drop 1 ns) (cases_of_kind k) n n v l None one (lifted k m ns n v has is lifts) in
      ap compact_text (kind-says k n v l None one (payload-index no_payload m (drop 1 ns) n v p))

  -- the text of a value of a case with a payload
  pub payload-text : (k : TypeDefKind) (m ns : List ℕ) (n : ℕ) (v : Value) (l : Label) (t : ValType) → HasCases k → n ≡ low_bits ns 0 32 → IsCase (cases_of_kind k) n l (Some t)
      → Lifts (closed (labelled_kind rows k)) m ns v
      → (w : Value) × Lifts (closed (labelled_val rows t)) m (drop 1 ns) w × (compact_text (json_of (labelled_kind rows k) v) ≡ ((123 ∷ key_at 0 l) ++ compact_text (json_of (labelled_val rows t) w)) ++ 125 ∷ [])
  payload-text k m ns n v l t has is one lifts =
      let p = case-lifts m (drop 1 ns) (cases_of_kind k) n n v l (Some t) one (lifted k m ns n v has is lifts) in
      let (w, held, shape) = p in
      let same = kind-says k n v l (Some t) one (payload-index (payload (labelled_val rows t)) m (drop 1 ns) n v p) in
      let inside : one_member l (json_of (labelled_val rows t) (inner v)) ≡ one_member l (json_of (labelled_val rows t) w) = ap (λ x. one_member l (json_of (labelled_val rows t) (inner x))) shape in (
        w,
        held,
        ap compact_text (same ∙ inside) ∙ object-parts (json.member l (json_of (labelled_val rows t) w) json.no_members)
            ∙ ap (λ xs. (123 ∷ (key_at 0 l ++ xs)) ++ 125 ∷ []) (append-nil (compact_text (json_of (labelled_val rows t) w))),
      )

  more-kinds : (p : Payload) (cs : Cases) → length (payload_kinds cs) ≤ length (payload_kinds (closed_payload p cs))
  more-kinds no_payload cs = omega arith
  more-kinds (payload t) cs = omega (arith, length-join (flat_kinds (closed t)) (payload_kinds cs))

  -- a payload takes no more core values than all payloads together
  pub case-kinds : (cs : List Case) (n : ℕ) (l : Label) (t : ValType) → IsCase cs n l (Some t)
      → length (flat_kinds (closed (labelled_val rows t))) ≤ length (payload_kinds (closed_cases (labelled_cases rows cs)))
  case-kinds [] n l t is = absurd is
  case-kinds (c ∷ cs) zero l t (is_l, is_p) =
      let later = closed_cases (labelled_cases rows cs) in
      let here : length (flat_kinds (closed (labelled_val rows t))) ≤ length (payload_kinds (closed_payload (payload (labelled_val rows t)) later)) =
      omega (arith, length-join (flat_kinds (closed (labelled_val rows t))) (payload_kinds later)) in
      subst (λ o. length (flat_kinds (closed (labelled_val rows t))) ≤ length (payload_kinds (closed_payload (labelled_payload rows o) later))) (sym is_p) here
  case-kinds (c ∷ cs) (suc n) l t is =
      let less = case-kinds cs n l t is in
      omega (arith, less, more-kinds (labelled_payload rows c.ty) (closed_cases (labelled_cases rows cs)))

module _ (has : ValType → Bool) where
  none-all : (p : Option ValType) → None ≡ p → IsTrue (option_all has p)
  none-all p is = subst (λ o. IsTrue (option_all has o)) is (search arith)

  cases-all : (cs : List Case) (n : ℕ) (l : Label) (p : Option ValType) → IsCase cs n l p → IsTrue (list_all (λ c. option_all has c.ty) cs) → IsTrue (option_all has p)
  cases-all [] n l p is h = absurd is
  cases-all (c ∷ cs) zero l p (is_l, is_p) h = subst (λ o. IsTrue (option_all has o)) is_p (split (option_all has c.ty) (list_all (λ c. option_all has c.ty) cs) h).0
  cases-all (c ∷ cs) (suc n) l p is h = cases-all cs n l p is (split (option_all has c.ty) (list_all (λ c. option_all has c.ty) cs) h).1

  labels-none : (ls : List Label) (n : ℕ) (l : Label) (p : Option ValType) → IsCase (map label_case ls) n l p → None ≡ p
  labels-none [] n l p is = absurd is
  labels-none (k ∷ ls) zero l p (is_l, is_p) = is_p
  labels-none (k ∷ ls) (suc n) l p is = labels-none ls n l p is

  -- what each type that a kind names has, a payload's type has
  pub case-all : (k : TypeDefKind) (n : ℕ) (l : Label) (p : Option ValType) → IsCase (cases_of_kind k) n l p → IsTrue (kind_all has k) → IsTrue (option_all has p)
  case-all (kind.Use t) n l p is h = absurd is
  case-all (kind.Alias t) n l p is h = absurd is
  case-all (kind.List t) n l p is h = absurd is
  case-all (kind.Tuple ts) n l p is h = absurd is
  case-all (kind.Record fs) n l p is h = absurd is
  case-all (kind.Flags ls) n l p is h = absurd is
  case-all (kind.Variant cs) n l p is h = cases-all cs n l p is h
  case-all (kind.Enum ls) n l p is h = none-all p (labels-none ls n l p is)
  case-all (kind.Option t) zero l p (is_l, is_p) h = none-all p is_p
  case-all (kind.Option t) (suc zero) l p (is_l, is_p) h = subst (λ o. IsTrue (option_all has o)) is_p h
  case-all (kind.Option t) (suc (suc n)) l p is h = absurd is
  case-all (kind.Result ok error) zero l p (is_l, is_p) h = subst (λ o. IsTrue (option_all has o)) is_p (split (option_all has ok) (option_all has error) h).0
  case-all (kind.Result ok error) (suc zero) l p (is_l, is_p) h = subst (λ o. IsTrue (option_all has o)) is_p (split (option_all has ok) (option_all has error) h).1
  case-all (kind.Result ok error) (suc (suc n)) l p is h = absurd is

-- ---- cases by their numbers

pub any-inside : (cs : List Case) (n : ℕ) → IsAnyCase cs n → n < length cs
any-inside [] n (l, p, is) = absurd is
any-inside (c ∷ cs) zero (l, p, is) = omega arith
any-inside (c ∷ cs) (suc n) (l, p, is) = let less = any-inside cs n (l, p, is) in omega (arith, less)

pub case-there : (cs : List Case) (n : ℕ) (c : Case) → n < length cs → c ≡ get_or cs n c → IsCase cs n c.name c.ty
case-there [] n c h is = absurd (omega arith)
case-there (x ∷ cs) zero c h is = (ap (λ (y : Case). y.name) (sym is), ap (λ (y : Case). y.ty) (sym is))
case-there (x ∷ cs) (suc n) c h is = case-there cs n c (omega (arith, h)) is

pub label-inside : (ls : List Label) (n : ℕ) → IsAnyCase (map label_case ls) n → n < length ls
label-inside [] n (l, p, is) = absurd is
label-inside (k ∷ ls) zero (l, p, is) = omega arith
label-inside (k ∷ ls) (suc n) (l, p, is) = let less = label-inside ls n (l, p, is) in omega (arith, less)

pub label-there : (ls : List Label) (n : ℕ) (l : Label) → n < length ls → l ≡ get_or ls n l → IsCase (map label_case ls) n l None
label-there [] n l h is = absurd (omega arith)
label-there (k ∷ ls) zero l h is = (sym is, refl)
label-there (k ∷ ls) (suc n) l h is = label-there ls n l (omega (arith, h)) is

-- ---- from parts to wholes

module _ {E : Type 0} (limit : ℕ) (m ns old : List ℕ) (at : ℕ) (done : Result ℕ E) (new : List ℕ) where
  pub tuple-put : (ts : LabelledTypes) → PutsAllCarried limit ts m ns old at done new → PutsCarried limit (labelled_tuple ts) m ns old at done new
  tuple-put ts h = λ v (vs, each, is).
      let same : json_of (labelled_tuple ts) v ≡ array (items_of (members_json ts vs)) = ap (json_of (labelled_tuple ts)) is ∙ ap (λ ws. array (items_of (members_json ts ws))) (items-of vs) in
      subst (λ j. PutsWithin limit (compact_text j) old at done new) (sym same) (h vs each)

  pub list-put : (t : LabelledType) (v : Value) (vs : List Value) → v ≡ list_value (values_of vs)
      → PutsWithin limit (compact_text (array (items_of (map (json_of t) vs)))) old at done new → PutsWithin limit (compact_text (json_of (labelled_list t) v)) old at done new
  list-put t v vs is h =
      let same : json_of (labelled_list t) v ≡ array (items_of (map (json_of t) vs)) = ap (json_of (labelled_list t)) is ∙ ap (λ ws. array (items_of (map (json_of t) ws))) (items-of vs) in
      subst (λ j. PutsWithin limit (compact_text j) old at done new) (sym same) h

  pub record-put : (fs : LabelledFields) → PutsFieldsCarried limit fs m ns old at done new → PutsCarried limit (labelled_record fs) m ns old at done new
  record-put fs h = λ v (vs, each, is).
      let same : json_of (labelled_record fs) v ≡ object (fields_json fs vs) = ap (json_of (labelled_record fs)) is ∙ ap (λ ws. object (fields_json fs ws)) (items-of vs) in
      subst (λ j. PutsWithin limit (compact_text j) old at done new) (sym same) (h vs each)
