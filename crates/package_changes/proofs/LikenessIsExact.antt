-- The tests of `Likeness` are exact.
use Rattle.std.proofs.Common.{◌≡◌, ℕ, zero, suc, Bool, true, false, ◌&&◌, eqb, nat_le, List, [], ◌∷◌, length, Option, Some, None, IsTrue, ◌↔◌, refl, ap, sym, subst, ◌∙◌, arith}
use Rattle.std.specs.Str.{bytes_eq}
use Rattle.std.proofs.lemmas.Bool.{eqb-true, eq-eqb, false≢true, leb-true, le-leb}
use Rattle.std.proofs.lemmas.Slice.Eq.{bytes_eq-Decides}
use Rattle.canonical_abi.specs.Types.{Prim, boolean, unsigned, signed, scalar_value, int8, int16, int32, int64, ClosedType, prim_type, string_type, list_type, record_type, variant_type, flags_type, Fields, no_field, field, Cases, no_case, plain_case, case_with, case_count}
use Rattle.canonical_abi.specs.Labelled.{Label, LabelledType, labelled_prim, labelled_string, labelled_list, labelled_option, labelled_tuple, labelled_result, labelled_record, labelled_variant, labelled_enum, labelled_flags, LabelledTypes, no_member, member, Payload, no_payload, payload, LabelledFields, no_labelled_field, labelled_field, LabelledCases, no_labelled_case, labelled_case, closed}
use Rattle.canonical_abi.specs.Layout.{size, align, field_kinds, flags_size, discriminant_size}
use Rattle.canonical_abi.specs.declared.flat.CoreKind.{CoreKind}
use Rattle.canonical_abi.specs.declared.flat.CoreKind.TheVariants.{I32, I64}
use Rattle.layout.specs.Kinds.{kinds_of}
use Rattle.layout.specs.declared.kinds.Kinds.{Kinds}
use Rattle.layout.specs.declared.kinds.Kinds.TheVariants.{Flat, Spilled}
use Rattle.package_changes.specs.declared.type_nodes.Spelling.{Spelling}
use Rattle.package_changes.specs.declared.type_nodes.Spelling.TheVariants as spelled
use Rattle.package_changes.specs.Widening.{HaveOneLayout, Widens, WidenFields, WidenCases}
use Rattle.package_changes.specs.Forms.{Form, prim_form, string_form, node_form, Parts, no_part, bare, part, form_of, is_first, behind_first, field_labels, case_labels, member_parts, payload_part, field_parts, case_parts}
use Rattle.package_changes.specs.Likeness.{prim_code, is_same_prim, spelling_code, is_same_spelling, are_same_labels, is_same_form, are_same_parts, is_same_type, are_same_fields, are_same_cases, is_same_kind, are_same_kinds, are_same_carriers, have_one_layout, widens, fields_widen, cases_widen}
use Rattle.package_changes.proofs.TypesByParts.{spelling-one}

both-true : (a b : Bool) → (a && b) ≡ true → (a ≡ true) × (b ≡ true)
both-true true b h = (refl, h)
both-true false b h = absurd (false≢true h)

true-both : (a b : Bool) → a ≡ true → b ≡ true → (a && b) ≡ true
true-both a b p q = rw (p, q) refl

-- ---- primitives

-- the primitive that has this number
abbrev prim_by : ℕ → Prim
prim_by zero = boolean
prim_by (suc zero) = signed int8
prim_by (suc (suc zero)) = unsigned int8
prim_by (suc (suc (suc zero))) = signed int16
prim_by (suc (suc (suc (suc zero)))) = unsigned int16
prim_by (suc (suc (suc (suc (suc zero))))) = signed int32
prim_by (suc (suc (suc (suc (suc (suc zero)))))) = unsigned int32
prim_by (suc (suc (suc (suc (suc (suc (suc zero))))))) = signed int64
prim_by (suc (suc (suc (suc (suc (suc (suc (suc zero)))))))) = unsigned int64
prim_by _ = scalar_value

prim-back : (p : Prim) → prim_by (prim_code p) ≡ p
prim-back boolean = refl
prim-back (signed int8) = refl
prim-back (unsigned int8) = refl
prim-back (signed int16) = refl
prim-back (unsigned int16) = refl
prim-back (signed int32) = refl
prim-back (unsigned int32) = refl
prim-back (signed int64) = refl
prim-back (unsigned int64) = refl
prim-back scalar_value = refl

prim-one : (p q : Prim) → is_same_prim p q ≡ true → p ≡ q
prim-one p q h = sym (prim-back p) ∙ ap prim_by (eqb-true _ _ h) ∙ prim-back q

prim-self : (p : Prim) → is_same_prim p p ≡ true
prim-self p = eq-eqb _ _ refl

-- ---- forms

labels-one : (ls ms : List Label) → are_same_labels ls ms ≡ true → ls ≡ ms
labels-one [] [] h = refl
labels-one [] (m ∷ ms) h = absurd (false≢true h)
labels-one (l ∷ ls) [] h = absurd (false≢true h)
labels-one (l ∷ ls) (m ∷ ms) h =
    let hs = both-true (bytes_eq l m) (are_same_labels ls ms) h in
    ap (λ (x : Label). x ∷ ls) ((bytes_eq-Decides l m).0 hs.0) ∙ ap (λ (xs : List Label). m ∷ xs) (labels-one ls ms hs.1)

labels-self : (ls : List Label) → are_same_labels ls ls ≡ true
labels-self [] = refl
labels-self (l ∷ ls) = true-both (bytes_eq l l) (are_same_labels ls ls) ((bytes_eq-Decides l l).1 refl) (labels-self ls)

mutual
  form-one : (a b : Form) → is_same_form a b ≡ true → a ≡ b
  form-one (prim_form p) (prim_form q) h = ap prim_form (prim-one p q h)
  form-one string_form string_form h = refl
  form-one (node_form j ls ps) (node_form k ms qs) h =
      let hs = both-true (is_same_spelling j k) (are_same_labels ls ms && are_same_parts ps qs) h in
      let rest = both-true (are_same_labels ls ms) (are_same_parts ps qs) hs.1 in
      ap (λ x. node_form x ls ps) (spelling-one j k (eqb-true _ _ hs.0)) ∙ ap (λ x. node_form k x ps) (labels-one ls ms rest.0) ∙ ap (node_form k ms) (parts-one ps qs rest.1)
  form-one _ _ h = absurd (false≢true h)

  parts-one : (ps qs : Parts) → are_same_parts ps qs ≡ true → ps ≡ qs
  parts-one no_part no_part h = refl
  parts-one (bare ps) (bare qs) h = ap bare (parts-one ps qs h)
  parts-one (part a ps) (part b qs) h =
      let hs = both-true (is_same_form a b) (are_same_parts ps qs) h in
      ap (λ x. part x ps) (form-one a b hs.0) ∙ ap (part b) (parts-one ps qs hs.1)
  parts-one _ _ h = absurd (false≢true h)

mutual
  form-self : (a : Form) → is_same_form a a ≡ true
  form-self (prim_form p) = prim-self p
  form-self string_form = refl
  form-self (node_form j ls ps) = rw (labels-self ls, parts-self ps) (true-both (is_same_spelling j j) true (eq-eqb _ _ refl) refl)

  parts-self : (ps : Parts) → are_same_parts ps ps ≡ true
  parts-self no_part = refl
  parts-self (bare ps) = parts-self ps
  parts-self (part a ps) = true-both (is_same_form a a) (are_same_parts ps ps) (form-self a) (parts-self ps)

-- ---- the labelled type of a form

abbrev payload_type : Payload → LabelledType
payload_type (payload t) = t
payload_type no_payload = labelled_string

abbrev first_payload : List Payload → Payload
first_payload (p ∷ ps) = p
first_payload [] = no_payload

abbrev other_payloads : List Payload → List Payload
other_payloads (p ∷ ps) = ps
other_payloads [] = []

abbrev members_from : List Payload → LabelledTypes
members_from [] = no_member
members_from (p ∷ ps) = member (payload_type p) (members_from ps)

abbrev fields_from : List Label → List Payload → LabelledFields
fields_from (l ∷ ls) (p ∷ ps) = labelled_field l (payload_type p) (fields_from ls ps)
fields_from _ _ = no_labelled_field

abbrev cases_from : List Label → List Payload → LabelledCases
cases_from (l ∷ ls) (p ∷ ps) = labelled_case l p (cases_from ls ps)
cases_from _ _ = no_labelled_case

abbrev rebuilt : Spelling → List Label → List Payload → LabelledType
rebuilt spelled.List ls ps = labelled_list (payload_type (first_payload ps))
rebuilt spelled.Option ls ps = labelled_option (payload_type (first_payload (other_payloads ps)))
rebuilt spelled.Tuple ls ps = labelled_tuple (members_from ps)
rebuilt spelled.Result ls ps = labelled_result (first_payload ps) (first_payload (other_payloads ps))
rebuilt spelled.Record ls ps = labelled_record (fields_from ls ps)
rebuilt spelled.Variant ls ps = labelled_variant (cases_from ls ps)
rebuilt spelled.Enum ls ps = labelled_enum ls
rebuilt spelled.Flags ls ps = labelled_flags ls

abbrev mutual
  labelled_of : Form → LabelledType
  labelled_of (prim_form p) = labelled_prim p
  labelled_of string_form = labelled_string
  labelled_of (node_form s ls ps) = rebuilt s ls (payloads_of ps)

  payloads_of : Parts → List Payload
  payloads_of no_part = []
  payloads_of (bare ps) = no_payload ∷ payloads_of ps
  payloads_of (part a ps) = payload (labelled_of a) ∷ payloads_of ps

mutual
  form-back : (t : LabelledType) → labelled_of (form_of t) ≡ t
  form-back (labelled_prim p) = refl
  form-back labelled_string = refl
  form-back (labelled_list t) = ap labelled_list (form-back t)
  form-back (labelled_option t) = ap labelled_option (form-back t)
  form-back (labelled_tuple ts) = ap labelled_tuple (members-back ts)
  form-back (labelled_result ok error) =
      let last : payloads_of (payload_part error no_part) ≡ error ∷ [] = payload-back error no_part in
      let whole : payloads_of (payload_part ok (payload_part error no_part)) ≡ ok ∷ error ∷ [] = payload-back ok (payload_part error no_part) ∙ ap (λ (ps : List Payload). ok ∷ ps) last in
      ap (λ ps. labelled_result (first_payload ps) (first_payload (other_payloads ps))) whole
  form-back (labelled_record fs) = ap labelled_record (fields-back fs)
  form-back (labelled_variant cs) = ap labelled_variant (cases-back cs)
  form-back (labelled_enum ls) = refl
  form-back (labelled_flags ls) = refl

  members-back : (ts : LabelledTypes) → members_from (payloads_of (member_parts ts)) ≡ ts
  members-back no_member = refl
  members-back (member t ts) = ap (λ x. member x (members_from (payloads_of (member_parts ts)))) (form-back t) ∙ ap (member t) (members-back ts)

  payload-back : (p : Payload) (ps : Parts) → payloads_of (payload_part p ps) ≡ p ∷ payloads_of ps
  payload-back no_payload ps = refl
  payload-back (payload t) ps = ap (λ x. payload x ∷ payloads_of ps) (form-back t)

  fields-back : (fs : LabelledFields) → fields_from (field_labels fs) (payloads_of (field_parts fs)) ≡ fs
  fields-back no_labelled_field = refl
  fields-back (labelled_field l t fs) =
      ap (λ x. labelled_field l x (fields_from (field_labels fs) (payloads_of (field_parts fs)))) (form-back t) ∙ ap (labelled_field l t) (fields-back fs)

  cases-back : (cs : LabelledCases) → cases_from (case_labels cs) (payloads_of (case_parts cs)) ≡ cs
  cases-back no_labelled_case = refl
  cases-back (labelled_case l p cs) =
      ap (λ ps. cases_from (l ∷ case_labels cs) ps) (payload-back p (case_parts cs)) ∙ ap (labelled_case l p) (cases-back cs)

pub same-exact : (t u : LabelledType) → IsTrue (is_same_form (form_of t) (form_of u)) ↔ t ≡ u
same-exact t u = (
  λ h. sym (form-back t) ∙ ap labelled_of (form-one (form_of t) (form_of u) h) ∙ form-back u,
  λ e. subst (λ x. is_same_form (form_of t) (form_of x) ≡ true) e (form-self (form_of t)),
)

-- ---- closed types

mutual
  type-one : (t u : ClosedType) → is_same_type t u ≡ true → t ≡ u
  type-one (prim_type p) (prim_type q) h = ap prim_type (prim-one p q h)
  type-one string_type string_type h = refl
  type-one (list_type t) (list_type u) h = ap list_type (type-one t u h)
  type-one (record_type fs) (record_type gs) h = ap record_type (fields-one fs gs h)
  type-one (variant_type cs) (variant_type ds) h = ap variant_type (cases-one cs ds h)
  type-one (flags_type m) (flags_type n) h = ap flags_type (eqb-true m n h)
  type-one _ _ h = absurd (false≢true h)

  fields-one : (fs gs : Fields) → are_same_fields fs gs ≡ true → fs ≡ gs
  fields-one no_field no_field h = refl
  fields-one (field t fs) (field u gs) h =
      let hs = both-true (is_same_type t u) (are_same_fields fs gs) h in
      ap (λ x. field x fs) (type-one t u hs.0) ∙ ap (field u) (fields-one fs gs hs.1)
  fields-one _ _ h = absurd (false≢true h)

  cases-one : (cs ds : Cases) → are_same_cases cs ds ≡ true → cs ≡ ds
  cases-one no_case no_case h = refl
  cases-one (plain_case cs) (plain_case ds) h = ap plain_case (cases-one cs ds h)
  cases-one (case_with t cs) (case_with u ds) h =
      let hs = both-true (is_same_type t u) (are_same_cases cs ds) h in
      ap (λ x. case_with x cs) (type-one t u hs.0) ∙ ap (case_with u) (cases-one cs ds hs.1)
  cases-one _ _ h = absurd (false≢true h)

mutual
  type-self : (t : ClosedType) → is_same_type t t ≡ true
  type-self (prim_type p) = prim-self p
  type-self string_type = refl
  type-self (list_type t) = type-self t
  type-self (record_type fs) = fields-self fs
  type-self (variant_type cs) = cases-self cs
  type-self (flags_type n) = eq-eqb n n refl

  fields-self : (fs : Fields) → are_same_fields fs fs ≡ true
  fields-self no_field = refl
  fields-self (field t fs) = rw (type-self t, fields-self fs) refl

  cases-self : (cs : Cases) → are_same_cases cs cs ≡ true
  cases-self no_case = refl
  cases-self (plain_case cs) = cases-self cs
  cases-self (case_with t cs) = rw (type-self t, cases-self cs) refl

pub equal-exact : (t u : ClosedType) → IsTrue (is_same_type t u) ↔ t ≡ u
equal-exact t u = (type-one t u, λ e. subst (λ x. is_same_type t x ≡ true) e (type-self t))

-- ---- layouts

kinds-one : (js ks : List CoreKind) → are_same_kinds js ks ≡ true → js ≡ ks
kinds-one [] [] h = refl
kinds-one [] (k ∷ ks) h = absurd (false≢true h)
kinds-one (I32 ∷ js) [] h = absurd (false≢true h)
kinds-one (I64 ∷ js) [] h = absurd (false≢true h)
kinds-one (I32 ∷ js) (I32 ∷ ks) h = ap (λ (l : List CoreKind). I32 ∷ l) (kinds-one js ks h)
kinds-one (I64 ∷ js) (I64 ∷ ks) h = ap (λ (l : List CoreKind). I64 ∷ l) (kinds-one js ks h)
kinds-one (I32 ∷ js) (I64 ∷ ks) h = absurd (false≢true h)
kinds-one (I64 ∷ js) (I32 ∷ ks) h = absurd (false≢true h)

kinds-self : (ks : List CoreKind) → are_same_kinds ks ks ≡ true
kinds-self [] = refl
kinds-self (I32 ∷ ks) = kinds-self ks
kinds-self (I64 ∷ ks) = kinds-self ks

carriers-one : (a b : Kinds) → are_same_carriers a b ≡ true → a ≡ b
carriers-one (Flat js) (Flat ks) h = let e = kinds-one js.items ks.items h in λ i. Flat (record { items = e i })
carriers-one Spilled Spilled h = refl
carriers-one (Flat js) Spilled h = absurd (false≢true h)
carriers-one Spilled (Flat ks) h = absurd (false≢true h)

carriers-self : (a : Kinds) → are_same_carriers a a ≡ true
carriers-self (Flat ks) = kinds-self ks.items
carriers-self Spilled = refl

layout-told : (t u : ClosedType) → have_one_layout t u ≡ true → HaveOneLayout t u
layout-told t u h =
    let carriers = are_same_carriers (kinds_of (field_kinds (field t no_field))) (kinds_of (field_kinds (field u no_field))) in
    let hs = both-true (eqb (size t) (size u)) (eqb (align t) (align u) && carriers) h in
    let rest = both-true (eqb (align t) (align u)) carriers hs.1 in
    record { sizes = eqb-true _ _ hs.0; aligns = eqb-true _ _ rest.0; carriers = carriers-one _ _ rest.1 }

layout-true : (t u : ClosedType) → HaveOneLayout t u → have_one_layout t u ≡ true
layout-true t u h =
    let carried : are_same_carriers (kinds_of (field_kinds (field t no_field))) (kinds_of (field_kinds (field u no_field))) ≡ true =
    subst (λ k. are_same_carriers (kinds_of (field_kinds (field t no_field))) k ≡ true) h.carriers (carriers-self (kinds_of (field_kinds (field t no_field)))) in
    true-both _ _ (eq-eqb _ _ h.sizes) (true-both _ _ (eq-eqb _ _ h.aligns) carried)

mutual
  widens-told : (t u : ClosedType) → widens t u ≡ true → Widens t u
  widens-told (prim_type p) (prim_type q) h = prim-one p q h
  widens-told string_type string_type h = tt
  widens-told (list_type t) (list_type u) h = widens-told t u h
  widens-told (record_type fs) (record_type gs) h = fields-told fs gs h
  widens-told (variant_type cs) (variant_type ds) h =
      let disc = eqb (discriminant_size (case_count cs)) (discriminant_size (case_count ds)) in
      let hs = both-true (have_one_layout (variant_type cs) (variant_type ds)) (disc && cases_widen cs ds) h in
      let rest = both-true disc (cases_widen cs ds) hs.1 in
      (layout-told (variant_type cs) (variant_type ds) hs.0, eqb-true _ _ rest.0, cases-told cs ds rest.1)
  widens-told (flags_type m) (flags_type n) h =
      let hs = both-true (nat_le m n) (eqb (flags_size m) (flags_size n)) h in
      (leb-true m n hs.0, eqb-true _ _ hs.1)
  widens-told _ _ h = absurd (false≢true h)

  fields-told : (fs gs : Fields) → fields_widen fs gs ≡ true → WidenFields fs gs
  fields-told no_field no_field h = tt
  fields-told (field t fs) (field u gs) h = let hs = both-true (widens t u) (fields_widen fs gs) h in (widens-told t u hs.0, fields-told fs gs hs.1)
  fields-told _ _ h = absurd (false≢true h)

  cases-told : (cs ds : Cases) → cases_widen cs ds ≡ true → WidenCases cs ds
  cases-told no_case ds h = tt
  cases-told (plain_case cs) (plain_case ds) h = cases-told cs ds h
  cases-told (case_with t cs) (case_with u ds) h = let hs = both-true (widens t u) (cases_widen cs ds) h in (widens-told t u hs.0, cases-told cs ds hs.1)
  cases-told _ _ h = absurd (false≢true h)

mutual
  widens-true : (t u : ClosedType) → Widens t u → widens t u ≡ true
  widens-true (prim_type p) (prim_type q) w = subst (λ x. is_same_prim p x ≡ true) w (prim-self p)
  widens-true string_type string_type w = refl
  widens-true (list_type t) (list_type u) w = widens-true t u w
  widens-true (record_type fs) (record_type gs) w = fields-true fs gs w
  widens-true (variant_type cs) (variant_type ds) w =
      true-both _ _ (layout-true (variant_type cs) (variant_type ds) w.0) (true-both _ _ (eq-eqb _ _ w.1) (cases-true cs ds w.2))
  widens-true (flags_type m) (flags_type n) w = true-both _ _ (le-leb m n w.0) (eq-eqb _ _ w.1)
  widens-true _ _ w = absurd w

  fields-true : (fs gs : Fields) → WidenFields fs gs → fields_widen fs gs ≡ true
  fields-true no_field no_field w = refl
  fields-true (field t fs) (field u gs) w = true-both _ _ (widens-true t u w.0) (fields-true fs gs w.1)
  fields-true _ _ w = absurd w

  cases-true : (cs ds : Cases) → WidenCases cs ds → cases_widen cs ds ≡ true
  cases-true no_case ds w = refl
  cases-true (plain_case cs) (plain_case ds) w = cases-true cs ds w
  cases-true (case_with t cs) (case_with u ds) w = true-both _ _ (widens-true t u w.0) (cases-true cs ds w.1)
  cases-true _ _ w = absurd w

pub wider-exact : (t u : ClosedType) → IsTrue (widens t u) ↔ Widens t u
wider-exact t u = (widens-told t u, widens-true t u)

layout-self : (t : ClosedType) → have_one_layout t t ≡ true
layout-self t = layout-true t t (record { sizes = refl; aligns = refl; carriers = refl })

mutual
  pub widens-self : (t : ClosedType) → widens t t ≡ true
  widens-self (prim_type p) = prim-self p
  widens-self string_type = refl
  widens-self (list_type t) = widens-self t
  widens-self (record_type fs) = fields-widen-self fs
  widens-self (variant_type cs) = true-both _ _ (layout-self (variant_type cs)) (true-both _ _ (eq-eqb _ _ refl) (cases-widen-self cs))
  widens-self (flags_type n) = true-both _ _ (le-leb n n (omega arith)) (eq-eqb _ _ refl)

  fields-widen-self : (fs : Fields) → fields_widen fs fs ≡ true
  fields-widen-self no_field = refl
  fields-widen-self (field t fs) = true-both _ _ (widens-self t) (fields-widen-self fs)

  cases-widen-self : (cs : Cases) → cases_widen cs cs ≡ true
  cases-widen-self no_case = refl
  cases-widen-self (plain_case cs) = cases-widen-self cs
  cases-widen-self (case_with t cs) = true-both _ _ (widens-self t) (cases-widen-self cs)
