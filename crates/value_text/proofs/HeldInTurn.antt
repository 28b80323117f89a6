-- The parts of a value that a memory holds.
use Rattle.std.proofs.Common.{◌≡◌, ◌+◌, ◌*◌, ◌≤◌, ◌<◌, ℕ, zero, suc, List, [], ◌∷◌, length, map, slice_get, Some, None, refl, sym, ap, ◌∙◌, subst, arith}
use Rattle.std.specs.Prelude.{if◌then◌else◌, ◌==◌}
use Rattle.std.specs.Int.{w32, next_multiple_of}
use Rattle.std.proofs.lemmas.Option.{same_Some}
use Rattle.canonical_abi.specs.Labelled.{Label, LabelledType, labelled_list, labelled_option, labelled_tuple, labelled_record, labelled_result, labelled_variant, labelled_enum, Payload, no_payload, payload, closed, closed_members, closed_fields, closed_cases, closed_payload, plain_cases, none_label, some_label, ok_label, error_label}
use Rattle.canonical_abi.specs.Types.{ClosedType, Fields, no_field, field, Cases, no_case, nth_field, field_count, record_type, record_fields, list_type, case_count, nth_case, plain_case, case_with, variant_type}
use Rattle.canonical_abi.specs.Values.{Value, values_of, list_value, record_value, plain_value}
use Rattle.canonical_abi.specs.Layout.{size, align, field_extents, places_from, field_places, discriminant_size, payload_place}
use Rattle.canonical_abi.specs.Reading.{reading, number_at, byte_width, case_number}
use Rattle.canonical_abi.specs.Memory.{Holds, Faulty, EachHolds, FieldsHold, CaseHolds}
use Rattle.canonical_abi.specs.declared.trap.TrapKind.{TrapKind}
use Rattle.canonical_abi.proofs.ReadValues.ReadsExactly.{one_outcome, reading-tells}
use Rattle.canonical_abi.proofs.StoredValues.AsksRequests.{items-of as values-in}
use Rattle.serde_json.specs.Data.{string, array, object}
use Rattle.serde_json.specs.View.{items_of}
use Rattle.tables.specs.declared.tables.Field.{Field}
use Rattle.tables.specs.declared.tables.Case.{Case}
use Rattle.tables.specs.declared.tables.ValType.{ValType}
use Rattle.tables.specs.declared.tables.ValType.TheVariants as val
use Rattle.tables.specs.declared.tables.TypeId.{TypeId}
use Rattle.tables.specs.declared.tables.Resolve.{Resolve}
use Rattle.tables.specs.Closed.{closed_type}
use Rattle.tables.proofs.ErasesToClosed.{erases}
use Rattle.values.proofs.TypesExtents.{payload-place, payload-fits, fields-fit}
use Rattle.lift_lower.proofs.PlacesOfFields.{field-fits}
use Rattle.value_json.specs.Apart.{HaveLabelsApart}
use Rattle.tables.specs.Labelled.{labelled_type, labelled_val, labelled_members, labelled_fields, labelled_cases, labelled_payload}
use Rattle.value_json.specs.Json.{one_member}
use Rattle.value_text.specs.Function.{json_of, payload_json, cases_json, members_json, fields_json, case_index, inner, label_of}
use Rattle.value_text.specs.Held.{PayloadHolds, PayloadFits}
use Rattle.value_text.specs.Orders.{IsLabelOrder}
use Rattle.value_text.proofs.Elements.{IsAt}
use Rattle.value_text.proofs.FieldsInOrder.{members_in, fields-in-order}

-- ---- one value

pub not-faulty : (t : ClosedType) (m : List ℕ) (a : ℕ) (v : Value) (k : TrapKind) → Holds t m a v → Faulty t m a k → ⊥
not-faulty t m a v k h f = (one_outcome (reading t m a) (Holds t m a) (Faulty t m a) (reading-tells t m a)).not_both v k h f

-- ---- lists

pub step-inside : (i n s : ℕ) → i < n → i * s + s ≤ n * s
step-inside i zero s h = absurd (omega arith)
step-inside zero (suc n) s h = let e : suc n * s ≡ s + n * s = omega arith in omega (arith, e)
step-inside (suc i) (suc n) s h =
    let less = step-inside i n s (omega (arith, h)) in
    let e : suc n * s ≡ s + n * s = omega arith in
    let f : suc i * s ≡ s + i * s = omega arith in omega (arith, e, f, less)

pub each-many : (P : ℕ → Value → Type 0) (step a n : ℕ) (vs : List Value) → EachHolds P step a n vs → length vs ≡ n
each-many P step a zero vs none = ap length none
each-many P step a (suc n) vs (v, rest, is, here, each) = ap length is ∙ ap suc (each-many P step (a + step) n rest each)

-- element i
pub each-at : (P : ℕ → Value → Type 0) (step a n : ℕ) (vs : List Value) (i : ℕ) → i < n → EachHolds P step a n vs → (v : Value) × IsAt vs i v × P (a + i * step) v
each-at P step a zero vs i h each = absurd (omega arith)
each-at P step a (suc n) vs zero h (v, rest, is, here, each) =
    let at : a + 0 * step ≡ a = omega arith in
    (v, subst (λ xs. IsAt xs 0 v) (sym is) refl, subst (λ k. P k v) (sym at) here)
each-at P step a (suc n) vs (suc i) h (v, rest, is, here, each) =
    let at : a + suc i * step ≡ a + step + i * step = omega arith in
    let (w, there, held) = each-at P step (a + step) n rest i (omega (arith, h)) each in
    (w, subst (λ xs. IsAt xs (suc i) w) (sym is) there, subst (λ k. P k w) (sym at) held)

-- the elements of a list, and that they end inside the memory
pub list-parts : (t : ClosedType) (m : List ℕ) (a start count : ℕ) (v : Value) → start ≡ number_at m a w32 → count ≡ number_at m (a + 4) w32 → Holds (list_type t) m a v
    → (vs : List Value) × EachHolds (Holds t m) (size t) start count vs × (v ≡ list_value (values_of vs)) × (start + count * size t ≤ length m)
list-parts t m a start count v is_start is_count (block, vs, each, is) =
    let P : ℕ → ℕ → Type 0 = λ s n. (ws : List Value) × EachHolds (Holds t m) (size t) s n ws × (v ≡ list_value (values_of ws)) × (s + n * size t ≤ length m) in
    subst (λ s. P s count) (sym is_start) (subst (P (number_at m a w32)) (sym is_count) (vs, each, is, block.1))

pub list-data : (t : LabelledType) (vs : List Value) (v : Value) → v ≡ list_value (values_of vs) → json_of (labelled_list t) v ≡ array (items_of (map (json_of t) vs))
list-data t vs v is = ap (json_of (labelled_list t)) is ∙ ap (λ ws. array (items_of (map (json_of t) ws))) (values-in vs)

-- ---- fields

-- field i, at its place
pub fields-at : (fs : Fields) (m : List ℕ) (a from i : ℕ) (t : ClosedType) (p : ℕ) (vs : List Value) → nth_field fs i ≡ Some t → slice_get (places_from from (field_extents fs)) i ≡ Some p
    → FieldsHold fs m a from vs → (v : Value) × IsAt vs i v × Holds t m (a + p) v
fields-at no_field m a from i t p vs none at h = absurd (let n : None ≡ Some t = none in cc)
fields-at (field u fs) m a from zero t p vs typed at (v, rest, is, here, there) =
    let same_t : u ≡ t = same_Some u t typed in
    let same_p : next_multiple_of from (align u) ≡ p = same_Some (next_multiple_of from (align u)) p at in
    (v, subst (λ xs. IsAt xs 0 v) (sym is) refl, subst (λ k. Holds t m (a + k) v) same_p (subst (λ x. Holds x m (a + next_multiple_of from (align u)) v) same_t here))
fields-at (field u fs) m a from (suc i) t p vs typed at (v, rest, is, here, there) =
    let (w, found, held) = fields-at fs m a (next_multiple_of from (align u) + size u) i t p rest typed at there in
    (w, subst (λ xs. IsAt xs (suc i) w) (sym is) found, held)

pub places-there : (fs : Fields) (from i : ℕ) → i < field_count fs → slice_get (places_from from (field_extents fs)) i ≡ None → ⊥
places-there no_field from i h none = absurd (omega (arith, h))
places-there (field t fs) from zero h none = let e : Some (next_multiple_of from (align t)) ≡ None = none in absurd (cc)
places-there (field t fs) from (suc i) h none = places-there fs (next_multiple_of from (align t) + size t) i (omega (arith, h)) none

-- the fields of a row that is a record, or a tuple
pub fields-of-row : (r : Resolve) (id : TypeId) (l : LabelledType) (fs : Fields) → labelled_type r (val.Id id) ≡ l → closed l ≡ record_type fs → record_fields (closed_type r (val.Id id)) ≡ fs
fields-of-row r id l fs same shape = ap record_fields (sym (erases r (val.Id id)) ∙ ap closed same ∙ shape)

-- a field ends inside the memory
pub field-inside : (fs : Fields) (i : ℕ) (t : ClosedType) (a p len : ℕ) → nth_field fs i ≡ Some t → slice_get (field_places fs) i ≡ Some p → a + size (record_type fs) ≤ len → a + p + size t ≤ len
field-inside fs i t a p len typed at fits =
    let here = field-fits fs i t p typed at in
    let whole = fields-fit fs in omega (arith, here, whole, fits)

pub fields-many : (fs : Fields) (m : List ℕ) (a from : ℕ) (vs : List Value) → FieldsHold fs m a from vs → length vs ≡ field_count fs
fields-many no_field m a from vs none = ap length none
fields-many (field t fs) m a from vs (v, rest, is, here, there) = ap length is ∙ ap suc (fields-many fs m a (next_multiple_of from (align t) + size t) rest there)

module _ (rows : List LabelledType) where
  pub count-fields : (fs : List Field) → field_count (closed_fields (labelled_fields rows fs)) ≡ length fs
  count-fields [] = refl
  count-fields (f ∷ fs) = ap suc (count-fields fs)

  pub count-members : (ts : List ValType) → field_count (closed_members (labelled_members rows ts)) ≡ length ts
  count-members [] = refl
  count-members (t ∷ ts) = ap suc (count-members ts)

  pub type-of-field : (fs : List Field) (i : ℕ) (f : Field) → IsAt fs i f → nth_field (closed_fields (labelled_fields rows fs)) i ≡ Some (closed (labelled_val rows f.ty))
  type-of-field [] i f at = absurd at
  type-of-field (g ∷ fs) zero f at = ap (λ (x : Field). Some (closed (labelled_val rows x.ty))) at
  type-of-field (g ∷ fs) (suc i) f at = type-of-field fs i f at

  pub type-of-member : (ts : List ValType) (i : ℕ) (t : ValType) → IsAt ts i t → nth_field (closed_members (labelled_members rows ts)) i ≡ Some (closed (labelled_val rows t))
  type-of-member [] i t at = absurd at
  type-of-member (u ∷ ts) zero t at = ap (λ x. Some (closed (labelled_val rows x))) at
  type-of-member (u ∷ ts) (suc i) t at = type-of-member ts i t at

  -- the JSON value of a tuple's member
  pub member-data : (ts : List ValType) (vs : List Value) (i : ℕ) (t : ValType) (v : Value) → IsAt ts i t → IsAt vs i v
      → IsAt (members_json (labelled_members rows ts) vs) i (json_of (labelled_val rows t) v)
  member-data [] vs i t v at_t at_v = absurd at_t
  member-data (u ∷ ts) [] i t v at_t at_v = absurd at_v
  member-data (u ∷ ts) (w ∷ vs) zero t v at_t at_v = ap (λ x. json_of (labelled_val rows x) w) at_t ∙ ap (json_of (labelled_val rows t)) at_v
  member-data (u ∷ ts) (w ∷ vs) (suc i) t v at_t at_v = member-data ts vs i t v at_t at_v

  pub members-many : (ts : List ValType) (vs : List Value) → length vs ≡ length ts → length (members_json (labelled_members rows ts) vs) ≡ length ts
  members-many [] vs h = refl
  members-many (t ∷ ts) [] h = absurd (omega (arith, h))
  members-many (t ∷ ts) (v ∷ vs) h = ap suc (members-many ts vs (omega (arith, h)))

  pub tuple-data : (ts : List ValType) (vs : List Value) (v : Value) → v ≡ record_value (values_of vs) → json_of (labelled_tuple (labelled_members rows ts)) v ≡ array (items_of (members_json (labelled_members rows ts) vs))
  tuple-data ts vs v is = ap (json_of (labelled_tuple (labelled_members rows ts))) is ∙ ap (λ ws. array (items_of (members_json (labelled_members rows ts) ws))) (values-in vs)

  pub record-data : (fs : List Field) (vs : List Value) (order : List ℕ) (v : Value) → v ≡ record_value (values_of vs) → HaveLabelsApart fs → length vs ≡ length fs → IsLabelOrder fs order
      → json_of (labelled_record (labelled_fields rows fs)) v ≡ object (members_in rows fs vs order)
  record-data fs vs order v is apart many ordered =
      ap (json_of (labelled_record (labelled_fields rows fs))) is ∙ ap (λ ws. object (fields_json (labelled_fields rows fs) ws)) (values-in vs) ∙ ap object (fields-in-order rows fs vs order apart many ordered)

-- ---- cases

first-case : (p : Payload) (cs : Cases) (m : List ℕ) (a i : ℕ) (v : Value) → CaseHolds (closed_payload p cs) m a i 0 v → PayloadHolds p m a i v
first-case no_payload cs m a i v h = h
first-case (payload t) cs m a i v h = h

later-case : (p : Payload) (cs : Cases) (m : List ℕ) (a i n : ℕ) (v : Value) → CaseHolds (closed_payload p cs) m a i (suc n) v → CaseHolds cs m a i n v
later-case no_payload cs m a i n v h = h
later-case (payload t) cs m a i n v h = h

index-is : (p : Payload) (m : List ℕ) (a i : ℕ) (v : Value) → PayloadHolds p m a i v → case_index v ≡ i
index-is no_payload m a i v is = ap case_index is
index-is (payload t) m a i v (w, held, is) = ap case_index is

module _ (rows : List LabelledType) (m : List ℕ) (a : ℕ) where
  pub case-inside : (cs : List Case) (i n : ℕ) (v : Value) → CaseHolds (closed_cases (labelled_cases rows cs)) m a i n v → n < length cs
  case-inside [] i n v h = absurd h
  case-inside (c ∷ cs) i zero v h = omega arith
  case-inside (c ∷ cs) i (suc n) v h =
      let less = case-inside cs i n v (later-case (labelled_payload rows c.ty) (closed_cases (labelled_cases rows cs)) m a i n v h) in omega (arith, less)

  pub case-held : (cs : List Case) (i n : ℕ) (c : Case) (v : Value) → IsAt cs n c → CaseHolds (closed_cases (labelled_cases rows cs)) m a i n v → PayloadHolds (labelled_payload rows c.ty) m a i v
  case-held [] i n c v at h = absurd at
  case-held (x ∷ cs) i zero c v at h =
      subst (λ (y : Case). PayloadHolds (labelled_payload rows y.ty) m a i v) at (first-case (labelled_payload rows x.ty) (closed_cases (labelled_cases rows cs)) m a i v h)
  case-held (x ∷ cs) i (suc n) c v at h =
      case-held cs i n c v at (later-case (labelled_payload rows x.ty) (closed_cases (labelled_cases rows cs)) m a i n v h)

-- case n has this payload, or none
abbrev pub IsCase : Payload → Cases → ℕ → Type 0
IsCase no_payload cs n = Unit {0}
IsCase (payload t) cs n = nth_case cs n ≡ Some (Some (closed t))

pub first-is : (p : Payload) (cs : Cases) → IsCase p (closed_payload p cs) 0
first-is no_payload cs = tt
first-is (payload t) cs = refl

pub later-is : (q p : Payload) (cs : Cases) (n : ℕ) → IsCase p cs n → IsCase p (closed_payload q cs) (suc n)
later-is q no_payload cs n h = tt
later-is no_payload (payload t) cs n h = h
later-is (payload u) (payload t) cs n h = h

pub case-is : (rows : List LabelledType) (cs : List Case) (n : ℕ) (c : Case) → IsAt cs n c → IsCase (labelled_payload rows c.ty) (closed_cases (labelled_cases rows cs)) n
case-is rows [] n c at = absurd at
case-is rows (x ∷ cs) zero c at =
    subst (λ (y : Case). IsCase (labelled_payload rows y.ty) (closed_cases (labelled_cases rows (x ∷ cs))) 0) at (first-is (labelled_payload rows x.ty) (closed_cases (labelled_cases rows cs)))
case-is rows (x ∷ cs) (suc n) c at =
    later-is (labelled_payload rows x.ty) (labelled_payload rows c.ty) (closed_cases (labelled_cases rows cs)) n (case-is rows cs n c at)

-- the payload of a case ends inside the memory
pub payload-inside : (p : Payload) (cs : Cases) (n : ℕ) (m : List ℕ) (a place : ℕ) → IsCase p cs n → place ≡ payload_place cs → a + size (variant_type cs) ≤ length m → PayloadFits p m (a + place)
payload-inside no_payload cs n m a place is same fits = tt
payload-inside (payload t) cs n m a place is same fits =
    let less = payload-fits cs n (closed t) is in omega (arith, less, same, fits)

payload-counts : (p : Payload) (cs : Cases) → case_count (closed_payload p cs) ≡ suc (case_count cs)
payload-counts no_payload cs = refl
payload-counts (payload t) cs = refl

pub count-cases : (rows : List LabelledType) (cs : List Case) → case_count (closed_cases (labelled_cases rows cs)) ≡ length cs
count-cases rows [] = refl
count-cases rows (c ∷ cs) = payload-counts (labelled_payload rows c.ty) (closed_cases (labelled_cases rows cs)) ∙ ap suc (count-cases rows cs)

pub count-labels : (ls : List Label) → case_count (plain_cases ls) ≡ length ls
count-labels [] = refl
count-labels (l ∷ ls) = ap suc (count-labels ls)

pub count-two : (ok error : Payload) → case_count (closed_payload ok (closed_payload error no_case)) ≡ 2
count-two ok error = payload-counts ok (closed_payload error no_case) ∙ ap suc (payload-counts error no_case)

-- a variant's discriminant ends inside it
pub discriminant-fits : (cs : Cases) (n from len : ℕ) → case_count cs ≡ n → from + size (variant_type cs) ≤ len → from + discriminant_size n ≤ len
discriminant-fits cs n from len many fits =
    let same : discriminant_size (case_count cs) ≡ discriminant_size n = ap discriminant_size many in
    let less : discriminant_size (case_count cs) ≤ size (variant_type cs) = omega arith in
    omega (arith, same, less, fits)

pub number-is : (cs : Cases) (n : ℕ) (m : List ℕ) (a number : ℕ) → case_count cs ≡ n → number ≡ number_at m a (byte_width (discriminant_size n)) → number ≡ case_number cs m a
number-is cs n m a number many is = is ∙ ap (λ k. number_at m a (byte_width (discriminant_size k))) (sym many)

case-data : (rows : List LabelledType) (cs : List Case) (n : ℕ) (c : Case) (v : Value) → IsAt cs n c
    → cases_json (labelled_cases rows cs) n v ≡ payload_json (labelled_payload rows c.ty) c.name v
case-data rows [] n c v at = absurd at
case-data rows (x ∷ cs) zero c v at = ap (λ (y : Case). payload_json (labelled_payload rows y.ty) y.name v) at
case-data rows (x ∷ cs) (suc n) c v at = case-data rows cs n c v at

-- the JSON value of a variant's value, by its case
pub variant-data : (rows : List LabelledType) (cs : List Case) (m : List ℕ) (a n : ℕ) (c : Case) (v : Value) → IsAt cs n c → PayloadHolds (labelled_payload rows c.ty) m a n v
    → json_of (labelled_variant (labelled_cases rows cs)) v ≡ payload_json (labelled_payload rows c.ty) c.name v
variant-data rows cs m a n c v at h =
    ap (λ i. cases_json (labelled_cases rows cs) i v) (index-is (labelled_payload rows c.ty) m a n v h) ∙ case-data rows cs n c v at

-- the payload's place, by the variant's alignment
pub place-is : (r : Resolve) (id : TypeId) (l : LabelledType) (cs : Cases) (place : ℕ) → place ≡ align (closed_type r (val.Id id)) → labelled_type r (val.Id id) ≡ l → closed l ≡ variant_type cs
    → place ≡ payload_place cs
place-is r id l cs place is same shape = is ∙ ap align (sym (erases r (val.Id id)) ∙ ap closed same ∙ shape) ∙ sym (payload-place cs)

-- the case that a number names
pub variant-parts : (cs : Cases) (n : ℕ) (m : List ℕ) (a number place : ℕ) (v : Value) → case_count cs ≡ n → number ≡ number_at m a (byte_width (discriminant_size n)) → place ≡ payload_place cs
    → Holds (variant_type cs) m a v → CaseHolds cs m (a + place) number number v
variant-parts cs n m a number place v many is same h =
    subst (λ p. CaseHolds cs m (a + p) number number v) (sym same) (subst (λ i. CaseHolds cs m (a + payload_place cs) i i v) (sym (number-is cs n m a number many is)) h)

-- ---- options, results and enums

pub option-held : (t : LabelledType) (m : List ℕ) (a n : ℕ) (v : Value) → CaseHolds (plain_case (case_with (closed t) no_case)) m a n n v
    → (n ≡ 0 → v ≡ plain_value 0) × ((n ≡ 0 → ⊥) → (n ≡ 1) × PayloadHolds (payload t) m a 1 v)
option-held t m a zero v h = (λ e. h, λ other. absurd (other refl))
option-held t m a (suc zero) v h = (λ e. absurd (omega (arith, e)), λ other. (refl, h))
option-held t m a (suc (suc n)) v h = absurd h

pub some-data : (t : LabelledType) (m : List ℕ) (a : ℕ) (v : Value) → PayloadHolds (payload t) m a 1 v → json_of (labelled_option t) v ≡ payload_json (payload t) some_label v
some-data t m a v h = ap (λ n. if n == 0 then string none_label else one_member some_label (json_of t (inner v))) (index-is (payload t) m a 1 v h)

pub result-held : (ok error : Payload) (m : List ℕ) (a n : ℕ) (v : Value) → CaseHolds (closed_payload ok (closed_payload error no_case)) m a n n v
    → (n ≡ 0 → PayloadHolds ok m a 0 v) × ((n ≡ 0 → ⊥) → (n ≡ 1) × PayloadHolds error m a 1 v)
result-held ok error m a zero v h = (λ e. first-case ok (closed_payload error no_case) m a 0 v h, λ other. absurd (other refl))
result-held ok error m a (suc zero) v h =
    (λ e. absurd (omega (arith, e)), λ other. (refl, first-case error no_case m a 1 v (later-case ok (closed_payload error no_case) m a 1 0 v h)))
result-held ok error m a (suc (suc n)) v h =
    absurd (later-case error no_case m a (suc (suc n)) n v (later-case ok (closed_payload error no_case) m a (suc (suc n)) (suc n) v h))

pub ok-data : (ok error : Payload) (m : List ℕ) (a : ℕ) (v : Value) → PayloadHolds ok m a 0 v → json_of (labelled_result ok error) v ≡ payload_json ok ok_label v
ok-data ok error m a v h = ap (λ n. if n == 0 then payload_json ok ok_label v else payload_json error error_label v) (index-is ok m a 0 v h)

pub error-data : (ok error : Payload) (m : List ℕ) (a : ℕ) (v : Value) → PayloadHolds error m a 1 v → json_of (labelled_result ok error) v ≡ payload_json error error_label v
error-data ok error m a v h = ap (λ n. if n == 0 then payload_json ok ok_label v else payload_json error error_label v) (index-is error m a 1 v h)

pub enum-held : (ls : List Label) (m : List ℕ) (a i n : ℕ) (v : Value) → CaseHolds (plain_cases ls) m a i n v → (n < length ls) × (v ≡ plain_value i)
enum-held [] m a i n v h = absurd h
enum-held (l ∷ ls) m a i zero v h = (omega arith, h)
enum-held (l ∷ ls) m a i (suc n) v h = let (less, is) = enum-held ls m a i n v h in (omega (arith, less), is)

pub enum-number : (ls : List Label) (m : List ℕ) (a number : ℕ) (v : Value) → number ≡ number_at m a (byte_width (discriminant_size (length ls))) → Holds (closed (labelled_enum ls)) m a v
    → (number < length ls) × (v ≡ plain_value number)
enum-number ls m a number v is h =
    let cs = plain_cases ls in
    let same = number-is cs (length ls) m a number (count-labels ls) is in
    enum-held ls m (a + payload_place cs) number number v (subst (λ i. CaseHolds cs m (a + payload_place cs) i i v) (sym same) h)

label-is : (ls : List Label) (n : ℕ) (l : Label) → IsAt ls n l → label_of ls n ≡ l
label-is [] n l at = absurd at
label-is (k ∷ ls) zero l at = at
label-is (k ∷ ls) (suc n) l at = label-is ls n l at

pub enum-data : (ls : List Label) (n : ℕ) (l : Label) (v : Value) → IsAt ls n l → v ≡ plain_value n → json_of (labelled_enum ls) v ≡ string l
enum-data ls n l v at is = ap (json_of (labelled_enum ls)) is ∙ ap string (label-is ls n l at)
