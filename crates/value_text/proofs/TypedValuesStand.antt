-- The JSON value that the function gives stands for its value, where the value is of the type.
use Rattle.std.proofs.Common.{◌≡◌, inl, inr, ℕ, zero, suc, ◌+◌, ◌*◌, ◌/◌, ◌%◌, ◌<◌, ◌≤◌, ◌^◌, ◌==◌, Bool, true, false, cond, ◌||◌, ◌&&◌, nat_lt, IsTrue, List, [], ◌∷◌, length, map, get_or, slice_get, Option, Some, None, refl, sym, ap, ◌∙◌, subst, arith}
use Rattle.std.proofs.Math.Nat.{pow-succ'}
use Rattle.std.specs.Prelude.{if◌then◌else◌}
use Rattle.std.specs.Char.{IsScalar}
use Rattle.std.specs.List.{AllByRecursion, list_all}
use Rattle.canonical_abi.specs.Types.{Prim, boolean, unsigned, signed, scalar_value, Cases, no_case}
use Rattle.canonical_abi.specs.Labelled.{Label, LabelledType, labelled_prim, labelled_string, labelled_list, labelled_option, labelled_tuple, labelled_result, labelled_record, labelled_variant, labelled_enum, labelled_flags, LabelledTypes, no_member, member, Payload, no_payload, payload, LabelledFields, no_labelled_field, labelled_field, LabelledCases, no_labelled_case, labelled_case, closed, closed_members, closed_fields, closed_cases, closed_payload, ok_label, error_label}
use Rattle.canonical_abi.specs.Values.{Value, is_scalar, HasPrimType, HasType, HaveTypes, IsOfCase}
use Rattle.canonical_abi.proofs.StoredValues.AsksRequests.{items-of as values-in}
use Rattle.serde_json.specs.Data as json
use Rattle.serde_json.specs.Data.{Data, Members, no_members, put}
use Rattle.serde_json.specs.Find.{get_member}
use Rattle.serde_json.specs.View.{items_of}
use Rattle.serde_json.proofs.Views.{get_member-put_other}
use Rattle.tables.specs.Labelled.{labelled_type, labelled_types, labelled_payload, labelled_members, labelled_fields, labelled_cases, labelled_kind}
use Rattle.tables.specs.Standard.{IsTypeOf}
use Rattle.tables.specs.Tables.{is_below, is_type, is_there, type_of, option_all, kind_all}
use Rattle.tables.specs.declared.tables.ValType.{ValType}
use Rattle.tables.specs.declared.tables.ValType.TheVariants as val
use Rattle.tables.specs.declared.tables.TypeDef.{TypeDef}
use Rattle.tables.specs.declared.tables.TypeDefKind.{TypeDefKind}
use Rattle.tables.specs.declared.tables.TypeDefKind.TheVariants as kind
use Rattle.tables.specs.declared.tables.Field.{Field}
use Rattle.tables.specs.declared.tables.Case.{Case}
use Rattle.tables.specs.declared.tables.Definition.{Definition}
use Rattle.tables.specs.declared.tables.Definition.TheVariants as row
use Rattle.tables.specs.declared.tables.Resolve.{Resolve}
use Rattle.tables.proofs.ClosedTypesRowByRow.{split}
use Rattle.value_json.specs.Apart.{HasApartLabels, HaveLabelsApart, KindApart}
use Rattle.value_json.specs.Json.{PrimJson, Json, EachJson, MembersJson, PayloadJson, CasesJson, FieldsJson, FlagsJson}
use Rattle.value_json.specs.Writing.{data_of}
use Rattle.value_json.proofs.LabelledTypesRowByRow.{kind-row, kind-apart}
use Rattle.value_json.proofs.RanksOfTypes.{rank, rank-below}
use Rattle.value_json.proofs.WrittenStandsForValue.{label-found}
use Rattle.value_text.specs.Function.{json_of, text_data, members_json, payload_json, cases_json, fields_json, flags_json, label_of, case_index}

-- ---- types of which no record has a label twice

abbrev IsOfNoField : Label → LabelledFields → Type 0
IsOfNoField l no_labelled_field = Unit {0}
IsOfNoField l (labelled_field k t fs) = (k ≡ l → ⊥) × IsOfNoField l fs

abbrev mutual
  pub HasApartRecords : LabelledType → Type 0
  HasApartRecords (labelled_prim p) = Unit {0}
  HasApartRecords labelled_string = Unit {0}
  HasApartRecords (labelled_list t) = HasApartRecords t
  HasApartRecords (labelled_option t) = HasApartRecords t
  HasApartRecords (labelled_tuple ts) = MembersApart ts
  HasApartRecords (labelled_result ok error) = PayloadApart ok × PayloadApart error
  HasApartRecords (labelled_record fs) = FieldsApart fs
  HasApartRecords (labelled_variant cs) = CasesApart cs
  HasApartRecords (labelled_enum ls) = Unit {0}
  HasApartRecords (labelled_flags ls) = Unit {0}

  pub MembersApart : LabelledTypes → Type 0
  MembersApart no_member = Unit {0}
  MembersApart (member t ts) = HasApartRecords t × MembersApart ts

  pub PayloadApart : Payload → Type 0
  PayloadApart no_payload = Unit {0}
  PayloadApart (payload t) = HasApartRecords t

  pub FieldsApart : LabelledFields → Type 0
  FieldsApart no_labelled_field = Unit {0}
  FieldsApart (labelled_field l t fs) = IsOfNoField l fs × HasApartRecords t × FieldsApart fs

  pub CasesApart : LabelledCases → Type 0
  CasesApart no_labelled_case = Unit {0}
  CasesApart (labelled_case l p cs) = PayloadApart p × CasesApart cs

-- ---- values of such types

or-is : (a b : Bool) → (a || b) ≡ true → cond a true b ≡ true
or-is true b h = refl
or-is false b h = h

scalar-is : (c : ℕ) → is_scalar c ≡ true → IsScalar c
scalar-is c h = or-is (nat_lt c 0xD800) (nat_lt 0xDFFF c && nat_lt c 0x110000) h

prim-stands : (p : Prim) (v : Value) → HasPrimType v p → PrimJson p v (data_of v)
prim-stands boolean v (b, is) = (b, is, ap data_of is)
prim-stands (unsigned w) v (n, fits, is) = (n, fits, is, ap data_of is)
prim-stands (signed w) v (z, fits, is) = (z, fits, is, ap data_of is)
prim-stands scalar_value v (c, scalar, is) = (c, scalar-is c scalar, is, ap data_of is)

each-stands : (P : Value → Data → Type 0) (Q : Value → Type 0) (f : Value → Data) (vs : List Value) → ((v : Value) → Q v → P v (f v)) → AllByRecursion Q vs → EachJson P vs (map f vs)
each-stands P Q f [] one all = refl
each-stands P Q f (v ∷ vs) one (here, all) = (v, vs, refl, one v here, each-stands P Q f vs one all)

none-there : (l : Label) (fs : LabelledFields) (vs : List Value) → IsOfNoField l fs → get_member l (fields_json fs vs) ≡ None
none-there l no_labelled_field vs other = refl
none-there l (labelled_field k t fs) [] other = refl
none-there l (labelled_field k t fs) (v ∷ vs) (first, other) = get_member-put_other l k (json_of t v) (fields_json fs vs) (λ e. first (sym e)) ∙ none-there l fs vs other

label-there : (ls : List Label) (i : ℕ) → i < length ls → slice_get ls i ≡ Some (label_of ls i)
label-there [] i h = absurd (omega arith)
label-there (l ∷ ls) zero h = refl
label-there (l ∷ ls) (suc i) h = label-there ls i (omega (arith, h))

flag-stands : (l : Label) (ls : List Label) (n b : ℕ) → n % 2 ≡ b → FlagsJson ls (n / 2) (flags_json ls (n / 2))
    → FlagsJson (l ∷ ls) n (if b == 1 then json.string l ∷ flags_json ls (n / 2) else flags_json ls (n / 2))
flag-stands l ls n zero even rest = (n / 2, inl (omega (arith, even), rest))
flag-stands l ls n (suc zero) odd rest = (n / 2, inr (flags_json ls (n / 2), omega (arith, odd), refl, rest))
flag-stands l ls n (suc (suc b)) more rest = absurd (omega (arith, more))

flags-stand : (ls : List Label) (n : ℕ) → n < 2 ^ length ls → FlagsJson ls n (flags_json ls n)
flags-stand [] n h = let one : 2 ^ 0 ≡ 1 = refl in (omega (arith, h, one), refl)
flags-stand (l ∷ ls) n h =
    let twice : 2 ^ suc (length ls) ≡ 2 * 2 ^ length ls = pow-succ' 2 (length ls) in
    flag-stands l ls n (n % 2) refl (flags-stand ls (n / 2) (omega (arith, h, twice)))

later-case : (p : Payload) (cs : Cases) (v : Value) (i n : ℕ) → IsOfCase v (closed_payload p cs) i (suc n) → IsOfCase v cs i n
later-case no_payload cs v i n h = h
later-case (payload t) cs v i n h = h

mutual
  pub stands : (t : LabelledType) (v : Value) → HasApartRecords t → HasType v (closed t) → Json t v (json_of t v)
  stands (labelled_prim p) v apart typed = prim-stands p v typed
  stands labelled_string v apart (text, utf8, is) = (text, utf8, is, ap text_data is)
  stands (labelled_list t) v apart (vs, all, is) =
      (vs, map (json_of t) vs, each-stands (Json t) (λ w. HasType w (closed t)) (json_of t) vs (λ w h. stands t w apart h) all, is, ap (json_of (labelled_list t)) is ∙ ap (λ ws. json.array (items_of (map (json_of t) ws))) (values-in vs))
  stands (labelled_option t) v apart (zero, is) = inl (is, ap (json_of (labelled_option t)) is)
  stands (labelled_option t) v apart (suc zero, (w, typed, is)) = inr (w, json_of t w, stands t w apart typed, is, ap (json_of (labelled_option t)) is)
  stands (labelled_option t) v apart (suc (suc n), none) = absurd none
  stands (labelled_tuple ts) v apart (vs, have, is) =
      (vs, members_json ts vs, members-stand ts vs apart have, is, ap (json_of (labelled_tuple ts)) is ∙ ap (λ ws. json.array (items_of (members_json ts ws))) (values-in vs))
  stands (labelled_result ok error) v (apart_ok, apart_error) (zero, is) =
      let (here, index) = payload-stands ok ok_label 0 v (closed_payload error no_case) apart_ok is in
      inl (subst (PayloadJson ok ok_label 0 v) (sym (ap (λ n. if n == 0 then payload_json ok ok_label v else payload_json error error_label v) index)) here)
  stands (labelled_result ok error) v (apart_ok, apart_error) (suc zero, is) =
      let (here, index) = payload-stands error error_label 1 v no_case apart_error (later-case ok (closed_payload error no_case) v 1 0 is) in
      inr (subst (PayloadJson error error_label 1 v) (sym (ap (λ n. if n == 0 then payload_json ok ok_label v else payload_json error error_label v) index)) here)
  stands (labelled_result ok error) v apart (suc (suc n), is) =
      absurd (later-case error no_case v (suc (suc n)) n (later-case ok (closed_payload error no_case) v (suc (suc n)) (suc n) is))
  stands (labelled_record fs) v apart (vs, have, is) =
      (vs, fields_json fs vs, fields-stand fs vs apart have, is, ap (json_of (labelled_record fs)) is ∙ ap (λ ws. json.object (fields_json fs ws)) (values-in vs))
  stands (labelled_variant cs) v apart (n, is) =
      let e : n ≡ 0 + n = omega arith in
      let (here, index) = cases-stand cs 0 n v apart (subst (λ i. IsOfCase v (closed_cases cs) i n) e is) in
      let same : case_index v ≡ n = index ∙ sym e in
      subst (CasesJson cs 0 v) (sym (ap (λ k. cases_json cs k v) same)) here
  stands (labelled_enum ls) v apart (i, is) =
      let (less, is_v) = label-found ls v i i is in (i, label_of ls i, label-there ls i less, is_v, ap (json_of (labelled_enum ls)) is_v)
  stands (labelled_flags ls) v apart (n, less, is) = (n, flags_json ls n, flags-stand ls n less, is, ap (json_of (labelled_flags ls)) is)

  pub members-stand : (ts : LabelledTypes) (vs : List Value) → MembersApart ts → HaveTypes vs (closed_members ts) → MembersJson ts vs (members_json ts vs)
  members-stand no_member vs apart none = (none, refl)
  members-stand (member t ts) vs (first, apart) (v, rest, is, typed, have) =
      (v, rest, json_of t v, members_json ts rest, is, ap (members_json (member t ts)) is, stands t v first typed, members-stand ts rest apart have)

  payload-stands : (p : Payload) (l : Label) (i : ℕ) (v : Value) (cs : Cases) → PayloadApart p → IsOfCase v (closed_payload p cs) i 0 → PayloadJson p l i v (payload_json p l v) × (case_index v ≡ i)
  payload-stands no_payload l i v cs apart is = ((is, refl), ap case_index is)
  payload-stands (payload t) l i v cs apart (w, typed, is) = ((w, json_of t w, stands t w apart typed, is, ap (payload_json (payload t) l) is), ap case_index is)

  pub fields-stand : (fs : LabelledFields) (vs : List Value) → FieldsApart fs → HaveTypes vs (closed_fields fs) → FieldsJson fs vs (fields_json fs vs)
  fields-stand no_labelled_field vs apart none = (none, refl)
  fields-stand (labelled_field l t fs) vs (other, first, apart) (v, rest, is, typed, have) =
      (v, rest, json_of t v, fields_json fs rest, is, ap (fields_json (labelled_field l t fs)) is, none-there l fs rest other, stands t v first typed, fields-stand fs rest apart have)

  cases-stand : (cs : LabelledCases) (i n : ℕ) (v : Value) → CasesApart cs → IsOfCase v (closed_cases cs) (i + n) n → CasesJson cs i v (cases_json cs n v) × (case_index v ≡ i + n)
  cases-stand no_labelled_case i n v apart is = absurd is
  cases-stand (labelled_case l p cs) i zero v (first, apart) is =
      let e : i + 0 ≡ i = omega arith in
      let (here, index) = payload-stands p l i v (closed_cases cs) first (subst (λ k. IsOfCase v (closed_payload p (closed_cases cs)) k 0) e is) in
      (inl here, index ∙ sym e)
  cases-stand (labelled_case l p cs) i (suc n) v (first, apart) is =
      let e : i + suc n ≡ suc i + n = omega arith in
      let later = later-case p (closed_cases cs) v (i + suc n) n is in
      let (here, index) = cases-stand cs (suc i) n v apart (subst (λ k. IsOfCase v (closed_cases cs) k n) e later) in
      (inr here, index ∙ sym e)

-- ---- types of a table in which no record has a label twice

type-row : (ds : List Definition) (i : ℕ) → IsTrue (is_there (type_of (slice_get ds i))) → (d : TypeDef) × (get_or ds i (row.Type d) ≡ row.Type d)
type-row [] i h = absurd (cc)
type-row (row.Type d ∷ ds) zero h = (d, refl)
type-row (row.Function f ∷ ds) zero h = absurd (cc)
type-row (x ∷ ds) (suc i) h = type-row ds i h

field-apart : (rows : List LabelledType) (l : Label) (fs : List Field) → AllByRecursion (λ g. g.name ≡ l → ⊥) fs → IsOfNoField l (labelled_fields rows fs)
field-apart rows l [] h = tt
field-apart rows l (f ∷ fs) (first, h) = (first, field-apart rows l fs h)

module _ (r : Resolve) (n : ℕ) (known : (v : ValType) → rank v ≤ n → IsTypeOf r v → HasApartRecords (labelled_type r v)) where
  val-apart : (v : ValType) → IsTrue (is_below n v) → IsTrue (is_type r.definitions v) → HasApartRecords (labelled_type r v)
  val-apart v below typed = known v (rank-below n v below) typed

  payload-apart : (v : Option ValType) → IsTrue (option_all (is_below n) v) → IsTrue (option_all (is_type r.definitions) v) → PayloadApart (labelled_payload (labelled_types r) v)
  payload-apart None below typed = tt
  payload-apart (Some v) below typed = val-apart v below typed

  members-apart : (vs : List ValType) → IsTrue (list_all (is_below n) vs) → IsTrue (list_all (is_type r.definitions) vs) → MembersApart (labelled_members (labelled_types r) vs)
  members-apart [] below typed = tt
  members-apart (v ∷ vs) below typed =
      let bs = split (is_below n v) (list_all (is_below n) vs) below in
      let ts = split (is_type r.definitions v) (list_all (is_type r.definitions) vs) typed in (val-apart v bs.0 ts.0, members-apart vs bs.1 ts.1)

  fields-apart : (fs : List Field) → IsTrue (list_all (λ f. is_below n f.ty) fs) → IsTrue (list_all (λ f. is_type r.definitions f.ty) fs) → HaveLabelsApart fs → FieldsApart (labelled_fields (labelled_types r) fs)
  fields-apart [] below typed apart = tt
  fields-apart (f ∷ fs) below typed (first, apart) =
      let bs = split (is_below n f.ty) (list_all (λ g. is_below n g.ty) fs) below in
      let ts = split (is_type r.definitions f.ty) (list_all (λ g. is_type r.definitions g.ty) fs) typed in
      (field-apart (labelled_types r) f.name fs first, val-apart f.ty bs.0 ts.0, fields-apart fs bs.1 ts.1 apart)

  cases-apart : (cs : List Case) → IsTrue (list_all (λ c. option_all (is_below n) c.ty) cs) → IsTrue (list_all (λ c. option_all (is_type r.definitions) c.ty) cs) → CasesApart (labelled_cases (labelled_types r) cs)
  cases-apart [] below typed = tt
  cases-apart (c ∷ cs) below typed =
      let bs = split (option_all (is_below n) c.ty) (list_all (λ x. option_all (is_below n) x.ty) cs) below in
      let ts = split (option_all (is_type r.definitions) c.ty) (list_all (λ x. option_all (is_type r.definitions) x.ty) cs) typed in
      (payload-apart c.ty bs.0 ts.0, cases-apart cs bs.1 ts.1)

  kind-records : (k : TypeDefKind) → IsTrue (kind_all (is_below n) k) → IsTrue (kind_all (is_type r.definitions) k) → KindApart k → HasApartRecords (labelled_kind (labelled_types r) k)
  kind-records (kind.Use t) below typed apart = val-apart (val.Id t) below typed
  kind-records (kind.Alias v) below typed apart = val-apart v below typed
  kind-records (kind.List v) below typed apart = val-apart v below typed
  kind-records (kind.Option v) below typed apart = val-apart v below typed
  kind-records (kind.Result v w) below typed apart =
      let bs = split (option_all (is_below n) v) (option_all (is_below n) w) below in
      let ts = split (option_all (is_type r.definitions) v) (option_all (is_type r.definitions) w) typed in (payload-apart v bs.0 ts.0, payload-apart w bs.1 ts.1)
  kind-records (kind.Tuple vs) below typed apart = members-apart vs below typed
  kind-records (kind.Record fs) below typed apart = fields-apart fs below typed apart
  kind-records (kind.Variant cs) below typed apart = cases-apart cs below typed
  kind-records (kind.Enum names) below typed apart = tt
  kind-records (kind.Flags names) below typed apart = tt

below-rank : (r : Resolve) → HasApartLabels r → (n : ℕ) (v : ValType) → rank v ≤ n → IsTypeOf r v → HasApartRecords (labelled_type r v)
below-rank r labels n (val.Primitive p) low typed = tt
below-rank r labels n val.String low typed = tt
below-rank r labels zero (val.Id t) low typed = absurd (omega (arith, low))
below-rank r labels (suc n) (val.Id t) low typed =
    let (d, is) = type-row r.definitions t.0 typed in
    let (same, below, inside, standard) = kind-row r t d typed is in
    let known : (v : ValType) → rank v ≤ t.0 → IsTypeOf r v → HasApartRecords (labelled_type r v) = λ v less h. below-rank r labels n v (omega (arith, less, low)) h in
    subst HasApartRecords (sym same) (kind-records r t.0 known d.kind below inside (kind-apart r t d typed is labels))

-- no record in a type of the table has a label twice
pub records-apart : (r : Resolve) (v : ValType) → HasApartLabels r → IsTypeOf r v → HasApartRecords (labelled_type r v)
records-apart r v labels typed = below-rank r labels (rank v) v (omega arith) typed
