-- What stands for a value is what the function gives.
use Rattle.std.proofs.Common.{◌≡◌, inl, inr, ℕ, zero, suc, ◌+◌, ◌/◌, ◌%◌, ◌==◌, List, [], ◌∷◌, Some, slice_get, map, sym, ap, ◌∙◌, arith}
use Rattle.std.specs.Prelude.{if◌then◌else◌}
use Rattle.canonical_abi.specs.Types.{Prim, boolean, unsigned, signed, scalar_value}
use Rattle.canonical_abi.specs.Labelled.{LabelledType, labelled_prim, labelled_string, labelled_list, labelled_option, labelled_tuple, labelled_result, labelled_record, labelled_variant, labelled_enum, labelled_flags, LabelledTypes, no_member, member, LabelledFields, no_labelled_field, labelled_field, LabelledCases, no_labelled_case, labelled_case, Payload, no_payload, payload, Label, some_label, ok_label, error_label}
use Rattle.canonical_abi.specs.Values.{Value}
use Rattle.canonical_abi.proofs.StoredValues.AsksRequests.{items-of}
use Rattle.serde_json.specs.Data as json
use Rattle.serde_json.specs.Data.{Data, Members, no_members, put}
use Rattle.serde_json.specs.View.{items_of}
use Rattle.value_json.specs.Json.{PrimJson, Json, EachJson, FieldsJson, PayloadJson, MembersJson, CasesJson, FlagsJson, one_member}
use Rattle.value_json.specs.Writing.{data_of}
use Rattle.value_text.specs.Function.{json_of, fields_json, payload_json, members_json, cases_json, flags_json, label_of, case_index, parts}

pub prim-given : (p : Prim) (v : Value) (j : Data) → PrimJson p v j → data_of v ≡ j
prim-given boolean v j (b, is_v, is_j) = ap data_of is_v ∙ sym is_j
prim-given (unsigned w) v j (n, fits, is_v, is_j) = ap data_of is_v ∙ sym is_j
prim-given (signed w) v j (n, fits, is_v, is_j) = ap data_of is_v ∙ sym is_j
prim-given scalar_value v j (c, scalar, is_v, is_j) = ap data_of is_v ∙ sym is_j

each-given : (P : Value → Data → Type 0) (f : Value → Data) → ((v : Value) (j : Data) → P v j → f v ≡ j) → (vs : List Value) (js : List Data) → EachJson P vs js → map f vs ≡ js
each-given P f one vs [] none = ap (map f) none
each-given P f one vs (j ∷ js) (v, rest, is, p, each) = ap (map f) is ∙ ap (λ d. d ∷ map f rest) (one v j p) ∙ ap (λ ds. j ∷ ds) (each-given P f one rest js each)

-- for a type, if its parts are so
pub list-given : (t : LabelledType) → ((v : Value) (j : Data) → Json t v j → json_of t v ≡ j) → (v : Value) (j : Data) → Json (labelled_list t) v j → json_of (labelled_list t) v ≡ j
list-given t one v j (vs, js, each, is_v, is_j) =
    ap (λ w. json.array (items_of (map (json_of t) (parts w)))) is_v ∙ ap (λ ws. json.array (items_of (map (json_of t) ws))) (items-of vs)
    ∙ ap (λ ds. json.array (items_of ds)) (each-given (Json t) (json_of t) one vs js each) ∙ sym is_j

case-is : (p : Payload) (l : Label) (i : ℕ) (v : Value) (j : Data) → PayloadJson p l i v j → case_index v ≡ i
case-is no_payload l i v j (is_v, is_j) = ap case_index is_v
case-is (payload t) l i v j (w, d, stands, is_v, is_j) = ap case_index is_v

label-given : (ls : List Label) (i : ℕ) (l : Label) → slice_get ls i ≡ Some l → label_of ls i ≡ l
label-given [] i l at = absurd (cc)
label-given (k ∷ ls) zero l at = cc
label-given (k ∷ ls) (suc i) l at = label-given ls i l at

flags-given : (ls : List Label) (n : ℕ) (js : List Data) → FlagsJson ls n js → flags_json ls n ≡ js
flags-given [] n js (none, is) = sym is
flags-given (l ∷ ls) n js (rest, inl (is_n, each)) =
    let even : n % 2 ≡ 0 = omega (arith, is_n) in
    let half : n / 2 ≡ rest = omega (arith, is_n) in
    ap (λ b. if b == 1 then json.string l ∷ flags_json ls (n / 2) else flags_json ls (n / 2)) even ∙ ap (flags_json ls) half ∙ flags-given ls rest js each
flags-given (l ∷ ls) n js (rest, inr (others, is_n, is, each)) =
    let odd : n % 2 ≡ 1 = omega (arith, is_n) in
    let half : n / 2 ≡ rest = omega (arith, is_n) in
    ap (λ b. if b == 1 then json.string l ∷ flags_json ls (n / 2) else flags_json ls (n / 2)) odd ∙ ap (λ k. json.string l ∷ flags_json ls k) half
    ∙ ap (λ xs. json.string l ∷ xs) (flags-given ls rest others each) ∙ sym is

mutual
  pub given : (t : LabelledType) (v : Value) (j : Data) → Json t v j → json_of t v ≡ j
  given (labelled_prim p) v j h = prim-given p v j h
  given labelled_string v j (text, utf8, is_v, is_j) = ap (json_of labelled_string) is_v ∙ sym is_j
  given (labelled_list t) v j h = list-given t (given t) v j h
  given (labelled_record fs) v j (vs, ms, each, is_v, is_j) =
      ap (json_of (labelled_record fs)) is_v ∙ ap (λ ws. json.object (fields_json fs ws)) (items-of vs) ∙ ap json.object (fields-given fs vs ms each) ∙ sym is_j
  given (labelled_option t) v j (inl (is_v, is_j)) = ap (json_of (labelled_option t)) is_v ∙ sym is_j
  given (labelled_option t) v j (inr (w, d, stands, is_v, is_j)) = ap (json_of (labelled_option t)) is_v ∙ ap (one_member some_label) (given t w d stands) ∙ sym is_j
  given (labelled_tuple ts) v j (vs, js, each, is_v, is_j) =
      ap (json_of (labelled_tuple ts)) is_v ∙ ap (λ ws. json.array (items_of (members_json ts ws))) (items-of vs) ∙ ap (λ ds. json.array (items_of ds)) (members-given ts vs js each) ∙ sym is_j
  given (labelled_result ok error) v j (inl p) =
      ap (λ n. if n == 0 then payload_json ok ok_label v else payload_json error error_label v) (case-is ok ok_label 0 v j p) ∙ payload-given ok ok_label 0 v j p
  given (labelled_result ok error) v j (inr p) =
      ap (λ n. if n == 0 then payload_json ok ok_label v else payload_json error error_label v) (case-is error error_label 1 v j p) ∙ payload-given error error_label 1 v j p
  given (labelled_variant cs) v j h =
      let (n, is_n, same) = cases-given cs 0 v j h in
      let e : case_index v ≡ n = omega (arith, is_n) in
      ap (λ k. cases_json cs k v) e ∙ same
  given (labelled_enum ls) v j (i, l, at, is_v, is_j) = ap (json_of (labelled_enum ls)) is_v ∙ ap json.string (label-given ls i l at) ∙ sym is_j
  given (labelled_flags ls) v j (n, js, each, is_v, is_j) =
      ap (json_of (labelled_flags ls)) is_v ∙ ap (λ ds. json.array (items_of ds)) (flags-given ls n js each) ∙ sym is_j

  pub members-given : (ts : LabelledTypes) (vs : List Value) (js : List Data) → MembersJson ts vs js → members_json ts vs ≡ js
  members-given no_member vs js (none, is) = sym is
  members-given (member t ts) vs js (v, rest, d, others, is, is_js, stands, each) =
      ap (members_json (member t ts)) is ∙ ap (λ e. e ∷ members_json ts rest) (given t v d stands) ∙ ap (λ ds. d ∷ ds) (members-given ts rest others each) ∙ sym is_js

  pub payload-given : (p : Payload) (l : Label) (i : ℕ) (v : Value) (j : Data) → PayloadJson p l i v j → payload_json p l v ≡ j
  payload-given no_payload l i v j (is_v, is_j) = sym is_j
  payload-given (payload t) l i v j (w, d, stands, is_v, is_j) = ap (payload_json (payload t) l) is_v ∙ ap (one_member l) (given t w d stands) ∙ sym is_j

  pub cases-given : (cs : LabelledCases) (i : ℕ) (v : Value) (j : Data) → CasesJson cs i v j → (n : ℕ) × (case_index v ≡ i + n) × (cases_json cs n v ≡ j)
  cases-given no_labelled_case i v j h = absurd h
  cases-given (labelled_case l p cs) i v j (inl h) = let e = case-is p l i v j h in (0, omega (arith, e), payload-given p l i v j h)
  cases-given (labelled_case l p cs) i v j (inr h) = let (n, is_n, same) = cases-given cs (suc i) v j h in (suc n, omega (arith, is_n), same)

  pub fields-given : (fs : LabelledFields) (vs : List Value) (ms : Members) → FieldsJson fs vs ms → fields_json fs vs ≡ ms
  fields-given no_labelled_field vs ms (none, is) = sym is
  fields-given (labelled_field l t fs) vs ms (v, rest, d, others, is, is_put, gone, stands, each) =
      ap (fields_json (labelled_field l t fs)) is ∙ ap (λ e. put l e (fields_json fs rest)) (given t v d stands) ∙ ap (put l d) (fields-given fs rest others each) ∙ sym is_put
