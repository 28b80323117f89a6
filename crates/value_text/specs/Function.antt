-- The JSON value of a value of a labelled type, as a function; null where there is none.
use Rattle.std.specs.Prelude.{ℕ, zero, suc, ◌/◌, ◌%◌, ◌==◌, List, [], ◌∷◌, map, if◌then◌else◌}
use Rattle.canonical_abi.specs.Labelled.{Label, LabelledType, labelled_prim, labelled_string, labelled_list, labelled_option, labelled_tuple, labelled_result, labelled_record, labelled_variant, labelled_enum, labelled_flags, LabelledTypes, no_member, member, Payload, no_payload, payload, LabelledFields, no_labelled_field, labelled_field, LabelledCases, no_labelled_case, labelled_case, none_label, some_label, ok_label, error_label}
use Rattle.canonical_abi.specs.Requests.{items_of as values_in}
use Rattle.canonical_abi.specs.Values.{Value, string_value, list_value, record_value, plain_value, payload_value, flags_value}
use Rattle.serde_json.specs.Data as json
use Rattle.serde_json.specs.Data.{Data, Members, no_members, put}
use Rattle.serde_json.specs.View.{items_of}
use Rattle.value_json.specs.Json.{one_member}
use Rattle.value_json.specs.Writing.{data_of}

abbrev pub text_data : Value → Data
text_data (string_value s) = json.string s
text_data _ = json.null

-- the values of a list or a record
abbrev pub parts : Value → List Value
parts (list_value vs) = values_in vs
parts (record_value vs) = values_in vs
parts _ = []

abbrev pub case_index : Value → ℕ
case_index (plain_value i) = i
case_index (payload_value i w) = i
case_index _ = 0

abbrev pub inner : Value → Value
inner (payload_value i w) = w
inner v = v

abbrev pub flag_bits : Value → ℕ
flag_bits (flags_value n) = n
flag_bits _ = 0

abbrev pub label_of : List Label → ℕ → Label
label_of [] i = []
label_of (l ∷ ls) zero = l
label_of (l ∷ ls) (suc i) = label_of ls i

abbrev pub flags_json : List Label → ℕ → List Data
flags_json [] n = []
flags_json (l ∷ ls) n = if n % 2 == 1 then json.string l ∷ flags_json ls (n / 2) else flags_json ls (n / 2)

abbrev mutual
  pub json_of : LabelledType → Value → Data
  json_of (labelled_prim p) v = data_of v
  json_of labelled_string v = text_data v
  json_of (labelled_list t) v = json.array (items_of (map (json_of t) (parts v)))
  json_of (labelled_option t) v = if case_index v == 0 then json.string none_label else one_member some_label (json_of t (inner v))
  json_of (labelled_tuple ts) v = json.array (items_of (members_json ts (parts v)))
  json_of (labelled_result ok error) v = if case_index v == 0 then payload_json ok ok_label v else payload_json error error_label v
  json_of (labelled_record fs) v = json.object (fields_json fs (parts v))
  json_of (labelled_variant cs) v = cases_json cs (case_index v) v
  json_of (labelled_enum ls) v = json.string (label_of ls (case_index v))
  json_of (labelled_flags ls) v = json.array (items_of (flags_json ls (flag_bits v)))

  pub members_json : LabelledTypes → List Value → List Data
  members_json no_member vs = []
  members_json (member t ts) [] = []
  members_json (member t ts) (v ∷ vs) = json_of t v ∷ members_json ts vs

  pub payload_json : Payload → Label → Value → Data
  payload_json no_payload l v = json.string l
  payload_json (payload t) l v = one_member l (json_of t (inner v))

  pub fields_json : LabelledFields → List Value → Members
  fields_json no_labelled_field vs = no_members
  fields_json (labelled_field l t fs) [] = no_members
  fields_json (labelled_field l t fs) (v ∷ vs) = put l (json_of t v) (fields_json fs vs)

  pub cases_json : LabelledCases → ℕ → Value → Data
  cases_json no_labelled_case n v = json.null
  cases_json (labelled_case l p cs) zero v = payload_json p l v
  cases_json (labelled_case l p cs) (suc n) v = cases_json cs n v
