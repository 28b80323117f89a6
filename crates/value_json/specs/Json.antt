-- How values stand in JSON: each type's values, over its labels.
use Rattle.std.specs.Prelude.{◌≡◌, ◌⊎◌, ◌<◌, ◌≤◌, ◌+◌, ◌*◌, ◌^◌, ℕ, suc, ℤ, List, [], ◌∷◌, slice_get, Bool, true, Some, None, FitsSigned, encode_utf8}
use Rattle.std.specs.Str.{is_utf8}
use Rattle.std.specs.Char.{IsScalar}
use Rattle.canonical_abi.specs.Types.{Prim, boolean, unsigned, signed, scalar_value, bits, width_of, depth}
use Rattle.canonical_abi.specs.Labelled.{Label, LabelledType, labelled_prim, labelled_string, labelled_list, labelled_option, labelled_tuple, labelled_result, labelled_record, labelled_variant, labelled_enum, labelled_flags, LabelledTypes, no_member, member, Payload, no_payload, payload, LabelledFields, no_labelled_field, labelled_field, LabelledCases, no_labelled_case, labelled_case, none_label, some_label, ok_label, error_label, closed}
use Rattle.canonical_abi.specs.Values.{Value, HasType, values_of, bool_value, unsigned_value, signed_value, char_value, string_value, list_value, record_value, plain_value, payload_value, flags_value}
use Rattle.serde_json.specs.Data as json
use Rattle.serde_json.specs.Data.{Data, Members, no_members, put}
use Rattle.serde_json.specs.Find.{of_integer, get_member}
use Rattle.serde_json.specs.View.{items_of}

-- the JSON value stands for this value of a primitive type: a truth value, a whole number in the type's range, a text of one character
abbrev pub PrimJson : Prim → Value → Data → Type 0
PrimJson boolean v j = (b : Bool) × (v ≡ bool_value b) × (j ≡ json.boolean b)
PrimJson (unsigned w) v j = (n : ℕ) × (n < 2 ^ bits w) × (v ≡ unsigned_value w n) × (j ≡ json.number (json.unsigned n))
PrimJson (signed w) v j = (z : ℤ) × FitsSigned (width_of w) z × (v ≡ signed_value w z) × (j ≡ json.number (of_integer z))
PrimJson scalar_value v j = (c : ℕ) × IsScalar c × (v ≡ char_value c) × (j ≡ json.string (encode_utf8 c))

-- the JSON value is no JSON of a value of the primitive type
abbrev pub HasNoneOfPrim : Prim → Data → Type 0
HasNoneOfPrim p j = (v : Value) → PrimJson p v j → ⊥

-- the JSON object with this one member
abbrev pub one_member : Label → Data → Data
one_member l d = json.object (json.member l d no_members)

-- the JSON values stand for these values, each of one type
abbrev pub EachJson : (Value → Data → Type 0) → List Value → List Data → Type 0
EachJson P vs [] = vs ≡ []
EachJson P vs (d ∷ ds) = (v : Value) × (rest : List Value) × (vs ≡ v ∷ rest) × P v d × EachJson P rest ds

-- the labels of the bits that are set, in order: the first label's bit is the lowest
abbrev pub FlagsJson : List Label → ℕ → List Data → Type 0
FlagsJson [] n js = (n ≡ 0) × (js ≡ [])
FlagsJson (l ∷ ls) n js =
    (rest : ℕ) × (((n ≡ 2 * rest) × FlagsJson ls rest js)
    ⊎ ((others : List Data) × (n ≡ 2 * rest + 1) × (js ≡ json.string l ∷ others) × FlagsJson ls rest others))

abbrev mutual
  -- the JSON value stands for this value of the type
  pub Json : LabelledType → Value → Data → Type 0
  Json (labelled_prim p) v j = PrimJson p v j
  Json labelled_string v j = (text : List ℕ) × (is_utf8 text ≡ true) × (v ≡ string_value text) × (j ≡ json.string text)
  Json (labelled_list t) v j =
      (vs : List Value) × (js : List Data) × EachJson (Json t) vs js × (v ≡ list_value (values_of vs)) × (j ≡ json.array (items_of js))
  Json (labelled_option t) v j =
      ((v ≡ plain_value 0) × (j ≡ json.string none_label))
      ⊎ ((w : Value) × (d : Data) × Json t w d × (v ≡ payload_value 1 w) × (j ≡ one_member some_label d))
  Json (labelled_tuple ts) v j =
      (vs : List Value) × (js : List Data) × MembersJson ts vs js × (v ≡ record_value (values_of vs)) × (j ≡ json.array (items_of js))
  Json (labelled_result ok error) v j = PayloadJson ok ok_label 0 v j ⊎ PayloadJson error error_label 1 v j
  Json (labelled_record fs) v j =
      (vs : List Value) × (ms : Members) × FieldsJson fs vs ms × (v ≡ record_value (values_of vs)) × (j ≡ json.object ms)
  Json (labelled_variant cs) v j = CasesJson cs 0 v j
  Json (labelled_enum ls) v j = (i : ℕ) × (l : Label) × (slice_get ls i ≡ Some l) × (v ≡ plain_value i) × (j ≡ json.string l)
  Json (labelled_flags ls) v j =
      (n : ℕ) × (js : List Data) × FlagsJson ls n js × (v ≡ flags_value n) × (j ≡ json.array (items_of js))

  -- the JSON values stand for the members of a tuple, one by one
  pub MembersJson : LabelledTypes → List Value → List Data → Type 0
  MembersJson no_member vs js = (vs ≡ []) × (js ≡ [])
  MembersJson (member t ts) vs js =
      (v : Value) × (rest : List Value) × (d : Data) × (others : List Data)
      × (vs ≡ v ∷ rest) × (js ≡ d ∷ others) × Json t v d × MembersJson ts rest others

  -- the JSON value stands for case i: its label alone, or an object of one member, the label with the payload
  pub PayloadJson : Payload → Label → ℕ → Value → Data → Type 0
  PayloadJson no_payload l i v j = (v ≡ plain_value i) × (j ≡ json.string l)
  PayloadJson (payload t) l i v j = (w : Value) × (d : Data) × Json t w d × (v ≡ payload_value i w) × (j ≡ one_member l d)

  -- the JSON value stands for one of these cases, the first of which is case i
  pub CasesJson : LabelledCases → ℕ → Value → Data → Type 0
  CasesJson no_labelled_case i v j = ⊥
  CasesJson (labelled_case l p cs) i v j = PayloadJson p l i v j ⊎ CasesJson cs (suc i) v j

  -- the members of an object stand for a record's fields: each label once, in the order of their bytes
  pub FieldsJson : LabelledFields → List Value → Members → Type 0
  FieldsJson no_labelled_field vs ms = (vs ≡ []) × (ms ≡ no_members)
  FieldsJson (labelled_field l t fs) vs ms =
      (v : Value) × (rest : List Value) × (d : Data) × (others : Members)
      × (vs ≡ v ∷ rest) × (ms ≡ put l d others) × (get_member l others ≡ None) × Json t v d × FieldsJson fs rest others

-- the JSON value is an object that stands for the values of these fields
abbrev pub HasFields : LabelledFields → List Value → Data → Type 0
HasFields fs vs j = (ms : Members) × FieldsJson fs vs ms × (j ≡ json.object ms)

-- the JSON value is an array that stands for the values of these members
abbrev pub HasMembers : LabelledTypes → List Value → Data → Type 0
HasMembers ts vs j = (js : List Data) × MembersJson ts vs js × (j ≡ json.array (items_of js))

-- the JSON value stands for no value of the type
abbrev pub HasNone : LabelledType → Data → Type 0
HasNone t j = (v : Value) → Json t v j → ⊥

-- a value of a type has one JSON value
abbrev pub HasOneJson : Type 0
HasOneJson = (t : LabelledType) (v : Value) (j k : Data) → Json t v j → Json t v k → j ≡ k

-- what stands as JSON of a type is a value of the type
abbrev pub GivesTyped : Type 0
GivesTyped = (t : LabelledType) (v : Value) (j : Data) → Json t v j → HasType v (closed t)

-- ---- labels that differ

-- the label is none of these
abbrev pub IsNotAmong : Label → List Label → Type 0
IsNotAmong l [] = Unit {0}
IsNotAmong l (m ∷ ms) = (l ≡ m → ⊥) × IsNotAmong l ms

-- no two of these labels are equal
abbrev pub AreDistinctLabels : List Label → Type 0
AreDistinctLabels [] = Unit {0}
AreDistinctLabels (l ∷ ls) = IsNotAmong l ls × AreDistinctLabels ls

-- the label is that of none of these cases
abbrev pub IsOfNoCase : Label → LabelledCases → Type 0
IsOfNoCase l no_labelled_case = Unit {0}
IsOfNoCase l (labelled_case m p cs) = (l ≡ m → ⊥) × IsOfNoCase l cs

abbrev mutual
  -- no variant, enum or flags in the type has a label twice
  pub HasDistinctLabels : LabelledType → Type 0
  HasDistinctLabels (labelled_prim p) = Unit {0}
  HasDistinctLabels labelled_string = Unit {0}
  HasDistinctLabels (labelled_list t) = HasDistinctLabels t
  HasDistinctLabels (labelled_option t) = HasDistinctLabels t
  HasDistinctLabels (labelled_tuple ts) = MembersHaveDistinctLabels ts
  HasDistinctLabels (labelled_result ok error) = PayloadHasDistinctLabels ok × PayloadHasDistinctLabels error
  HasDistinctLabels (labelled_record fs) = FieldsHaveDistinctLabels fs
  HasDistinctLabels (labelled_variant cs) = CasesHaveDistinctLabels cs
  HasDistinctLabels (labelled_enum ls) = AreDistinctLabels ls
  HasDistinctLabels (labelled_flags ls) = AreDistinctLabels ls

  -- the types of a tuple's members have no label twice
  pub MembersHaveDistinctLabels : LabelledTypes → Type 0
  MembersHaveDistinctLabels no_member = Unit {0}
  MembersHaveDistinctLabels (member t ts) = HasDistinctLabels t × MembersHaveDistinctLabels ts

  -- there is no payload, or its type has no label twice
  pub PayloadHasDistinctLabels : Payload → Type 0
  PayloadHasDistinctLabels no_payload = Unit {0}
  PayloadHasDistinctLabels (payload t) = HasDistinctLabels t

  -- the types of a record's fields have no label twice; the fields' own labels are not tested here
  pub FieldsHaveDistinctLabels : LabelledFields → Type 0
  FieldsHaveDistinctLabels no_labelled_field = Unit {0}
  FieldsHaveDistinctLabels (labelled_field l t fs) = HasDistinctLabels t × FieldsHaveDistinctLabels fs

  -- no two cases have one label, and the types of their payloads have no label twice
  pub CasesHaveDistinctLabels : LabelledCases → Type 0
  CasesHaveDistinctLabels no_labelled_case = Unit {0}
  CasesHaveDistinctLabels (labelled_case l p cs) = IsOfNoCase l cs × PayloadHasDistinctLabels p × CasesHaveDistinctLabels cs

-- a JSON value stands for one value of a type whose labels differ
abbrev pub HasOneValue : Type 0
HasOneValue = (t : LabelledType) (v w : Value) (j : Data) → HasDistinctLabels t → Json t v j → Json t w j → v ≡ w

-- a JSON value nests no deeper than its type
abbrev pub NestsAsItsType : Type 0
NestsAsItsType = (t : LabelledType) (v : Value) (j : Data) → Json t v j → json.depth j ≤ depth (closed t)
