-- JSON values of values have no floats.
use Rattle.std.proofs.Common.{◌≡◌, inl, inr, ℕ, suc, ℤ, pos, negsuc, Bool, true, false, ◌||◌, List, [], ◌∷◌, Ordering, Less, Equal, Greater, nat_cmp, refl, ap, ◌∙◌}
use Rattle.std.specs.Cmp.Lexicographic.{slice_cmp}
use Rattle.std.specs.Ordering.{match_ordering}
use Rattle.canonical_abi.specs.Types.{Prim, boolean, unsigned, signed, scalar_value}
use Rattle.canonical_abi.specs.Labelled.{Label, LabelledType, labelled_prim, labelled_string, labelled_list, labelled_option, labelled_tuple, labelled_result, labelled_record, labelled_variant, labelled_enum, labelled_flags, LabelledTypes, no_member, member, Payload, no_payload, payload, LabelledFields, no_labelled_field, labelled_field, LabelledCases, no_labelled_case, labelled_case}
use Rattle.canonical_abi.specs.Values.{Value}
use Rattle.serde_json.specs.Data as json
use Rattle.serde_json.specs.Data.{Data, Members, put}
use Rattle.serde_json.specs.Find.{is_float, of_integer}
use Rattle.serde_json.specs.View.{items_of}
use Rattle.serde_json.specs.Written.{has_float, items_have_float, members_have_float}
use Rattle.value_json.specs.Json.{PrimJson, Json, EachJson, MembersJson, PayloadJson, CasesJson, FieldsJson, FlagsJson}

whole : (j k : Data) → j ≡ k → has_float k ≡ false → has_float j ≡ false
whole j k is h = ap has_float is ∙ h

neither : (a b : Bool) → a ≡ false → b ≡ false → (a || b) ≡ false
neither false b h k = k
neither true b h k = h

integer-whole : (z : ℤ) → is_float (of_integer z) ≡ false
integer-whole (pos n) = refl
integer-whole (negsuc n) = refl

prim-whole : (p : Prim) (v : Value) (j : Data) → PrimJson p v j → has_float j ≡ false
prim-whole boolean v j (b, is_v, is) = whole j _ is refl
prim-whole (unsigned w) v j (n, fits, is_v, is) = whole j _ is refl
prim-whole (signed w) v j (z, fits, is_v, is) = whole j _ is (integer-whole z)
prim-whole scalar_value v j (c, fits, is_v, is) = whole j _ is refl

each-whole : (P : Value → Data → Type 0) (vs : List Value) (js : List Data) → ((v : Value) (j : Data) → P v j → has_float j ≡ false)
    → EachJson P vs js → items_have_float (items_of js) ≡ false
each-whole P vs [] all each = refl
each-whole P vs (j ∷ js) all (v, rest, is, p, each) = neither (has_float j) _ (all v j p) (each-whole P rest js all each)

flags-whole : (ls : List Label) (n : ℕ) (js : List Data) → FlagsJson ls n js → items_have_float (items_of js) ≡ false
flags-whole [] n js (is, none) = ap (λ xs. items_have_float (items_of xs)) none
flags-whole (l ∷ ls) n js (rest, inl (is, stand)) = flags-whole ls rest js stand
flags-whole (l ∷ ls) n js (rest, inr (others, is, is_js, stand)) = ap (λ xs. items_have_float (items_of xs)) is_js ∙ flags-whole ls rest others stand

parts-whole : (a b : Bool) → (a || b) ≡ false → (a ≡ false) × (b ≡ false)
parts-whole false b h = (refl, h)
parts-whole true b h = absurd (cc)

put-whole : (l : Label) (d : Data) (ms : Members) → has_float d ≡ false → members_have_float ms ≡ false → members_have_float (put l d ms) ≡ false
put-whole l d json.no_members h hs = neither (has_float d) false h refl
put-whole l d (json.member k e ms) h hs = by (parts-whole (has_float e) (members_have_float ms) hs) (λ behind. put-whole l d ms h behind) (slice_cmp nat_cmp l k)
  where
    by : (has_float e ≡ false) × (members_have_float ms ≡ false) → (members_have_float ms ≡ false → members_have_float (put l d ms) ≡ false)
        → (o : Ordering)
        → members_have_float (match_ordering o (json.member l d (json.member k e ms)) (json.member k d ms) (json.member k e (put l d ms))) ≡ false
    by (here, behind) again Less = neither (has_float d) _ h hs
    by (here, behind) again Equal = neither (has_float d) _ h behind
    by (here, behind) again Greater = neither (has_float e) _ here (again behind)

mutual
  pub json-whole : (t : LabelledType) (v : Value) (j : Data) → Json t v j → has_float j ≡ false
  json-whole (labelled_prim p) v j s = prim-whole p v j s
  json-whole labelled_string v j (text, u, is_v, is) = whole j _ is refl
  json-whole (labelled_list t) v j (vs, js, each, is_v, is) = whole j _ is (each-whole (Json t) vs js (json-whole t) each)
  json-whole (labelled_option t) v j (inl (is_v, is)) = whole j _ is refl
  json-whole (labelled_option t) v j (inr (w, d, s, is_v, is)) = whole j _ is (neither (has_float d) false (json-whole t w d s) refl)
  json-whole (labelled_tuple ts) v j (vs, js, each, is_v, is) = whole j _ is (members-whole ts vs js each)
  json-whole (labelled_result ok error) v j (inl a) = payload-whole ok _ 0 v j a
  json-whole (labelled_result ok error) v j (inr a) = payload-whole error _ 1 v j a
  json-whole (labelled_record fs) v j (vs, ms, each, is_v, is) = whole j _ is (fields-whole fs vs ms each)
  json-whole (labelled_variant cs) v j a = cases-whole cs 0 v j a
  json-whole (labelled_enum ls) v j (i, l, at, is_v, is) = whole j _ is refl
  json-whole (labelled_flags ls) v j (n, js, stand, is_v, is) = whole j _ is (flags-whole ls n js stand)

  members-whole : (ts : LabelledTypes) (vs : List Value) (js : List Data) → MembersJson ts vs js → items_have_float (items_of js) ≡ false
  members-whole no_member vs js (no_vs, no_js) = ap (λ xs. items_have_float (items_of xs)) no_js
  members-whole (member t ts) vs js (v, rest, d, others, is, is_js, s, each) =
      ap (λ xs. items_have_float (items_of xs)) is_js ∙ neither (has_float d) _ (json-whole t v d s) (members-whole ts rest others each)

  payload-whole : (p : Payload) (l : Label) (i : ℕ) (v : Value) (j : Data) → PayloadJson p l i v j → has_float j ≡ false
  payload-whole no_payload l i v j (is_v, is) = whole j _ is refl
  payload-whole (payload t) l i v j (w, d, s, is_v, is) = whole j _ is (neither (has_float d) false (json-whole t w d s) refl)

  cases-whole : (cs : LabelledCases) (i : ℕ) (v : Value) (j : Data) → CasesJson cs i v j → has_float j ≡ false
  cases-whole no_labelled_case i v j a = absurd a
  cases-whole (labelled_case l p cs) i v j (inl a) = payload-whole p l i v j a
  cases-whole (labelled_case l p cs) i v j (inr a) = cases-whole cs (suc i) v j a

  fields-whole : (fs : LabelledFields) (vs : List Value) (ms : Members) → FieldsJson fs vs ms → members_have_float ms ≡ false
  fields-whole no_labelled_field vs ms (no_vs, no_ms) = ap members_have_float no_ms
  fields-whole (labelled_field l t fs) vs ms (v, rest, d, others, is, is_ms, gone, s, each) =
      ap members_have_float is_ms ∙ put-whole l d others (json-whole t v d s) (fields-whole fs rest others each)
