-- How deep a JSON value nests.
use Rattle.std.proofs.Common.{◌≡◌, inl, inr, ℕ, suc, ◌≤◌, max, List, [], ◌∷◌, Ordering, Less, Equal, Greater, nat_cmp, sym, subst, arith}
use Rattle.std.specs.Cmp.Lexicographic.{slice_cmp}
use Rattle.std.specs.Ordering.{match_ordering}
use Rattle.canonical_abi.specs.Types.{Prim, boolean, unsigned, signed, scalar_value, Cases, no_case, depth, fields_depth, cases_depth}
use Rattle.canonical_abi.specs.Labelled.{Label, LabelledType, labelled_prim, labelled_string, labelled_list, labelled_option, labelled_tuple, labelled_result, labelled_record, labelled_variant, labelled_enum, labelled_flags, LabelledTypes, no_member, member, Payload, no_payload, payload, LabelledFields, no_labelled_field, labelled_field, LabelledCases, no_labelled_case, labelled_case, closed, closed_members, closed_fields, closed_cases, closed_payload}
use Rattle.canonical_abi.specs.Values.{Value}
use Rattle.serde_json.specs.Data as json
use Rattle.serde_json.specs.Data.{Data, Members, put, items_depth, members_depth}
use Rattle.serde_json.specs.View.{items_of}
use Rattle.value_json.specs.Json.{PrimJson, Json, EachJson, MembersJson, PayloadJson, CasesJson, FieldsJson, FlagsJson}

same-depth : (j k : Data) (n : ℕ) → j ≡ k → json.depth k ≤ n → json.depth j ≤ n
same-depth j k n is h = subst (λ x. json.depth x ≤ n) (sym is) h

prim-depth : (p : Prim) (v : Value) (j : Data) → PrimJson p v j → json.depth j ≤ 1
prim-depth boolean v j (b, is_v, is) = same-depth j _ 1 is (omega arith)
prim-depth (unsigned w) v j (n, fits, is_v, is) = same-depth j _ 1 is (omega arith)
prim-depth (signed w) v j (n, fits, is_v, is) = same-depth j _ 1 is (omega arith)
prim-depth scalar_value v j (n, fits, is_v, is) = same-depth j _ 1 is (omega arith)

each-depth : (P : Value → Data → Type 0) (n : ℕ) (vs : List Value) (js : List Data) → ((v : Value) (j : Data) → P v j → json.depth j ≤ n)
    → EachJson P vs js → items_depth (items_of js) ≤ n
each-depth P n vs [] all each = omega arith
each-depth P n vs (j ∷ js) all (v, rest, is, p, each) =
    let first = all v j p in
    let others = each-depth P n rest js all each in
    omega (arith, first, others)

flags-depth : (ls : List Label) (n : ℕ) (js : List Data) → FlagsJson ls n js → items_depth (items_of js) ≤ 0
flags-depth [] n js (is, none) = subst (λ xs. items_depth (items_of xs) ≤ 0) (sym none) (omega arith)
flags-depth (l ∷ ls) n js (rest, inl (is, stand)) = flags-depth ls rest js stand
flags-depth (l ∷ ls) n js (rest, inr (others, is, is_js, stand)) =
    let behind = flags-depth ls rest others stand in
    subst (λ xs. items_depth (items_of xs) ≤ 0) (sym is_js) (omega (arith, behind))

put-depth : (l : Label) (d : Data) (ms : Members) → members_depth (put l d ms) ≤ max (json.depth d) (members_depth ms)
put-depth l d json.no_members = omega arith
put-depth l d (json.member k e ms) = by (put-depth l d ms) (slice_cmp nat_cmp l k)
  where
    by : members_depth (put l d ms) ≤ max (json.depth d) (members_depth ms) → (o : Ordering)
        → members_depth (match_ordering o (json.member l d (json.member k e ms)) (json.member k d ms) (json.member k e (put l d ms))) ≤ max (json.depth d) (max (json.depth e) (members_depth ms))
    by again Less = omega arith
    by again Equal = omega arith
    by again Greater = omega (arith, again)

later-depth : (p : Payload) (cs : Cases) → cases_depth cs ≤ cases_depth (closed_payload p cs)
later-depth no_payload cs = omega arith
later-depth (payload t) cs = omega arith

mutual
  pub json-depth : (t : LabelledType) (v : Value) (j : Data) → Json t v j → json.depth j ≤ depth (closed t)
  json-depth (labelled_prim p) v j s = prim-depth p v j s
  json-depth labelled_string v j (text, u, is_v, is) = same-depth j _ 1 is (omega arith)
  json-depth (labelled_list t) v j (vs, js, each, is_v, is) =
      let below = each-depth (Json t) (depth (closed t)) vs js (json-depth t) each in
      same-depth j _ (suc (depth (closed t))) is (omega (arith, below))
  json-depth (labelled_option t) v j (inl (is_v, is)) = same-depth j _ _ is (omega arith)
  json-depth (labelled_option t) v j (inr (w, d, s, is_v, is)) = let below = json-depth t w d s in same-depth j _ _ is (omega (arith, below))
  json-depth (labelled_tuple ts) v j (vs, js, each, is_v, is) =
      let below = members-nest ts vs js each in same-depth j _ (suc (fields_depth (closed_members ts))) is (omega (arith, below))
  json-depth (labelled_result ok error) v j (inl a) =
      let below = payload-nests ok _ 0 v j (closed_payload error no_case) a in omega (arith, below)
  json-depth (labelled_result ok error) v j (inr a) =
      let below = payload-nests error _ 1 v j no_case a in
      let more = later-depth ok (closed_payload error no_case) in omega (arith, below, more)
  json-depth (labelled_record fs) v j (vs, ms, each, is_v, is) =
      let below = fields-nest fs vs ms each in same-depth j _ (suc (fields_depth (closed_fields fs))) is (omega (arith, below))
  json-depth (labelled_variant cs) v j a = let below = cases-nest cs 0 v j a in omega (arith, below)
  json-depth (labelled_enum ls) v j (i, l, at, is_v, is) = same-depth j _ _ is (omega arith)
  json-depth (labelled_flags ls) v j (n, js, stand, is_v, is) = let below = flags-depth ls n js stand in same-depth j _ 1 is (omega (arith, below))

  members-nest : (ts : LabelledTypes) (vs : List Value) (js : List Data) → MembersJson ts vs js → items_depth (items_of js) ≤ fields_depth (closed_members ts)
  members-nest no_member vs js (no_vs, no_js) = subst (λ xs. items_depth (items_of xs) ≤ 0) (sym no_js) (omega arith)
  members-nest (member t ts) vs js (v, rest, d, others, is, is_js, s, each) =
      let first = json-depth t v d s in
      let behind = members-nest ts rest others each in
      subst (λ xs. items_depth (items_of xs) ≤ max (depth (closed t)) (fields_depth (closed_members ts))) (sym is_js) (omega (arith, first, behind))

  payload-nests : (p : Payload) (l : Label) (i : ℕ) (v : Value) (j : Data) (cs : Cases) → PayloadJson p l i v j → json.depth j ≤ suc (cases_depth (closed_payload p cs))
  payload-nests no_payload l i v j cs (is_v, is) = same-depth j _ _ is (omega arith)
  payload-nests (payload t) l i v j cs (w, d, s, is_v, is) = let below = json-depth t w d s in same-depth j _ _ is (omega (arith, below))

  cases-nest : (cs : LabelledCases) (i : ℕ) (v : Value) (j : Data) → CasesJson cs i v j → json.depth j ≤ suc (cases_depth (closed_cases cs))
  cases-nest no_labelled_case i v j a = absurd a
  cases-nest (labelled_case l p cs) i v j (inl a) = payload-nests p l i v j (closed_cases cs) a
  cases-nest (labelled_case l p cs) i v j (inr a) =
      let below = cases-nest cs (suc i) v j a in
      let more = later-depth p (closed_cases cs) in omega (arith, below, more)

  fields-nest : (fs : LabelledFields) (vs : List Value) (ms : Members) → FieldsJson fs vs ms → members_depth ms ≤ fields_depth (closed_fields fs)
  fields-nest no_labelled_field vs ms (no_vs, no_ms) = subst (λ xs. members_depth xs ≤ 0) (sym no_ms) (omega arith)
  fields-nest (labelled_field l t fs) vs ms (v, rest, d, others, is, is_ms, gone, s, each) =
      let first = json-depth t v d s in
      let behind = fields-nest fs rest others each in
      let putting = put-depth l d others in
      subst (λ xs. members_depth xs ≤ max (depth (closed t)) (fields_depth (closed_fields fs))) (sym is_ms) (omega (arith, first, behind, putting))
