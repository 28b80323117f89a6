-- A value of a type has one JSON value.
use Rattle.std.proofs.Common.{◌≡◌, ◌⊎◌, inl, inr, ℕ, suc, ◌≤◌, List, [], ◌∷◌, refl, sym, ap, ◌∙◌, subst, arith}
use Rattle.canonical_abi.specs.Types.{Prim, boolean, unsigned, signed, scalar_value}
use Rattle.canonical_abi.specs.Labelled.{Label, LabelledType, labelled_prim, labelled_string, labelled_list, labelled_option, labelled_tuple, labelled_result, labelled_record, labelled_variant, labelled_enum, labelled_flags, LabelledTypes, no_member, member, Payload, no_payload, payload, LabelledFields, no_labelled_field, labelled_field, LabelledCases, no_labelled_case, labelled_case}
use Rattle.canonical_abi.specs.Values.{Value, value, values_of, list_value, record_value, plain_value, payload_value}
use Rattle.canonical_abi.specs.Requests.{items_of as values_in}
use Rattle.canonical_abi.proofs.StoredValues.AsksRequests.{items-of}
use Rattle.serde_json.specs.Data as json
use Rattle.serde_json.specs.Data.{Data, Members, put}
use Rattle.serde_json.specs.View.{items_of}
use Rattle.value_json.specs.Json.{PrimJson, Json, EachJson, MembersJson, PayloadJson, CasesJson, FieldsJson, FlagsJson, one_member}
use Rattle.value_json.specs.Writing.{HasCase}

same-values : (vs ws : List Value) → values_of vs ≡ values_of ws → vs ≡ ws
same-values vs ws e = sym (items-of vs) ∙ ap values_in e ∙ items-of ws

lists-same : (vs ws : List Value) (v : Value) → v ≡ list_value (values_of vs) → v ≡ list_value (values_of ws) → vs ≡ ws
lists-same vs ws v a b = let e : values_of vs ≡ values_of ws = cc in same-values vs ws e

records-same : (vs ws : List Value) (v : Value) → v ≡ record_value (values_of vs) → v ≡ record_value (values_of ws) → vs ≡ ws
records-same vs ws v a b = let e : values_of vs ≡ values_of ws = cc in same-values vs ws e

cons-same : (v w : Value) (vs ws us : List Value) → us ≡ v ∷ vs → us ≡ w ∷ ws → (v ≡ w) × (vs ≡ ws)
cons-same v w vs ws us a b = (cc, cc)

prim-one : (p : Prim) (v : Value) (j k : Data) → PrimJson p v j → PrimJson p v k → j ≡ k
prim-one boolean v j k (b, is_v, is_j) (c, is_w, is_k) = cc
prim-one (unsigned w) v j k (n, fits, is_v, is_j) (m, fits2, is_w, is_k) = cc
prim-one (signed w) v j k (n, fits, is_v, is_j) (m, fits2, is_w, is_k) = cc
prim-one scalar_value v j k (n, fits, is_v, is_j) (m, fits2, is_w, is_k) = cc

flags-one : (ls : List Label) (n : ℕ) (js ks : List Data) → FlagsJson ls n js → FlagsJson ls n ks → js ≡ ks
flags-one [] n js ks (a, b) (c, d) = b ∙ sym d
flags-one (l ∷ ls) n js ks (r, inl (a, s)) (q, inl (b, u)) =
    let e : r ≡ q = omega (arith, a, b) in flags-one ls q js ks (subst (λ x. FlagsJson ls x js) e s) u
flags-one (l ∷ ls) n js ks (r, inr (x, a, is_js, s)) (q, inr (y, b, is_ks, u)) =
    let e : r ≡ q = omega (arith, a, b) in
    is_js ∙ ap (λ z. json.string l ∷ z) (flags-one ls q x y (subst (λ m. FlagsJson ls m x) e s) u) ∙ sym is_ks
flags-one (l ∷ ls) n js ks (r, inl (a, s)) (q, inr (y, b, is_ks, u)) = absurd (omega (arith, a, b))
flags-one (l ∷ ls) n js ks (r, inr (x, a, is_js, s)) (q, inl (b, u)) = absurd (omega (arith, a, b))

each-one : (P : Value → Data → Type 0) (vs : List Value) (js ks : List Data) → ((v : Value) (j k : Data) → P v j → P v k → j ≡ k)
    → EachJson P vs js → EachJson P vs ks → js ≡ ks
each-one P vs [] [] one a b = refl
each-one P vs [] (k ∷ ks) one a (v, rest, is, p, more) = absurd (cc)
each-one P vs (j ∷ js) [] one (v, rest, is, p, more) b = absurd (cc)
each-one P vs (j ∷ js) (k ∷ ks) one (v, rest, is, p, more) (w, rest2, is2, q, more2) =
    let same = cons-same v w rest rest2 vs is is2 in
    let first : j ≡ k = one w j k (subst (λ x. P x j) same.0 p) q in
    ap (λ x. x ∷ js) first ∙ ap (λ xs. k ∷ xs) (each-one P rest2 js ks one (subst (λ xs. EachJson P xs js) same.1 more) more2)

plain-payload : {A : Type 0} (v w : Value) (i n : ℕ) → v ≡ plain_value i → v ≡ payload_value n w → A
plain-payload v w i n a b = absurd (cc)

case-of : (p : Payload) (l : Label) (i : ℕ) (v : Value) (j : Data) → PayloadJson p l i v j → HasCase v i
case-of no_payload l i v j (a, is_j) = inl a
case-of (payload t) l i v j (w, d, s, a, is_j) = inr (w, a)

later : (cs : LabelledCases) (i : ℕ) (v : Value) (j : Data) → CasesJson cs i v j → (n : ℕ) × (i ≤ n) × HasCase v n
later no_labelled_case i v j a = absurd a
later (labelled_case l p cs) i v j (inl a) = (i, omega arith, case-of p l i v j a)
later (labelled_case l p cs) i v j (inr a) = let (n, up, c) = later cs (suc i) v j a in (n, omega (arith, up), c)

apart-cases : (v : Value) (i n : ℕ) → (i ≡ n → ⊥) → HasCase v i → HasCase v n → ⊥
apart-cases v i n other (inl a) (inl b) = let e : i ≡ n = cc in other e
apart-cases v i n other (inl a) (inr (w, b)) = plain-payload v w i n a b
apart-cases v i n other (inr (w, a)) (inl b) = plain-payload v w n i b a
apart-cases v i n other (inr (w, a)) (inr (u, b)) = let e : i ≡ n = cc in other e

mutual
  pub one-json : (t : LabelledType) (v : Value) (j k : Data) → Json t v j → Json t v k → j ≡ k
  one-json (labelled_prim p) v j k a b = prim-one p v j k a b
  one-json labelled_string v j k (s, u, is_v, is_j) (r, w, is_w, is_k) = cc
  one-json (labelled_list t) v j k (vs, js, each, is_v, is_j) (ws, ks, each2, is_w, is_k) =
      let same = lists-same vs ws v is_v is_w in
      is_j ∙ ap (λ x. json.array (items_of x)) (each-one (Json t) ws js ks (one-json t) (subst (λ x. EachJson (Json t) x js) same each) each2) ∙ sym is_k
  one-json (labelled_option t) v j k (inl (a, is_j)) (inl (b, is_k)) = is_j ∙ sym is_k
  one-json (labelled_option t) v j k (inl (a, is_j)) (inr (w, d, s, b, is_k)) = plain-payload v w 0 1 a b
  one-json (labelled_option t) v j k (inr (w, d, s, b, is_j)) (inl (a, is_k)) = plain-payload v w 0 1 a b
  one-json (labelled_option t) v j k (inr (w, d, s, a, is_j)) (inr (u, e, r, b, is_k)) =
      let same : w ≡ u = cc in is_j ∙ ap (one_member _) (one-json t u d e (subst (λ x. Json t x d) same s) r) ∙ sym is_k
  one-json (labelled_tuple ts) v j k (vs, js, each, is_v, is_j) (ws, ks, each2, is_w, is_k) =
      let same = records-same vs ws v is_v is_w in
      is_j ∙ ap (λ x. json.array (items_of x)) (members-one ts ws js ks (subst (λ x. MembersJson ts x js) same each) each2) ∙ sym is_k
  one-json (labelled_result ok error) v j k (inl a) (inl b) = payload-one ok _ 0 v j k a b
  one-json (labelled_result ok error) v j k (inr a) (inr b) = payload-one error _ 1 v j k a b
  one-json (labelled_result ok error) v j k (inl a) (inr b) = absurd (apart-cases v 0 1 (omega arith) (case-of ok _ 0 v j a) (case-of error _ 1 v k b))
  one-json (labelled_result ok error) v j k (inr a) (inl b) = absurd (apart-cases v 0 1 (omega arith) (case-of ok _ 0 v k b) (case-of error _ 1 v j a))
  one-json (labelled_record fs) v j k (vs, ms, each, is_v, is_j) (ws, ns, each2, is_w, is_k) =
      let same = records-same vs ws v is_v is_w in
      is_j ∙ ap json.object (fields-one fs ws ms ns (subst (λ x. FieldsJson fs x ms) same each) each2) ∙ sym is_k
  one-json (labelled_variant cs) v j k a b = cases-one cs 0 v j k a b
  one-json (labelled_enum ls) v j k (i, l, at, is_v, is_j) (n, m, at2, is_w, is_k) =
      let e : i ≡ n = cc in let same : l ≡ m = cc in is_j ∙ ap json.string same ∙ sym is_k
  one-json (labelled_flags ls) v j k (n, js, s, is_v, is_j) (m, ks, r, is_w, is_k) =
      let e : n ≡ m = cc in is_j ∙ ap (λ x. json.array (items_of x)) (flags-one ls m js ks (subst (λ x. FlagsJson ls x js) e s) r) ∙ sym is_k

  members-one : (ts : LabelledTypes) (vs : List Value) (js ks : List Data) → MembersJson ts vs js → MembersJson ts vs ks → js ≡ ks
  members-one no_member vs js ks (a, b) (c, d) = b ∙ sym d
  members-one (member t ts) vs js ks (v, rest, d, others, is, is_js, s, each) (w, rest2, e, others2, is2, is_ks, r, each2) =
      let same = cons-same v w rest rest2 vs is is2 in
      is_js ∙ ap (λ x. x ∷ others) (one-json t w d e (subst (λ x. Json t x d) same.0 s) r)
      ∙ ap (λ xs. e ∷ xs) (members-one ts rest2 others others2 (subst (λ xs. MembersJson ts xs others) same.1 each) each2) ∙ sym is_ks

  payload-one : (p : Payload) (l : Label) (i : ℕ) (v : Value) (j k : Data) → PayloadJson p l i v j → PayloadJson p l i v k → j ≡ k
  payload-one no_payload l i v j k (a, is_j) (b, is_k) = is_j ∙ sym is_k
  payload-one (payload t) l i v j k (w, d, s, a, is_j) (u, e, r, b, is_k) =
      let same : w ≡ u = cc in is_j ∙ ap (one_member l) (one-json t u d e (subst (λ x. Json t x d) same s) r) ∙ sym is_k

  cases-one : (cs : LabelledCases) (i : ℕ) (v : Value) (j k : Data) → CasesJson cs i v j → CasesJson cs i v k → j ≡ k
  cases-one no_labelled_case i v j k a b = absurd a
  cases-one (labelled_case l p cs) i v j k (inl a) (inl b) = payload-one p l i v j k a b
  cases-one (labelled_case l p cs) i v j k (inr a) (inr b) = cases-one cs (suc i) v j k a b
  cases-one (labelled_case l p cs) i v j k (inl a) (inr b) = let (n, up, c) = later cs (suc i) v k b in absurd (apart-cases v i n (omega (arith, up)) (case-of p l i v j a) c)
  cases-one (labelled_case l p cs) i v j k (inr a) (inl b) = let (n, up, c) = later cs (suc i) v j a in absurd (apart-cases v i n (omega (arith, up)) (case-of p l i v k b) c)

  fields-one : (fs : LabelledFields) (vs : List Value) (ms ns : Members) → FieldsJson fs vs ms → FieldsJson fs vs ns → ms ≡ ns
  fields-one no_labelled_field vs ms ns (a, b) (c, d) = b ∙ sym d
  fields-one (labelled_field l t fs) vs ms ns (v, rest, d, others, is, is_ms, gone, s, each) (w, rest2, e, others2, is2, is_ns, gone2, r, each2) =
      let same = cons-same v w rest rest2 vs is is2 in
      is_ms ∙ ap (λ x. put l x others) (one-json t w d e (subst (λ x. Json t x d) same.0 s) r)
      ∙ ap (put l e) (fields-one fs rest2 others others2 (subst (λ xs. FieldsJson fs xs others) same.1 each) each2) ∙ sym is_ns
