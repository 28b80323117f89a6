-- A JSON value stands for one value of a type.
use Rattle.std.proofs.Common.{◌≡◌, inl, inr, ℕ, zero, suc, ℤ, pos, negsuc, List, [], ◌∷◌, get_or, Some, None, slice_get, Ordering, Less, Equal, Greater, nat_cmp, encode_utf8, refl, sym, ap, ◌∙◌, subst, append-nil, arith}
use Rattle.std.specs.Cmp.Lexicographic.{slice_cmp}
use Rattle.std.specs.Ordering.{match_ordering}
use Rattle.std.proofs.lemmas.Str.{encode_same}
use Rattle.canonical_abi.specs.Types.{Prim, boolean, unsigned, signed, scalar_value}
use Rattle.canonical_abi.specs.Labelled.{Label, LabelledType, labelled_prim, labelled_string, labelled_list, labelled_option, labelled_tuple, labelled_result, labelled_record, labelled_variant, labelled_enum, labelled_flags, LabelledTypes, no_member, member, Payload, no_payload, payload, LabelledFields, no_labelled_field, labelled_field, LabelledCases, no_labelled_case, labelled_case, ok_label, error_label}
use Rattle.canonical_abi.specs.Values.{Value, values_of, list_value, record_value, plain_value, payload_value, flags_value, signed_value}
use Rattle.serde_json.specs.Data as json
use Rattle.serde_json.specs.Data.{Data, Members, no_members, put}
use Rattle.serde_json.specs.Find.{of_integer, get_member}
use Rattle.serde_json.proofs.Views.{get_member-put}
use Rattle.value_json.specs.Json.{PrimJson, Json, EachJson, MembersJson, PayloadJson, CasesJson, FieldsJson, FlagsJson, IsNotAmong, AreDistinctLabels, IsOfNoCase, HasDistinctLabels, MembersHaveDistinctLabels, PayloadHasDistinctLabels, FieldsHaveDistinctLabels, CasesHaveDistinctLabels}
use Rattle.value_json.proofs.JsonAsData.{only_items}
use Rattle.value_json.proofs.MembersBesideFields.{equal-itself}

integer-same : (y z : ℤ) → of_integer y ≡ of_integer z → y ≡ z
integer-same (pos n) (pos m) e = let same : n ≡ m = cc in ap pos same
integer-same (pos n) (negsuc m) e = absurd (cc)
integer-same (negsuc n) (pos m) e = absurd (cc)
integer-same (negsuc n) (negsuc m) e = let same : negsuc n ≡ negsuc m = cc in same

character-same : (c d : ℕ) → encode_utf8 c ≡ encode_utf8 d → c ≡ d
character-same c d e = (encode_same c d [] [] (append-nil (encode_utf8 c) ∙ e ∙ sym (append-nil (encode_utf8 d)))).0

prim-value : (p : Prim) (v w : Value) (j : Data) → PrimJson p v j → PrimJson p w j → v ≡ w
prim-value boolean v w j (b, is_v, is_j) (c, is_w, is_k) = let same : b ≡ c = cc in cc
prim-value (unsigned x) v w j (n, fits, is_v, is_j) (m, fits2, is_w, is_k) = let same : n ≡ m = cc in cc
prim-value (signed x) v w j (n, fits, is_v, is_j) (m, fits2, is_w, is_k) =
    let e : of_integer n ≡ of_integer m = cc in is_v ∙ ap (signed_value x) (integer-same n m e) ∙ sym is_w
prim-value scalar_value v w j (n, fits, is_v, is_j) (m, fits2, is_w, is_k) =
    let e : encode_utf8 n ≡ encode_utf8 m = cc in let same = character-same n m e in cc

-- ---- labels

abbrev label_of : Data → Label
label_of (json.string l) = l
label_of (json.object (json.member l d ms)) = l
label_of _ = []

payload-label : (p : Payload) (l : Label) (i : ℕ) (v : Value) (j : Data) → PayloadJson p l i v j → label_of j ≡ l
payload-label no_payload l i v j (is_v, is_j) = ap label_of is_j
payload-label (payload t) l i v j (w, d, s, is_v, is_j) = ap label_of is_j

no-such-case : (cs : LabelledCases) (i : ℕ) (v : Value) (j : Data) (l : Label) → IsOfNoCase l cs → label_of j ≡ l → CasesJson cs i v j → ⊥
no-such-case no_labelled_case i v j l other is a = a
no-such-case (labelled_case m p cs) i v j l (first, other) is (inl a) = first (sym is ∙ payload-label p m i v j a)
no-such-case (labelled_case m p cs) i v j l (first, other) is (inr a) = no-such-case cs (suc i) v j l other is a

not-at : (ls : List Label) (i : ℕ) (l : Label) → IsNotAmong l ls → slice_get ls i ≡ Some l → ⊥
not-at [] i l other at = absurd (cc)
not-at (m ∷ ms) zero l (first, other) at = let same : l ≡ m = cc in first same
not-at (m ∷ ms) (suc i) l (first, other) at = not-at ms i l other at

one-place : (ls : List Label) (i k : ℕ) (l : Label) → AreDistinctLabels ls → slice_get ls i ≡ Some l → slice_get ls k ≡ Some l → i ≡ k
one-place [] i k l apart a b = absurd (cc)
one-place (m ∷ ms) zero zero l apart a b = refl
one-place (m ∷ ms) zero (suc k) l (first, apart) a b = let same : m ≡ l = cc in absurd (not-at ms k m first (b ∙ ap Some (sym same)))
one-place (m ∷ ms) (suc i) zero l (first, apart) a b = let same : m ≡ l = cc in absurd (not-at ms i m first (a ∙ ap Some (sym same)))
one-place (m ∷ ms) (suc i) (suc k) l (first, apart) a b = ap suc (one-place ms i k l apart a b)

-- ---- flags

not-first : (ls : List Label) (n : ℕ) (l : Label) (js : List Data) → IsNotAmong l ls → FlagsJson ls n (json.string l ∷ js) → ⊥
not-first [] n l js other (is, none) = absurd (cc)
not-first (m ∷ ms) n l js (first, other) (rest, inl (is, stand)) = not-first ms rest l js other stand
not-first (m ∷ ms) n l js (first, other) (rest, inr (others, is, is_js, stand)) = let same : l ≡ m = cc in first same

flags-value : (ls : List Label) (n m : ℕ) (js : List Data) → AreDistinctLabels ls → FlagsJson ls n js → FlagsJson ls m js → n ≡ m
flags-value [] n m js apart (a, none) (b, none2) = a ∙ sym b
flags-value (l ∷ ls) n m js (first, apart) (r, inl (a, s)) (q, inl (b, u)) = let e = flags-value ls r q js apart s u in omega (arith, a, b, e)
flags-value (l ∷ ls) n m js (first, apart) (r, inr (x, a, is_js, s)) (q, inr (y, b, is_ks, u)) =
    let same : x ≡ y = cc in
    let e = flags-value ls r q y apart (subst (FlagsJson ls r) same s) u in omega (arith, a, b, e)
flags-value (l ∷ ls) n m js (first, apart) (r, inl (a, s)) (q, inr (y, b, is_ks, u)) = absurd (not-first ls r l y first (subst (FlagsJson ls r) is_ks s))
flags-value (l ∷ ls) n m js (first, apart) (r, inr (x, a, is_js, s)) (q, inl (b, u)) = absurd (not-first ls q l x first (subst (FlagsJson ls q) is_js u))

-- ---- lists and objects

each-value : (P : Value → Data → Type 0) (vs ws : List Value) (js : List Data) → ((v w : Value) (j : Data) → P v j → P w j → v ≡ w)
    → EachJson P vs js → EachJson P ws js → vs ≡ ws
each-value P vs ws [] one a b = a ∙ sym b
each-value P vs ws (j ∷ js) one (v, rest, is, p, more) (w, rest2, is2, q, more2) =
    is ∙ ap (λ x. x ∷ rest) (one v w j p q) ∙ ap (λ xs. w ∷ xs) (each-value P rest rest2 js one more more2) ∙ sym is2

-- the members without that of a label
abbrev without : Label → Members → Members
without l no_members = no_members
without l (json.member k e ms) = match_ordering (slice_cmp nat_cmp l k) (json.member k e (without l ms)) ms (json.member k e (without l ms))

without-put : (l : Label) (d : Data) (ms : Members) → slice_cmp nat_cmp l l ≡ Equal → get_member l ms ≡ None → without l (put l d ms) ≡ ms
without-put l d no_members same none = rw same refl
without-put l d (json.member k e ms) same none = by (without-put l d ms same) (slice_cmp nat_cmp l k) refl none
  where
    by : (get_member l ms ≡ None → without l (put l d ms) ≡ ms) → (o : Ordering) → slice_cmp nat_cmp l k ≡ o → match_ordering o (get_member l ms) (Some e) (get_member l ms) ≡ None
        → without l (put l d (json.member k e ms)) ≡ json.member k e ms
    by again Less is f = rw is (rw same refl)
    by again Equal is f = absurd (cc)
    by again Greater is f = rw is (rw is (ap (json.member k e) (again f)))

-- ---- types

ok-error : ok_label ≡ error_label → ⊥
ok-error e = let first : 111 ≡ 101 = ap (λ xs. get_or xs 0 0) e in omega (arith, first)

mutual
  pub one-value : (t : LabelledType) (v w : Value) (j : Data) → HasDistinctLabels t → Json t v j → Json t w j → v ≡ w
  one-value (labelled_prim p) v w j apart a b = prim-value p v w j a b
  one-value labelled_string v w j apart (s, u, is_v, is_j) (r, x, is_w, is_k) = let same : s ≡ r = cc in cc
  one-value (labelled_list t) v w j apart (vs, js, each, is_v, is_j) (ws, ks, each2, is_w, is_k) =
      let same = only_items ks js (sym is_k ∙ is_j) in
      is_v ∙ ap (λ x. list_value (values_of x)) (each-value (Json t) vs ws js (λ x y d. one-value t x y d apart) each (subst (EachJson (Json t) ws) same each2)) ∙ sym is_w
  one-value (labelled_option t) v w j apart (inl (a, is_j)) (inl (b, is_k)) = a ∙ sym b
  one-value (labelled_option t) v w j apart (inl (a, is_j)) (inr (x, d, s, b, is_k)) = absurd (cc)
  one-value (labelled_option t) v w j apart (inr (x, d, s, b, is_j)) (inl (a, is_k)) = absurd (cc)
  one-value (labelled_option t) v w j apart (inr (x, d, s, a, is_j)) (inr (y, e, r, b, is_k)) =
      let same : d ≡ e = cc in a ∙ ap (payload_value 1) (one-value t x y e apart (subst (Json t x) same s) r) ∙ sym b
  one-value (labelled_tuple ts) v w j apart (vs, js, each, is_v, is_j) (ws, ks, each2, is_w, is_k) =
      let same = only_items ks js (sym is_k ∙ is_j) in
      is_v ∙ ap (λ x. record_value (values_of x)) (members-value ts vs ws js apart each (subst (MembersJson ts ws) same each2)) ∙ sym is_w
  one-value (labelled_result ok error) v w j apart (inl a) (inl b) = payload-value ok (ok_label) 0 v w j apart.0 a b
  one-value (labelled_result ok error) v w j apart (inr a) (inr b) = payload-value error (error_label) 1 v w j apart.1 a b
  one-value (labelled_result ok error) v w j apart (inl a) (inr b) = absurd (ok-error (sym (payload-label ok (ok_label) 0 v j a) ∙ payload-label error (error_label) 1 w j b))
  one-value (labelled_result ok error) v w j apart (inr a) (inl b) = absurd (ok-error (sym (payload-label ok (ok_label) 0 w j b) ∙ payload-label error (error_label) 1 v j a))
  one-value (labelled_record fs) v w j apart (vs, ms, each, is_v, is_j) (ws, ns, each2, is_w, is_k) =
      let same : ms ≡ ns = cc in
      is_v ∙ ap (λ x. record_value (values_of x)) (fields-value fs vs ws ns apart (subst (FieldsJson fs vs) same each) each2) ∙ sym is_w
  one-value (labelled_variant cs) v w j apart a b = cases-value cs 0 v w j apart a b
  one-value (labelled_enum ls) v w j apart (i, l, at, is_v, is_j) (n, m, at2, is_w, is_k) =
      let same : m ≡ l = cc in is_v ∙ ap plain_value (one-place ls i n l apart at (at2 ∙ ap Some same)) ∙ sym is_w
  one-value (labelled_flags ls) v w j apart (n, js, s, is_v, is_j) (m, ks, r, is_w, is_k) =
      let same = only_items ks js (sym is_k ∙ is_j) in
      is_v ∙ ap flags_value (flags-value ls n m js apart s (subst (FlagsJson ls m) same r)) ∙ sym is_w

  members-value : (ts : LabelledTypes) (vs ws : List Value) (js : List Data) → MembersHaveDistinctLabels ts → MembersJson ts vs js → MembersJson ts ws js → vs ≡ ws
  members-value no_member vs ws js apart (a, b) (c, d) = a ∙ sym c
  members-value (member t ts) vs ws js apart (v, rest, d, others, is, is_js, s, each) (w, rest2, e, others2, is2, is_ks, r, each2) =
      let same_d : e ≡ d = cc in
      let same : others2 ≡ others = cc in
      is ∙ ap (λ x. x ∷ rest) (one-value t v w d apart.0 s (subst (Json t w) same_d r))
      ∙ ap (λ xs. w ∷ xs) (members-value ts rest rest2 others apart.1 each (subst (MembersJson ts rest2) same each2)) ∙ sym is2

  payload-value : (p : Payload) (l : Label) (i : ℕ) (v w : Value) (j : Data) → PayloadHasDistinctLabels p → PayloadJson p l i v j → PayloadJson p l i w j → v ≡ w
  payload-value no_payload l i v w j apart (a, is_j) (b, is_k) = a ∙ sym b
  payload-value (payload t) l i v w j apart (x, d, s, a, is_j) (y, e, r, b, is_k) =
      let same : d ≡ e = cc in a ∙ ap (payload_value i) (one-value t x y e apart (subst (Json t x) same s) r) ∙ sym b

  cases-value : (cs : LabelledCases) (i : ℕ) (v w : Value) (j : Data) → CasesHaveDistinctLabels cs → CasesJson cs i v j → CasesJson cs i w j → v ≡ w
  cases-value no_labelled_case i v w j apart a b = absurd a
  cases-value (labelled_case l p cs) i v w j apart (inl a) (inl b) = payload-value p l i v w j apart.1 a b
  cases-value (labelled_case l p cs) i v w j apart (inr a) (inr b) = cases-value cs (suc i) v w j apart.2 a b
  cases-value (labelled_case l p cs) i v w j apart (inl a) (inr b) = absurd (no-such-case cs (suc i) w j l apart.0 (payload-label p l i v j a) b)
  cases-value (labelled_case l p cs) i v w j apart (inr a) (inl b) = absurd (no-such-case cs (suc i) v j l apart.0 (payload-label p l i w j b) a)

  fields-value : (fs : LabelledFields) (vs ws : List Value) (ms : Members) → FieldsHaveDistinctLabels fs → FieldsJson fs vs ms → FieldsJson fs ws ms → vs ≡ ws
  fields-value no_labelled_field vs ws ms apart (a, b) (c, d) = a ∙ sym c
  fields-value (labelled_field l t fs) vs ws ms apart (v, rest, d, others, is, is_ms, gone, s, each) (w, rest2, e, others2, is2, is_ns, gone2, r, each2) =
      let puts : put l e others2 ≡ put l d others = sym is_ns ∙ is_ms in
      let found : Some e ≡ Some d = sym (get_member-put l e others2) ∙ ap (get_member l) puts ∙ get_member-put l d others in
      let same_d : e ≡ d = cc in
      let itself = equal-itself l in
      let same : others2 ≡ others = sym (without-put l e others2 itself gone2) ∙ ap (without l) puts ∙ without-put l d others itself gone in
      is ∙ ap (λ x. x ∷ rest) (one-value t v w d apart.0 s (subst (Json t w) same_d r))
      ∙ ap (λ xs. w ∷ xs) (fields-value fs rest rest2 others apart.1 each (subst (FieldsJson fs rest2) same each2)) ∙ sym is2
