-- What stands as JSON of a type is a value of the type.
use Rattle.std.proofs.Common.{◌≡◌, ap, ◌∙◌, inl, inr, ℕ, zero, suc, ◌+◌, ◌*◌, ◌<◌, ◌^◌, List, [], ◌∷◌, length, Some, slice_get, Bool, true, false, cond, ◌||◌, ◌&&◌, nat_lt, refl, sym, subst, arith}
use Rattle.std.proofs.Math.Nat.{pow-succ'}
use Rattle.std.specs.Char.{IsScalar}
use Rattle.std.specs.List.{AllByRecursion}
use Rattle.canonical_abi.specs.Types.{Prim, boolean, unsigned, signed, scalar_value, Cases, no_case}
use Rattle.canonical_abi.specs.Labelled.{Label, LabelledType, labelled_prim, labelled_string, labelled_list, labelled_option, labelled_tuple, labelled_result, labelled_record, labelled_variant, labelled_enum, labelled_flags, LabelledTypes, no_member, member, Payload, no_payload, payload, LabelledFields, no_labelled_field, labelled_field, LabelledCases, no_labelled_case, labelled_case, closed, closed_members, closed_fields, closed_cases, closed_payload, plain_cases}
use Rattle.canonical_abi.specs.Values.{Value, is_scalar, HasPrimType, HasType, HaveTypes, IsOfCase, plain_value}
use Rattle.canonical_abi.specs.Types.{field}
use Rattle.serde_json.specs.Data.{Data, Members}
use Rattle.tables.specs.Closed.{closed_type}
use Rattle.tables.specs.Labelled.{labelled_type, labelled_types, labelled_members}
use Rattle.tables.specs.declared.tables.Resolve.{Resolve}
use Rattle.tables.specs.declared.tables.ValType.{ValType}
use Rattle.tables.proofs.ErasesToClosed.{erases}
use Rattle.values.specs.Members.{fields_of_types}
use Rattle.value_json.specs.Json.{PrimJson, Json, EachJson, MembersJson, PayloadJson, CasesJson, FieldsJson, FlagsJson}

or_is : (a b : Bool) → cond a true b ≡ true → (a || b) ≡ true
or_is true b h = refl
or_is false b h = h

scalar_is : (c : ℕ) → IsScalar c → is_scalar c ≡ true
scalar_is c h = or_is (nat_lt c 0xD800) (nat_lt 0xDFFF c && nat_lt c 0x110000) h

prim_typed : (p : Prim) (v : Value) (j : Data) → PrimJson p v j → HasPrimType v p
prim_typed boolean v j (b, is_v, is_j) = (b, is_v)
prim_typed (unsigned w) v j (n, fits, is_v, is_j) = (n, fits, is_v)
prim_typed (signed w) v j (z, fits, is_v, is_j) = (z, fits, is_v)
prim_typed scalar_value v j (c, scalar, is_v, is_j) = (c, scalar_is c scalar, is_v)

each-typed : (P : Value → Data → Type 0) (Q : Value → Type 0) (vs : List Value) (js : List Data) → ((v : Value) (j : Data) → P v j → Q v) → EachJson P vs js → AllByRecursion Q vs
each-typed P Q vs [] one none = subst (AllByRecursion Q) (sym none) tt
each-typed P Q vs (j ∷ js) one (v, rest, is, p, more) = subst (AllByRecursion Q) (sym is) (one v j p, each-typed P Q rest js one more)

skip : (p : Payload) (v : Value) (cs : Cases) (i n : ℕ) → IsOfCase v cs i n → IsOfCase v (closed_payload p cs) i (suc n)
skip no_payload v cs i n c = c
skip (payload t) v cs i n c = c

enum-typed : (ls : List Label) (k i : ℕ) (l : Label) (v : Value) → slice_get ls k ≡ Some l → v ≡ plain_value i → IsOfCase v (plain_cases ls) i k
enum-typed [] k i l v at is = absurd (cc)
enum-typed (m ∷ ls) zero i l v at is = is
enum-typed (m ∷ ls) (suc k) i l v at is = enum-typed ls k i l v at is

flags-small : (ls : List Label) (n : ℕ) (js : List Data) → FlagsJson ls n js → n < 2 ^ length ls
flags-small [] n js (is, none) = subst (λ x. x < 1) (sym is) (omega arith)
flags-small (l ∷ ls) n js (rest, inl (is, stand)) =
    let below = flags-small ls rest js stand in
    let twice : 2 ^ suc (length ls) ≡ 2 * 2 ^ length ls = pow-succ' 2 (length ls) in
    omega (arith, is, below, twice)
flags-small (l ∷ ls) n js (rest, inr (others, is, is_js, stand)) =
    let below = flags-small ls rest others stand in
    let twice : 2 ^ suc (length ls) ≡ 2 * 2 ^ length ls = pow-succ' 2 (length ls) in
    omega (arith, is, below, twice)

mutual
  pub json-typed : (t : LabelledType) (v : Value) (j : Data) → Json t v j → HasType v (closed t)
  json-typed (labelled_prim p) v j s = prim_typed p v j s
  json-typed labelled_string v j (text, u, is_v, is_j) = (text, u, is_v)
  json-typed (labelled_list t) v j (vs, js, each, is_v, is_j) = (vs, each-typed (Json t) (λ w. HasType w (closed t)) vs js (json-typed t) each, is_v)
  json-typed (labelled_option t) v j (inl (is_v, is_j)) = (0, is_v)
  json-typed (labelled_option t) v j (inr (w, d, s, is_v, is_j)) = (1, (w, json-typed t w d s, is_v))
  json-typed (labelled_tuple ts) v j (vs, js, each, is_v, is_j) = (vs, members-typed ts vs js each, is_v)
  json-typed (labelled_result ok error) v j (inl a) = (0, here ok _ 0 v j _ a)
  json-typed (labelled_result ok error) v j (inr b) = (1, skip ok v _ 1 0 (here error _ 1 v j no_case b))
  json-typed (labelled_record fs) v j (vs, ms, each, is_v, is_j) = (vs, fields-typed fs vs ms each, is_v)
  json-typed (labelled_variant cs) v j a =
      let (k, c) = case-typed cs 0 v j a in
      let e : 0 + k ≡ k = omega arith in
      (k, subst (λ i. IsOfCase v (closed_cases cs) i k) e c)
  json-typed (labelled_enum ls) v j (i, l, at, is_v, is_j) = (i, enum-typed ls i i l v at is_v)
  json-typed (labelled_flags ls) v j (n, js, stand, is_v, is_j) = (n, flags-small ls n js stand, is_v)

  members-typed : (ts : LabelledTypes) (vs : List Value) (js : List Data) → MembersJson ts vs js → HaveTypes vs (closed_members ts)
  members-typed no_member vs js (no_vs, no_js) = no_vs
  members-typed (member t ts) vs js (v, rest, d, others, is, is_js, s, each) = (v, rest, is, json-typed t v d s, members-typed ts rest others each)

  fields-typed : (fs : LabelledFields) (vs : List Value) (ms : Members) → FieldsJson fs vs ms → HaveTypes vs (closed_fields fs)
  fields-typed no_labelled_field vs ms (no_vs, no_ms) = no_vs
  fields-typed (labelled_field l t fs) vs ms (v, rest, d, others, is, is_ms, gone, s, each) = (v, rest, is, json-typed t v d s, fields-typed fs rest others each)

  here : (p : Payload) (l : Label) (i : ℕ) (v : Value) (j : Data) (cs : Cases) → PayloadJson p l i v j → IsOfCase v (closed_payload p cs) i 0
  here no_payload l i v j cs (is_v, is_j) = is_v
  here (payload t) l i v j cs (w, d, s, is_v, is_j) = (w, json-typed t w d s, is_v)

  case-typed : (cs : LabelledCases) (i : ℕ) (v : Value) (j : Data) → CasesJson cs i v j → (k : ℕ) × IsOfCase v (closed_cases cs) (i + k) k
  case-typed no_labelled_case i v j a = absurd a
  case-typed (labelled_case l p cs) i v j (inl a) =
      let e : i ≡ i + 0 = omega arith in
      (0, subst (λ n. IsOfCase v (closed_payload p (closed_cases cs)) n 0) e (here p l i v j (closed_cases cs) a))
  case-typed (labelled_case l p cs) i v j (inr b) =
      let (k, c) = case-typed cs (suc i) v j b in
      let e : suc i + k ≡ i + suc k = omega arith in
      (suc k, skip p v (closed_cases cs) (i + suc k) k (subst (λ n. IsOfCase v (closed_cases cs) n k) e c))

-- ---- types of a table

pub value-typed : (r : Resolve) (t : ValType) (v : Value) (j : Data) → Json (labelled_type r t) v j → HasType v (closed_type r t)
value-typed r t v j s = subst (HasType v) (erases r t) (json-typed (labelled_type r t) v j s)

members-closed : (r : Resolve) (ts : List ValType) → closed_members (labelled_members (labelled_types r) ts) ≡ fields_of_types r ts
members-closed r [] = refl
members-closed r (t ∷ ts) =
    ap (λ u. field u (closed_members (labelled_members (labelled_types r) ts))) (erases r t) ∙ ap (field (closed_type r t)) (members-closed r ts)

pub values-typed : (r : Resolve) (ts : List ValType) (vs : List Value) (js : List Data)
    → MembersJson (labelled_members (labelled_types r) ts) vs js → HaveTypes vs (fields_of_types r ts)
values-typed r ts vs js each = subst (HaveTypes vs) (members-closed r ts) (members-typed (labelled_members (labelled_types r) ts) vs js each)
