-- What is written of a value of a type stands for it.
use Rattle.std.proofs.Common.{◌≡◌, ◌⊎◌, inl, inr, ℕ, zero, suc, ◌+◌, ◌-◌, ◌*◌, ◌/◌, ◌%◌, ◌<◌, ◌≤◌, ◌^◌, List, [], ◌∷◌, ◌++◌, map, length, take, drop, get_or, None, Result, Ok, Err, refl, sym, ap, ◌∙◌, subst, drop-cons, arith}
use Rattle.std.specs.Prelude.{IfOk}
use Rattle.std.specs.List.{AllByRecursion}
use Rattle.std.proofs.Math.ListN.{get_or-map}
use Rattle.std.proofs.lemmas.Grind.{take_at_read}
use Rattle.std.proofs.lemmas.List.{drop_all, length-map, map-append}
use Rattle.std.proofs.Math.Nat.{pow-succ'}
use Rattle.canonical_abi.specs.Labelled.{Label, LabelledType, Payload, no_payload, payload, labelled_result, closed, closed_members, closed_fields, closed_cases, closed_payload, plain_cases}
use Rattle.canonical_abi.specs.Types.{Cases, no_case}
use Rattle.canonical_abi.specs.Values.{Value, HasType, HaveTypes, IsOfCase, plain_value}
use Rattle.serde_json.specs.Data.{Data, Members, put, string}
use Rattle.serde_json.specs.Find.{get_member}
use Rattle.serde_json.proofs.Views.{get_member-put_other}
use Rattle.tables.specs.declared.tables.ValType.{ValType}
use Rattle.tables.specs.declared.tables.Field.{Field}
use Rattle.tables.specs.declared.tables.Case.{Case}
use Rattle.tables.specs.Labelled.{labelled_val, labelled_members, labelled_fields, labelled_cases, labelled_payload}
use Rattle.value_json.specs.Apart.{HaveLabelsApart}
use Rattle.value_json.specs.Json.{Json, EachJson, MembersJson, FieldsJson, FlagsJson}
use Rattle.value_json.specs.Writing.{HasCase, HasPayload}
use Rattle.values.specs.Val.{value_of}
use Rattle.values.specs.declared.val.Val.{Val}

-- ---- cases

first-case : (p : Payload) (cs : Cases) (v : Value) (i : ℕ) → IsOfCase v (closed_payload p cs) i 0 → HasPayload p i v
first-case no_payload cs v i h = h
first-case (payload t) cs v i h = h

later-case : (p : Payload) (cs : Cases) (v : Value) (i n : ℕ) → IsOfCase v (closed_payload p cs) i (suc n) → IsOfCase v cs i n
later-case no_payload cs v i n h = h
later-case (payload t) cs v i n h = h

-- ---- lists

pub all-at : (P : Value → Type 0) (vs : List Value) (i : ℕ) (v : Value) → i < length vs → AllByRecursion P vs → P (get_or vs i v)
all-at P [] i v h all = absurd (omega arith)
all-at P (x ∷ vs) zero v h all = all.0
all-at P (x ∷ vs) (suc i) v h all = all-at P vs i v (omega arith) all.1

pub each-more : (P : Value → Data → Type 0) (vs : List Value) (js : List Data) (v : Value) (j : Data) → EachJson P vs js → P v j → EachJson P (vs ++ v ∷ []) (js ++ j ∷ [])
each-more P vs [] v j none p = subst (λ xs. EachJson P (xs ++ v ∷ []) (j ∷ [])) (sym none) (v, [], refl, p, refl)
each-more P vs (d ∷ js) v j (w, rest, is, q, each) p =
    subst (λ xs. EachJson P (xs ++ v ∷ []) (d ∷ js ++ j ∷ [])) (sym is) (w, rest ++ v ∷ [], refl, q, each-more P rest js v j each p)

pub item-typed : (P : Value → Type 0) (vs : List Val) (i : ℕ) (v : Val) → i < length vs → v ≡ get_or vs i v → AllByRecursion P (map value_of vs) → P (value_of v)
item-typed P vs i v h is all =
    subst P (get_or-map value_of vs i v ∙ ap value_of (sym is)) (all-at P (map value_of vs) i (value_of v) (omega (arith, h, length-map vs value_of)) all)

taken-more : {A : Type 0} (xs : List A) (i : ℕ) (x : A) → i < length xs → x ≡ get_or xs i x → take (i + 1) xs ≡ take i xs ++ x ∷ []
taken-more xs i x h is = (take_at_read xs i x h).1 ∙ ap (λ y. take i xs ++ y ∷ []) (sym is)

values-more : (vs : List Val) (i : ℕ) (v : Val) → i < length vs → v ≡ get_or vs i v → map value_of (take (i + 1) vs) ≡ map value_of (take i vs) ++ value_of v ∷ []
values-more vs i v h is = ap (map value_of) (taken-more vs i v h is) ∙ map-append value_of (take i vs) (v ∷ [])

pub items-next : (P : Value → Data → Type 0) (vs : List Val) (i : ℕ) (v : Val) (js : List Data) (j : Data) → i < length vs → v ≡ get_or vs i v
    → EachJson P (map value_of (take i vs)) js → P (value_of v) j → EachJson P (map value_of (take (i + 1) vs)) (js ++ j ∷ [])
items-next P vs i v js j h is each p =
    subst (λ xs. EachJson P xs (js ++ j ∷ [])) (sym (values-more vs i v h is)) (each-more P (map value_of (take i vs)) js (value_of v) j each p)

pub apart-from : (fs : List Field) (i : ℕ) (f : Field) → i < length fs → HaveLabelsApart fs → AllByRecursion (λ g. g.name ≡ (get_or fs i f).name → ⊥) (drop (suc i) fs)
apart-from [] i f h apart = absurd (omega arith)
apart-from (g ∷ fs) zero f h (first, apart) = first
apart-from (g ∷ fs) (suc i) f h (first, apart) = apart-from fs i f (omega arith) apart

-- ---- tuples

module _ (rows : List LabelledType) where
  pub member-count : (ts : List ValType) (vs : List Value) → HaveTypes vs (closed_members (labelled_members rows ts)) → length vs ≡ length ts
  member-count [] vs none = ap length none
  member-count (t ∷ ts) vs (v, rest, is, h, have) = ap length is ∙ ap suc (member-count ts rest have)

  pub member-typed : (ts : List ValType) (vs : List Value) (i : ℕ) (t : ValType) (v : Value) → i < length ts
      → HaveTypes vs (closed_members (labelled_members rows ts)) → HasType (get_or vs i v) (closed (labelled_val rows (get_or ts i t)))
  member-typed [] vs i t v h have = absurd (omega arith)
  member-typed (u ∷ ts) vs zero t v h (w, rest, is, typed, have) = subst (λ xs. HasType (get_or xs 0 v) (closed (labelled_val rows u))) (sym is) typed
  member-typed (u ∷ ts) vs (suc i) t v h (w, rest, is, typed, have) =
      subst (λ xs. HasType (get_or xs (suc i) v) (closed (labelled_val rows (get_or ts i t)))) (sym is) (member-typed ts rest i t v (omega arith) have)

  pub members-more : (ts : List ValType) (vs : List Value) (js : List Data) (t : ValType) (v : Value) (j : Data)
      → MembersJson (labelled_members rows ts) vs js → Json (labelled_val rows t) v j → MembersJson (labelled_members rows (ts ++ t ∷ [])) (vs ++ v ∷ []) (js ++ j ∷ [])
  members-more [] vs js t v j (no_vs, no_js) p =
      let P : List Value → Type 0 = λ xs. MembersJson (labelled_members rows (t ∷ [])) (xs ++ v ∷ []) (js ++ j ∷ []) in
      let Q : List Data → Type 0 = λ xs. MembersJson (labelled_members rows (t ∷ [])) (v ∷ []) (xs ++ j ∷ []) in
      subst P (sym no_vs) (subst Q (sym no_js) (v, [], j, [], refl, refl, p, (refl, refl)))
  members-more (u ∷ ts) vs js t v j (w, rest, d, others, is, is_js, stands, each) p =
      let P : List Value → Type 0 = λ xs. MembersJson (labelled_members rows (u ∷ ts ++ t ∷ [])) (xs ++ v ∷ []) (js ++ j ∷ []) in
      let Q : List Data → Type 0 = λ xs. MembersJson (labelled_members rows (u ∷ ts ++ t ∷ [])) (w ∷ rest ++ v ∷ []) (xs ++ j ∷ []) in
      subst P (sym is) (subst Q (sym is_js) (w, rest ++ v ∷ [], d, others ++ j ∷ [], refl, refl, stands, members-more ts rest others t v j each p))

  pub member-at : (ts : List ValType) (vs : List Val) (i : ℕ) (t : ValType) (v : Val) → i < length ts → t ≡ get_or ts i t → v ≡ get_or vs i v
      → HaveTypes (map value_of vs) (closed_members (labelled_members rows ts)) → HasType (value_of v) (closed (labelled_val rows t))
  member-at ts vs i t v h is_t is_v have =
      let typed = member-typed ts (map value_of vs) i t (value_of v) h have in
      let same : get_or (map value_of vs) i (value_of v) ≡ value_of v = get_or-map value_of vs i v ∙ ap value_of (sym is_v) in
      subst (λ x. HasType (value_of v) (closed (labelled_val rows x))) (sym is_t) (subst (λ x. HasType x (closed (labelled_val rows (get_or ts i t)))) same typed)

  pub members-next : (ts : List ValType) (vs : List Val) (i : ℕ) (t : ValType) (v : Val) (js : List Data) (j : Data) → i < length ts → i < length vs
      → t ≡ get_or ts i t → v ≡ get_or vs i v
      → MembersJson (labelled_members rows (take i ts)) (map value_of (take i vs)) js → Json (labelled_val rows t) (value_of v) j
      → MembersJson (labelled_members rows (take (i + 1) ts)) (map value_of (take (i + 1) vs)) (js ++ j ∷ [])
  members-next ts vs i t v js j h hv is_t is_v each p =
      let P : List ValType → List Value → Type 0 = λ xs ys. MembersJson (labelled_members rows xs) ys (js ++ j ∷ []) in
      subst (λ xs. P xs (map value_of (take (i + 1) vs))) (sym (taken-more ts i t h is_t))
      (subst (P (take i ts ++ t ∷ [])) (sym (values-more vs i v hv is_v)) (members-more (take i ts) (map value_of (take i vs)) js t (value_of v) j each p))

  -- ---- records

  pub field-count : (fs : List Field) (vs : List Value) → HaveTypes vs (closed_fields (labelled_fields rows fs)) → length vs ≡ length fs
  field-count [] vs none = ap length none
  field-count (f ∷ fs) vs (v, rest, is, h, have) = ap length is ∙ ap suc (field-count fs rest have)

  pub field-typed : (fs : List Field) (vs : List Value) (i : ℕ) (f : Field) (v : Value) → i < length fs
      → HaveTypes vs (closed_fields (labelled_fields rows fs)) → HasType (get_or vs i v) (closed (labelled_val rows (get_or fs i f).ty))
  field-typed [] vs i f v h have = absurd (omega arith)
  field-typed (g ∷ fs) vs zero f v h (w, rest, is, typed, have) = subst (λ xs. HasType (get_or xs 0 v) (closed (labelled_val rows g.ty))) (sym is) typed
  field-typed (g ∷ fs) vs (suc i) f v h (w, rest, is, typed, have) =
      subst (λ xs. HasType (get_or xs (suc i) v) (closed (labelled_val rows (get_or fs i f).ty))) (sym is) (field-typed fs rest i f v (omega arith) have)

  -- no member has a label that no field has
  pub absent : (fs : List Field) (vs : List Value) (ms : Members) (l : Label) → AllByRecursion (λ g. g.name ≡ l → ⊥) fs
      → FieldsJson (labelled_fields rows fs) vs ms → get_member l ms ≡ None
  absent [] vs ms l other (no_vs, no_ms) = ap (get_member l) no_ms
  absent (f ∷ fs) vs ms l (first, other) (v, rest, d, others, is, is_ms, gone, stands, each) =
      ap (get_member l) is_ms ∙ get_member-put_other l f.name d others (λ e. first (sym e)) ∙ absent fs rest others l other each

  pub field-at : (fs : List Field) (vs : List Val) (i : ℕ) (f : Field) (v : Val) → i < length fs → f ≡ get_or fs i f → v ≡ get_or vs i v
      → HaveTypes (map value_of vs) (closed_fields (labelled_fields rows fs)) → HasType (value_of v) (closed (labelled_val rows f.ty))
  field-at fs vs i f v h is_f is_v have =
      let typed = field-typed fs (map value_of vs) i f (value_of v) h have in
      let same : get_or (map value_of vs) i (value_of v) ≡ value_of v = get_or-map value_of vs i v ∙ ap value_of (sym is_v) in
      subst (λ x. HasType (value_of v) (closed (labelled_val rows x.ty))) (sym is_f) (subst (λ x. HasType x (closed (labelled_val rows (get_or fs i f).ty))) same typed)

  -- the fields from the last one on, and the one before them
  pub fields-next : (fs : List Field) (vs : List Val) (k : ℕ) (f : Field) (v : Val) (d : Data) (ms more : Members) → k < length fs → k < length vs
      → f ≡ get_or fs k f → v ≡ get_or vs k v → HaveLabelsApart fs → more ≡ put f.name d ms → Json (labelled_val rows f.ty) (value_of v) d
      → FieldsJson (labelled_fields rows (drop (suc k) fs)) (map value_of (drop (suc k) vs)) ms → FieldsJson (labelled_fields rows (drop k fs)) (map value_of (drop k vs)) more
  fields-next fs vs k f v d ms more h hv is_f is_v apart is_put stands each =
      let split_f : drop k fs ≡ f ∷ drop (suc k) fs = drop-cons fs k f h ∙ ap (λ x. x ∷ drop (suc k) fs) (sym is_f) in
      let split_v : drop k vs ≡ v ∷ drop (suc k) vs = drop-cons vs k v hv ∙ ap (λ x. x ∷ drop (suc k) vs) (sym is_v) in
      let others : AllByRecursion (λ g. g.name ≡ f.name → ⊥) (drop (suc k) fs) =
      subst (λ (x : Field). AllByRecursion (λ g. g.name ≡ x.name → ⊥) (drop (suc k) fs)) (sym is_f) (apart-from fs k f h apart) in
      let gone : get_member f.name ms ≡ None = absent (drop (suc k) fs) (map value_of (drop (suc k) vs)) ms f.name others each in
      let P : List Field → List Val → Type 0 = λ xs ys. FieldsJson (labelled_fields rows xs) (map value_of ys) more in
      subst (λ xs. P xs (drop k vs)) (sym split_f)
      (subst (P (f ∷ drop (suc k) fs)) (sym split_v) (value_of v, map value_of (drop (suc k) vs), d, ms, refl, is_put, gone, stands, each))

  -- ---- cases

  pub case-found : (cs : List Case) (v : Value) (i n : ℕ) (c : Case) → IsOfCase v (closed_cases (labelled_cases rows cs)) i n
      → (n < length cs) × HasPayload (labelled_payload rows (get_or cs n c).ty) i v
  case-found [] v i n c is = absurd is
  case-found (x ∷ cs) v i zero c is = (omega arith, first-case (labelled_payload rows x.ty) (closed_cases (labelled_cases rows cs)) v i is)
  case-found (x ∷ cs) v i (suc n) c is =
      let (less, p) = case-found cs v i n c (later-case (labelled_payload rows x.ty) (closed_cases (labelled_cases rows cs)) v i n is) in (omega (arith, less), p)

-- ---- cases

-- a value is of one case
pub one-case : (p : Payload) (v : Value) (i k : ℕ) → HasCase v i → HasPayload p k v → i ≡ k
one-case no_payload v i k (inl a) b = let e = sym a ∙ b in cc
one-case no_payload v i k (inr (w, a)) b = let e = sym a ∙ b in cc
one-case (payload t) v i k (inl a) (w, typed, b) = let e = sym a ∙ b in cc
one-case (payload t) v i k (inr (x, a)) (w, typed, b) = let e = sym a ∙ b in cc

pub has-case : (p : Payload) (v : Value) (i : ℕ) → HasPayload p i v → HasCase v i
has-case no_payload v i h = inl h
has-case (payload t) v i (w, typed, is) = inr (w, is)

pub result-cases : (ok error : Payload) (v : Value) → HasType v (closed (labelled_result ok error)) → HasPayload ok 0 v ⊎ HasPayload error 1 v
result-cases ok error v (zero, is) = inl (first-case ok (closed_payload error no_case) v 0 is)
result-cases ok error v (suc zero, is) = inr (first-case error no_case v 1 (later-case ok (closed_payload error no_case) v 1 0 is))
result-cases ok error v (suc (suc n), is) =
    absurd (later-case error no_case v (suc (suc n)) n (later-case ok (closed_payload error no_case) v (suc (suc n)) (suc n) is))

pub result-case : (ok error : Payload) (v : Value) → HasType v (closed (labelled_result ok error)) → (n : ℕ) × HasCase v n
result-case ok error v typed = by (result-cases ok error v typed)
  where
    by : HasPayload ok 0 v ⊎ HasPayload error 1 v → (n : ℕ) × HasCase v n
    by (inl p) = (0, has-case ok v 0 p)
    by (inr p) = (1, has-case error v 1 p)

pub result-second : (ok error : Payload) (v : Value) (n : ℕ) → HasType v (closed (labelled_result ok error)) → HasCase v n → (n ≡ 0 → ⊥) → HasPayload error 1 v
result-second ok error v n typed is other = by (result-cases ok error v typed)
  where
    by : HasPayload ok 0 v ⊎ HasPayload error 1 v → HasPayload error 1 v
    by (inl p) = absurd (other (one-case ok v n 0 is p))
    by (inr p) = p

pub same-case : (v : Value) (i k : ℕ) → HasCase v i → HasCase v k → i ≡ k
same-case v i k (inl a) (inl b) = let e = sym a ∙ b in cc
same-case v i k (inl a) (inr (w, b)) = let e = sym a ∙ b in cc
same-case v i k (inr (w, a)) (inl b) = let e = sym a ∙ b in cc
same-case v i k (inr (w, a)) (inr (x, b)) = let e = sym a ∙ b in cc

pub case-known : (rows : List LabelledType) (cs : List Case) (v : Value) (i n : ℕ) → IsOfCase v (closed_cases (labelled_cases rows cs)) i n → (n < length cs) × HasCase v i
case-known rows [] v i n is = absurd is
case-known rows (x ∷ cs) v i n is = let (less, p) = case-found rows (x ∷ cs) v i n x is in (less, has-case (labelled_payload rows (get_or (x ∷ cs) n x).ty) v i p)

pub label-found : (ls : List Label) (v : Value) (i n : ℕ) → IsOfCase v (plain_cases ls) i n → (n < length ls) × (v ≡ plain_value i)
label-found [] v i n is = absurd is
label-found (l ∷ ls) v i zero is = (omega arith, is)
label-found (l ∷ ls) v i (suc n) is = let (less, same) = label-found ls v i n is in (omega (arith, less), same)

-- ---- flags

pub bits-below : (rest n i : ℕ) → i < n → rest < 2 ^ (n - i) → rest / 2 < 2 ^ (n - (i + 1))
bits-below rest n i h below =
    let one : n - i ≡ suc (n - (i + 1)) = omega arith in
    let twice : 2 ^ (n - i) ≡ 2 * 2 ^ (n - (i + 1)) = ap (λ k. 2 ^ k) one ∙ pow-succ' 2 (n - (i + 1)) in
    omega (arith, below, twice)

split-at : (ls : List Label) (i : ℕ) (l : Label) → i < length ls → l ≡ get_or ls i l → drop i ls ≡ l ∷ drop (i + 1) ls
split-at ls i l h is =
    let one : suc i ≡ i + 1 = omega arith in
    drop-cons ls i l h ∙ ap (λ n. get_or ls i l ∷ drop n ls) one ∙ ap (λ x. x ∷ drop (i + 1) ls) (sym is)

pub flag-set : (ls : List Label) (i : ℕ) (l : Label) (rest : ℕ) (js : List Data) → i < length ls → l ≡ get_or ls i l → rest % 2 ≡ 1
    → FlagsJson (drop (i + 1) ls) (rest / 2) js → FlagsJson (drop i ls) rest (string l ∷ js)
flag-set ls i l rest js h is odd stands =
    let half : rest ≡ 2 * (rest / 2) + 1 = omega (arith, odd) in
    subst (λ xs. FlagsJson xs rest (string l ∷ js)) (sym (split-at ls i l h is)) (rest / 2, inr (js, half, refl, stands))

pub flag-unset : (ls : List Label) (i : ℕ) (l : Label) (rest : ℕ) (js : List Data) → i < length ls → l ≡ get_or ls i l → (rest % 2 ≡ 1 → ⊥)
    → FlagsJson (drop (i + 1) ls) (rest / 2) js → FlagsJson (drop i ls) rest js
flag-unset ls i l rest js h is even stands =
    let half : rest ≡ 2 * (rest / 2) = omega (arith, even) in
    subst (λ xs. FlagsJson xs rest js) (sym (split-at ls i l h is)) (rest / 2, inl (half, stands))

pub no-flag-left : (ls : List Label) (i rest : ℕ) → length ls ≤ i → rest < 2 ^ (length ls - i) → FlagsJson (drop i ls) rest []
no-flag-left ls i rest h below =
    let none : length ls - i ≡ 0 = omega (arith, h) in
    let one : 2 ^ (length ls - i) ≡ 1 = ap (λ k. 2 ^ k) none in
    let zero_left : rest ≡ 0 = omega (arith, below, one) in
    subst (λ xs. FlagsJson xs rest []) (sym (drop_all i ls h)) (zero_left, refl)

-- ---- results

pub ok-map : {A E : Type 0} (P Q : A → Type 0) (r : Result A E) → ((x : A) → P x → Q x) → IfOk r P → IfOk r Q
ok-map P Q (Ok x) h p = h x p
ok-map P Q (Err e) h p = tt
