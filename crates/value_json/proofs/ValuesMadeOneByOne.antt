-- Values made one by one of the elements of a list.
use Rattle.std.proofs.Common.{◌≡◌, ℕ, zero, suc, ◌+◌, ◌<◌, ◌≤◌, List, [], ◌∷◌, ◌++◌, map, length, drop, get_or, slice_get, Some, refl, sym, ap, ◌∙◌, subst, append_assoc, append-nil, drop-cons, arith}
use Rattle.std.proofs.lemmas.List.{drop_all}
use Rattle.canonical_abi.specs.Values.{Value}
use Rattle.serde_json.specs.Data.{Data}
use Rattle.serde_json.specs.View.{view}
use Rattle.serde_json.specs.declared.value.Value.{Value as JsonValue}
use Rattle.tables.specs.declared.tables.ValType.{ValType}
use Rattle.canonical_abi.specs.Labelled.{LabelledType}
use Rattle.tables.specs.Labelled.{labelled_val, labelled_members}
use Rattle.value_json.specs.Json.{Json, EachJson, MembersJson}

-- els many values els elements, each made of its element, by its place
abbrev pub Run : {A : Type 0} → (ℕ → A → Value → Type 0) → List A → List Value → Type 0
Run P [] vs = vs ≡ []
Run P (a ∷ els) vs = (v : Value) × (rest : List Value) × (vs ≡ v ∷ rest) × P 0 a v × Run (λ i. P (suc i)) els rest

-- what is made so far, and whatever the rest makes, are what the whole makes
abbrev pub Continues : {A : Type 0} → (ℕ → A → Value → Type 0) → List A → ℕ → List Value → Type 0
Continues P els i vs = (rest : List Value) → Run (λ k. P (i + k)) (drop i els) rest → Run P els (vs ++ rest)

run-same : {A : Type 0} (P Q : ℕ → A → Value → Type 0) (els : List A) (vs : List Value) → ((i : ℕ) (a : A) (v : Value) → P i a v → Q i a v) → Run P els vs → Run Q els vs
run-same P Q [] vs h r = r
run-same P Q (a ∷ els) vs h (v, rest, is, p, r) = (v, rest, is, h 0 a v p, run-same (λ i. P (suc i)) (λ i. Q (suc i)) els rest (λ i. h (suc i)) r)

pub starts : {A : Type 0} (P : ℕ → A → Value → Type 0) (els : List A) → Continues P els 0 []
starts P els = λ rest r. run-same (λ k. P (0 + k)) P els rest (λ i a v p. let e : 0 + i ≡ i = omega arith in subst (λ n. P n a v) e p) r

pub more : {A : Type 0} (P : ℕ → A → Value → Type 0) (els : List A) (i : ℕ) (vs : List Value) (a : A) (v : Value)
    → i < length els → a ≡ get_or els i a → P i a v → Continues P els i vs → Continues P els (i + 1) (vs ++ v ∷ [])
more P els i vs a v h is p before = λ rest r.
    let one : suc i ≡ i + 1 = omega arith in
    let split : drop i els ≡ a ∷ drop (i + 1) els =
    drop-cons els i a h ∙ ap (λ n. get_or els i a ∷ drop n els) one ∙ ap (λ x. x ∷ drop (i + 1) els) (sym is) in
    let none : i ≡ i + 0 = omega arith in
    let here : P (i + 0) a v = subst (λ n. P n a v) none p in
    let later : Run (λ k. P (i + suc k)) (drop (i + 1) els) rest =
    run-same (λ k. P (i + 1 + k)) (λ k. P (i + suc k)) (drop (i + 1) els) rest (λ k b w q. let e : i + 1 + k ≡ i + suc k = omega arith in subst (λ n. P n b w) e q) r in
    let whole : Run (λ k. P (i + k)) (drop i els) (v ∷ rest) = subst (λ xs. Run (λ k. P (i + k)) xs (v ∷ rest)) (sym split) (v, rest, refl, here, later) in
    subst (λ all. Run P els all) (sym (append_assoc vs (v ∷ []) rest)) (before (v ∷ rest) whole)

pub ends : {A : Type 0} (P : ℕ → A → Value → Type 0) (els : List A) (i : ℕ) (vs : List Value) → length els ≤ i → Continues P els i vs → Run P els vs
ends P els i vs h before =
    let none : Run (λ k. P (i + k)) (drop i els) [] = subst (λ xs. Run (λ k. P (i + k)) xs []) (sym (drop_all i els h)) refl in
    subst (λ all. Run P els all) (append-nil vs) (before [] none)

run-at : {A : Type 0} (P : ℕ → A → Value → Type 0) (els : List A) (vs : List Value) (i : ℕ) (a : A) → i < length els → Run P els vs → (v : Value) × P i (get_or els i a) v
run-at P [] vs i a h r = absurd (omega arith)
run-at P (x ∷ els) vs zero a h (v, rest, is, p, r) = (v, p)
run-at P (x ∷ els) vs (suc i) a h (v, rest, is, p, r) = run-at (λ k. P (suc k)) els rest i a (omega arith) r

pub refuted : {A : Type 0} (P : ℕ → A → Value → Type 0) (els : List A) (vs : List Value) (i : ℕ) (a : A) → i < length els → a ≡ get_or els i a
    → ((v : Value) → P i a v → ⊥) → Run P els vs → ⊥
refuted P els vs i a h is none r = let (v, p) = run-at P els vs i a h r in none v (subst (λ x. P i x v) (sym is) p)

pub get-same : {A : Type 0} (els : List A) (i : ℕ) (d e : A) → i < length els → get_or els i d ≡ get_or els i e
get-same [] i d e h = absurd (omega arith)
get-same (x ∷ els) zero d e h = refl
get-same (x ∷ els) (suc i) d e h = get-same els i d e (omega arith)

pub more-at : {A : Type 0} (P : ℕ → A → Value → Type 0) (els : List A) (i : ℕ) (vs : List Value) (d : A) (v : Value)
    → i < length els → P i (get_or els i d) v → Continues P els i vs → Continues P els (i + 1) (vs ++ v ∷ [])
more-at P els i vs d v h p before = more P els i vs (get_or els i d) v h (get-same els i d (get_or els i d) h) p before

pub refuted-at : {A : Type 0} (P : ℕ → A → Value → Type 0) (els : List A) (vs : List Value) (i : ℕ) (d : A) → i < length els
    → ((v : Value) → P i (get_or els i d) v → ⊥) → Run P els vs → ⊥
refuted-at P els vs i d h none r = refuted P els vs i (get_or els i d) h (get-same els i d (get_or els i d) h) none r

-- ---- lists

abbrev pub ItemStands : (Value → Data → Type 0) → ℕ → JsonValue → Value → Type 0
ItemStands P i x v = P v (view x)

pub each-of : (P : Value → Data → Type 0) (xs : List JsonValue) (vs : List Value) → Run (ItemStands P) xs vs → EachJson P vs (map view xs)
each-of P [] vs r = r
each-of P (x ∷ xs) vs (v, rest, is, p, r) = (v, rest, is, p, each-of P xs rest r)

pub of-each : (P : Value → Data → Type 0) (xs : List JsonValue) (vs : List Value) → EachJson P vs (map view xs) → Run (ItemStands P) xs vs
of-each P [] vs r = r
of-each P (x ∷ xs) vs (v, rest, is, p, r) = (v, rest, is, p, of-each P xs rest r)

-- ---- tuples

abbrev pub MemberStands : List LabelledType → List Data → ℕ → ValType → Value → Type 0
MemberStands rows js i t v = (d : Data) × (slice_get js i ≡ Some d) × Json (labelled_val rows t) v d

pub members-of : (rows : List LabelledType) (ts : List ValType) (js : List Data) (vs : List Value) → length js ≡ length ts
    → Run (MemberStands rows js) ts vs → MembersJson (labelled_members rows ts) vs js
members-of rows [] [] vs h r = (r, refl)
members-of rows [] (j ∷ js) vs h r = absurd (omega (arith, h))
members-of rows (t ∷ ts) [] vs h r = absurd (omega (arith, h))
members-of rows (t ∷ ts) (j ∷ js) vs h (v, rest, is, (d, found, stands), r) =
    (v, rest, j, js, is, refl, subst (Json (labelled_val rows t) v) (cc) stands, members-of rows ts js rest (omega (arith, h)) r)

pub of-members : (rows : List LabelledType) (ts : List ValType) (js : List Data) (vs : List Value)
    → MembersJson (labelled_members rows ts) vs js → (length js ≡ length ts) × Run (MemberStands rows js) ts vs
of-members rows [] js vs (no_vs, no_js) = (ap length no_js, no_vs)
of-members rows (t ∷ ts) js vs (v, rest, d, others, is, split, stands, each) =
    let (many, r) = of-members rows ts others rest each in
    subst (λ xs. (length xs ≡ suc (length ts)) × Run (MemberStands rows xs) (t ∷ ts) vs) (sym split)
    (ap suc many, (v, rest, is, (d, refl, stands), r))
