-- The closed types of a table are standard, row by row.
use Rattle.std.proofs.Common.{◌≡◌, ℕ, zero, suc, ◌+◌, ◌<◌, ◌≤◌, Bool, true, false, IsTrue, nat_lt, nat_le, List, [], ◌∷◌, take, map, length, get_or, slice_get, Option, Some, None, refl, ap, sym, subst, ◌∙◌, arith}
use Rattle.std.specs.List.{list_all}
use Rattle.std.specs.Option.{option_map}
use Rattle.std.proofs.lemmas.List.{length-map}
use Rattle.std.proofs.lemmas.List.Folds.{list_all_at}
use Rattle.std.proofs.lemmas.Bool.{ltb-true, lt-ltb}
use Rattle.std.proofs.lemmas.Bool.Decides.{nat_tests}
use Rattle.canonical_abi.specs.Types.{ClosedType, string_type, variant_type, fields_of, cases_of, field_count, case_count, result_fields, IsStandard, AreStandardFields, AreStandardCases}
use Rattle.canonical_abi.specs.Headline.{IsStandardFunction}
use Rattle.tables.specs.Tables.{option_all, kind_all, definition_all, is_below, definition_below, are_earlier, is_type, name_types, is_type_before, is_within, is_standard_kind, is_standard, are_standard, type_of, is_there}
use Rattle.tables.specs.Closed.{closed_val, closed_kind, closed_definition, closed_rows, closed_types, closed_type, closed_params, IsFunction, function_type}
use Rattle.tables.specs.Standard.{IsTypeOf, HasStandardTypes}
use Rattle.tables.specs.declared.tables.ValType.{ValType}
use Rattle.tables.specs.declared.tables.ValType.TheVariants as val
use Rattle.tables.specs.declared.tables.TypeDefKind.{TypeDefKind}
use Rattle.tables.specs.declared.tables.TypeDefKind.TheVariants as kind
use Rattle.tables.specs.declared.tables.TypeDef.{TypeDef}
use Rattle.tables.specs.declared.tables.Case.{Case}
use Rattle.tables.specs.declared.tables.Field.{Field}
use Rattle.tables.specs.declared.tables.Parameter.{Parameter}
use Rattle.tables.specs.declared.tables.FunctionId.{FunctionId}
use Rattle.tables.specs.declared.tables.Definition.{Definition}
use Rattle.tables.specs.declared.tables.Definition.TheVariants as row
use Rattle.tables.specs.declared.tables.Resolve.{Resolve}
use Rattle.tables.proofs.ClosedTypesRowByRow.{split, both, earlier-at, get-at, closed-at, closed_val-stays, stands, function-type}
use Rattle.tables.proofs.NamesEarlierTypes.{definition-both}

-- ---- counts

pub fields-count : (ts : List ClosedType) → field_count (fields_of ts) ≡ length ts
fields-count [] = refl
fields-count (t ∷ ts) = ap suc (fields-count ts)

cases-count : (ts : List (Option ClosedType)) → case_count (cases_of ts) ≡ length ts
cases-count [] = refl
cases-count (None ∷ ts) = ap suc (cases-count ts)
cases-count (Some t ∷ ts) = ap suc (cases-count ts)

within : (n limit : ℕ) → is_within n limit ≡ true → (0 < n) × (n ≤ limit)
within n limit h =
    let hs = split (nat_lt 0 n) (nat_le n limit) h in
    (ltb-true 0 n hs.0, grind (arith, nat_tests))

-- ---- a kind, over rows whose types are standard

module _ (rows : List ClosedType) (has : ValType → Bool) (known : (v : ValType) → has v ≡ true → IsStandard (closed_val rows v)) where
  types-standard : (vs : List ValType) → list_all has vs ≡ true → AreStandardFields (fields_of (map (closed_val rows) vs))
  types-standard [] h = tt
  types-standard (v ∷ vs) h = let hs = split (has v) (list_all has vs) h in (known v hs.0, types-standard vs hs.1)

  fields-standard : (fs : List Field) → list_all (λ f. has f.ty) fs ≡ true → AreStandardFields (fields_of (map (λ (f : Field). closed_val rows f.ty) fs))
  fields-standard [] h = tt
  fields-standard (f ∷ fs) h = let hs = split (has f.ty) (list_all (λ x. has x.ty) fs) h in (known f.ty hs.0, fields-standard fs hs.1)

  params-standard : (ps : List Parameter) → list_all (λ p. has p.ty) ps ≡ true → AreStandardFields (fields_of (closed_params rows ps))
  params-standard [] h = tt
  params-standard (p ∷ ps) h = let hs = split (has p.ty) (list_all (λ x. has x.ty) ps) h in (known p.ty hs.0, params-standard ps hs.1)

  result-standard : (v : Option ValType) → option_all has v ≡ true → AreStandardFields (result_fields (option_map (closed_val rows) v))
  result-standard None h = tt
  result-standard (Some v) h = (known v h, tt)

  one-case : (v : Option ValType) (ts : List (Option ClosedType)) → option_all has v ≡ true → AreStandardCases (cases_of ts) → AreStandardCases (cases_of (option_map (closed_val rows) v ∷ ts))
  one-case None ts h rest = rest
  one-case (Some v) ts h rest = (known v h, rest)

  cases-standard : (cs : List Case) → list_all (λ c. option_all has c.ty) cs ≡ true → AreStandardCases (cases_of (map (λ (c : Case). option_map (closed_val rows) c.ty) cs))
  cases-standard [] h = tt
  cases-standard (c ∷ cs) h =
      let hs = split (option_all has c.ty) (list_all (λ x. option_all has x.ty) cs) h in
      one-case c.ty (map (λ (x : Case). option_map (closed_val rows) x.ty) cs) hs.0 (cases-standard cs hs.1)

  names-standard : (ns : List (List ℕ)) → AreStandardCases (cases_of (map (λ (n : List ℕ). None) ns))
  names-standard [] = tt
  names-standard (n ∷ ns) = names-standard ns

  some-fields : (ts : List ClosedType) (n : ℕ) → length ts ≡ n → nat_lt 0 n ≡ true → 0 < field_count (fields_of ts)
  some-fields ts n e h = omega (arith, fields-count ts, e, ltb-true 0 n h)

  few-cases : (ts : List (Option ClosedType)) (n : ℕ) → length ts ≡ n → is_within n 100000 ≡ true → AreStandardCases (cases_of ts) → IsStandard (variant_type (cases_of ts))
  few-cases ts n e h each =
      let w = within n 100000 h in
      (omega (arith, cases-count ts, e, w.0), omega (arith, cases-count ts, e, w.1), each)

  kind-standard : (k : TypeDefKind) → kind_all has k ≡ true → is_standard_kind k ≡ true → IsStandard (closed_kind rows k)
  kind-standard (kind.Use t) h s = known (val.Id t) h
  kind-standard (kind.Alias v) h s = known v h
  kind-standard (kind.List v) h s = known v h
  kind-standard (kind.Option v) h s = (omega arith, omega arith, (known v h, tt))
  kind-standard (kind.Result v w) h s =
      let hs = split (option_all has v) (option_all has w) h in
      few-cases (option_map (closed_val rows) v ∷ option_map (closed_val rows) w ∷ []) 2 refl refl
      (one-case v (option_map (closed_val rows) w ∷ []) hs.0 (one-case w [] hs.1 tt))
  kind-standard (kind.Tuple vs) h s = (some-fields (map (closed_val rows) vs) (length vs) (length-map vs (closed_val rows)) s, types-standard vs h)
  kind-standard (kind.Record fs) h s =
      let typed : Field → ClosedType = λ f. closed_val rows f.ty in
      (some-fields (map typed fs) (length fs) (length-map fs typed) s, fields-standard fs h)
  kind-standard (kind.Variant cs) h s =
      let payload : Case → Option ClosedType = λ c. option_map (closed_val rows) c.ty in
      few-cases (map payload cs) (length cs) (length-map cs payload) s (cases-standard cs h)
  kind-standard (kind.Enum ns) h s =
      let plain : List ℕ → Option ClosedType = λ n. None in
      few-cases (map plain ns) (length ns) (length-map ns plain) s (names-standard ns)
  kind-standard (kind.Flags ns) h s = within (length ns) 32 s

-- ---- a table

at-true : {A : Type 0} (p : A → Bool) (xs : List A) (i : ℕ) (d : A) → i < length xs → list_all p xs ≡ true → p (get_or xs i d) ≡ true
at-true p xs i d l h = by (p (get_or xs i d)) refl
  where
    by : (b : Bool) → p (get_or xs i d) ≡ b → b ≡ true
    by true e = refl
    by false e = sym (list_all_at p xs i d l e) ∙ h

-- the type that stands at a place
record StandsAs (ds : List Definition) (k : ℕ) : Type 0 where
  pub type : TypeDef
  pub in_range : k < length ds
  pub is : (d : Definition) → get_or ds k d ≡ row.Type type

stands-as : (ds : List Definition) (k : ℕ) → IsTrue (is_there (type_of (slice_get ds k))) → StandsAs ds k
stands-as ds k h = by (slice_get ds k) refl h
  where
    by : (o : Option Definition) → slice_get ds k ≡ o → IsTrue (is_there (type_of o)) → StandsAs ds k
    by None e q = absurd (cc)
    by (Some (row.Function f)) e q = absurd (cc)
    by (Some (row.Type d)) e q = let at = get-at ds k (row.Type d) e in record { type = d; in_range = at.0; is = at.1 }

pub type-below : (ds : List Definition) (v : ValType) → is_type ds v ≡ true → is_below (length ds) v ≡ true
type-below ds (val.Primitive p) h = refl
type-below ds val.String h = refl
type-below ds (val.Id t) h = lt-ltb t.0 (length ds) (stands-as ds t.0 h).in_range

module _ (ds : List Definition) (earlier : IsTrue (are_earlier 0 ds)) (typed : IsTrue (name_types ds)) (standard : IsTrue (are_standard ds)) where
  known-before : (k : ℕ) → k ≤ length ds → ((j : ℕ) → j < k → IsTrue (is_there (type_of (slice_get ds j))) → IsStandard (get_or (closed_rows [] ds) j string_type))
      → (v : ValType) → is_type_before ds k v ≡ true → IsStandard (closed_val (closed_rows [] (take k ds)) v)
  known-before k l before (val.Primitive p) h = tt
  known-before k l before val.String h = tt
  known-before k l before (val.Id t) h =
      let hs = split (is_below k (val.Id t)) (is_type ds (val.Id t)) h in
      subst IsStandard (sym (closed_val-stays ds k (val.Id t) l hs.0)) (before t.0 (ltb-true t.0 k hs.0) hs.1)

  row-standard : (k : ℕ) → StandsAs ds k → ((v : ValType) → is_type_before ds k v ≡ true → IsStandard (closed_val (closed_rows [] (take k ds)) v))
      → IsStandard (get_or (closed_rows [] ds) k string_type)
  row-standard k s known =
      let d = row.Type s.type in
      let same : 0 + k ≡ k = omega arith in
      let below : definition_below (0 + k) d ≡ true = subst (λ (e : Definition). definition_below (0 + k) e ≡ true) (s.is d) (earlier-at 0 ds k d earlier s.in_range) in
      let here : definition_below k d ≡ true = rw same at below in
      let names : definition_all (is_type ds) d ≡ true = subst (λ (e : Definition). definition_all (is_type ds) e ≡ true) (s.is d) (at-true (definition_all (is_type ds)) ds k d s.in_range typed) in
      let all : definition_all (is_type_before ds k) d ≡ true = definition-both (is_below k) (is_type ds) d ∙ both _ _ here names in
      let fits : is_standard d ≡ true = subst (λ (e : Definition). is_standard e ≡ true) (s.is d) (at-true is_standard ds k d s.in_range standard) in
      let made = closed-at ds k d s.in_range ∙ ap (closed_definition (closed_rows [] (take k ds))) (s.is d) in
      subst IsStandard (sym made) (kind-standard (closed_rows [] (take k ds)) (is_type_before ds k) known s.type.kind all fits)

  rows-standard : (n k : ℕ) → k < n → IsTrue (is_there (type_of (slice_get ds k))) → IsStandard (get_or (closed_rows [] ds) k string_type)
  rows-standard zero k l h = absurd (omega arith)
  rows-standard (suc n) k l h =
      let s = stands-as ds k h in
      row-standard k s (known-before k (omega (arith, s.in_range)) (λ j q. rows-standard n j (omega (arith, q, l))))

-- a type of a package is standard
pub type-standard : (r : Resolve) (v : ValType) → IsTypeOf r v → IsStandard (closed_type r v)
type-standard r (val.Primitive p) h = tt
type-standard r val.String h = tt
type-standard r (val.Id t) h = rows-standard r.definitions r.earlier r.typed r.standard (suc t.0) t.0 (omega arith) h

-- .. and so are those of a list
pub all-standard : (r : Resolve) (vs : List ValType) → list_all (is_type r.definitions) vs ≡ true → AreStandardFields (fields_of (map (closed_type r) vs))
all-standard r vs h = types-standard (closed_types r) (is_type r.definitions) (λ v q. type-standard r v q) vs h

-- .. and those of a function
pub function-standard : (r : Resolve) (f : FunctionId) → IsFunction r f → IsStandardFunction (function_type r f)
function-standard r f h =
    let s = stands r f h in
    let d = row.Function s.function in
    let names : definition_all (is_type r.definitions) d ≡ true =
    subst (λ (e : Definition). definition_all (is_type r.definitions) e ≡ true) (s.is d) (at-true (definition_all (is_type r.definitions)) r.definitions f.0 d s.in_range r.typed) in
    let parts = split (list_all (λ p. is_type r.definitions p.ty) s.function.params) (option_all (is_type r.definitions) s.function.result) names in
    subst IsStandardFunction (sym (function-type r f s)) (record {
      params = params-standard (closed_types r) (is_type r.definitions) (λ v q. type-standard r v q) s.function.params parts.0;
      result = result-standard (closed_types r) (is_type r.definitions) (λ v q. type-standard r v q) s.function.result parts.1;
    })

pub standard-types : (r : Resolve) → HasStandardTypes r
standard-types r = record { types = type-standard r; functions = function-standard r }
