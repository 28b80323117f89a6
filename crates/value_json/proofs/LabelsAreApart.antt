-- Where the names of each scope of a package differ, so do the labels of its types.
use Rattle.std.proofs.Common.{◌≡◌, ℕ, zero, suc, ◌+◌, ◌-◌, ◌<◌, ◌≤◌, Bool, true, false, nat_lt, List, [], ◌∷◌, ◌++◌, map, length, get_or, slice_get, Option, None, Some, ◌⊎◌, inl, inr, refl, ap, sym, ◌∙◌, subst, arith, All, Contains}
use Rattle.std.proofs.lemmas.Bool.Decides.{nat_tests}
use Rattle.std.proofs.lemmas.Bool.{false≢true}
use Rattle.std.specs.List.{AllByRecursion}
use Rattle.canonical_abi.specs.Labelled.{Label, LabelledType, labelled_string}
use Rattle.tables.specs.Labelled.{labelled_val, labelled_payload, labelled_members, labelled_fields, labelled_cases, labelled_params, labelled_kind, labelled_definition, labelled_rows, labelled_type}
use Rattle.tables.specs.declared.tables.ValType.{ValType}
use Rattle.tables.specs.declared.tables.ValType.TheVariants as val
use Rattle.tables.specs.declared.tables.TypeName.{TypeName}
use Rattle.tables.specs.declared.tables.TypeDefKind.{TypeDefKind}
use Rattle.tables.specs.declared.tables.TypeDefKind.TheVariants as kind
use Rattle.tables.specs.declared.tables.Field.{Field}
use Rattle.tables.specs.declared.tables.Case.{Case}
use Rattle.tables.specs.declared.tables.Parameter.{Parameter}
use Rattle.tables.specs.declared.tables.Definition.{Definition}
use Rattle.tables.specs.declared.tables.Definition.TheVariants as row
use Rattle.tables.specs.declared.tables.Interface.{Interface}
use Rattle.tables.specs.declared.tables.Resolve.{Resolve}
use Rattle.package_form.specs.Scope.{AreDistinct}
use Rattle.package_form.specs.Ends.{end_of, rows_of, interfaces_end}
use Rattle.package_form.specs.Postfix.{is_unnamed, parts, parts_of, is_inner, inner_row, Leaves, begin, inner, whole, IsPostfix}
use Rattle.package_form.specs.Naming.{field_name, case_name, kind_members, row_members, rows_scopes, interfaces_scopes}
use Rattle.package_form.proofs.AllAndContains.{all-tail, all-left, all-right, all_map-at, contains-here, contains-right}
use Rattle.package_form.proofs.NamesStandForOneRow.{named, NoneFrom, none-named, worlds-parted, distinct-back, distinct-apart, in-rows}
use Rattle.package_form.proofs.ScopesAreDistinct.{interfaces-distinct}
use Rattle.std.proofs.Math.Logic.{∥∥₁_elim}
use Rattle.package_form.specs.Form.{IsInPackageForm}
use Rattle.package_form.specs.Naming.{package_scopes}
use Rattle.value_json.specs.Apart.{HaveLabelsApart, KindApart, RowApart, HasApartLabels}
use Rattle.value_json.specs.Json.{IsNotAmong, AreDistinctLabels, IsOfNoCase, HasDistinctLabels, MembersHaveDistinctLabels, PayloadHasDistinctLabels, FieldsHaveDistinctLabels, CasesHaveDistinctLabels}
use Rattle.value_json.specs.Laws.{LabelsAreApart}
use Rattle.value_json.proofs.DistinctLabelsAreAFact.{prop-rows, prop-type}

-- ---- the members of each type are a scope

none-distinct : AreDistinct []
none-distinct = record { each = λ k l m. absurd (omega (arith, l)) }

abbrev pub IsScope : Definition → Type 0
IsScope (row.Type d) = AreDistinct (kind_members d.kind)
IsScope (row.Function f) = Unit {0}

scope-of : (d : Definition) → AreDistinct (row_members d) → IsScope d
scope-of (row.Type d) h = h
scope-of (row.Function f) h = tt

-- a list, an option, a result or a tuple has no labels
inner-scope : (k : TypeDefKind) → is_inner k ≡ true → AreDistinct (kind_members k)
inner-scope (kind.List v) h = none-distinct
inner-scope (kind.Option v) h = none-distinct
inner-scope (kind.Result v w) h = none-distinct
inner-scope (kind.Tuple vs) h = none-distinct
inner-scope (kind.Use t) h = none-distinct
inner-scope (kind.Alias v) h = none-distinct
inner-scope (kind.Record fs) h = absurd (cc)
inner-scope (kind.Variant cs) h = absurd (cc)
inner-scope (kind.Enum names) h = absurd (cc)
inner-scope (kind.Flags names) h = absurd (cc)

-- a row is one of those before, or the last
last-or : (rows : List Definition) (d x : Definition) (a : ℕ) → slice_get (rows ++ d ∷ []) a ≡ Some x → (slice_get rows a ≡ Some x) ⊎ (d ≡ x)
last-or [] d x zero e = inr (cc)
last-or [] d x (suc a) e = absurd (cc)
last-or (r ∷ rows) d x zero e = inl e
last-or (r ∷ rows) d x (suc a) e = last-or rows d x a e

abbrev kind_of : Definition → TypeDefKind
kind_of (row.Type d) = d.kind
kind_of (row.Function f) = kind.Alias val.String

-- a type without a name is one of these
unnamed-inner : (rows : List Definition) (unused : List ℕ) → Leaves rows unused → (a : ℕ) (k : TypeDefKind) → slice_get rows a ≡ Some (inner_row k) → is_inner k ≡ true
unnamed-inner _ _ begin a k e = absurd (cc)
unnamed-inner _ _ (inner rows unused j i before) a k e = elim (last-or rows (inner_row j) (inner_row k) a e) [
  | inl h ↦ unnamed-inner rows (unused ++ parts rows j) before a k h
  | inr h ↦ subst (λ (x : TypeDefKind). is_inner x ≡ true) (ap kind_of h) i
]
unnamed-inner _ _ (whole rows c u b before) a k e = elim (last-or rows c (inner_row k) a e) [
  | inl h ↦ unnamed-inner rows (parts_of rows c) before a k h
  | inr h ↦ absurd (false≢true (sym u ∙ ap is_unnamed h))
]

found : (ds : List Definition) (k : ℕ) (d : Definition) → slice_get ds k ≡ Some d → (k < length ds) × (d ≡ get_or ds k d)
found [] k d e = absurd (cc)
found (x ∷ ds) zero d e = let same : x ≡ d = cc in (omega arith, sym same)
found (x ∷ ds) (suc k) d e = let (less, is) = found ds k d e in (omega (arith, less), is)

-- the members of a type without a name differ
pub unnamed-scope-of : (rows : List Definition) → IsPostfix rows → (a : ℕ) (k : TypeDefKind) → slice_get rows a ≡ Some (inner_row k) → AreDistinct (kind_members k)
unnamed-scope-of rows postfix a k e = inner-scope k (unnamed-inner rows [] postfix a k e)

module _ (rows : List Definition) (postfix : IsPostfix rows) where
  -- a row where no type has a name
  unnamed-scope : (a n : ℕ) (d : Definition) → NoneFrom rows n → n ≤ a → slice_get rows a ≡ Some d → IsScope d
  unfolding named
  unnamed-scope a n (row.Function f) none l h = tt
  unnamed-scope a n (row.Type d) none l h = by d.name h
    where
      by : (o : Option TypeName) → slice_get rows a ≡ Some (row.Type (record { name = o; kind = d.kind })) → AreDistinct (kind_members d.kind)
      by None e = unnamed-scope-of rows postfix a d.kind e
      by (Some y) e = absurd (none a y l (d.kind, e))

  scope-at : (start : ℕ) (is : List Interface) → NoneFrom rows (interfaces_end start is) → All AreDistinct (interfaces_scopes rows start is)
      → (a : ℕ) (d : Definition) → start ≤ a → slice_get rows a ≡ Some d → IsScope d
  scope-at start [] p all a d l h = unnamed-scope a start d p l h
  scope-at start (i ∷ is) p all a d l h =
      by (nat_lt a (end_of start i)) refl
      (λ m. scope-at (end_of start i) is p (all-right AreDistinct (rows_scopes (rows_of rows start i)) (interfaces_scopes rows (end_of start i) is) all) a d m h)
    where
      by : (b : Bool) → nat_lt a (end_of start i) ≡ b → (end_of start i ≤ a → IsScope d) → IsScope d
      by true e later =
          let m : a < end_of start i = grind (arith, nat_tests) in
          let here = found (rows_of rows start i) (a - start) d (in-rows rows start i a l m ∙ h) in
          let scopes = all-tail AreDistinct _ _ (all-left AreDistinct (rows_scopes (rows_of rows start i)) (interfaces_scopes rows (end_of start i) is) all) in
          scope-of d (all_map-at AreDistinct row_members (rows_of rows start i) (a - start) d scopes here.0 here.1)
      by false e later =
          let m : end_of start i ≤ a = grind (arith, nat_tests) in
          later m

scopes-from : (ds : List Definition) (k : ℕ) → ((a : ℕ) (d : Definition) → slice_get ds a ≡ Some d → IsScope d) → AllByRecursion IsScope ds
scopes-from [] k each = tt
scopes-from (d ∷ ds) k each = (each 0 d refl, scopes-from ds (k + 1) (λ a e h. each (suc a) e h))

-- ---- labels of one scope

not-in : (l : Label) (ls : List Label) → (Contains ls l → ⊥) → IsNotAmong l ls
not-in l [] none = tt
not-in l (m ∷ ms) none =
    (λ e. none (subst (λ (x : Label). Contains (m ∷ ms) x) (sym e) (contains-here m ms)), not-in l ms (λ c. none (contains-right (m ∷ []) ms l c)))

distinct-labels : (ls : List Label) → AreDistinct ls → AreDistinctLabels ls
distinct-labels [] d = tt
distinct-labels (l ∷ ls) d = (not-in l ls (distinct-apart (l ∷ []) ls l d (contains-here l [])), distinct-labels ls (distinct-back (l ∷ []) ls d))

apart-fields : (fs : List Field) → AreDistinctLabels (map field_name fs) → HaveLabelsApart fs
apart-fields [] d = tt
apart-fields (f ∷ fs) (first, d) = (by fs first, apart-fields fs d)
  where
    by : (gs : List Field) → IsNotAmong f.name (map field_name gs) → AllByRecursion (λ g. g.name ≡ f.name → ⊥) gs
    by [] h = tt
    by (g ∷ gs) (other, h) = (λ e. other (sym e), by gs h)

no-case : (rows : List LabelledType) (cs : List Case) (l : Label) → IsNotAmong l (map case_name cs) → IsOfNoCase l (labelled_cases rows cs)
no-case rows [] l h = tt
no-case rows (c ∷ cs) l (other, h) = (other, no-case rows cs l h)

apart-kind : (k : TypeDefKind) → IsScope (row.Type (record { name = None; kind = k })) → KindApart k
apart-kind (kind.Record fs) d = apart-fields fs (distinct-labels (map field_name fs) d)
apart-kind (kind.Use t) d = tt
apart-kind (kind.Alias v) d = tt
apart-kind (kind.List v) d = tt
apart-kind (kind.Option v) d = tt
apart-kind (kind.Result v w) d = tt
apart-kind (kind.Tuple vs) d = tt
apart-kind (kind.Variant cs) d = tt
apart-kind (kind.Enum names) d = tt
apart-kind (kind.Flags names) d = tt

all-apart : (ds : List Definition) → AllByRecursion IsScope ds → AllByRecursion RowApart ds
all-apart [] h = tt
all-apart (row.Type d ∷ ds) (here, h) = (apart-kind d.kind here, all-apart ds h)
all-apart (row.Function f ∷ ds) (here, h) = (tt, all-apart ds h)

-- ---- labels of types

module _ (rows : List LabelledType) (known : AllByRecursion HasDistinctLabels rows) where
  row-labels : (ts : List LabelledType) (i : ℕ) → AllByRecursion HasDistinctLabels ts → HasDistinctLabels (get_or ts i labelled_string)
  row-labels [] i h = tt
  row-labels (t ∷ ts) zero (here, h) = here
  row-labels (t ∷ ts) (suc i) (here, h) = row-labels ts i h

  val-labels : (v : ValType) → HasDistinctLabels (labelled_val rows v)
  val-labels (val.Primitive p) = tt
  val-labels val.String = tt
  val-labels (val.Id t) = row-labels rows t.0 known

  payload-labels : (v : Option ValType) → PayloadHasDistinctLabels (labelled_payload rows v)
  payload-labels None = tt
  payload-labels (Some v) = val-labels v

  member-labels : (vs : List ValType) → MembersHaveDistinctLabels (labelled_members rows vs)
  member-labels [] = tt
  member-labels (v ∷ vs) = (val-labels v, member-labels vs)

  field-labels : (fs : List Field) → FieldsHaveDistinctLabels (labelled_fields rows fs)
  field-labels [] = tt
  field-labels (f ∷ fs) = (val-labels f.ty, field-labels fs)

  parameter-labels : (ps : List Parameter) → FieldsHaveDistinctLabels (labelled_params rows ps)
  parameter-labels [] = tt
  parameter-labels (p ∷ ps) = (val-labels p.ty, parameter-labels ps)

  case-labels : (cs : List Case) → AreDistinctLabels (map case_name cs) → CasesHaveDistinctLabels (labelled_cases rows cs)
  case-labels [] d = tt
  case-labels (c ∷ cs) (first, d) = (no-case rows cs c.name first, payload-labels c.ty, case-labels cs d)

  kind-labels : (k : TypeDefKind) → IsScope (row.Type (record { name = None; kind = k })) → HasDistinctLabels (labelled_kind rows k)
  kind-labels (kind.Use t) d = val-labels (val.Id t)
  kind-labels (kind.Alias v) d = val-labels v
  kind-labels (kind.List v) d = val-labels v
  kind-labels (kind.Option v) d = val-labels v
  kind-labels (kind.Result v w) d = (payload-labels v, payload-labels w)
  kind-labels (kind.Tuple vs) d = member-labels vs
  kind-labels (kind.Record fs) d = field-labels fs
  kind-labels (kind.Variant cs) d = case-labels cs (distinct-labels (map case_name cs) d)
  kind-labels (kind.Enum names) d = distinct-labels names d
  kind-labels (kind.Flags names) d = distinct-labels names d

  definition-labels : (d : Definition) → IsScope d → HasDistinctLabels (labelled_definition rows d)
  definition-labels (row.Type d) h = kind-labels d.kind h
  definition-labels (row.Function f) h = parameter-labels f.params

all-more : (P : LabelledType → Type 0) (ts : List LabelledType) (t : LabelledType) → AllByRecursion P ts → P t → AllByRecursion P (ts ++ t ∷ [])
all-more P [] t h p = (p, tt)
all-more P (u ∷ ts) t (here, h) p = (here, all-more P ts t h p)

rows-labels : (ts : List LabelledType) (ds : List Definition) → AllByRecursion HasDistinctLabels ts → AllByRecursion IsScope ds → AllByRecursion HasDistinctLabels (labelled_rows ts ds)
rows-labels ts [] known h = known
rows-labels ts (d ∷ ds) known (here, h) =
    rows-labels (ts ++ labelled_definition ts d ∷ []) ds (all-more HasDistinctLabels ts (labelled_definition ts d) known (definition-labels ts known d here)) h

-- where the members of each type differ
pub labels-of-scopes : (r : Resolve) → ((a : ℕ) (d : Definition) → slice_get r.definitions a ≡ Some d → IsScope d) → HasApartLabels r × ((ty : ValType) → HasDistinctLabels (labelled_type r ty))
labels-of-scopes r each =
    let scopes = scopes-from r.definitions 0 each in
    (all-apart r.definitions scopes, val-labels (labelled_rows [] r.definitions) (rows-labels [] r.definitions tt scopes))

labels-apart-in-form : (r : Resolve) → IsInPackageForm r → All AreDistinct (package_scopes r) → HasApartLabels r × ((ty : ValType) → HasDistinctLabels (labelled_type r ty))
labels-apart-in-form r form distinct =
    let none = none-named r.definitions 0 (interfaces_end 0 r.interfaces) r.worlds (worlds-parted r.definitions 0 r.interfaces r.worlds form.parted) form.worlds in
    labels-of-scopes r (λ a d h. scope-at r.definitions form.postfix 0 r.interfaces none (interfaces-distinct r distinct) a d (omega arith) h)

pub labels-apart : (r : Resolve) → LabelsAreApart r
labels-apart r form distinct =
    let same : IsProp (HasApartLabels r × ((ty : ValType) → HasDistinctLabels (labelled_type r ty))) =
    hlevel (prop-rows r.definitions, prop-type) in
    ∥∥₁_elim form same (λ in_form. ∥∥₁_elim distinct same (labels-apart-in-form r in_form))
