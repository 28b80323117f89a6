-- That labels differ is a mere fact.
use Rattle.std.proofs.Common.{◌≡◌, List, [], ◌∷◌, ◌∙◌}
use Rattle.std.specs.List.{AllByRecursion}
use Rattle.canonical_abi.specs.Labelled.{Label, LabelledType, labelled_prim, labelled_string, labelled_list, labelled_option, labelled_tuple, labelled_result, labelled_record, labelled_variant, labelled_enum, labelled_flags, LabelledTypes, no_member, member, Payload, no_payload, payload, LabelledFields, no_labelled_field, labelled_field, LabelledCases, no_labelled_case, labelled_case}
use Rattle.tables.specs.declared.tables.TypeDefKind.{TypeDefKind}
use Rattle.tables.specs.declared.tables.TypeDefKind.TheVariants as kind
use Rattle.tables.specs.declared.tables.Field.{Field}
use Rattle.tables.specs.declared.tables.Definition.{Definition}
use Rattle.tables.specs.declared.tables.Definition.TheVariants as row
use Rattle.value_json.specs.Apart.{HaveLabelsApart, KindApart, RowApart}
use Rattle.value_json.specs.Json.{IsNotAmong, AreDistinctLabels, IsOfNoCase, HasDistinctLabels, MembersHaveDistinctLabels, PayloadHasDistinctLabels, FieldsHaveDistinctLabels, CasesHaveDistinctLabels}

prop-all : {A : Type 0} (P : A → Type 0) → ((a : A) → IsProp (P a)) → (xs : List A) → IsProp (AllByRecursion P xs)
prop-all P h [] = hlevel
prop-all P h (x ∷ xs) = hlevel (h x, prop-all P h xs)

prop-differs : (a b : Label) → IsProp (a ≡ b → ⊥)
prop-differs a b = hlevel

-- ---- records

prop-apart : (fs : List Field) → IsProp (HaveLabelsApart fs)
prop-apart [] = hlevel
prop-apart (f ∷ fs) = hlevel (prop-all (λ (g : Field). g.name ≡ f.name → ⊥) (λ g. prop-differs g.name f.name) fs, prop-apart fs)

prop-kind : (k : TypeDefKind) → IsProp (KindApart k)
prop-kind (kind.Use t) = hlevel
prop-kind (kind.Alias v) = hlevel
prop-kind (kind.List v) = hlevel
prop-kind (kind.Option v) = hlevel
prop-kind (kind.Result ok error) = hlevel
prop-kind (kind.Tuple vs) = hlevel
prop-kind (kind.Record fs) = prop-apart fs
prop-kind (kind.Variant cs) = hlevel
prop-kind (kind.Enum names) = hlevel
prop-kind (kind.Flags names) = hlevel

prop-row : (d : Definition) → IsProp (RowApart d)
prop-row (row.Type d) = prop-kind d.kind
prop-row (row.Function f) = hlevel

pub prop-rows : (ds : List Definition) → IsProp (AllByRecursion RowApart ds)
prop-rows ds = prop-all RowApart prop-row ds

-- ---- variants, enums and flags

prop-not-among : (l : Label) (ls : List Label) → IsProp (IsNotAmong l ls)
prop-not-among l [] = hlevel
prop-not-among l (m ∷ ms) = hlevel (prop-differs l m, prop-not-among l ms)

prop-labels : (ls : List Label) → IsProp (AreDistinctLabels ls)
prop-labels [] = hlevel
prop-labels (l ∷ ls) = hlevel (prop-not-among l ls, prop-labels ls)

prop-no-case : (l : Label) (cs : LabelledCases) → IsProp (IsOfNoCase l cs)
prop-no-case l no_labelled_case = hlevel
prop-no-case l (labelled_case m p cs) = hlevel (prop-differs l m, prop-no-case l cs)

mutual
  pub prop-type : (t : LabelledType) → IsProp (HasDistinctLabels t)
  prop-type (labelled_prim p) = hlevel
  prop-type labelled_string = hlevel
  prop-type (labelled_list t) = prop-type t
  prop-type (labelled_option t) = prop-type t
  prop-type (labelled_tuple ts) = prop-members ts
  prop-type (labelled_result ok error) = hlevel (prop-payload ok, prop-payload error)
  prop-type (labelled_record fs) = prop-fields fs
  prop-type (labelled_variant cs) = prop-cases cs
  prop-type (labelled_enum ls) = prop-labels ls
  prop-type (labelled_flags ls) = prop-labels ls

  prop-members : (ts : LabelledTypes) → IsProp (MembersHaveDistinctLabels ts)
  prop-members no_member = hlevel
  prop-members (member t ts) = hlevel (prop-type t, prop-members ts)

  prop-payload : (p : Payload) → IsProp (PayloadHasDistinctLabels p)
  prop-payload no_payload = hlevel
  prop-payload (payload t) = prop-type t

  prop-fields : (fs : LabelledFields) → IsProp (FieldsHaveDistinctLabels fs)
  prop-fields no_labelled_field = hlevel
  prop-fields (labelled_field l t fs) = hlevel (prop-type t, prop-fields fs)

  prop-cases : (cs : LabelledCases) → IsProp (CasesHaveDistinctLabels cs)
  prop-cases no_labelled_case = hlevel
  prop-cases (labelled_case l p cs) = hlevel (prop-no-case l cs, prop-payload p, prop-cases cs)
