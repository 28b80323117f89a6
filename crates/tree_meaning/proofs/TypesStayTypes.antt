-- Types of a table, when more rows come behind it.
use Rattle.std.proofs.Common.{◌≡◌, Bool, true, IsTrue, List, [], ◌∷◌, ◌++◌, length, Option, Some, None, refl, ap, ◌∙◌}
use Rattle.std.specs.List.{list_all}
use Rattle.std.proofs.lemmas.List.Folds.{list_all-append}
use Rattle.std.proofs.lemmas.Bool.{ltb-true}
use Rattle.tables.specs.Tables.{option_all, kind_all, definition_all, is_type, name_types, is_there, type_of}
use Rattle.tables.specs.declared.tables.ValType.{ValType}
use Rattle.tables.specs.declared.tables.ValType.TheVariants as val
use Rattle.tables.specs.declared.tables.TypeDefKind.{TypeDefKind}
use Rattle.tables.specs.declared.tables.TypeDefKind.TheVariants as kind
use Rattle.tables.specs.declared.tables.Case.{Case}
use Rattle.tables.specs.declared.tables.Field.{Field}
use Rattle.tables.specs.declared.tables.Parameter.{Parameter}
use Rattle.tables.specs.declared.tables.Definition.{Definition}
use Rattle.tables.specs.declared.tables.Definition.TheVariants as row
use Rattle.tables.proofs.ClosedTypesRowByRow.{split, both}
use Rattle.tables.proofs.HasStandardTypes.{type-below}
use Rattle.package_form.proofs.AllAndContains.{get-front, list-grows}

-- a type stays one
pub type-later : (ds es : List Definition) (v : ValType) → is_type ds v ≡ true → is_type (ds ++ es) v ≡ true
type-later ds es (val.Primitive p) h = refl
type-later ds es val.String h = refl
type-later ds es (val.Id t) h =
    ap (λ (o : Option Definition). is_there (type_of o)) (get-front ds es t.0 (ltb-true t.0 (length ds) (type-below ds (val.Id t) h))) ∙ h

-- ---- what all types that are named have, they have where it follows from it

module _ (p q : ValType → Bool) (h : (v : ValType) → p v ≡ true → q v ≡ true) where
  option-grows : (v : Option ValType) → option_all p v ≡ true → option_all q v ≡ true
  option-grows None e = refl
  option-grows (Some v) e = h v e

  kind-grows : (k : TypeDefKind) → kind_all p k ≡ true → kind_all q k ≡ true
  kind-grows (kind.Use t) e = h (val.Id t) e
  kind-grows (kind.Alias v) e = h v e
  kind-grows (kind.List v) e = h v e
  kind-grows (kind.Option v) e = h v e
  kind-grows (kind.Result v w) e = let es = split (option_all p v) (option_all p w) e in both _ _ (option-grows v es.0) (option-grows w es.1)
  kind-grows (kind.Tuple vs) e = list-grows p q h vs e
  kind-grows (kind.Record fs) e = list-grows (λ (f : Field). p f.ty) (λ f. q f.ty) (λ f. h f.ty) fs e
  kind-grows (kind.Variant cs) e = list-grows (λ (c : Case). option_all p c.ty) (λ c. option_all q c.ty) (λ c. option-grows c.ty) cs e
  kind-grows (kind.Enum ns) e = refl
  kind-grows (kind.Flags ns) e = refl

  pub definition-grows : (d : Definition) → definition_all p d ≡ true → definition_all q d ≡ true
  definition-grows (row.Type d) e = kind-grows d.kind e
  definition-grows (row.Function f) e =
      let es = split (list_all (λ (x : Parameter). p x.ty) f.params) (option_all p f.result) e in
      both _ _ (list-grows (λ (x : Parameter). p x.ty) (λ x. q x.ty) (λ x. h x.ty) f.params es.0) (option-grows f.result es.1)

-- one row more, which names types of those before it
pub names-later : (ds : List Definition) (d : Definition) → IsTrue (name_types ds) → definition_all (is_type ds) d ≡ true → IsTrue (name_types (ds ++ d ∷ []))
names-later ds d h e =
    let later : (c : Definition) → definition_all (is_type ds) c ≡ true → definition_all (is_type (ds ++ d ∷ [])) c ≡ true =
    λ c. definition-grows (is_type ds) (is_type (ds ++ d ∷ [])) (type-later ds (d ∷ [])) c in
    let old = list-grows (definition_all (is_type ds)) (definition_all (is_type (ds ++ d ∷ []))) later ds h in
    list_all-append (definition_all (is_type (ds ++ d ∷ []))) ds (d ∷ []) ∙ both _ _ old (both _ true (later d e) refl)
