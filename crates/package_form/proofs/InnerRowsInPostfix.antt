-- Rows in postfix order: the test, and the relation.
use Rattle.std.proofs.Common.{◌≡◌, ℕ, Bool, true, false, cond, ◌==◌, List, [], ◌∷◌, ◌++◌, flat_map, length, Option, None, Some, refl, ap, sym, ◌∙◌, append-nil, arith}
use Rattle.std.proofs.lemmas.Grind.{flat_map-append}
use Rattle.std.proofs.lemmas.Bool.Decides.{nat_tests}
use Rattle.tables.specs.declared.tables.TypeId.{TypeId}
use Rattle.tables.specs.declared.tables.ValType.{ValType}
use Rattle.tables.specs.declared.tables.ValType.TheVariants as val
use Rattle.tables.specs.declared.tables.TypeDef.{TypeDef}
use Rattle.tables.specs.declared.tables.TypeDefKind.{TypeDefKind}
use Rattle.tables.specs.declared.tables.TypeDefKind.TheVariants as kind
use Rattle.tables.specs.declared.tables.Definition.{Definition}
use Rattle.tables.specs.declared.tables.Definition.TheVariants as row
use Rattle.package_form.specs.Postfix.{unnamed, unnamed_if, unnamed_field, unnamed_case, unnamed_parameter, parts, parts_of, aliased, aliased_by}
use Rattle.package_form.specs.References.{type_references, references_if, field_references, case_references, parameter_references, kind_references}
use Rattle.package_form.specs.Unused.{unnamed_at, inner_rows, is_alias, can_use}

abbrev pub is_function : Definition → Bool
is_function (row.Type d) = false
is_function (row.Function f) = true

-- ---- what a row is made of

module _ (rows : List Definition) where
  val-inner : (v : ValType) → flat_map (unnamed_at rows) (type_references v) ≡ unnamed rows v
  val-inner (val.Primitive p) = refl
  val-inner val.String = refl
  val-inner (val.Id t) = append-nil (unnamed_at rows t)

  if-inner : (v : Option ValType) → flat_map (unnamed_at rows) (references_if v) ≡ unnamed_if rows v
  if-inner None = refl
  if-inner (Some v) = val-inner v

  all-inner : {X : Type 0} (g : X → List TypeId) (h : X → List ℕ) → ((x : X) → flat_map (unnamed_at rows) (g x) ≡ h x) → (xs : List X)
      → flat_map (unnamed_at rows) (flat_map g xs) ≡ flat_map h xs
  all-inner g h e [] = refl
  all-inner g h e (x ∷ xs) =
      flat_map-append (unnamed_at rows) (g x) (flat_map g xs)
      ∙ ap (λ ns. flat_map (unnamed_at rows) (g x) ++ ns) (all-inner g h e xs)
      ∙ ap (λ ns. ns ++ flat_map h xs) (e x)

  kind-inner : (k : TypeDefKind) → is_alias k ≡ false → flat_map (unnamed_at rows) (kind_references k) ≡ parts rows k
  kind-inner (kind.Use t) h = refl
  kind-inner (kind.Alias v) h = absurd (cc)
  kind-inner (kind.List v) h = val-inner v
  kind-inner (kind.Option v) h = val-inner v
  kind-inner (kind.Result v w) h =
      flat_map-append (unnamed_at rows) (references_if v) (references_if w)
      ∙ ap (λ ns. ns ++ flat_map (unnamed_at rows) (references_if w)) (if-inner v)
      ∙ ap (λ ns. unnamed_if rows v ++ ns) (if-inner w)
  kind-inner (kind.Tuple vs) h = all-inner type_references (unnamed rows) val-inner vs
  kind-inner (kind.Record fs) h = all-inner field_references (unnamed_field rows) (λ f. val-inner f.ty) fs
  kind-inner (kind.Variant cs) h = all-inner case_references (unnamed_case rows) (λ c. if-inner c.ty) cs
  kind-inner (kind.Enum ns) h = refl
  kind-inner (kind.Flags ns) h = refl

  alias-inner : (k : TypeDefKind) → is_alias k ≡ true → (flat_map (unnamed_at rows) (kind_references k) ≡ aliased rows k) × (parts rows k ≡ [])
  alias-inner (kind.Alias v) h = (val-inner v, refl)
  alias-inner (kind.Use t) h = absurd (cc)
  alias-inner (kind.List v) h = absurd (cc)
  alias-inner (kind.Option v) h = absurd (cc)
  alias-inner (kind.Result v w) h = absurd (cc)
  alias-inner (kind.Tuple vs) h = absurd (cc)
  alias-inner (kind.Record fs) h = absurd (cc)
  alias-inner (kind.Variant cs) h = absurd (cc)
  alias-inner (kind.Enum ns) h = absurd (cc)
  alias-inner (kind.Flags ns) h = absurd (cc)

  no-alias : (k : TypeDefKind) → is_alias k ≡ false → aliased rows k ≡ []
  no-alias (kind.Alias v) h = absurd (cc)
  no-alias (kind.Use t) h = refl
  no-alias (kind.List v) h = refl
  no-alias (kind.Option v) h = refl
  no-alias (kind.Result v w) h = refl
  no-alias (kind.Tuple vs) h = refl
  no-alias (kind.Record fs) h = refl
  no-alias (kind.Variant cs) h = refl
  no-alias (kind.Enum ns) h = refl
  no-alias (kind.Flags ns) h = refl

  function-inner : (d : Definition) → is_function d ≡ true → inner_rows rows d ≡ parts_of rows d
  function-inner (row.Type d) h = absurd (cc)
  function-inner (row.Function f) h =
      flat_map-append (unnamed_at rows) (flat_map parameter_references f.params) (references_if f.result)
      ∙ ap (λ ns. ns ++ flat_map (unnamed_at rows) (references_if f.result)) (all-inner parameter_references (unnamed_parameter rows) (λ p. val-inner p.ty) f.params)
      ∙ ap (λ ns. flat_map (unnamed_parameter rows) f.params ++ ns) (if-inner f.result)

no-length : (xs : List ℕ) → (length xs == 0) ≡ true → xs ≡ []
no-length [] h = refl
no-length (x ∷ xs) h = absurd (grind (arith, nat_tests))

-- a row that can use what it is made of
module _ (rows : List Definition) where
  type-inner : (d : TypeDef) → can_use (row.Type d) (inner_rows rows (row.Type d)) ≡ true → (inner_rows rows (row.Type d) ≡ parts rows d.kind) × (aliased rows d.kind ≡ [])
  type-inner d h = by (is_alias d.kind) refl
    where
      by : (b : Bool) → is_alias d.kind ≡ b → (inner_rows rows (row.Type d) ≡ parts rows d.kind) × (aliased rows d.kind ≡ [])
      by true e =
          let told = ap (λ (b : Bool). cond b (length (inner_rows rows (row.Type d)) == 0) true) (sym e) ∙ h in
          let none = no-length (inner_rows rows (row.Type d)) told in
          let a = alias-inner rows d.kind e in
          (none ∙ sym a.1, sym a.0 ∙ none)
      by false e = (kind-inner rows d.kind e, no-alias rows d.kind e)

  pub can-inner : (d : Definition) → can_use d (inner_rows rows d) ≡ true → (inner_rows rows d ≡ parts_of rows d) × (aliased_by rows d ≡ [])
  can-inner (row.Type d) h = type-inner d h
  can-inner (row.Function f) h = (function-inner rows (row.Function f) refl, refl)

  type-can : (d : TypeDef) → aliased rows d.kind ≡ [] → can_use (row.Type d) (inner_rows rows (row.Type d)) ≡ true
  type-can d h = by (is_alias d.kind) refl
    where
      by : (b : Bool) → is_alias d.kind ≡ b → can_use (row.Type d) (inner_rows rows (row.Type d)) ≡ true
      by true e =
          let none : inner_rows rows (row.Type d) ≡ [] = (alias-inner rows d.kind e).0 ∙ h in
          ap (λ (b : Bool). cond b (length (inner_rows rows (row.Type d)) == 0) true) e ∙ ap (λ (ns : List ℕ). length ns == 0) none
      by false e = ap (λ (b : Bool). cond b (length (inner_rows rows (row.Type d)) == 0) true) e

  pub inner-can : (d : Definition) → aliased_by rows d ≡ [] → can_use d (inner_rows rows d) ≡ true
  inner-can (row.Type d) h = type-can d h
  inner-can (row.Function f) h = refl
