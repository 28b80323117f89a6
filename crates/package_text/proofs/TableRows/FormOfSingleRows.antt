-- What a package's form says of single rows: a type without a name is a list, an option, a result or a tuple, and a used type has a
-- name of an interface.
use Rattle.std.proofs.Common.{◌≡◌, ◌+◌, ◌-◌, ◌≤◌, ℕ, List, [], ◌∷◌, ◌++◌, length, slice_get, refl, sym, ap, ◌∙◌, arith, IsTrue, Option, None, Some, Ok, inl, inr}
use Rattle.std.specs.Prelude.{Bool, true, false, not, ◌||◌, is_some}
use Rattle.std.specs.List.{list_all}
use Rattle.std.proofs.lemmas.Bool.{cases_lt, ltb-true, lt-ltb}
use Rattle.std.proofs.lemmas.List.Folds.{list_all-append}
use Rattle.std.proofs.Math.Bool.{Bool-set}
use Rattle.std.proofs.Math.Logic.{∥∥₁_elim}
use Rattle.tables.specs.Tables.{type_of}
use Rattle.tables.specs.declared.tables.TypeName.{TypeName}
use Rattle.tables.specs.declared.tables.TypeDef.{TypeDef}
use Rattle.tables.specs.declared.tables.TypeDefKind.{TypeDefKind}
use Rattle.tables.specs.declared.tables.TypeDefKind.TheVariants as kind
use Rattle.tables.specs.declared.tables.Definition.{Definition}
use Rattle.tables.specs.declared.tables.Definition.TheVariants as row
use Rattle.tables.specs.declared.tables.Interface.{Interface}
use Rattle.tables.specs.declared.tables.Resolve.{Resolve}
use Rattle.tables.proofs.ClosedTypesRowByRow.{split, both}
use Rattle.package_form.specs.Postfix.{is_inner, is_unnamed, parts, parts_of, inner_row, Leaves, begin, inner, whole}
use Rattle.package_form.specs.Ends.{end_of, rows_of, interfaces_end}
use Rattle.package_form.specs.References.{row_references}
use Rattle.package_form.specs.Form.{IsInPackageForm, is_own, is_own_name, is_earlier_name, is_earlier_type, uses_earlier, is_owned, is_local, are_interfaces, is_in_form}
use Rattle.package_form.proofs.PackageFormIsTested.{tested}
use Rattle.package_form.proofs.NamesStandForOneRow.{named, IsNamedAt, NoneFrom, in-rows, locals-in, forms-on, none-named, worlds-parted}
use Rattle.package_form.proofs.AllAndContains.{all-get}

-- ---- rows without names

abbrev is_expression : Definition → Bool
is_expression (row.Type d) = is_some d.name || is_inner d.kind
is_expression (row.Function f) = true

named-row : (d : Definition) → is_unnamed d ≡ false → is_expression d ≡ true
named-row (row.Function f) h = refl
named-row (row.Type d) h = by d.name h
  where
    by : (o : Option TypeName) → not (is_some o) ≡ false → (is_some o || is_inner d.kind) ≡ true
    by None h = absurd (cc)
    by (Some n) h = refl

expressions : (rows : List Definition) (unused : List ℕ) → Leaves rows unused → list_all is_expression rows ≡ true
expressions _ _ begin = refl
expressions _ _ (inner rows unused k is l) = list_all-append is_expression rows (inner_row k ∷ []) ∙ both _ _ (expressions rows (unused ++ parts rows k) l) (both (is_inner k) true is refl)
expressions _ _ (whole rows d named alias l) = list_all-append is_expression rows (d ∷ []) ∙ both _ _ (expressions rows (parts_of rows d) l) (both (is_expression d) true (named-row d named) refl)

-- a package's form is told by a test, so a proof of it can be had wherever it is known
pub form-told : (r : Resolve) → ∥ IsInPackageForm r ∥₁ → IsInPackageForm r
form-told r h =
    let test = tested {E = Unit {0}} r (Ok (is_in_form r)) refl in
    let prop : IsProp (IsTrue (is_in_form r)) = Bool-set (is_in_form r) true in
    test.0 (∥∥₁_elim h prop test.1)

pub inner-at : (r : Resolve) → IsInPackageForm r → (k : ℕ) (d : TypeDef) → slice_get r.definitions k ≡ Some (row.Type d) → d.name ≡ None → is_inner d.kind ≡ true
inner-at r form k d e n =
    let h : is_expression (row.Type d) ≡ true = all-get is_expression r.definitions k (row.Type d) (expressions r.definitions [] form.postfix) e in
    sym (ap (λ (o : Option TypeName). is_some o || is_inner d.kind) n) ∙ h

-- ---- used names

module _ (rows : List Definition) (count : ℕ) where
  later-name : (k : ℕ) → k ≤ count → (o : Option TypeName) → is_earlier_name k o ≡ true → is_earlier_name count o ≡ true
  later-name k l None h = h
  later-name k l (Some n) h = lt-ltb n.interface.0 count (omega (arith, l, ltb-true n.interface.0 k h))

  later-type : (k : ℕ) → k ≤ count → (o : Option TypeDef) → is_earlier_type k o ≡ true → is_earlier_type count o ≡ true
  later-type k l None h = h
  later-type k l (Some d) h = later-name k l d.name h

  later-use : (k : ℕ) → k ≤ count → (c : TypeDefKind) → uses_earlier rows k c ≡ true → uses_earlier rows count c ≡ true
  later-use k l (kind.Use t) h = later-type k l (type_of (slice_get rows t.0)) h
  later-use k l (kind.Alias v) h = refl
  later-use k l (kind.List v) h = refl
  later-use k l (kind.Option v) h = refl
  later-use k l (kind.Result v w) h = refl
  later-use k l (kind.Tuple vs) h = refl
  later-use k l (kind.Record fs) h = refl
  later-use k l (kind.Variant cs) h = refl
  later-use k l (kind.Enum ns) h = refl
  later-use k l (kind.Flags ns) h = refl

  -- a type of interface k that is a used name stands for a type of an earlier one
  local-use : (k : ℕ) → k ≤ count → (d : TypeDef) → is_local rows k (row.Type d) ≡ true → uses_earlier rows count d.kind ≡ true
  local-use k l d h =
      let owned = split (is_owned rows k (row.Type d)) (list_all (is_own rows k) (row_references (row.Type d))) h in
      later-use k l d.kind (split (is_own_name k d.name) (uses_earlier rows k d.kind) owned.0).1

  named-at : (a : ℕ) (d : TypeDef) (n : TypeName) → slice_get rows a ≡ Some (row.Type d) → d.name ≡ Some n → IsNamedAt rows a n
  unfolding named
  named-at a d n e q = (d.kind, e ∙ ap (λ (o : Option TypeName). Some (row.Type (record { name = o; kind = d.kind }))) q)

  -- .. of these interfaces, or of later ones
  used-from : (k start : ℕ) (is : List Interface) → k + length is ≤ count → are_interfaces rows k start is ≡ true → NoneFrom rows (interfaces_end start is)
      → (a : ℕ) (d : TypeDef) (n : TypeName) → start ≤ a → slice_get rows a ≡ Some (row.Type d) → d.name ≡ Some n → uses_earlier rows count d.kind ≡ true
  used-from k start [] w f none a d n l e q = absurd (none a n l (named-at a d n e q))
  used-from k start (i ∷ is) w f none a d n l e q = elim (cases_lt a (end_of start i)) [
    | inl m ↦
        local-use k (omega (arith, w)) d
        (all-get (is_local rows k) (rows_of rows start i) (a - start) (row.Type d) (locals-in rows k start i is f) (in-rows rows start i a l m ∙ e))
    | inr m ↦ used-from (k + 1) (end_of start i) is (omega (arith, w)) (forms-on rows k start i is f) none a d n m e q
  ]

pub used-at : (r : Resolve) → IsInPackageForm r → (a : ℕ) (d : TypeDef) (n : TypeName) → slice_get r.definitions a ≡ Some (row.Type d) → d.name ≡ Some n
    → uses_earlier r.definitions (length r.interfaces) d.kind ≡ true
used-at r form a d n e q =
    let rows = r.definitions in
    let none = none-named rows 0 (interfaces_end 0 r.interfaces) r.worlds (worlds-parted rows 0 r.interfaces r.worlds form.parted) form.worlds in
    used-from rows (length r.interfaces) 0 0 r.interfaces (omega arith) form.interfaces none a d n (omega arith) e q
