-- A function of a package: where it stands in the layouts, and what is known of the types that it names.
use Rattle.std.proofs.Common.{◌≡◌, ◌<◌, ◌≤◌, Bool, true, false, List, [], ◌∷◌, Option, Some, None, IfSome, length, map, get_or, refl, sym, ap, ◌∙◌, subst, arith}
use Rattle.std.specs.List.{list_all}
use Rattle.std.specs.Option.{option_map, option_to_list}
use Rattle.std.proofs.Math.Bridge.{le_prop}
use Rattle.std.proofs.Math.Logic.{∥∥₁_elim}
use Rattle.std.proofs.lemmas.Bool.{and_parts, and_from, lt-ltb}
use Rattle.std.proofs.lemmas.List.{length-map}
use Rattle.std.proofs.lemmas.List.Folds.{list_all-map, list_all_at}
use Rattle.canonical_abi.specs.Types.{ClosedType, Fields, string_type, record_type, fields_of, result_fields, fields_depth}
use Rattle.canonical_abi.specs.Few.{IsShallowFunction}
use Rattle.canonical_abi.specs.Layout.{size}
use Rattle.layout.specs.Layout.{LayoutTable, row_of, layouts_of, AreWithin, IsDefinitionWithin}
use Rattle.tables.specs.Tables.{option_all, definition_all, is_type}
use Rattle.tables.specs.Closed.{closed_types, closed_type, closed_params, function_at, function_type, type_of_function, IsFunction}
use Rattle.tables.specs.Standard.{IsTypeOf}
use Rattle.tables.specs.declared.tables.Definition.{Definition}
use Rattle.tables.specs.declared.tables.Definition.TheVariants as row
use Rattle.tables.specs.declared.tables.Function.{Function}
use Rattle.tables.specs.declared.tables.FunctionId.{FunctionId}
use Rattle.tables.specs.declared.tables.Resolve.{Resolve}
use Rattle.tables.specs.declared.tables.TypeId.{TypeId}
use Rattle.tables.specs.declared.tables.ValType.{ValType}
use Rattle.tables.specs.declared.tables.ValType.TheVariants as val
use Rattle.tables.proofs.ClosedTypesRowByRow.{length-closed_rows, stands, function-row}
use Rattle.values.specs.Members.{fields_of_types, AreAllInside, AreTypesOf}
use Rattle.values.specs.Types.{IsInside}
use Rattle.lift_lower.proofs.OneFieldRecords.{alone-size}
use Rattle.values.proofs.PackageTypesAreStandard.{known-inside}
use Rattle.adapter.proofs.ParametersAsTableTypes.{params_in}
use Rattle.adapter.proofs.PackageTypesWithinLimits.{type-shallow, type-small}

-- a function has a row
pub function-stands : (r : Resolve) (table : LayoutTable) (f : FunctionId) → table ≡ layouts_of r → IsFunction r f → f.0 < length table.rows
function-stands r table f is h =
    omega (arith, (stands r f h).in_range, ap (λ t. length t.rows) is, length-map (closed_types r) row_of, length-closed_rows [] r.definitions)

-- what holds of each holds of the one at a place
at-true : {A : Type 0} (p : A → Bool) (xs : List A) (i : _) (d : A) → i < length xs → list_all p xs ≡ true → p (get_or xs i d) ≡ true
at-true p xs i d l h = by (p (get_or xs i d)) refl
  where
    by : (b : Bool) → p (get_or xs i d) ≡ b → b ≡ true
    by true e = refl
    by false e = sym (list_all_at p xs i d l e) ∙ h

-- its row is the record of its parameters
pub params-row : (r : Resolve) (f : FunctionId) → IsFunction r f → (t : TypeId) → t.0 ≡ f.0 → closed_type r (val.Id t) ≡ record_type (function_type r f).params
params-row r f h t same =
    let st = stands r f h in
    ap (λ i. get_or (closed_types r) i string_type) same ∙ function-row r f st ∙ sym (ap (λ o. record_type (type_of_function (closed_types r) o).params) st.at)

pub params-inside : (r : Resolve) (f : FunctionId) → IsFunction r f → (t : TypeId) → t.0 ≡ f.0 → IsInside r (val.Id t)
params-inside r f h t same = rw (lt-ltb t.0 (length r.definitions) (omega (arith, same, (stands r f h).in_range))) refl

-- a result as a list of at most one type
pub result-fields : (r : Resolve) (o : Option ValType) → fields_of_types r (option_to_list o) ≡ result_fields (option_map (closed_type r) o)
result-fields r None = refl
result-fields r (Some t) = refl

pub all-known : (r : Resolve) (o : Option ValType) → IfSome o (IsTypeOf r) → AreTypesOf r (option_to_list o)
all-known r None h = refl
all-known r (Some t) h = and_from (is_type r.definitions t) true h refl

pub all-inside : (r : Resolve) (o : Option ValType) → IfSome o (IsInside r) → AreAllInside r (option_to_list o)
all-inside r None h = refl
all-inside r (Some t) h = and_from _ true h refl

pub result-small : (r : Resolve) → ∥ AreWithin r ∥₁ → (o : Option ValType) → IfSome o (IsTypeOf r) → size (record_type (fields_of_types r (option_to_list o))) ≤ 16777216
result-small r within None known = omega arith
result-small r within (Some t) known = omega (arith, alone-size (closed_type r t), type-small r within t known)

module _ (r : Resolve) (f : FunctionId) (h : IsFunction r f) (s : Function) (found : function_at r f ≡ Some s) where
  own : (stands r f h).function ≡ s
  own = let st = stands r f h in let both : Some st.function ≡ Some s = sym st.at ∙ found in cc

  names : definition_all (is_type r.definitions) (row.Function s) ≡ true
  names =
      let st = stands r f h in
      let P : Definition → Type 0 = λ e. definition_all (is_type r.definitions) e ≡ true in
      subst P (st.is (row.Function s) ∙ ap row.Function own) (at-true (definition_all (is_type r.definitions)) r.definitions f.0 (row.Function s) st.in_range r.typed)

  pub params-known : AreTypesOf r (map (λ p. p.ty) s.params)
  params-known = list_all-map (is_type r.definitions) (λ p. p.ty) s.params ∙ (and_parts _ _ names).0

  result-of : (o : Option ValType) → option_all (is_type r.definitions) o ≡ true → IfSome o (IsTypeOf r)
  result-of None e = tt
  result-of (Some v) e = e

  pub result-known : IfSome s.result (IsTypeOf r)
  result-known = result-of s.result (and_parts _ _ names).1

  inside-of : (o : Option ValType) → IfSome o (IsTypeOf r) → IfSome o (IsInside r)
  inside-of None e = tt
  inside-of (Some v) e = known-inside r v e

  pub result-inside : IfSome s.result (IsInside r)
  result-inside = inside-of s.result result-known

  pub params-are : (function_type r f).params ≡ fields_of_types r (map (λ p. p.ty) s.params)
  params-are = ap (λ o. (type_of_function (closed_types r) o).params) found ∙ ap fields_of (params_in (closed_types r) s.params)

  pub result-is : (function_type r f).result ≡ option_map (closed_type r) s.result
  result-is = ap (λ o. (type_of_function (closed_types r) o).result) found

  small-within : AreWithin r → size (record_type (fields_of_types r (map (λ p. p.ty) s.params))) ≤ 16777216
  small-within within =
      let st = stands r f h in
      let d = row.Function st.function in
      let here : IsDefinitionWithin d (get_or (closed_types r) f.0 string_type) = within.each f.0 d st.in_range (st.is d) in
      let same : get_or (closed_types r) f.0 string_type ≡ record_type (fields_of_types r (map (λ p. p.ty) s.params)) =
      function-row r f st ∙ ap (λ u. record_type (fields_of (closed_params (closed_types r) u.params))) own ∙ ap (λ ts. record_type (fields_of ts)) (params_in (closed_types r) s.params) in
      let P : ClosedType → Type 0 = λ t. size t ≤ 16777216 in
      subst P same here

  pub params-small : ∥ AreWithin r ∥₁ → size (record_type (fields_of_types r (map (λ p. p.ty) s.params))) ≤ 16777216
  params-small within = ∥∥₁_elim within le_prop small-within

-- ---- how deep the types of a function nest

types-shallow : (r : Resolve) → ∥ AreWithin r ∥₁ → (ts : List ValType) → AreTypesOf r ts → fields_depth (fields_of_types r ts) ≤ 64
types-shallow r within [] known = omega arith
types-shallow r within (t ∷ ts) known =
    let parts = and_parts (is_type r.definitions t) (list_all (is_type r.definitions) ts) known in
    omega (arith, type-shallow r within t parts.0, types-shallow r within ts parts.1)

result-shallow : (r : Resolve) → ∥ AreWithin r ∥₁ → (o : Option ValType) → IfSome o (IsTypeOf r) → fields_depth (result_fields (option_map (closed_type r) o)) ≤ 64
result-shallow r within None known = omega arith
result-shallow r within (Some t) known = let h = type-shallow r within t known in omega (arith, h)

pub function-shallow : (r : Resolve) → ∥ AreWithin r ∥₁ → (f : FunctionId) → IsFunction r f → IsShallowFunction (function_type r f)
function-shallow r within f h =
    let st = stands r f h in
    let s = st.function in
    let P : Fields → Type 0 = λ ts. fields_depth ts ≤ 64 in
    let Q : Option ClosedType → Type 0 = λ o. fields_depth (result_fields o) ≤ 64 in
    record {
      params = subst P (sym (params-are r f h s st.at)) (types-shallow r within (map (λ p. p.ty) s.params) (params-known r f h s st.at));
      result = subst Q (sym (result-is r f h s st.at)) (result-shallow r within s.result (result-known r f h s st.at));
    }
