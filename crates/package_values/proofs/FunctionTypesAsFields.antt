-- The types of a function, as the fields of records.
use Rattle.std.proofs.Common.{◌≡◌, ◌≤◌, true, List, [], ◌∷◌, Option, Some, None, map, refl, sym, ap, ◌∙◌, subst, arith}
use Rattle.std.specs.Prelude.{IsTrue, slice_get}
use Rattle.std.proofs.lemmas.Bool.{and_parts, false≢true, leb-true}
use Rattle.std.proofs.lemmas.List.{length-map}
use Rattle.std.proofs.lemmas.List.Folds.{list_all-map}
use Rattle.canonical_abi.specs.Types.{ClosedType, fields_of, record_type}
use Rattle.canonical_abi.specs.Layout.{size}
use Rattle.layout.specs.Layout.{AreWithin}
use Rattle.tables.specs.Closed.{closed_val, closed_types, closed_params, function_at, function_type, type_of_function, is_scalar_type, is_scalar_function, IsFunction, IsScalarFunction}
use Rattle.tables.specs.Same.{IsSamePackage}
use Rattle.tables.specs.Tables.{function_of, is_there}
use Rattle.tables.specs.declared.tables.Function.{Function}
use Rattle.tables.specs.declared.tables.FunctionId.{FunctionId}
use Rattle.tables.specs.declared.tables.Parameter.{Parameter}
use Rattle.tables.specs.declared.tables.Resolve.{Resolve}
use Rattle.tables.specs.declared.tables.ValType.{ValType}
use Rattle.values.specs.Members.{fields_of_types, AreTypesOf}
use Rattle.values.specs.Scalars.{AreScalar}
use Rattle.adapter.proofs.FunctionsInLayouts.{params-known, params-small}
use Rattle.adapter.specs.Signature.{function_signature}

-- the same package has the same functions
pub same_function : (a b : Resolve) (f : FunctionId) → IsSamePackage a b → function_type b f ≡ function_type a f
same_function a b f same = cc

pub same_is_function : (a b : Resolve) (f : FunctionId) → IsSamePackage a b → IsFunction b f → IsFunction a f
same_is_function a b f same h = subst (λ ds. IsTrue (is_there (function_of (slice_get ds f.0)))) (sym same.definitions) h

-- ---- parameters

-- what every function of a place says of its parameters' types
pub own_params : (o : Option Function) (xs : List ValType) → IsTrue (is_there o) → ((f : Function) → o ≡ Some f → xs ≡ map (λ p. p.ty) f.params)
    → xs ≡ (function_signature o).params
own_params None xs there h = absurd (false≢true there)
own_params (Some f) xs there h = h f refl

params_closed : (rows : List ClosedType) (ps : List Parameter) → map (closed_val rows) (map (λ p. p.ty) ps) ≡ closed_params rows ps
params_closed rows [] = refl
params_closed rows (p ∷ ps) = ap (λ ts. closed_val rows p.ty ∷ ts) (params_closed rows ps)

fields_are : (rows : List ClosedType) (o : Option Function)
    → fields_of (map (closed_val rows) (function_signature o).params) ≡ (type_of_function rows o).params
fields_are rows None = refl
fields_are rows (Some s) = ap fields_of (params_closed rows s.params)

pub params_are_fields : (r : Resolve) (f : FunctionId) → fields_of_types r (function_signature (function_at r f)).params ≡ (function_type r f).params
params_are_fields r f = fields_are (closed_types r) (function_at r f)

pub params_are_known : (r : Resolve) (f : FunctionId) → IsFunction r f → AreTypesOf r (function_signature (function_at r f)).params
params_are_known r f h = by (function_at r f) refl
  where
    by : (o : Option Function) → function_at r f ≡ o → AreTypesOf r (function_signature o).params
    by None is = refl
    by (Some s) is = params-known r f h s is

pub params_are_small : (r : Resolve) (f : FunctionId) → IsFunction r f → ∥ AreWithin r ∥₁
    → size (record_type (fields_of_types r (function_signature (function_at r f)).params)) ≤ 16777216
params_are_small r f h within = by (function_at r f) refl
  where
    by : (o : Option Function) → function_at r f ≡ o → size (record_type (fields_of_types r (function_signature o).params)) ≤ 16777216
    by None is = omega arith
    by (Some s) is = params-small r f h s is within

scalar_params : (o : Option Function) → is_scalar_function o ≡ true → AreScalar (function_signature o).params
scalar_params None h = record { few = omega arith; primitive = refl }
scalar_params (Some s) h =
    let few = and_parts _ _ h in
    record {
      few = rw length-map (leb-true _ _ few.0);
      primitive = list_all-map is_scalar_type (λ p. p.ty) s.params ∙ (and_parts _ _ few.1).0;
    }

pub params_are_scalar : (r : Resolve) (f : FunctionId) → IsScalarFunction r f → AreScalar (function_signature (function_at r f)).params
params_are_scalar r f h = scalar_params (function_at r f) h
