-- The flat kinds of types and the core signatures of functions, of a made layout table.
use Rattle.std.proofs.Common.{◌≡◌, inl, inr, ◌<◌, nat_le, Bool, true, false, List, [], ◌∷◌, ◌++◌, length, map, fold, get_or, if◌then◌else◌, refl, ap, sym, ◌∙◌, arith}
use Rattle.std.proofs.lemmas.List.{get_or-map}
use Rattle.canonical_abi.specs.Types.{string_type, record_type, fields_of, result_fields, FunctionType}
use Rattle.canonical_abi.specs.Layout.{field_kinds, fits_flat, passed_kinds, max_flat_params, max_flat_results, CoreSignature, lifted_signature, lowered_signature}
use Rattle.canonical_abi.specs.declared.flat.CoreKind.{CoreKind}
use Rattle.canonical_abi.specs.declared.flat.CoreKind.TheVariants.{I32}
use Rattle.tables.specs.Closed.{closed_type, closed_types, closed_params, function_type, IsFunction}
use Rattle.tables.specs.declared.tables.ValType.{ValType}
use Rattle.tables.specs.declared.tables.FunctionId.{FunctionId}
use Rattle.tables.specs.declared.tables.Definition.TheVariants as row
use Rattle.tables.specs.declared.tables.Resolve.{Resolve}
use Rattle.layout.specs.Kinds.{kinds_of, passed, append_kinds}
use Rattle.layout.specs.Layout.{row_of, result_of, layouts_of}
use Rattle.layout.specs.Rows.{rows_at}
use Rattle.layout.specs.Signature.{is_one, single_result, lifted_by, lowered_by}
use Rattle.layout.specs.declared.rows.Row.{Row}
use Rattle.layout.specs.declared.kinds.Kinds.{Kinds}
use Rattle.layout.proofs.FlatKindsCutAtSixteen.{kinds_of-flat, kinds_of-spilled, few-or-many}
use Rattle.std.proofs.lemmas.Bool.Decides.{nat_tests}
use Rattle.tables.proofs.ClosedTypesRowByRow.{length-closed_rows, stands, function-row, function-type}
use Rattle.layout.proofs.RowsOfClosedTypes.{rows_at-of, kinds-of}

pub kinds-are : (rows : List Row) (r : Resolve) (vs : List ValType) → rows ≡ (layouts_of r).rows
    → fold (λ ks r. append_kinds ks r.kinds) (kinds_of []) (rows_at rows (λ v. v) vs) ≡ kinds_of (field_kinds (fields_of (map (closed_type r) vs)))
kinds-are rows r vs e = rw e (ap (λ (rs : List Row). fold (λ ks r. append_kinds ks r.kinds) (kinds_of []) rs) (rows_at-of (closed_types r) (λ v. v) vs)
    ∙ kinds-of [] (map (closed_type r) vs))

-- ---- signatures

passed-of : (ks : List CoreKind) → passed (kinds_of ks) ≡ (if nat_le (length ks) max_flat_params then ks else (I32 ∷ []))
passed-of ks = by (nat_le (length ks) max_flat_params) refl
  where
    by : (b : Bool) → nat_le (length ks) max_flat_params ≡ b → passed (kinds_of ks) ≡ (if nat_le (length ks) max_flat_params then ks else (I32 ∷ []))
    by true e = rw e refl
    by false e = rw e refl

one-of : (ks : List CoreKind) → is_one (kinds_of ks) ≡ nat_le (length ks) max_flat_results
one-of ks = elim (few-or-many (length ks)) [
  | inl h ↦ rw (kinds_of-flat ks h) refl
  | inr h ↦ rw (kinds_of-spilled ks h) (grind (arith, nat_tests))
]

single-of : (ks : List CoreKind) → single_result (kinds_of ks) ≡ (if nat_le (length ks) max_flat_results then ks else (I32 ∷ []))
single-of ks = elim (few-or-many (length ks)) [
  | inl h ↦ rw (kinds_of-flat ks h) refl
  | inr h ↦ rw (kinds_of-spilled ks h) (grind (arith, nat_tests))
]

-- what the table has of a function
pub record AreKinds (r : Resolve) (f : FunctionId) (params results : Kinds) : Type 0 where
  pub taken : params ≡ kinds_of (field_kinds (function_type r f).params)
  pub answered : results ≡ kinds_of (field_kinds (result_fields (function_type r f).result))

-- how the parameters of a function are passed
pub params-are : (rows : List Row) (r : Resolve) (f : FunctionId) (x : Row) → rows ≡ (layouts_of r).rows → x ≡ get_or rows f.0 x → IsFunction r f
    → passed x.kinds ≡ (lifted_signature (function_type r f)).params
params-are rows r f x rows_are x_is h =
    let s = stands r f h in
    let ts = closed_types r in
    let here : f.0 < length ts = omega (arith, length-closed_rows [] r.definitions, s.in_range) in
    let row_is : x ≡ row_of (record_type (fields_of (closed_params ts s.function.params))) =
    x_is ∙ ap (λ (rs : List Row). get_or rs f.0 x) rows_are ∙ get_or-map row_of ts f.0 string_type x here ∙ ap row_of (function-row r f s) in
    let taken = ap (λ (y : Row). y.kinds) row_is ∙ ap (λ (g : FunctionType). kinds_of (field_kinds g.params)) (sym (function-type r f s)) in
    ap passed taken ∙ passed-of (field_kinds (function_type r f).params)

pub are-kinds : (rows : List Row) (results : List Kinds) (r : Resolve) (f : FunctionId) (x : Row) (k : Kinds) → rows ≡ (layouts_of r).rows → results ≡ (layouts_of r).results
    → x ≡ get_or rows f.0 x → k ≡ get_or results f.0 k → IsFunction r f → AreKinds r f x.kinds k
are-kinds rows results r f x k rows_are results_are x_is k_is h =
    let s = stands r f h in
    let ts = closed_types r in
    let d = row.Function s.function in
    let here : f.0 < length ts = omega (arith, length-closed_rows [] r.definitions, s.in_range) in
    let row_is : x ≡ row_of (record_type (fields_of (closed_params ts s.function.params))) =
    x_is ∙ ap (λ (rs : List Row). get_or rs f.0 x) rows_are ∙ get_or-map row_of ts f.0 string_type x here ∙ ap row_of (function-row r f s) in
    let result_is : k ≡ result_of ts d =
    k_is ∙ ap (λ (ks : List Kinds). get_or ks f.0 k) results_are ∙ get_or-map (result_of ts) r.definitions f.0 d k s.in_range ∙ ap (result_of ts) (s.is d) in
    let of_type = sym (function-type r f s) in
    record {
      taken = ap (λ (y : Row). y.kinds) row_is ∙ ap (λ (g : FunctionType). kinds_of (field_kinds g.params)) of_type;
      answered = result_is ∙ ap (λ (g : FunctionType). kinds_of (field_kinds (result_fields g.result))) of_type;
    }

pub lifted-is : (r : Resolve) (f : FunctionId) (params results : Kinds) → AreKinds r f params results → lifted_by params results ≡ lifted_signature (function_type r f)
lifted-is r f params results h =
    let g = function_type r f in
    let ps : passed params ≡ passed_kinds max_flat_params g.params = ap passed h.taken ∙ passed-of (field_kinds g.params) in
    let rs : single_result results ≡ passed_kinds max_flat_results (result_fields g.result) = ap single_result h.answered ∙ single-of (field_kinds (result_fields g.result)) in
    ap (λ (ks : List CoreKind). signature ks (single_result results)) ps ∙ ap (signature (passed_kinds max_flat_params g.params)) rs
  where
    signature : List CoreKind → List CoreKind → CoreSignature
    signature ps rs = record { params = ps; results = rs }

pub lowered-is : (r : Resolve) (f : FunctionId) (params results : Kinds) → AreKinds r f params results → lowered_by params results ≡ lowered_signature (function_type r f)
lowered-is r f params results h =
    let g = function_type r f in
    let fits : is_one results ≡ fits_flat max_flat_results (result_fields g.result) = ap is_one h.answered ∙ one-of (field_kinds (result_fields g.result)) in
    let lifted = lifted-is r f params results h in
    let ps : passed params ≡ (lifted_signature g).params = ap (λ (s : CoreSignature). s.params) lifted in
    ap (λ (b : Bool). pick b (lifted_by params results) (passed params)) fits
    ∙ ap (λ (s : CoreSignature). pick (fits_flat max_flat_results (result_fields g.result)) s (passed params)) lifted
    ∙ ap (λ (ks : List CoreKind). pick (fits_flat max_flat_results (result_fields g.result)) (lifted_signature g) ks) ps
  where
    pick : Bool → CoreSignature → List CoreKind → CoreSignature
    pick b s ks = if b then s else record { params = ks ++ I32 ∷ []; results = [] }
