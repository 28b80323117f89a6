-- Rows behind a table: what is asked of the rows that were there is answered as before.
use Rattle.std.proofs.Common.{◌≡◌, ◌<◌, ◌+◌, ℕ, true, List, [], ◌∷◌, ◌++◌, length, get_or, slice_get, Option, None, Some, refl, ap, sym, ◌∙◌, arith}
use Rattle.std.specs.List.{list_all}
use Rattle.std.specs.Option.{option_map}
use Rattle.std.specs.Prelude.{IsTrue}
use Rattle.std.proofs.lemmas.List.{get_or_append_left, length-append}
use Rattle.std.proofs.lemmas.Bool.{ltb-true, lt-ltb}
use Rattle.std.proofs.lemmas.Option.{slice_get_within}
use Rattle.canonical_abi.specs.Types.{ClosedType, string_type}
use Rattle.canonical_abi.specs.Labelled.{LabelledType, labelled_string}
use Rattle.package_sets.proofs.GrowingLists.{front-get}
use Rattle.tables.specs.Closed.{IsFunction, closed_params, closed_rows, closed_types, closed_val, function_at, function_type, type_of_function}
use Rattle.tables.specs.Labelled.{labelled_definition, labelled_rows, labelled_types, labelled_val}
use Rattle.tables.specs.Standard.{IsTypeOf}
use Rattle.tables.specs.Tables.{definition_below, function_of, is_below, is_there, option_all, type_of}
use Rattle.tables.proofs.ClosedTypesRowByRow.{closed_rows-append, closed_rows-front, earlier-at, length-closed_rows, split, stands}
use Rattle.tables.specs.declared.tables.Definition.{Definition}
use Rattle.tables.specs.declared.tables.Definition.TheVariants as row
use Rattle.tables.specs.declared.tables.FunctionId.{FunctionId}
use Rattle.tables.specs.declared.tables.Parameter.{Parameter}
use Rattle.tables.specs.declared.tables.Resolve.{Resolve}
use Rattle.tables.specs.declared.tables.ValType.{ValType}
use Rattle.tables.specs.declared.tables.ValType.TheVariants as val
use Rattle.opening.specs.Stays.{HasRowsBehind, RowsStay}

-- ---- labelled types, as closed types

length-labelled : (ts : List LabelledType) (ds : List Definition) → length (labelled_rows ts ds) ≡ length ts + length ds
length-labelled ts [] = omega arith
length-labelled ts (d ∷ ds) =
    let rest = length-labelled (ts ++ labelled_definition ts d ∷ []) ds in
    omega (arith, length-append ts (labelled_definition ts d ∷ []))

labelled-append : (ts : List LabelledType) (ds es : List Definition) → labelled_rows ts (ds ++ es) ≡ labelled_rows (labelled_rows ts ds) es
labelled-append ts [] es = refl
labelled-append ts (d ∷ ds) es = labelled-append (ts ++ labelled_definition ts d ∷ []) ds es

labelled-front : (ts : List LabelledType) (ds : List Definition) (k : ℕ) (t : LabelledType) → k < length ts → get_or (labelled_rows ts ds) k t ≡ get_or ts k t
labelled-front ts [] k t h = refl
labelled-front ts (d ∷ ds) k t h =
    labelled-front (ts ++ labelled_definition ts d ∷ []) ds k t (omega (arith, length-append ts (labelled_definition ts d ∷ [])))
    ∙ get_or_append_left ts (labelled_definition ts d ∷ []) t k h

-- ---- both

module _ (old new : Resolve) (h : HasRowsBehind old new) where
  within : (v : ValType) → IsTypeOf old v → is_below (length old.definitions) v ≡ true
  within (val.Primitive p) t = refl
  within val.String t = refl
  within (val.Id i) t = lt-ltb i.0 (length old.definitions) (by (slice_get old.definitions i.0) refl t)
    where
      by : (o : Option Definition) → slice_get old.definitions i.0 ≡ o → IsTrue (is_there (type_of o)) → i.0 < length old.definitions
      by None e q = absurd cc
      by (Some d) e q = slice_get_within old.definitions i.0 d e

  val-stays : (v : ValType) → is_below (length old.definitions) v ≡ true → closed_val (closed_types new) v ≡ closed_val (closed_types old) v
  val-stays (val.Primitive p) b = refl
  val-stays val.String b = refl
  val-stays (val.Id i) b =
      let l : i.0 < length (closed_rows [] old.definitions) = omega (arith, ltb-true i.0 (length old.definitions) b, length-closed_rows [] old.definitions) in
      ap (λ (ds : List Definition). get_or (closed_rows [] ds) i.0 string_type) h.1
      ∙ (ap (λ (ts : List ClosedType). get_or ts i.0 string_type) (closed_rows-append [] old.definitions h.0) ∙ closed_rows-front (closed_rows [] old.definitions) h.0 i.0 string_type l)

  label-stays : (v : ValType) → is_below (length old.definitions) v ≡ true → labelled_val (labelled_types new) v ≡ labelled_val (labelled_types old) v
  label-stays (val.Primitive p) b = refl
  label-stays val.String b = refl
  label-stays (val.Id i) b =
      let l : i.0 < length (labelled_rows [] old.definitions) = omega (arith, ltb-true i.0 (length old.definitions) b, length-labelled [] old.definitions) in
      ap (λ (ds : List Definition). get_or (labelled_rows [] ds) i.0 labelled_string) h.1
      ∙ (ap (λ (ts : List LabelledType). get_or ts i.0 labelled_string) (labelled-append [] old.definitions h.0) ∙ labelled-front (labelled_rows [] old.definitions) h.0 i.0 labelled_string l)

  params-stay : (ps : List Parameter) → list_all (λ p. is_below (length old.definitions) p.ty) ps ≡ true → closed_params (closed_types new) ps ≡ closed_params (closed_types old) ps
  params-stay [] b = refl
  params-stay (p ∷ ps) b =
      let s = split (is_below (length old.definitions) p.ty) (list_all (λ p. is_below (length old.definitions) p.ty) ps) b in
      rw (val-stays p.ty s.0, params-stay ps s.1) refl

  result-stays : (v : Option ValType) → option_all (is_below (length old.definitions)) v ≡ true → option_map (closed_val (closed_types new)) v ≡ option_map (closed_val (closed_types old)) v
  result-stays None b = refl
  result-stays (Some v) b = ap Some (val-stays v b)

  later : (n m : ℕ) → n < m → (v : ValType) → is_below n v ≡ true → is_below m v ≡ true
  later n m l (val.Primitive p) b = refl
  later n m l val.String b = refl
  later n m l (val.Id t) b = lt-ltb t.0 m (omega (arith, l, ltb-true t.0 n b))

  all-later : (n m : ℕ) → n < m → (ps : List Parameter) → list_all (λ p. is_below n p.ty) ps ≡ true → list_all (λ p. is_below m p.ty) ps ≡ true
  all-later n m l [] b = refl
  all-later n m l (p ∷ ps) b =
      let s = split (is_below n p.ty) (list_all (λ p. is_below n p.ty) ps) b in
      rw (later n m l p.ty s.0, all-later n m l ps s.1) refl

  some-later : (n m : ℕ) → n < m → (v : Option ValType) → option_all (is_below n) v ≡ true → option_all (is_below m) v ≡ true
  some-later n m l None b = refl
  some-later n m l (Some v) b = later n m l v b

  function-stays : (f : FunctionId) → IsFunction old f → function_at new f ≡ function_at old f
  function-stays f i =
      let s = stands old f i in
      ap (λ (ds : List Definition). function_of (slice_get ds f.0)) h.1 ∙ by (slice_get old.definitions f.0) refl i
    where
      by : (o : Option Definition) → slice_get old.definitions f.0 ≡ o → IsTrue (is_there (function_of o)) → function_of (slice_get (old.definitions ++ h.0) f.0) ≡ function_of (slice_get old.definitions f.0)
      by None e q = absurd cc
      by (Some d) e q = ap function_of (front-get old.definitions h.0 f.0 d e) ∙ sym (ap function_of e)

  signature-stays : (f : FunctionId) → IsFunction old f → function_type new f ≡ function_type old f
  signature-stays f i =
      let s = stands old f i in
      let d = row.Function s.function in
      let n = f.0 in
      let m = length old.definitions in
      let here : definition_below (0 + n) d ≡ true = sym (ap (definition_below (0 + n)) (s.is d)) ∙ earlier-at 0 old.definitions n d old.earlier s.in_range in
      let same : 0 + n ≡ n = omega arith in
      let below = split (list_all (λ p. is_below n p.ty) s.function.params) (option_all (is_below n) s.function.result) (rw same at here) in
      let ps = params-stay s.function.params (all-later n m s.in_range s.function.params below.0) in
      let result = result-stays s.function.result (some-later n m s.in_range s.function.result below.1) in
      let told : type_of_function (closed_types new) (Some s.function) ≡ type_of_function (closed_types old) (Some s.function) = rw (ps, result) refl in
      ap (type_of_function (closed_types new)) (function-stays f i ∙ s.at) ∙ (told ∙ sym (ap (type_of_function (closed_types old)) s.at))

pub rows-stay : (old new : Resolve) → RowsStay old new
rows-stay old new h = record {
  types = λ v t. val-stays old new h v (within old new h v t);
  labelled = λ v t. label-stays old new h v (within old new h v t);
  functions = function-stays old new h;
  signatures = signature-stays old new h;
}
