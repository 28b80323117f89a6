-- The closed types of a table, row by row.
use Rattle.std.proofs.Common.{◌≡◌, ℕ, zero, suc, ◌+◌, ◌<◌, ◌≤◌, Bool, true, false, ◌&&◌, IsTrue, List, [], ◌∷◌, ◌++◌, length, take, drop, get_or, slice_get, Option, Some, None, refl, ap, sym, subst, ◌∙◌, arith}
use Rattle.std.proofs.lemmas.List.{length-append, length-take, get_or_append_left, take-append-drop, get_or_at}
use Rattle.std.proofs.lemmas.Grind.{take_at_read}
use Rattle.std.proofs.lemmas.Bool.{ltb-true, lt-ltb}
use Rattle.std.specs.List.{list_all}
use Rattle.canonical_abi.specs.Types.{ClosedType, string_type, record_type, fields_of}
use Rattle.tables.specs.Tables.{is_below, option_below, definition_below, are_earlier, function_of, is_there}
use Rattle.tables.specs.Closed.{closed_val, closed_params, closed_definition, closed_rows, closed_types, function_at, IsFunction, function_type, type_of_function}
use Rattle.tables.specs.declared.tables.ValType.{ValType}
use Rattle.tables.specs.declared.tables.ValType.TheVariants as val
use Rattle.tables.specs.declared.tables.Parameter.{Parameter}
use Rattle.tables.specs.declared.tables.Function.{Function}
use Rattle.tables.specs.declared.tables.FunctionId.{FunctionId}
use Rattle.tables.specs.declared.tables.Definition.{Definition}
use Rattle.tables.specs.declared.tables.Definition.TheVariants as row
use Rattle.tables.specs.declared.tables.Resolve.{Resolve}

pub split : (a b : Bool) → IsTrue (a && b) → IsTrue a × IsTrue b
split true b h = (refl, h)
split false b h = absurd (cc)

pub both : (a b : Bool) → IsTrue a → IsTrue b → IsTrue (a && b)
both a b p q = rw (p, q) refl

pub earlier-at : (n : ℕ) (ds : List Definition) (i : ℕ) (d : Definition) → IsTrue (are_earlier n ds) → i < length ds → IsTrue (definition_below (n + i) (get_or ds i d))
earlier-at n [] i d h q = absurd (omega arith)
earlier-at n (e ∷ ds) zero d h q = let e0 : n + 0 ≡ n = omega arith in rw e0 (split (definition_below n e) (are_earlier (n + 1) ds) h).0
earlier-at n (e ∷ ds) (suc i) d h q =
    let e1 : n + suc i ≡ n + 1 + i = omega arith in
    rw e1 (earlier-at (n + 1) ds i d (split (definition_below n e) (are_earlier (n + 1) ds) h).1 (omega arith))

pub below-at : (n : ℕ) (ds : List Definition) (i : ℕ) (d : Definition) → IsTrue (are_earlier 0 ds) → i < length ds → n ≡ i → d ≡ get_or ds i d → IsTrue (definition_below n d)
below-at n ds i d h q same is =
    let at : 0 + i ≡ n = omega arith in
    let here : IsTrue (definition_below n (get_or ds i d)) = rw at at (earlier-at 0 ds i d h q) in
    subst (λ (e : Definition). IsTrue (definition_below n e)) (sym is) here

pub length-closed_rows : (ts : List ClosedType) (ds : List Definition) → length (closed_rows ts ds) ≡ length ts + length ds
length-closed_rows ts [] = omega arith
length-closed_rows ts (d ∷ ds) =
    let rest = length-closed_rows (ts ++ closed_definition ts d ∷ []) ds in
    omega (arith, length-append ts (closed_definition ts d ∷ []))

pub closed_rows-append : (ts : List ClosedType) (ds es : List Definition) → closed_rows ts (ds ++ es) ≡ closed_rows (closed_rows ts ds) es
closed_rows-append ts [] es = refl
closed_rows-append ts (d ∷ ds) es = closed_rows-append (ts ++ closed_definition ts d ∷ []) ds es

-- a row stands as it was made
pub closed_rows-front : (ts : List ClosedType) (ds : List Definition) (k : ℕ) (t : ClosedType) → k < length ts → get_or (closed_rows ts ds) k t ≡ get_or ts k t
closed_rows-front ts [] k t h = refl
closed_rows-front ts (d ∷ ds) k t h =
    closed_rows-front (ts ++ closed_definition ts d ∷ []) ds k t (omega (arith, length-append ts (closed_definition ts d ∷ [])))
    ∙ get_or_append_left ts (closed_definition ts d ∷ []) t k h

pub closed_rows-more : (ds : List Definition) (i : ℕ) (d : Definition) → i < length ds
    → closed_rows [] (take (i + 1) ds) ≡ closed_rows [] (take i ds) ++ closed_definition (closed_rows [] (take i ds)) (get_or ds i d) ∷ []
closed_rows-more ds i d h = rw ((take_at_read ds i d h).1) (closed_rows-append [] (take i ds) (get_or ds i d ∷ []))

pub length-front : (ds : List Definition) (i : ℕ) → i ≤ length ds → length (closed_rows [] (take i ds)) ≡ i
length-front ds i h = omega (arith, length-closed_rows [] (take i ds), length-take i ds)

-- what the first rows have, the table has
pub closed-front : (ds : List Definition) (i k : ℕ) → i ≤ length ds → k < i → get_or (closed_rows [] ds) k string_type ≡ get_or (closed_rows [] (take i ds)) k string_type
closed-front ds i k h q =
    let whole : closed_rows [] ds ≡ closed_rows (closed_rows [] (take i ds)) (drop i ds) =
    ap (λ (es : List Definition). closed_rows [] es) (sym (take-append-drop i ds)) ∙ closed_rows-append [] (take i ds) (drop i ds) in
    let within : k < length (closed_rows [] (take i ds)) = omega (arith, length-front ds i h) in
    rw whole (closed_rows-front (closed_rows [] (take i ds)) (drop i ds) k string_type within)

-- row k is the definition's closed type by the rows before it
pub closed-at : (ds : List Definition) (k : ℕ) (d : Definition) → k < length ds
    → get_or (closed_rows [] ds) k string_type ≡ closed_definition (closed_rows [] (take k ds)) (get_or ds k d)
closed-at ds k d h =
    let ts = closed_rows [] (take k ds) in
    closed-front ds (k + 1) k (omega arith) (omega arith)
    ∙ ap (λ (us : List ClosedType). get_or us k string_type) (closed_rows-more ds k d h)
    ∙ get_or_at ts (closed_definition ts (get_or ds k d)) [] string_type k (omega (arith, length-front ds k (omega arith)))

-- ---- what a row names is in the rows before it, and stays as it is

pub is_below-later : (n m : ℕ) (v : ValType) → n ≤ m → IsTrue (is_below n v) → IsTrue (is_below m v)
is_below-later n m (val.Primitive p) h b = refl
is_below-later n m val.String h b = refl
is_below-later n m (val.Id t) h b = lt-ltb t.0 m (omega (arith, ltb-true t.0 n b))

pub option_below-later : (n m : ℕ) (v : Option ValType) → n ≤ m → IsTrue (option_below n v) → IsTrue (option_below m v)
option_below-later n m None h b = refl
option_below-later n m (Some v) h b = is_below-later n m v h b

pub closed_val-stays : (ds : List Definition) (k : ℕ) (v : ValType) → k ≤ length ds → IsTrue (is_below k v) → closed_val (closed_rows [] (take k ds)) v ≡ closed_val (closed_rows [] ds) v
closed_val-stays ds k (val.Primitive p) h b = refl
closed_val-stays ds k val.String h b = refl
closed_val-stays ds k (val.Id t) h b = sym (closed-front ds k t.0 h (ltb-true t.0 k b))

pub closed_params-stay : (ds : List Definition) (k : ℕ) (ps : List Parameter) → k ≤ length ds → IsTrue (list_all (λ p. is_below k p.ty) ps)
    → closed_params (closed_rows [] (take k ds)) ps ≡ closed_params (closed_rows [] ds) ps
closed_params-stay ds k [] h b = refl
closed_params-stay ds k (p ∷ ps) h b =
    let bs = split (is_below k p.ty) (list_all (λ p. is_below k p.ty) ps) b in
    rw (closed_val-stays ds k p.ty h bs.0, closed_params-stay ds k ps h bs.1) refl

-- ---- functions

pub get-at : (ds : List Definition) (k : ℕ) (d : Definition) → slice_get ds k ≡ Some d → (k < length ds) × ((x : Definition) → get_or ds k x ≡ d)
get-at [] k d e = absurd (cc)
get-at (x ∷ ds) zero d e = (omega arith, λ y. cc)
get-at (x ∷ ds) (suc k) d e = let rest = get-at ds k d e in (omega (arith, rest.0), rest.1)

-- the function that stands at a place
pub record RowStands (r : Resolve) (f : FunctionId) : Type 0 where
  pub function : Function
  pub in_range : f.0 < length r.definitions
  pub is : (d : Definition) → get_or r.definitions f.0 d ≡ row.Function function
  pub at : function_at r f ≡ Some function

pub stands : (r : Resolve) (f : FunctionId) → IsFunction r f → RowStands r f
stands r f h = by (slice_get r.definitions f.0) refl h
  where
    by : (o : Option Definition) → slice_get r.definitions f.0 ≡ o → IsTrue (is_there (function_of o)) → RowStands r f
    by None e q = absurd (cc)
    by (Some (row.Type d)) e q = absurd (cc)
    by (Some (row.Function g)) e q =
        let at = get-at r.definitions f.0 (row.Function g) e in
        record { function = g; in_range = at.0; is = at.1; at = ap function_of e }

-- a function's row is the record of its parameters
pub function-row : (r : Resolve) (f : FunctionId) (s : RowStands r f) → get_or (closed_types r) f.0 string_type ≡ record_type (fields_of (closed_params (closed_types r) s.function.params))
function-row r f s =
    let d = row.Function s.function in
    let below : IsTrue (definition_below (0 + f.0) d) = subst (λ (e : Definition). IsTrue (definition_below (0 + f.0) e)) (s.is d) (earlier-at 0 r.definitions f.0 d r.earlier s.in_range) in
    let same : 0 + f.0 ≡ f.0 = omega arith in
    let here : IsTrue (definition_below f.0 d) = rw same at below in
    closed-at r.definitions f.0 d s.in_range
    ∙ ap (closed_definition (closed_rows [] (take f.0 r.definitions))) (s.is d)
    ∙ ap (λ (ts : List ClosedType). record_type (fields_of ts))
    (closed_params-stay r.definitions f.0 s.function.params (omega (arith, s.in_range)) (split (list_all (λ p. is_below f.0 p.ty) s.function.params) (option_below f.0 s.function.result) here).0)

-- the closed types of the function at this place
pub function-type : (r : Resolve) (f : FunctionId) (s : RowStands r f) → function_type r f ≡ type_of_function (closed_types r) (Some s.function)
function-type r f s = ap (type_of_function (closed_types r)) s.at
