-- The labelled types of a table, row by row.
use Rattle.std.proofs.Common.{◌≡◌, ℕ, zero, suc, ◌+◌, ◌<◌, ◌≤◌, Bool, IsTrue, List, [], ◌∷◌, ◌++◌, length, take, drop, get_or, slice_get, Option, Some, None, refl, ap, sym, subst, ◌∙◌, arith}
use Rattle.std.proofs.lemmas.List.{length-append, length-take, get_or_append_left, take-append-drop, get_or_at}
use Rattle.std.proofs.lemmas.Grind.{take_at_read}
use Rattle.std.proofs.lemmas.Bool.{ltb-true}
use Rattle.std.specs.List.{list_all}
use Rattle.canonical_abi.specs.Labelled.{LabelledType, labelled_string}
use Rattle.tables.specs.Tables.{is_below, option_all, kind_all, kind_below, definition_all, definition_below, are_earlier, is_there, type_of, is_type, is_type_id, is_standard, is_standard_kind}
use Rattle.tables.specs.declared.tables.TypeId.{TypeId}
use Rattle.tables.specs.declared.tables.ValType.{ValType}
use Rattle.tables.specs.declared.tables.ValType.TheVariants as val
use Rattle.tables.specs.declared.tables.TypeDefKind.{TypeDefKind}
use Rattle.tables.specs.declared.tables.TypeDefKind.TheVariants as kind
use Rattle.tables.specs.declared.tables.Field.{Field}
use Rattle.tables.specs.declared.tables.Case.{Case}
use Rattle.tables.specs.declared.tables.TypeDef.{TypeDef}
use Rattle.tables.specs.declared.tables.Definition.{Definition}
use Rattle.tables.specs.declared.tables.Definition.TheVariants as row
use Rattle.tables.specs.declared.tables.Resolve.{Resolve}
use Rattle.tables.proofs.ClosedTypesRowByRow.{split, earlier-at}
use Rattle.tables.specs.Labelled.{labelled_val, labelled_payload, labelled_members, labelled_fields, labelled_cases, labelled_kind, labelled_definition, labelled_rows, labelled_types}

length-rows : (ts : List LabelledType) (ds : List Definition) → length (labelled_rows ts ds) ≡ length ts + length ds
length-rows ts [] = omega arith
length-rows ts (d ∷ ds) =
    let rest = length-rows (ts ++ labelled_definition ts d ∷ []) ds in
    omega (arith, length-append ts (labelled_definition ts d ∷ []))

rows-append : (ts : List LabelledType) (ds es : List Definition) → labelled_rows ts (ds ++ es) ≡ labelled_rows (labelled_rows ts ds) es
rows-append ts [] es = refl
rows-append ts (d ∷ ds) es = rows-append (ts ++ labelled_definition ts d ∷ []) ds es

rows-front : (ts : List LabelledType) (ds : List Definition) (k : ℕ) (t : LabelledType) → k < length ts → get_or (labelled_rows ts ds) k t ≡ get_or ts k t
rows-front ts [] k t h = refl
rows-front ts (d ∷ ds) k t h =
    rows-front (ts ++ labelled_definition ts d ∷ []) ds k t (omega (arith, length-append ts (labelled_definition ts d ∷ [])))
    ∙ get_or_append_left ts (labelled_definition ts d ∷ []) t k h

rows-more : (ds : List Definition) (i : ℕ) (d : Definition) → i < length ds
    → labelled_rows [] (take (i + 1) ds) ≡ labelled_rows [] (take i ds) ++ labelled_definition (labelled_rows [] (take i ds)) (get_or ds i d) ∷ []
rows-more ds i d h = rw ((take_at_read ds i d h).1) (rows-append [] (take i ds) (get_or ds i d ∷ []))

length-front : (ds : List Definition) (i : ℕ) → i ≤ length ds → length (labelled_rows [] (take i ds)) ≡ i
length-front ds i h = omega (arith, length-rows [] (take i ds), length-take i ds)

front : (ds : List Definition) (i k : ℕ) → i ≤ length ds → k < i → get_or (labelled_rows [] ds) k labelled_string ≡ get_or (labelled_rows [] (take i ds)) k labelled_string
front ds i k h q =
    let whole : labelled_rows [] ds ≡ labelled_rows (labelled_rows [] (take i ds)) (drop i ds) =
    ap (λ (es : List Definition). labelled_rows [] es) (sym (take-append-drop i ds)) ∙ rows-append [] (take i ds) (drop i ds) in
    let within : k < length (labelled_rows [] (take i ds)) = omega (arith, length-front ds i h) in
    rw whole (rows-front (labelled_rows [] (take i ds)) (drop i ds) k labelled_string within)

row-at : (ds : List Definition) (k : ℕ) (d : Definition) → k < length ds
    → get_or (labelled_rows [] ds) k labelled_string ≡ labelled_definition (labelled_rows [] (take k ds)) (get_or ds k d)
row-at ds k d h =
    let ts = labelled_rows [] (take k ds) in
    front ds (k + 1) k (omega arith) (omega arith)
    ∙ ap (λ (us : List LabelledType). get_or us k labelled_string) (rows-more ds k d h)
    ∙ get_or_at ts (labelled_definition ts (get_or ds k d)) [] labelled_string k (omega (arith, length-front ds k (omega arith)))

-- ---- what a row names stays as it is

module _ (ds : List Definition) (k : ℕ) (h : k ≤ length ds) where
  val-stays : (v : ValType) → IsTrue (is_below k v) → labelled_val (labelled_rows [] (take k ds)) v ≡ labelled_val (labelled_rows [] ds) v
  val-stays (val.Primitive p) b = refl
  val-stays val.String b = refl
  val-stays (val.Id t) b = sym (front ds k t.0 h (ltb-true t.0 k b))

  payload-stays : (v : Option ValType) → IsTrue (option_all (is_below k) v) → labelled_payload (labelled_rows [] (take k ds)) v ≡ labelled_payload (labelled_rows [] ds) v
  payload-stays None b = refl
  payload-stays (Some v) b = rw (val-stays v b) refl

  members-stay : (vs : List ValType) → IsTrue (list_all (is_below k) vs) → labelled_members (labelled_rows [] (take k ds)) vs ≡ labelled_members (labelled_rows [] ds) vs
  members-stay [] b = refl
  members-stay (v ∷ vs) b =
      let bs = split (is_below k v) (list_all (is_below k) vs) b in
      rw (val-stays v bs.0, members-stay vs bs.1) refl

  fields-stay : (fs : List Field) → IsTrue (list_all (λ f. is_below k f.ty) fs) → labelled_fields (labelled_rows [] (take k ds)) fs ≡ labelled_fields (labelled_rows [] ds) fs
  fields-stay [] b = refl
  fields-stay (f ∷ fs) b =
      let bs = split (is_below k f.ty) (list_all (λ f. is_below k f.ty) fs) b in
      rw (val-stays f.ty bs.0, fields-stay fs bs.1) refl

  cases-stay : (cs : List Case) → IsTrue (list_all (λ c. option_all (is_below k) c.ty) cs) → labelled_cases (labelled_rows [] (take k ds)) cs ≡ labelled_cases (labelled_rows [] ds) cs
  cases-stay [] b = refl
  cases-stay (c ∷ cs) b =
      let bs = split (option_all (is_below k) c.ty) (list_all (λ c. option_all (is_below k) c.ty) cs) b in
      rw (payload-stays c.ty bs.0, cases-stay cs bs.1) refl

  kind-stays : (x : TypeDefKind) → IsTrue (kind_below k x) → labelled_kind (labelled_rows [] (take k ds)) x ≡ labelled_kind (labelled_rows [] ds) x
  kind-stays (kind.Use t) b = val-stays (val.Id t) b
  kind-stays (kind.Alias v) b = val-stays v b
  kind-stays (kind.List v) b = rw (val-stays v b) refl
  kind-stays (kind.Option v) b = rw (val-stays v b) refl
  kind-stays (kind.Result v w) b =
      let bs = split (option_all (is_below k) v) (option_all (is_below k) w) b in
      rw (payload-stays v bs.0, payload-stays w bs.1) refl
  kind-stays (kind.Tuple vs) b = rw (members-stay vs b) refl
  kind-stays (kind.Record fs) b = rw (fields-stay fs b) refl
  kind-stays (kind.Variant cs) b = rw (cases-stay cs b) refl
  kind-stays (kind.Enum names) b = refl
  kind-stays (kind.Flags names) b = refl

-- a row that is a type is its kind, over the whole table
pub kind-at : (r : Resolve) (i : ℕ) (d : TypeDef) → IsTrue (are_earlier 0 r.definitions) → i < length r.definitions → get_or r.definitions i (row.Type d) ≡ row.Type d
    → (get_or (labelled_types r) i labelled_string ≡ labelled_kind (labelled_types r) d.kind) × IsTrue (kind_below i d.kind)
kind-at r i d earlier h is =
    let ds = r.definitions in
    let zero_plus : 0 + i ≡ i = omega arith in
    let here : IsTrue (definition_below i (get_or ds i (row.Type d))) =
    subst (λ n. IsTrue (definition_below n (get_or ds i (row.Type d)))) zero_plus (earlier-at 0 ds i (row.Type d) earlier h) in
    let below : IsTrue (kind_below i d.kind) = subst (λ e. IsTrue (definition_below i e)) is here in (
      row-at ds i (row.Type d) h ∙ ap (labelled_definition (labelled_rows [] (take i ds))) is ∙ kind-stays ds i (omega arith) d.kind below,
      below,
    )

-- ---- types by their ids

pub in-range : (ds : List Definition) (i : ℕ) → IsTrue (is_there (type_of (slice_get ds i))) → i < length ds
in-range [] i h = absurd (cc)
in-range (d ∷ ds) zero h = omega arith
in-range (d ∷ ds) (suc i) h = omega (arith, in-range ds i h)

pub all-at : {A : Type 0} (f : A → Bool) (xs : List A) (i : ℕ) (x : A) → i < length xs → IsTrue (list_all f xs) → IsTrue (f (get_or xs i x))
all-at f [] i x h all = absurd (omega arith)
all-at f (y ∷ xs) zero x h all = (split (f y) (list_all f xs) all).0
all-at f (y ∷ xs) (suc i) x h all = all-at f xs i x (omega arith) (split (f y) (list_all f xs) all).1

-- what is known of a row that is a type
pub kind-row : (r : Resolve) (t : TypeId) (d : TypeDef) → IsTrue (is_type_id r.definitions t) → get_or r.definitions t.0 (row.Type d) ≡ row.Type d
    → (get_or (labelled_types r) t.0 labelled_string ≡ labelled_kind (labelled_types r) d.kind) × IsTrue (kind_below t.0 d.kind)
    × IsTrue (kind_all (is_type r.definitions) d.kind) × IsTrue (is_standard_kind d.kind)
kind-row r t d inside is =
    let ds = r.definitions in
    let h = in-range ds t.0 inside in
    let (same, below) = kind-at r t.0 d r.earlier h is in
    let typed : IsTrue (definition_all (is_type ds) (get_or ds t.0 (row.Type d))) = all-at (definition_all (is_type ds)) ds t.0 (row.Type d) h r.typed in
    let standard : IsTrue (is_standard (get_or ds t.0 (row.Type d))) = all-at is_standard ds t.0 (row.Type d) h r.standard in
    (same, below, subst (λ e. IsTrue (definition_all (is_type ds) e)) is typed, subst (λ e. IsTrue (is_standard e)) is standard)
