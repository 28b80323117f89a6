-- Rows are told by the trees that they read as, with the places of the rows without names that they are made of.
use Rattle.std.proofs.Common.{◌≡◌, ℕ, zero, suc, List, [], ◌∷◌, ◌++◌, map, flat_map, get_or, slice_get, refl, sym, ap, subst, ◌∙◌, append_assoc, append-nil, arith}
use Rattle.std.specs.Prelude.{Bool, true, false, not, ◌||◌, if◌then◌else◌, Option, None, Some, is_some}
use Rattle.std.specs.List.{list_all}
use Rattle.std.specs.Option.{option_map}
use Rattle.std.proofs.lemmas.Bool.{and_parts, false≢true}
use Rattle.std.proofs.lemmas.Slice.Eq.{bytes_eq-Decides}
use Rattle.canonical_abi.specs.Labelled.{ok_label, error_label}
use Rattle.tables.specs.Tables.{option_all, kind_all, is_type, is_there, type_of}
use Rattle.tables.specs.Package.{Tree, PrimTree, TextTree, Reference, ListTree, RecordTree, VariantTree, FlagsTree, no_fields, field, Choices, no_choices, empty, holding, AsEnum, AsOption, AsResult, AsTuple, Meaning, IsUse, IsType, IsFunction, Key, key_of, is_same_key, is_known, IsDistinctName, HasDistinctTypes, read_val, read_choice, read_tuple, read_fields, read_params, read_cases, read_enum, read_kind, meaning_of, references, TreeFields}
use Rattle.tables.specs.declared.tables.ValType.{ValType}
use Rattle.tables.specs.declared.tables.ValType.TheVariants as val
use Rattle.tables.specs.declared.tables.TypeId.{TypeId}
use Rattle.tables.specs.declared.tables.TypeDef.{TypeDef}
use Rattle.tables.specs.declared.tables.TypeDefKind.{TypeDefKind}
use Rattle.tables.specs.declared.tables.TypeDefKind.TheVariants as kind
use Rattle.tables.specs.declared.tables.TypeName.{TypeName}
use Rattle.tables.specs.declared.tables.Field.{Field}
use Rattle.tables.specs.declared.tables.Parameter.{Parameter}
use Rattle.tables.specs.declared.tables.Case.{Case}
use Rattle.tables.specs.declared.tables.Definition.{Definition}
use Rattle.tables.specs.declared.tables.Definition.TheVariants as row
use Rattle.tables.proofs.ClosedTypesRowByRow.{both}
use Rattle.package_form.specs.Ids.{type_id}
use Rattle.package_form.specs.Postfix.{is_unnamed_row, one_if, unnamed, unnamed_if, unnamed_field, unnamed_case, unnamed_parameter, parts, aliased, is_inner}
use Rattle.tree_meaning.proofs.RowsOfEachInterface.{is_inner_row}
use Rattle.tree_meaning.proofs.TableRows.{name-tree}
use Rattle.package_text.specs.Written.{labels_in}
use Rattle.package_text.proofs.OneTablePerTree.UnnamedRowsOfTrees.{loose, loose-at, val-loose}

-- ---- the place of a name

abbrev is_key : List (List ℕ) → Key → Option TypeName → Bool
is_key ns key None = false
is_key ns key (Some n) = is_same_key (key_of ns n) key

abbrev has_key : List (List ℕ) → Key → Definition → Bool
has_key ns key (row.Type d) = is_key ns key d.name
has_key ns key (row.Function f) = false

-- the first place of a type of this name
abbrev place_of : List (List ℕ) → List Definition → Key → ℕ
place_of ns [] key = 0
place_of ns (d ∷ ds) key = if has_key ns key d then 0 else suc (place_of ns ds key)

same-itself : (k : Key) → is_same_key k k ≡ true
same-itself k = both _ _ ((bytes_eq-Decides k.interface k.interface).1 refl) ((bytes_eq-Decides k.name k.name).1 refl)

known-front : (seen : List Key) (m n : Key) → is_known (seen ++ m ∷ []) n ≡ false → (is_known seen n ≡ false) × (is_same_key m n ≡ false)
known-front [] m n h = (refl, by (is_same_key m n) h)
  where
    by : (b : Bool) → (b || false) ≡ false → b ≡ false
    by true q = q
    by false q = q
known-front (s ∷ seen) m n h = by (is_same_key s n) h (λ q. known-front seen m n q)
  where
    by : (b : Bool) → (b || is_known (seen ++ m ∷ []) n) ≡ false → (is_known (seen ++ m ∷ []) n ≡ false → (is_known seen n ≡ false) × (is_same_key m n ≡ false))
        → ((b || is_known seen n) ≡ false) × (is_same_key m n ≡ false)
    by true q on = absurd (false≢true (sym q))
    by false q on = on q

module _ (ns : List (List ℕ)) where
  -- a name of these rows is none of those seen
  unseen : (rows : List Definition) (seen : List Key) (t : ℕ) (d : TypeDef) (n : TypeName) → HasDistinctTypes ns rows seen → slice_get rows t ≡ Some (row.Type d) → d.name ≡ Some n → is_known seen (key_of ns n) ≡ false
  unseen [] seen t d n h e q = absurd cc
  unseen (x ∷ rows) seen zero d n h e q =
      let is : x ≡ row.Type d = cc in
      let here : HasDistinctTypes ns (row.Type d ∷ rows) seen = subst (λ (y : Definition). HasDistinctTypes ns (y ∷ rows) seen) is h in
      let named : IsDistinctName ns seen (Some n) (HasDistinctTypes ns rows) = subst (λ (m : Option TypeName). IsDistinctName ns seen m (HasDistinctTypes ns rows)) q here in
      named.0
  unseen (row.Function f ∷ rows) seen (suc t) d n h e q = unseen rows seen t d n h e q
  unseen (row.Type c ∷ rows) seen (suc t) d n h e q = by c.name h (λ more k. unseen rows more t d n k e q)
    where
      by : (m : Option TypeName) → IsDistinctName ns seen m (HasDistinctTypes ns rows) → ((more : List Key) → HasDistinctTypes ns rows more → is_known more (key_of ns n) ≡ false) → is_known seen (key_of ns n) ≡ false
      by None k on = on seen k
      by (Some m) k on = (known-front seen (key_of ns m) (key_of ns n) (on (seen ++ key_of ns m ∷ []) k.1)).0

  -- so it stands where the first row of this name does
  placed-at : (rows : List Definition) (seen : List Key) (t : ℕ) (d : TypeDef) (n : TypeName) → HasDistinctTypes ns rows seen → slice_get rows t ≡ Some (row.Type d) → d.name ≡ Some n → place_of ns rows (key_of ns n) ≡ t
  placed-at [] seen t d n h e q = absurd cc
  placed-at (x ∷ rows) seen zero d n h e q =
      let is : x ≡ row.Type d = cc in
      let own : has_key ns (key_of ns n) x ≡ true = ap (has_key ns (key_of ns n)) is ∙ (ap (is_key ns (key_of ns n)) q ∙ same-itself (key_of ns n)) in
      ap (λ (b : Bool). if b then 0 else suc (place_of ns rows (key_of ns n))) own
  placed-at (row.Function f ∷ rows) seen (suc t) d n h e q = ap suc (placed-at rows seen t d n h e q)
  placed-at (row.Type c ∷ rows) seen (suc t) d n h e q = by c.name h (λ more k. (unseen rows more t d n k e q, placed-at rows more t d n k e q))
    where
      by : (m : Option TypeName) → IsDistinctName ns seen m (HasDistinctTypes ns rows)
          → ((more : List Key) → HasDistinctTypes ns rows more → (is_known more (key_of ns n) ≡ false) × (place_of ns rows (key_of ns n) ≡ t))
          → (if is_key ns (key_of ns n) m then 0 else suc (place_of ns rows (key_of ns n))) ≡ suc t
      by None k on = ap suc (on seen k).1
      by (Some m) k on =
          let later = on (seen ++ key_of ns m ∷ []) k.1 in
          ap (λ (b : Bool). if b then 0 else suc (place_of ns rows (key_of ns n))) (known-front seen (key_of ns m) (key_of ns n) later.0).1 ∙ ap suc later.1

  pub distinct-front : (front rest : List Definition) (seen : List Key) → HasDistinctTypes ns (front ++ rest) seen → HasDistinctTypes ns front seen
  distinct-front [] rest seen h = tt
  distinct-front (row.Function f ∷ front) rest seen h = distinct-front front rest seen h
  distinct-front (row.Type d ∷ front) rest seen h = by d.name h (λ more k. distinct-front front rest more k)
    where
      by : (m : Option TypeName) → IsDistinctName ns seen m (HasDistinctTypes ns (front ++ rest)) → ((more : List Key) → HasDistinctTypes ns (front ++ rest) more → HasDistinctTypes ns front more)
          → IsDistinctName ns seen m (HasDistinctTypes ns front)
      by None k on = on seen k
      by (Some m) k on = (k.0, on (seen ++ key_of ns m ∷ []) k.1)

-- ---- from trees to rows

-- a type without a name is the next of these places
abbrev next : List ℕ → ValType × List ℕ
next [] = (val.String, [])
next (p ∷ ps) = (val.Id (type_id p), ps)

-- the type of a tree, and the places that are left
abbrev val_from : List (List ℕ) → List Definition → Tree → List ℕ → ValType × List ℕ
val_from ns rows (PrimTree p) ps = (val.Primitive p, ps)
val_from ns rows TextTree ps = (val.String, ps)
val_from ns rows (Reference k) ps = (val.Id (type_id (place_of ns rows k)), ps)
val_from ns rows (ListTree t) ps = next ps
val_from ns rows (RecordTree form fs) ps = next ps
val_from ns rows (VariantTree form cs) ps = next ps
val_from ns rows (FlagsTree labels) ps = next ps

abbrev tuple_from : List (List ℕ) → List Definition → TreeFields → List ℕ → List ValType
tuple_from ns rows no_fields ps = []
tuple_from ns rows (field label t fs) ps = (val_from ns rows t ps).0 ∷ tuple_from ns rows fs (val_from ns rows t ps).1

abbrev fields_from : List (List ℕ) → List Definition → TreeFields → List ℕ → List Field
fields_from ns rows no_fields ps = []
fields_from ns rows (field label t fs) ps = record { name = label; ty = (val_from ns rows t ps).0 } ∷ fields_from ns rows fs (val_from ns rows t ps).1

abbrev pub params_from : List (List ℕ) → List Definition → TreeFields → List ℕ → List Parameter
params_from ns rows no_fields ps = []
params_from ns rows (field label t fs) ps = record { name = label; ty = (val_from ns rows t ps).0 } ∷ params_from ns rows fs (val_from ns rows t ps).1

-- the places behind those of the parameters
abbrev behind_params : List (List ℕ) → List Definition → TreeFields → List ℕ → List ℕ
behind_params ns rows no_fields ps = ps
behind_params ns rows (field label t fs) ps = behind_params ns rows fs (val_from ns rows t ps).1

abbrev if_from : List (List ℕ) → List Definition → Option Tree → List ℕ → Option ValType
if_from ns rows None ps = None
if_from ns rows (Some t) ps = Some (val_from ns rows t ps).0

abbrev pub result_from : List (List ℕ) → List Definition → TreeFields → Option Tree → List ℕ → Option ValType
result_from ns rows fs result ps = if_from ns rows result (behind_params ns rows fs ps)

abbrev cases_from : List (List ℕ) → List Definition → Choices → List ℕ → List Case
cases_from ns rows no_choices ps = []
cases_from ns rows (empty label cs) ps = record { name = label; ty = None } ∷ cases_from ns rows cs ps
cases_from ns rows (holding label t cs) ps = record { name = label; ty = Some (val_from ns rows t ps).0 } ∷ cases_from ns rows cs (val_from ns rows t ps).1

abbrev option_of : Option ValType → TypeDefKind
option_of None = kind.Enum []
option_of (Some v) = kind.Option v

abbrev option_by : List Case → TypeDefKind
option_by [] = kind.Enum []
option_by (c ∷ []) = kind.Enum []
option_by (c ∷ d ∷ cs) = option_of d.ty

abbrev result_by : List Case → TypeDefKind
result_by [] = kind.Enum []
result_by (c ∷ []) = kind.Enum []
result_by (c ∷ d ∷ cs) = kind.Result c.ty d.ty

abbrev pub kind_from : List (List ℕ) → List Definition → Tree → List ℕ → TypeDefKind
kind_from ns rows (PrimTree p) ps = kind.Alias (val.Primitive p)
kind_from ns rows TextTree ps = kind.Alias val.String
kind_from ns rows (Reference k) ps = kind.Alias (val.Id (type_id (place_of ns rows k)))
kind_from ns rows (ListTree t) ps = kind.List (val_from ns rows t ps).0
kind_from ns rows (RecordTree AsTuple fs) ps = kind.Tuple (tuple_from ns rows fs ps)
kind_from ns rows (RecordTree form fs) ps = kind.Record (fields_from ns rows fs ps)
kind_from ns rows (VariantTree AsEnum cs) ps = kind.Enum (labels_in cs)
kind_from ns rows (VariantTree AsOption cs) ps = option_by (cases_from ns rows cs ps)
kind_from ns rows (VariantTree AsResult cs) ps = result_by (cases_from ns rows cs ps)
kind_from ns rows (VariantTree form cs) ps = kind.Variant (cases_from ns rows cs ps)
kind_from ns rows (FlagsTree labels) ps = kind.Flags labels

abbrev use_by : ValType → TypeDefKind
use_by (val.Id t) = kind.Use t
use_by v = kind.Alias v

abbrev pub kind_by : List (List ℕ) → List Definition → Meaning → List ℕ → TypeDefKind
kind_by ns rows (IsUse t) ps = use_by (val_from ns rows t ps).0
kind_by ns rows (IsType t) ps = kind_from ns rows t ps
kind_by ns rows (IsFunction fs result) ps = kind.Enum []

next-from : (ns : List (List ℕ)) (rows : List Definition) (x : Tree) (ps : List ℕ) → loose x ≡ x ∷ [] → val_from ns rows x ps ≡ next ps
next-from ns rows (PrimTree p) ps h = absurd cc
next-from ns rows TextTree ps h = absurd cc
next-from ns rows (Reference k) ps h = absurd cc
next-from ns rows (ListTree t) ps h = refl
next-from ns rows (RecordTree form fs) ps h = refl
next-from ns rows (VariantTree form cs) ps h = refl
next-from ns rows (FlagsTree labels) ps h = refl

-- ---- and back

module _ (ns : List (List ℕ)) (rows : List Definition) (inner : list_all is_inner_row rows ≡ true) (distinct : HasDistinctTypes ns rows []) where
  abbrev trees : List Tree
  trees = references ns [] rows

  val-back : (v : ValType) → is_type rows v ≡ true → (ps qs : List ℕ) → ps ≡ unnamed rows v ++ qs → val_from ns rows (read_val trees v) ps ≡ (v, qs)
  val-back (val.Primitive p) h ps qs e = ap (λ (xs : List ℕ). val_from ns rows (PrimTree p) xs) e
  val-back val.String h ps qs e = ap (λ (xs : List ℕ). val_from ns rows TextTree xs) e
  val-back (val.Id t) h ps qs e = by (slice_get rows t.0) refl h
    where
      named : (d : TypeDef) (m : Option TypeName) → d.name ≡ m → slice_get rows t.0 ≡ Some (row.Type d) → ps ≡ one_if (not (is_some m)) t.0 ++ qs
          → val_from ns rows (get_or (references ns [] rows) t.0 TextTree) ps ≡ (val.Id t, qs)
      named d None q s u = next-from ns rows (get_or (references ns [] rows) t.0 TextTree) ps (loose-at ns rows inner t.0 d s q) ∙ ap next u
      named d (Some n) q s u =
          let tree : get_or (references ns [] rows) t.0 TextTree ≡ Reference (key_of ns n) = ap (λ i. get_or (references ns [] rows) i TextTree) (omega arith) ∙ name-tree ns [] rows t.0 d n s q in
          let there = placed-at ns rows [] t.0 d n distinct s q in
          let pair : ℕ → List ℕ → ValType × List ℕ = λ k xs. (val.Id (type_id k), xs) in
          ap (λ (x : Tree). val_from ns rows x ps) tree ∙ (ap (λ (k : ℕ). pair k ps) there ∙ ap (pair t.0) u)

      by : (o : Option Definition) → slice_get rows t.0 ≡ o → is_there (type_of o) ≡ true → val_from ns rows (get_or (references ns [] rows) t.0 TextTree) ps ≡ (val.Id t, qs)
      by None s k = absurd (false≢true k)
      by (Some (row.Function f)) s k = absurd (false≢true k)
      by (Some (row.Type d)) s k = named d d.name refl s (e ∙ ap (λ (o : Option Definition). one_if (is_unnamed_row o) t.0 ++ qs) s)

  first : (v : ValType) (ps qs : List ℕ) → is_type rows v ≡ true → ps ≡ unnamed rows v ++ qs → (val_from ns rows (read_val trees v) ps).0 ≡ v
  first v ps qs h e = ap (λ (x : ValType × List ℕ). x.0) (val-back v h ps qs e)

  alone : (v : ValType) → is_type rows v ≡ true → (val_from ns rows (read_val trees v) (unnamed rows v)).0 ≡ v
  alone v h = first v (unnamed rows v) [] h (sym (append-nil (unnamed rows v)))

  tuple-back : (vs : List ValType) → list_all (is_type rows) vs ≡ true → (ps qs : List ℕ) → ps ≡ flat_map (unnamed rows) vs ++ qs → tuple_from ns rows (read_tuple trees vs) ps ≡ vs
  tuple-back [] h ps qs e = refl
  tuple-back (v ∷ vs) h ps qs e =
      let t = and_parts (is_type rows v) (list_all (is_type rows) vs) h in
      let rest : List ℕ = flat_map (unnamed rows) vs ++ qs in
      let b = val-back v t.0 ps rest (e ∙ append_assoc (unnamed rows v) (flat_map (unnamed rows) vs) qs) in
      ap (λ (x : ValType × List ℕ). x.0 ∷ tuple_from ns rows (read_tuple trees vs) x.1) b ∙ ap (λ (ws : List ValType). v ∷ ws) (tuple-back vs t.1 rest qs refl)

  fields-back : (fs : List Field) → list_all (λ f. is_type rows f.ty) fs ≡ true → (ps qs : List ℕ) → ps ≡ flat_map (unnamed_field rows) fs ++ qs → fields_from ns rows (read_fields trees fs) ps ≡ fs
  fields-back [] h ps qs e = refl
  fields-back (f ∷ fs) h ps qs e =
      let t = and_parts (is_type rows f.ty) (list_all (λ f. is_type rows f.ty) fs) h in
      let rest : List ℕ = flat_map (unnamed_field rows) fs ++ qs in
      let b = val-back f.ty t.0 ps rest (e ∙ append_assoc (unnamed rows f.ty) (flat_map (unnamed_field rows) fs) qs) in
      let put : ValType × List ℕ → List Field = λ x. record { name = f.name; ty = x.0 } ∷ fields_from ns rows (read_fields trees fs) x.1 in
      ap put b ∙ ap (λ (gs : List Field). f ∷ gs) (fields-back fs t.1 rest qs refl)

  pub params-back : (fs : List Parameter) → list_all (λ f. is_type rows f.ty) fs ≡ true → (ps qs : List ℕ) → ps ≡ flat_map (unnamed_parameter rows) fs ++ qs → params_from ns rows (read_params trees fs) ps ≡ fs
  params-back [] h ps qs e = refl
  params-back (f ∷ fs) h ps qs e =
      let t = and_parts (is_type rows f.ty) (list_all (λ f. is_type rows f.ty) fs) h in
      let rest : List ℕ = flat_map (unnamed_parameter rows) fs ++ qs in
      let b = val-back f.ty t.0 ps rest (e ∙ append_assoc (unnamed rows f.ty) (flat_map (unnamed_parameter rows) fs) qs) in
      let put : ValType × List ℕ → List Parameter = λ x. record { name = f.name; ty = x.0 } ∷ params_from ns rows (read_params trees fs) x.1 in
      ap put b ∙ ap (λ (gs : List Parameter). f ∷ gs) (params-back fs t.1 rest qs refl)

  params-behind : (fs : List Parameter) → list_all (λ f. is_type rows f.ty) fs ≡ true → (ps qs : List ℕ) → ps ≡ flat_map (unnamed_parameter rows) fs ++ qs → behind_params ns rows (read_params trees fs) ps ≡ qs
  params-behind [] h ps qs e = e
  params-behind (f ∷ fs) h ps qs e =
      let t = and_parts (is_type rows f.ty) (list_all (λ f. is_type rows f.ty) fs) h in
      let rest : List ℕ = flat_map (unnamed_parameter rows) fs ++ qs in
      let b = val-back f.ty t.0 ps rest (e ∙ append_assoc (unnamed rows f.ty) (flat_map (unnamed_parameter rows) fs) qs) in
      ap (λ (x : ValType × List ℕ). behind_params ns rows (read_params trees fs) x.1) b ∙ params-behind fs t.1 rest qs refl

  if-back : (v : Option ValType) → option_all (is_type rows) v ≡ true → if_from ns rows (option_map (read_val trees) v) (unnamed_if rows v) ≡ v
  if-back None h = refl
  if-back (Some v) h = ap (λ (w : ValType). Some w) (alone v h)

  pub result-back : (fs : List Parameter) (v : Option ValType) → list_all (λ f. is_type rows f.ty) fs ≡ true → option_all (is_type rows) v ≡ true
      → result_from ns rows (read_params trees fs) (option_map (read_val trees) v) (flat_map (unnamed_parameter rows) fs ++ unnamed_if rows v) ≡ v
  result-back fs v h k =
      ap (if_from ns rows (option_map (read_val trees) v)) (params-behind fs h (flat_map (unnamed_parameter rows) fs ++ unnamed_if rows v) (unnamed_if rows v) refl) ∙ if-back v k

  cases-back : (cs : List Case) → list_all (λ c. option_all (is_type rows) c.ty) cs ≡ true → (ps qs : List ℕ) → ps ≡ flat_map (unnamed_case rows) cs ++ qs → cases_from ns rows (read_cases trees cs) ps ≡ cs
  cases-back [] h ps qs e = refl
  cases-back (c ∷ cs) h ps qs e =
      let t = and_parts (option_all (is_type rows) c.ty) (list_all (λ c. option_all (is_type rows) c.ty) cs) h in
      by c.ty t.0 (e ∙ append_assoc (unnamed_if rows c.ty) (flat_map (unnamed_case rows) cs) qs) (cases-back cs t.1 (flat_map (unnamed_case rows) cs ++ qs) qs refl)
    where
      by : (o : Option ValType) → option_all (is_type rows) o ≡ true → ps ≡ unnamed_if rows o ++ (flat_map (unnamed_case rows) cs ++ qs)
          → cases_from ns rows (read_cases (references ns [] rows) cs) (flat_map (unnamed_case rows) cs ++ qs) ≡ cs
          → cases_from ns rows (read_choice (references ns [] rows) c.name o (read_cases (references ns [] rows) cs)) ps ≡ record { name = c.name; ty = o } ∷ cs
      by None k u on = ap (λ (xs : List ℕ). cases_from ns rows (empty c.name (read_cases (references ns [] rows) cs)) xs) u ∙ ap (λ (ds : List Case). record { name = c.name; ty = None } ∷ ds) on
      by (Some v) k u on =
          let b = val-back v k ps (flat_map (unnamed_case rows) cs ++ qs) u in
          let put : ValType × List ℕ → List Case = λ x. record { name = c.name; ty = Some x.0 } ∷ cases_from ns rows (read_cases (references ns [] rows) cs) x.1 in
          ap put b ∙ ap (λ (ds : List Case). record { name = c.name; ty = Some v } ∷ ds) on

  enum-back : (ls : List (List ℕ)) → labels_in (read_enum ls) ≡ ls
  enum-back [] = refl
  enum-back (l ∷ ls) = ap (λ (ms : List (List ℕ)). l ∷ ms) (enum-back ls)

  result-kind : (ok error : Option ValType) → option_all (is_type rows) ok ≡ true → option_all (is_type rows) error ≡ true
      → kind_from ns rows (read_kind trees (kind.Result ok error)) (unnamed_if rows ok ++ unnamed_if rows error) ≡ kind.Result ok error
  result-kind ok error h k =
      let cs : List Case = record { name = ok_label; ty = ok } ∷ record { name = error_label; ty = error } ∷ [] in
      let typed : list_all (λ (c : Case). option_all (is_type rows) c.ty) cs ≡ true = both _ _ h (both _ _ k refl) in
      ap result_by (cases-back cs typed (unnamed_if rows ok ++ unnamed_if rows error) [] (ap (λ (xs : List ℕ). unnamed_if rows ok ++ xs) (sym (append-nil (unnamed_if rows error))) ∙ sym (append-nil (unnamed_if rows ok ++ (unnamed_if rows error ++ [])))))

  pub inner-back : (k : TypeDefKind) → is_inner k ≡ true → kind_all (is_type rows) k ≡ true → kind_from ns rows (read_kind trees k) (parts rows k) ≡ k
  inner-back (kind.List v) i h = ap kind.List (alone v h)
  inner-back (kind.Option v) i h = ap kind.Option (alone v h)
  inner-back (kind.Result ok error) i h = let t = and_parts (option_all (is_type rows) ok) (option_all (is_type rows) error) h in result-kind ok error t.0 t.1
  inner-back (kind.Tuple vs) i h = ap kind.Tuple (tuple-back vs h (flat_map (unnamed rows) vs) [] (sym (append-nil (flat_map (unnamed rows) vs))))
  inner-back (kind.Use t) i h = absurd (false≢true i)
  inner-back (kind.Alias v) i h = absurd (false≢true i)
  inner-back (kind.Record fs) i h = absurd (false≢true i)
  inner-back (kind.Variant cs) i h = absurd (false≢true i)
  inner-back (kind.Enum ls) i h = absurd (false≢true i)
  inner-back (kind.Flags ls) i h = absurd (false≢true i)

  alias-from : (x : Tree) (ps : List ℕ) → loose x ≡ [] → kind_from ns rows x ps ≡ kind.Alias (val_from ns rows x ps).0
  alias-from (PrimTree p) ps h = refl
  alias-from TextTree ps h = refl
  alias-from (Reference k) ps h = refl
  alias-from (ListTree t) ps h = absurd cc
  alias-from (RecordTree form fs) ps h = absurd cc
  alias-from (VariantTree form cs) ps h = absurd cc
  alias-from (FlagsTree labels) ps h = absurd cc

  alias-back : (v : ValType) → is_type rows v ≡ true → unnamed rows v ≡ [] → kind_from ns rows (read_val trees v) [] ≡ kind.Alias v
  alias-back v h u =
      let bare : loose (read_val trees v) ≡ [] = sym (val-loose ns rows inner [] v h) ∙ ap (map (λ p. get_or (references ns [] (rows ++ [])) p TextTree)) u in
      alias-from (read_val trees v) [] bare ∙ ap kind.Alias (first v [] [] h (sym (ap (λ (xs : List ℕ). xs ++ []) u)))

  -- a kind of a row that has a name; what it uses, or is another name of, has a name
  pub kind-back : (k : TypeDefKind) → kind_all (is_type rows) k ≡ true → aliased rows k ≡ [] → ((t : TypeId) → k ≡ kind.Use t → unnamed rows (val.Id t) ≡ []) → kind_by ns rows (meaning_of trees k) (parts rows k) ≡ k
  kind-back (kind.Use t) h a u = ap use_by (first (val.Id t) [] [] h (sym (ap (λ (xs : List ℕ). xs ++ []) (u t refl))))
  kind-back (kind.Alias v) h a u = alias-back v h a
  kind-back (kind.List v) h a u = ap kind.List (alone v h)
  kind-back (kind.Option v) h a u = ap kind.Option (alone v h)
  kind-back (kind.Result ok error) h a u = inner-back (kind.Result ok error) refl h
  kind-back (kind.Tuple vs) h a u = inner-back (kind.Tuple vs) refl h
  kind-back (kind.Record fs) h a u = ap kind.Record (fields-back fs h (flat_map (unnamed_field rows) fs) [] (sym (append-nil (flat_map (unnamed_field rows) fs))))
  kind-back (kind.Variant cs) h a u = ap kind.Variant (cases-back cs h (flat_map (unnamed_case rows) cs) [] (sym (append-nil (flat_map (unnamed_case rows) cs))))
  kind-back (kind.Enum ls) h a u = ap kind.Enum (enum-back ls)
  kind-back (kind.Flags ls) h a u = refl
