-- The rows without names that a row is made of read as the types without names in what the row reads as.
use Rattle.std.proofs.Common.{◌≡◌, ℕ, List, [], ◌∷◌, ◌++◌, length, map, flat_map, get_or, slice_get, refl, sym, ap, ◌∙◌, arith, append-nil, length-append}
use Rattle.std.specs.Prelude.{true, not, Option, None, Some, is_some}
use Rattle.std.specs.List.{list_all}
use Rattle.std.specs.Option.{option_map}
use Rattle.std.proofs.lemmas.Bool.{and_parts, false≢true}
use Rattle.std.proofs.lemmas.List.{map-append}
use Rattle.canonical_abi.specs.Labelled.{ok_label, error_label}
use Rattle.tables.specs.Tables.{option_all, kind_all, definition_all, is_type, is_there, type_of}
use Rattle.tables.specs.Package.{Tree, PrimTree, TextTree, Reference, ListTree, RecordTree, VariantTree, FlagsTree, no_fields, field, Choices, no_choices, empty, holding, Meaning, IsUse, IsType, IsFunction, read_val, read_choice, read_tuple, read_fields, read_params, read_cases, read_enum, read_kind, meaning_of, reference_by, references, TreeFields}
use Rattle.tables.specs.declared.tables.ValType.{ValType}
use Rattle.tables.specs.declared.tables.ValType.TheVariants as val
use Rattle.tables.specs.declared.tables.TypeDef.{TypeDef}
use Rattle.tables.specs.declared.tables.TypeDefKind.{TypeDefKind}
use Rattle.tables.specs.declared.tables.TypeDefKind.TheVariants as kind
use Rattle.tables.specs.declared.tables.TypeName.{TypeName}
use Rattle.tables.specs.declared.tables.Field.{Field}
use Rattle.tables.specs.declared.tables.Parameter.{Parameter}
use Rattle.tables.specs.declared.tables.Case.{Case}
use Rattle.tables.specs.declared.tables.Definition.{Definition}
use Rattle.tables.specs.declared.tables.Definition.TheVariants as row
use Rattle.package_form.specs.Postfix.{is_unnamed_row, one_if, unnamed, unnamed_if, unnamed_field, unnamed_case, unnamed_parameter, parts, parts_of, aliased, aliased_by, is_inner}
use Rattle.package_form.proofs.AllAndContains.{all-get}
use Rattle.tree_meaning.proofs.TableRows.{references-append, references-length, name-tree, trees-kept, tree-here}
use Rattle.tree_meaning.proofs.RowsOfEachInterface.{is_inner_row}
use Rattle.package_text.proofs.WrittenTrees.PartsOfInterfaces.{stands-at}

-- ---- types without names in trees

-- the tree, if it is of a type without a name
abbrev pub loose : Tree → List Tree
loose (PrimTree p) = []
loose TextTree = []
loose (Reference k) = []
loose (ListTree t) = ListTree t ∷ []
loose (RecordTree form fs) = RecordTree form fs ∷ []
loose (VariantTree form cs) = VariantTree form cs ∷ []
loose (FlagsTree labels) = FlagsTree labels ∷ []

abbrev pub loose_fields : TreeFields → List Tree
loose_fields no_fields = []
loose_fields (field label t fs) = loose t ++ loose_fields fs

abbrev pub loose_choices : Choices → List Tree
loose_choices no_choices = []
loose_choices (empty label cs) = loose_choices cs
loose_choices (holding label t cs) = loose t ++ loose_choices cs

-- those that a tree is made of
abbrev pub loose_parts : Tree → List Tree
loose_parts (PrimTree p) = []
loose_parts TextTree = []
loose_parts (Reference k) = []
loose_parts (ListTree t) = loose t
loose_parts (RecordTree form fs) = loose_fields fs
loose_parts (VariantTree form cs) = loose_choices cs
loose_parts (FlagsTree labels) = []

abbrev pub loose_if : Option Tree → List Tree
loose_if None = []
loose_if (Some t) = loose t

abbrev pub loose_meaning : Meaning → List Tree
loose_meaning (IsUse t) = []
loose_meaning (IsType t) = loose_parts t
loose_meaning (IsFunction fs result) = loose_fields fs ++ loose_if result

-- what a row with a name defines
abbrev pub meaning_by : List Tree → Definition → Meaning
meaning_by trees (row.Type d) = meaning_of trees d.kind
meaning_by trees (row.Function f) = IsFunction (read_params trees f.params) (option_map (read_val trees) f.result)

none-loose : (t : Tree) → loose t ≡ [] → loose_parts t ≡ []
none-loose (PrimTree p) h = refl
none-loose TextTree h = refl
none-loose (Reference k) h = refl
none-loose (ListTree t) h = absurd cc
none-loose (RecordTree form fs) h = absurd cc
none-loose (VariantTree form cs) h = absurd cc
none-loose (FlagsTree labels) h = refl

-- ---- the rows of types

loose-inner : (trees : List Tree) (k : TypeDefKind) → is_inner k ≡ true → loose (read_kind trees k) ≡ read_kind trees k ∷ []
loose-inner trees (kind.List v) h = refl
loose-inner trees (kind.Option v) h = refl
loose-inner trees (kind.Result ok error) h = refl
loose-inner trees (kind.Tuple vs) h = refl
loose-inner trees (kind.Use t) h = absurd (false≢true h)
loose-inner trees (kind.Alias v) h = absurd (false≢true h)
loose-inner trees (kind.Record fs) h = absurd (false≢true h)
loose-inner trees (kind.Variant cs) h = absurd (false≢true h)
loose-inner trees (kind.Enum ns) h = absurd (false≢true h)
loose-inner trees (kind.Flags ns) h = absurd (false≢true h)

module _ (ns : List (List ℕ)) (rows : List Definition) (inner : list_all is_inner_row rows ≡ true) where
  -- a row without a name is a list, an option, a result or a tuple, and reads as one
  pub inner-at : (t : ℕ) (d : TypeDef) → slice_get rows t ≡ Some (row.Type d) → d.name ≡ None
      → (trees : List Tree) × (get_or (references ns [] rows) t TextTree ≡ read_kind trees d.kind) × (is_inner d.kind ≡ true)
  inner-at t d e q =
      let x = stands-at rows t (row.Type d) e in
      let tree : get_or (references ns [] rows) t TextTree ≡ read_kind (references ns [] x.0) d.kind =
      ap (λ (ds : List Definition). get_or (references ns [] ds) t TextTree) x.2
      ∙ (ap (λ (j : ℕ). get_or (references ns [] (x.0 ++ row.Type d ∷ x.1)) j TextTree) (sym x.3)
      ∙ (tree-here ns x.0 x.1 (row.Type d) ∙ ap (λ (m : Option TypeName). reference_by ns m (read_kind (references ns [] x.0) d.kind)) q)) in
      (references ns [] x.0, tree, by d.name q (all-get is_inner_row rows t (row.Type d) inner e))
    where
      by : (m : Option TypeName) → m ≡ None → is_inner_row (row.Type (record { name = m; kind = d.kind })) ≡ true → is_inner d.kind ≡ true
      by None u h = h
      by (Some n) u h = absurd cc

  pub loose-at : (t : ℕ) (d : TypeDef) → slice_get rows t ≡ Some (row.Type d) → d.name ≡ None
      → loose (get_or (references ns [] rows) t TextTree) ≡ get_or (references ns [] rows) t TextTree ∷ []
  loose-at t d e q =
      let x = inner-at t d e q in
      ap loose x.1 ∙ (loose-inner x.0 d.kind x.2 ∙ ap (λ (u : Tree). u ∷ []) (sym x.1))

  -- what each type reads as, in the trees of a table that begins with these rows
  pub val-loose : (rest : List Definition) (v : ValType) → is_type rows v ≡ true
      → map (λ p. get_or (references ns [] (rows ++ rest)) p TextTree) (unnamed rows v) ≡ loose (read_val (references ns [] rows) v)
  val-loose rest (val.Primitive p) h = refl
  val-loose rest val.String h = refl
  val-loose rest (val.Id t) h = by (slice_get rows t.0) refl h
    where
      whole : List Tree
      whole = references ns [] (rows ++ rest)

      kept : (d : Definition) → slice_get rows t.0 ≡ Some d → get_or (references ns [] (rows ++ rest)) t.0 TextTree ≡ get_or (references ns [] rows) t.0 TextTree
      kept d e =
          let x = stands-at rows t.0 d e in
          let long = ap length x.2 in
          let parts = length-append x.0 (d ∷ x.1) in
          ap (λ (xs : List Tree). get_or xs t.0 TextTree) (references-append ns [] rows rest)
          ∙ trees-kept ns (references ns [] rows) rest t.0 (omega (arith, long, parts, x.3, references-length ns [] rows))

      named : (d : TypeDef) (m : Option TypeName) → d.name ≡ m → slice_get rows t.0 ≡ Some (row.Type d)
          → map (λ p. get_or (references ns [] (rows ++ rest)) p TextTree) (one_if (not (is_some m)) t.0) ≡ loose (get_or (references ns [] rows) t.0 TextTree)
      named d None q e = ap (λ (u : Tree). u ∷ []) (kept (row.Type d) e) ∙ sym (loose-at t.0 d e q)
      named d (Some n) q e = sym (ap loose (ap (λ i. get_or (references ns [] rows) i TextTree) (omega arith) ∙ name-tree ns [] rows t.0 d n e q))

      by : (o : Option Definition) → slice_get rows t.0 ≡ o → is_there (type_of o) ≡ true
          → map (λ p. get_or (references ns [] (rows ++ rest)) p TextTree) (one_if (is_unnamed_row (slice_get rows t.0)) t.0) ≡ loose (get_or (references ns [] rows) t.0 TextTree)
      by None e h = absurd (false≢true h)
      by (Some (row.Function f)) e h = absurd (false≢true h)
      by (Some (row.Type d)) e h = ap (λ (o : Option Definition). map (λ p. get_or (references ns [] (rows ++ rest)) p TextTree) (one_if (is_unnamed_row o) t.0)) e ∙ named d d.name refl e

-- ---- lists of types, kinds and rows

module _ (rows : List Definition) (trees final : List Tree) (told : (v : ValType) → is_type rows v ≡ true → map (λ p. get_or final p TextTree) (unnamed rows v) ≡ loose (read_val trees v)) where
  abbrev at : List ℕ → List Tree
  at ps = map (λ p. get_or final p TextTree) ps

  joined : (ps qs : List ℕ) (xs ys : List Tree) → at ps ≡ xs → at qs ≡ ys → at (ps ++ qs) ≡ xs ++ ys
  joined ps qs xs ys a b = map-append (λ p. get_or final p TextTree) ps qs ∙ (ap (λ (zs : List Tree). zs ++ at qs) a ∙ ap (λ (zs : List Tree). xs ++ zs) b)

  if-told : (v : Option ValType) → option_all (is_type rows) v ≡ true → at (unnamed_if rows v) ≡ loose_if (option_map (read_val trees) v)
  if-told None h = refl
  if-told (Some v) h = told v h

  choice-told : (label : List ℕ) (v : Option ValType) (cs : Choices) (ps : List ℕ) → option_all (is_type rows) v ≡ true → at ps ≡ loose_choices cs
      → at (unnamed_if rows v ++ ps) ≡ loose_choices (read_choice trees label v cs)
  choice-told label None cs ps h e = e
  choice-told label (Some v) cs ps h e = joined (unnamed rows v) ps (loose (read_val trees v)) (loose_choices cs) (told v h) e

  tuple-told : (vs : List ValType) → list_all (is_type rows) vs ≡ true → at (flat_map (unnamed rows) vs) ≡ loose_fields (read_tuple trees vs)
  tuple-told [] h = refl
  tuple-told (v ∷ vs) h =
      let t = and_parts (is_type rows v) (list_all (is_type rows) vs) h in
      joined (unnamed rows v) (flat_map (unnamed rows) vs) (loose (read_val trees v)) (loose_fields (read_tuple trees vs)) (told v t.0) (tuple-told vs t.1)

  fields-told : (fs : List Field) → list_all (λ f. is_type rows f.ty) fs ≡ true → at (flat_map (unnamed_field rows) fs) ≡ loose_fields (read_fields trees fs)
  fields-told [] h = refl
  fields-told (f ∷ fs) h =
      let t = and_parts (is_type rows f.ty) (list_all (λ f. is_type rows f.ty) fs) h in
      joined (unnamed rows f.ty) (flat_map (unnamed_field rows) fs) (loose (read_val trees f.ty)) (loose_fields (read_fields trees fs)) (told f.ty t.0) (fields-told fs t.1)

  params-told : (ps : List Parameter) → list_all (λ p. is_type rows p.ty) ps ≡ true → at (flat_map (unnamed_parameter rows) ps) ≡ loose_fields (read_params trees ps)
  params-told [] h = refl
  params-told (p ∷ ps) h =
      let t = and_parts (is_type rows p.ty) (list_all (λ p. is_type rows p.ty) ps) h in
      joined (unnamed rows p.ty) (flat_map (unnamed_parameter rows) ps) (loose (read_val trees p.ty)) (loose_fields (read_params trees ps)) (told p.ty t.0) (params-told ps t.1)

  cases-told : (cs : List Case) → list_all (λ c. option_all (is_type rows) c.ty) cs ≡ true → at (flat_map (unnamed_case rows) cs) ≡ loose_choices (read_cases trees cs)
  cases-told [] h = refl
  cases-told (c ∷ cs) h =
      let t = and_parts (option_all (is_type rows) c.ty) (list_all (λ c. option_all (is_type rows) c.ty) cs) h in
      choice-told c.name c.ty (read_cases trees cs) (flat_map (unnamed_case rows) cs) t.0 (cases-told cs t.1)

  enum-told : (ls : List (List ℕ)) → loose_choices (read_enum ls) ≡ []
  enum-told [] = refl
  enum-told (l ∷ ls) = enum-told ls

  result-told : (ok error : Option ValType) → option_all (is_type rows) ok ≡ true → option_all (is_type rows) error ≡ true
      → at (unnamed_if rows ok ++ unnamed_if rows error) ≡ loose_choices (read_choice trees ok_label ok (read_choice trees error_label error no_choices))
  result-told ok error h k = choice-told ok_label ok (read_choice trees error_label error no_choices) (unnamed_if rows error) h (last error k)
    where
      last : (v : Option ValType) → option_all (is_type rows) v ≡ true → map (λ p. get_or final p TextTree) (unnamed_if rows v) ≡ loose_choices (read_choice trees error_label v no_choices)
      last None q = refl
      last (Some v) q = told v q ∙ sym (append-nil (loose (read_val trees v)))

  some-told : (v : ValType) → is_type rows v ≡ true → at (unnamed rows v) ≡ loose_choices (holding [] (read_val trees v) no_choices)
  some-told v h = told v h ∙ sym (append-nil (loose (read_val trees v)))

  pub inner-told : (k : TypeDefKind) → is_inner k ≡ true → kind_all (is_type rows) k ≡ true → at (parts rows k) ≡ loose_parts (read_kind trees k)
  inner-told (kind.List v) i h = told v h
  inner-told (kind.Option v) i h = some-told v h
  inner-told (kind.Result ok error) i h = let t = and_parts (option_all (is_type rows) ok) (option_all (is_type rows) error) h in result-told ok error t.0 t.1
  inner-told (kind.Tuple vs) i h = tuple-told vs h
  inner-told (kind.Use t) i h = absurd (false≢true i)
  inner-told (kind.Alias v) i h = absurd (false≢true i)
  inner-told (kind.Record fs) i h = absurd (false≢true i)
  inner-told (kind.Variant cs) i h = absurd (false≢true i)
  inner-told (kind.Enum ls) i h = absurd (false≢true i)
  inner-told (kind.Flags ls) i h = absurd (false≢true i)

  kind-told : (k : TypeDefKind) → kind_all (is_type rows) k ≡ true → aliased rows k ≡ [] → at (parts rows k) ≡ loose_meaning (meaning_of trees k)
  kind-told (kind.Use t) h a = refl
  kind-told (kind.Alias v) h a = sym (none-loose (read_val trees v) (sym (told v h) ∙ ap at a))
  kind-told (kind.List v) h a = told v h
  kind-told (kind.Option v) h a = some-told v h
  kind-told (kind.Result ok error) h a = inner-told (kind.Result ok error) refl h
  kind-told (kind.Tuple vs) h a = tuple-told vs h
  kind-told (kind.Record fs) h a = fields-told fs h
  kind-told (kind.Variant cs) h a = cases-told cs h
  kind-told (kind.Enum ls) h a = sym (enum-told ls)
  kind-told (kind.Flags ls) h a = refl

  pub row-told : (d : Definition) → definition_all (is_type rows) d ≡ true → aliased_by rows d ≡ [] → at (parts_of rows d) ≡ loose_meaning (meaning_by trees d)
  row-told (row.Type d) h a = kind-told d.kind h a
  row-told (row.Function f) h a =
      let t = and_parts (list_all (λ p. is_type rows p.ty) f.params) (option_all (is_type rows) f.result) h in
      joined (flat_map (unnamed_parameter rows) f.params) (unnamed_if rows f.result) (loose_fields (read_params trees f.params)) (loose_if (option_map (read_val trees) f.result)) (params-told f.params t.0) (if-told f.result t.1)
