-- What rows in postfix order weigh is told by their definitions by name: each inner type of a tree is one row.
use Rattle.std.proofs.Common.{◌≡◌, ◌<◌, ◌+◌, ℕ, zero, suc, List, [], ◌∷◌, ◌++◌, length, map, flat_map, refl, sym, ap, subst, ◌∙◌, arith, append_assoc, append-nil, get_or, slice_get}
use Rattle.std.specs.Prelude.{true, false, not, sum, Option, None, Some, is_some}
use Rattle.std.specs.List.{list_all}
use Rattle.std.specs.Option.{option_map}
use Rattle.std.proofs.lemmas.Bool.{and_parts, false≢true}
use Rattle.std.proofs.lemmas.List.{map-append}
use Rattle.std.proofs.lemmas.List.Sums.{sum_by-append}
use Rattle.tables.specs.Tables.{option_all, kind_all, definition_all, is_type, type_of, is_there}
use Rattle.canonical_abi.specs.Labelled.{ok_label, error_label}
use Rattle.tables.specs.Package.{Tree, TextTree, PrimTree, Reference, ListTree, VariantTree, RecordTree, FlagsTree, Choices, no_fields, field, no_choices, empty, holding, Meaning, read_val, read_choice, read_tuple, read_fields, read_params, read_cases, read_enum, read_kind, references, NamedDefinition, TreeFields}
use Rattle.tables.specs.declared.tables.ValType.{ValType}
use Rattle.tables.specs.declared.tables.ValType.TheVariants as val
use Rattle.tables.specs.declared.tables.TypeDefKind.{TypeDefKind}
use Rattle.tables.specs.declared.tables.TypeDefKind.TheVariants as kind
use Rattle.tables.specs.declared.tables.TypeName.{TypeName}
use Rattle.tables.specs.declared.tables.TypeDef.{TypeDef}
use Rattle.tables.specs.declared.tables.Parameter.{Parameter}
use Rattle.tables.specs.declared.tables.Field.{Field}
use Rattle.tables.specs.declared.tables.Case.{Case}
use Rattle.tables.specs.declared.tables.Definition.{Definition}
use Rattle.tables.specs.declared.tables.Definition.TheVariants as row
use Rattle.package_form.specs.Postfix.{is_unnamed, is_unnamed_row, one_if, unnamed, unnamed_if, unnamed_field, unnamed_case, unnamed_parameter, parts, parts_of, aliased_by, is_inner, inner_row, Leaves, begin, inner, whole}
use Rattle.package_form.specs.Ids.{is_use}
use Rattle.package_form.specs.Unused.{is_alias}
use Rattle.tree_meaning.proofs.TableRows.{references-append, references-length, trees-kept, definitions-append, name-tree, IsTyped, tree-here}
use Rattle.tree_meaning.proofs.AllDefinitions.{all_from, all_of}

-- ---- by names

-- the weights of the types without a name in a tree, itself among them
abbrev mutual
  pub nodes : (Tree → ℕ) → Tree → ℕ
  nodes w (PrimTree p) = 0
  nodes w TextTree = 0
  nodes w (Reference k) = 0
  nodes w (ListTree t) = w (ListTree t) + nodes w t
  nodes w (RecordTree form fs) = w (RecordTree form fs) + nodes_in w fs
  nodes w (VariantTree form cs) = w (VariantTree form cs) + nodes_of w cs
  nodes w (FlagsTree labels) = w (FlagsTree labels)

  pub nodes_in : (Tree → ℕ) → TreeFields → ℕ
  nodes_in w no_fields = 0
  nodes_in w (field label t fs) = nodes w t + nodes_in w fs

  pub nodes_of : (Tree → ℕ) → Choices → ℕ
  nodes_of w no_choices = 0
  nodes_of w (empty label cs) = nodes_of w cs
  nodes_of w (holding label t cs) = nodes w t + nodes_of w cs

abbrev pub nodes_if : (Tree → ℕ) → Option Tree → ℕ
nodes_if w None = 0
nodes_if w (Some t) = nodes w t

-- ---- by rows

abbrev pub total : (Tree → ℕ) → List Tree → List ℕ → ℕ
total w trees ps = sum (map (λ p. nodes w (get_or trees p TextTree)) ps)

pub sum-append : (xs ys : List ℕ) → sum (xs ++ ys) ≡ sum xs + sum ys
sum-append xs ys = sum_by-append (λ x. x) xs ys

pub total-append : (w : Tree → ℕ) (trees : List Tree) (ps qs : List ℕ) → total w trees (ps ++ qs) ≡ total w trees ps + total w trees qs
total-append w trees ps qs = ap sum (map-append (λ p. nodes w (get_or trees p TextTree)) ps qs) ∙ sum-append (map (λ p. nodes w (get_or trees p TextTree)) ps) _

module _ (w : Tree → ℕ) (rows : List Definition) (trees final : List Tree) (count : (v : ValType) → is_type rows v ≡ true → nodes w (read_val trees v) ≡ total w final (unnamed rows v)) where
  choice-count : (label : List ℕ) (v : Option ValType) (cs : Choices) → option_all (is_type rows) v ≡ true → nodes_of w (read_choice trees label v cs) ≡ total w final (unnamed_if rows v) + nodes_of w cs
  choice-count label None cs h = omega arith
  choice-count label (Some v) cs h = let e = count v h in omega (arith, e)

  tuple-count : (vs : List ValType) → list_all (is_type rows) vs ≡ true → nodes_in w (read_tuple trees vs) ≡ total w final (flat_map (unnamed rows) vs)
  tuple-count [] h = refl
  tuple-count (v ∷ vs) h =
      let t = and_parts (is_type rows v) (list_all (is_type rows) vs) h in
      let a = count v t.0 in let b = tuple-count vs t.1 in let c = total-append w final (unnamed rows v) (flat_map (unnamed rows) vs) in omega (arith, a, b, c)

  fields-count : (fs : List Field) → list_all (λ f. is_type rows f.ty) fs ≡ true → nodes_in w (read_fields trees fs) ≡ total w final (flat_map (unnamed_field rows) fs)
  fields-count [] h = refl
  fields-count (f ∷ fs) h =
      let t = and_parts (is_type rows f.ty) (list_all (λ f. is_type rows f.ty) fs) h in
      let a = count f.ty t.0 in let b = fields-count fs t.1 in let c = total-append w final (unnamed_field rows f) (flat_map (unnamed_field rows) fs) in omega (arith, a, b, c)

  pub params-count : (fs : List Parameter) → list_all (λ f. is_type rows f.ty) fs ≡ true → nodes_in w (read_params trees fs) ≡ total w final (flat_map (unnamed_parameter rows) fs)
  params-count [] h = refl
  params-count (f ∷ fs) h =
      let t = and_parts (is_type rows f.ty) (list_all (λ f. is_type rows f.ty) fs) h in
      let a = count f.ty t.0 in let b = params-count fs t.1 in let c = total-append w final (unnamed_parameter rows f) (flat_map (unnamed_parameter rows) fs) in omega (arith, a, b, c)

  cases-count : (cs : List Case) → list_all (λ c. option_all (is_type rows) c.ty) cs ≡ true → nodes_of w (read_cases trees cs) ≡ total w final (flat_map (unnamed_case rows) cs)
  cases-count [] h = refl
  cases-count (x ∷ cs) h =
      let t = and_parts (option_all (is_type rows) x.ty) (list_all (λ c. option_all (is_type rows) c.ty) cs) h in
      let a = choice-count x.name x.ty (read_cases trees cs) t.0 in let b = cases-count cs t.1 in let c = total-append w final (unnamed_case rows x) (flat_map (unnamed_case rows) cs) in omega (arith, a, b, c)

  enum-count : (ns : List (List ℕ)) → nodes_of w (read_enum ns) ≡ 0
  enum-count [] = refl
  enum-count (n ∷ ns) = enum-count ns

  pub if-count : (v : Option ValType) → option_all (is_type rows) v ≡ true → nodes_if w (option_map (read_val trees) v) ≡ total w final (unnamed_if rows v)
  if-count None h = refl
  if-count (Some v) h = count v h

  result-count : (ok error : Option ValType) → option_all (is_type rows) ok ≡ true → option_all (is_type rows) error ≡ true → nodes w (read_kind trees (kind.Result ok error)) ≡ w (read_kind trees (kind.Result ok error)) + total w final (parts rows (kind.Result ok error))
  result-count ok error h k =
      let a = choice-count ok_label ok (read_choice trees error_label error no_choices) h in
      let b = choice-count error_label error no_choices k in
      let c = total-append w final (unnamed_if rows ok) (unnamed_if rows error) in omega (arith, a, b, c)

  -- a type that can stand without a name is one node, and its parts
  inner-count : (k : TypeDefKind) → is_inner k ≡ true → kind_all (is_type rows) k ≡ true → nodes w (read_kind trees k) ≡ w (read_kind trees k) + total w final (parts rows k)
  inner-count (kind.List v) i h = let a = count v h in omega (arith, a)
  inner-count (kind.Option v) i h = let a = count v h in omega (arith, a)
  inner-count (kind.Result ok error) i h = let t = and_parts (option_all (is_type rows) ok) (option_all (is_type rows) error) h in result-count ok error t.0 t.1
  inner-count (kind.Tuple vs) i h = let a = tuple-count vs h in omega (arith, a)
  inner-count (kind.Use t) i h = absurd (false≢true i)
  inner-count (kind.Alias v) i h = absurd (false≢true i)
  inner-count (kind.Record fs) i h = absurd (false≢true i)
  inner-count (kind.Variant cs) i h = absurd (false≢true i)
  inner-count (kind.Enum ns) i h = absurd (false≢true i)
  inner-count (kind.Flags ns) i h = absurd (false≢true i)

  -- .. and so is one that has a name
  pub whole-count : (k : TypeDefKind) → kind_all (is_type rows) k ≡ true → is_use k ≡ false → is_alias k ≡ false → nodes w (read_kind trees k) ≡ w (read_kind trees k) + total w final (parts rows k)
  whole-count (kind.Use t) h u a = absurd (false≢true (sym u))
  whole-count (kind.Alias v) h u a = absurd (false≢true (sym a))
  whole-count (kind.List v) h u a = inner-count (kind.List v) refl h
  whole-count (kind.Option v) h u a = inner-count (kind.Option v) refl h
  whole-count (kind.Result ok error) h u a = inner-count (kind.Result ok error) refl h
  whole-count (kind.Tuple vs) h u a = inner-count (kind.Tuple vs) refl h
  whole-count (kind.Record fs) h u a = let c = fields-count fs h in omega (arith, c)
  whole-count (kind.Variant cs) h u a = let c = cases-count cs h in omega (arith, c)
  whole-count (kind.Enum ns) h u a = let c = enum-count ns in omega (arith, c)
  whole-count (kind.Flags ns) h u a = omega arith

-- what each type's tree holds is what its unnamed row does, in the trees of the whole table
pub val-count : (w : Tree → ℕ) (ns : List (List ℕ)) (rows rest : List Definition) (v : ValType) → is_type rows v ≡ true → nodes w (read_val (references ns [] rows) v) ≡ total w (references ns [] (rows ++ rest)) (unnamed rows v)
val-count w ns rows rest (val.Primitive p) h = refl
val-count w ns rows rest val.String h = refl
val-count w ns rows rest (val.Id t) h = by (slice_get rows t.0) refl h
  where
    whole : List Tree
    whole = references ns [] (rows ++ rest)

    inside : (rs : List Definition) (k : ℕ) (d : Definition) → slice_get rs k ≡ Some d → k < length rs
    inside [] k d e = absurd cc
    inside (r ∷ rs) zero d e = omega arith
    inside (r ∷ rs) (suc k) d e = let i = inside rs k d e in omega (arith, i)

    kept : (d : Definition) → slice_get rows t.0 ≡ Some d → get_or whole t.0 TextTree ≡ get_or (references ns [] rows) t.0 TextTree
    kept d e =
        ap (λ (xs : List Tree). get_or xs t.0 TextTree) (references-append ns [] rows rest)
        ∙ trees-kept ns (references ns [] rows) rest t.0 (let i = inside rows t.0 d e in omega (arith, i, references-length ns [] rows))

    named : (d : TypeDef) (m : Option TypeName) → d.name ≡ m → slice_get rows t.0 ≡ Some (row.Type d) → nodes w (get_or (references ns [] rows) t.0 TextTree) ≡ total w whole (one_if (not (is_some m)) t.0)
    named d None q e = let k = ap (nodes w) (kept (row.Type d) e) in omega (arith, k)
    named d (Some n) q e = ap (nodes w) (ap (λ i. get_or (references ns [] rows) i TextTree) (omega arith) ∙ name-tree ns [] rows t.0 d n e q)

    by : (o : Option Definition) → slice_get rows t.0 ≡ o → is_there (type_of o) ≡ true → nodes w (get_or (references ns [] rows) t.0 TextTree) ≡ total w whole (one_if (is_unnamed_row (slice_get rows t.0)) t.0)
    by None e h = absurd (false≢true h)
    by (Some (row.Function f)) e h = absurd (false≢true h)
    by (Some (row.Type d)) e h = named d d.name refl e ∙ ap (λ o. total w whole (one_if (is_unnamed_row o) t.0)) (sym e)

-- what rows weigh, and what their definitions do
pub record Weights : Type 0 where
  pub node : Tree → ℕ
  pub row : Definition → ℕ
  pub size : Meaning → ℕ

abbrev pub sizes : Weights → List NamedDefinition → ℕ
sizes s ds = sum (map (λ d. s.size d.meaning) ds)

-- a row without a name weighs what its tree's top does; one with a name what its definition does, but for its unnamed parts
pub record Agree (s : Weights) : Type 0 where
  pub inner : (trees : List Tree) (k : TypeDefKind) → is_inner k ≡ true → s.row (inner_row k) ≡ s.node (read_kind trees k)
  pub whole : (ns : List (List ℕ)) (rows rest : List Definition) (d : Definition) → definition_all (is_type rows) d ≡ true → is_unnamed d ≡ false → aliased_by rows d ≡ []
      → sizes s (all_of ns (references ns [] rows) d) ≡ s.row d + total s.node (references ns [] (rows ++ rest)) (parts_of rows d)

module _ (s : Weights) (a : Agree s) where
  sizes-append : (xs ys : List NamedDefinition) → sizes s (xs ++ ys) ≡ sizes s xs + sizes s ys
  sizes-append xs ys = ap sum (map-append (λ d. s.size d.meaning) xs ys) ∙ sum-append (map (λ d. s.size d.meaning) xs) _

  rows-append : (xs : List Definition) (d : Definition) → sum (map s.row (xs ++ d ∷ [])) ≡ sum (map s.row xs) + s.row d
  rows-append xs d = ap sum (map-append s.row xs (d ∷ [])) ∙ (sum-append (map s.row xs) (s.row d ∷ []) ∙ omega arith)

  -- Rows in postfix order weigh what their definitions by name do, and what is still to be used.
  pub weighed : (ns : List (List ℕ)) (all : List Definition) → IsTyped all → (rows : List Definition) (unused : List ℕ) → Leaves rows unused → (rest : List Definition) → all ≡ rows ++ rest
      → sum (map s.row rows) ≡ sizes s (all_from ns [] rows) + total s.node (references ns [] all) unused
  weighed ns all typed _ _ begin rest e = refl
  weighed ns all typed _ _ (inner rows unused k i before) rest e =
      let flat : all ≡ rows ++ inner_row k ∷ rest = e ∙ append_assoc rows (inner_row k ∷ []) rest in
      let trees : List Tree = references ns [] rows in
      let final : List Tree = references ns [] all in
      let so-far = weighed ns all typed rows (unused ++ parts rows k) before (inner_row k ∷ rest) flat in
      let count : (v : ValType) → is_type rows v ≡ true → nodes s.node (read_val trees v) ≡ total s.node final (unnamed rows v) =
      λ v h. subst (λ (xs : List Definition). nodes s.node (read_val trees v) ≡ total s.node (references ns [] xs) (unnamed rows v)) (sym flat) (val-count s.node ns rows (inner_row k ∷ rest) v h) in
      let here : get_or final (length rows) TextTree ≡ read_kind trees k =
      ap (λ (xs : List Definition). get_or (references ns [] xs) (length rows) TextTree) flat ∙ tree-here ns rows rest (inner_row k) in
      let one : nodes s.node (get_or final (length rows) TextTree) ≡ s.node (read_kind trees k) + total s.node final (parts rows k) =
      ap (nodes s.node) here ∙ inner-count s.node rows trees final count k i (typed rows (inner_row k) rest flat) in
      let top = a.inner trees k i in
      let split = total-append s.node final unused (parts rows k) in
      let last = total-append s.node final unused (length rows ∷ []) in
      let alone : total s.node final (length rows ∷ []) ≡ 0 + nodes s.node (get_or final (length rows) TextTree) = refl in
      let more = rows-append rows (inner_row k) in
      let same : sizes s (all_from ns [] (rows ++ inner_row k ∷ [])) ≡ sizes s (all_from ns [] rows) + 0 =
      ap (sizes s) (definitions-append ns [] rows (inner_row k)) ∙ sizes-append (all_from ns [] rows) [] in
      omega (arith, so-far, one, top, split, last, alone, more, same)
  weighed ns all typed _ _ (whole rows d u b before) rest e =
      let flat : all ≡ rows ++ d ∷ rest = e ∙ append_assoc rows (d ∷ []) rest in
      let final : List Tree = references ns [] all in
      let so-far = weighed ns all typed rows (parts_of rows d) before (d ∷ rest) flat in
      let one : sizes s (all_of ns (references ns [] rows) d) ≡ s.row d + total s.node final (parts_of rows d) =
      subst (λ (xs : List Definition). sizes s (all_of ns (references ns [] rows) d) ≡ s.row d + total s.node (references ns [] xs) (parts_of rows d)) (sym flat)
      (a.whole ns rows (d ∷ rest) d (typed rows d rest flat) u b) in
      let more = rows-append rows d in
      let same : sizes s (all_from ns [] (rows ++ d ∷ [])) ≡ sizes s (all_from ns [] rows) + sizes s (all_of ns (references ns [] rows) d) =
      ap (sizes s) (definitions-append ns [] rows d) ∙ sizes-append (all_from ns [] rows) (all_of ns (references ns [] rows) d) in
      omega (arith, so-far, one, more, same)

  -- Tables in postfix order with the same definitions by name weigh the same.
  pub by-name : (ns : List (List ℕ)) (rows : List Definition) → IsTyped rows → Leaves rows [] → sum (map s.row rows) ≡ sizes s (all_from ns [] rows)
  by-name ns rows typed p = let c = weighed ns rows typed rows [] p [] (sym (append-nil rows)) in omega (arith, c)
