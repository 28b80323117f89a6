-- Where the types of a table nest at most 64 deep, so do those that are written for it.
use Rattle.std.proofs.Common.{◌≡◌, ◌+◌, ◌≤◌, ℕ, zero, suc, List, [], ◌∷◌, ◌++◌, length, map, flat_map, take, get_or, slice_get, refl, sym, ap, subst, ◌∙◌, length-append, arith}
use Rattle.std.specs.Prelude.{Bool, true, false, Option, None, Some}
use Rattle.std.specs.List.{list_all}
use Rattle.std.specs.Option.{option_map}
use Rattle.std.proofs.lemmas.Bool.{and_parts, false≢true, le-leb}
use Rattle.std.proofs.lemmas.List.Folds.{list_all-append}
use Rattle.canonical_abi.specs.Types.{ClosedType, prim_type, string_type, list_type, record_type, variant_type, flags_type, fields_of, cases_of}
use Rattle.canonical_abi.specs.Types as closed
use Rattle.tables.specs.Closed.{closed_val, closed_kind, closed_params, closed_definition, closed_rows, closed_types}
use Rattle.tables.specs.Tables.{option_all, kind_all, definition_all, is_below, definition_below, are_earlier, is_type, is_there, type_of, function_of}
use Rattle.tables.specs.Package.{Tree, PrimTree, TextTree, Reference, ListTree, RecordTree, VariantTree, FlagsTree, Plain, AsTuple, AsEnum, AsOption, AsResult, read_val, read_choice, read_tuple, read_fields, read_params, read_cases, read_kind, meaning_of, function_meaning, reference_by, reference, references, named_by, named_function, function_item, item_meaning}
use Rattle.tables.specs.declared.tables.ValType.{ValType}
use Rattle.tables.specs.declared.tables.ValType.TheVariants as val
use Rattle.tables.specs.declared.tables.TypeDef.{TypeDef}
use Rattle.tables.specs.declared.tables.TypeDefKind.{TypeDefKind}
use Rattle.tables.specs.declared.tables.TypeDefKind.TheVariants as kind
use Rattle.tables.specs.declared.tables.TypeName.{TypeName}
use Rattle.tables.specs.declared.tables.Field.{Field}
use Rattle.tables.specs.declared.tables.Parameter.{Parameter}
use Rattle.tables.specs.declared.tables.Case.{Case}
use Rattle.tables.specs.declared.tables.Direction.{Direction}
use Rattle.tables.specs.declared.tables.Owner.{Owner}
use Rattle.tables.specs.declared.tables.Owner.TheVariants as owner
use Rattle.tables.specs.declared.tables.Function.{Function}
use Rattle.tables.specs.declared.tables.Definition.{Definition}
use Rattle.tables.specs.declared.tables.Definition.TheVariants as row
use Rattle.tables.specs.declared.tables.Interface.{Interface}
use Rattle.tables.specs.declared.tables.WorldItemKind.{WorldItemKind}
use Rattle.tables.specs.declared.tables.WorldItemKind.TheVariants as item
use Rattle.tables.specs.declared.tables.WorldItem.{WorldItem}
use Rattle.tables.specs.declared.tables.World.{World}
use Rattle.tables.specs.declared.tables.Resolve.{Resolve}
use Rattle.tables.proofs.ClosedTypesRowByRow.{both, get-at, closed-at, closed_val-stays, below-at}
use Rattle.package_form.specs.Postfix.{is_inner, IsPostfix}
use Rattle.package_form.specs.Form.{ids_of}
use Rattle.package_form.proofs.PostfixIsDecided.{postfix-used}
use Rattle.package_form.proofs.AllAndContains.{all-get}
use Rattle.wit_tokens.specs.Syntax.{Ty, depth_all, PathTo, ty_depth}
use Rattle.tree_meaning.specs.Resolves.{fits, fits_if, member_fits, case_fits, body_fits, signature_fits, entry_fits, world_entry_fits, interface_fits, file_fits}
use Rattle.tree_meaning.proofs.RowsOfEachInterface.{is_inner_row, used-inner}
use Rattle.tree_meaning.proofs.TableRows.{name-tree}
use Rattle.package_text.specs.Written.{ty_of, tys_in, members_in, cases_in, body_of}
use Rattle.package_text.specs.Tree.{row_path, item_path, use_entry, function_by, entry_by, entry_of, own_names, own_trees, row_entries, written_at, interface_entry, interfaces_of_package, item_entry, item_written, world_written, file_of}
use Rattle.package_text.specs.Laws.{IsShallow}
use Rattle.package_text.proofs.OneTablePerTree.UnnamedRowsOfTrees.{inner-at}

-- ---- types within types

below-limit : (t : Ty) (n : ℕ) → ty_depth t ≤ n → n ≤ 64 → fits t ≡ true
below-limit t n l m = le-leb (ty_depth t) 64 (omega (arith, l, m))

at-least-one : (t : ClosedType) → 1 ≤ closed.depth t
at-least-one (prim_type p) = omega arith
at-least-one string_type = omega arith
at-least-one (list_type t) = omega arith
at-least-one (record_type fs) = omega arith
at-least-one (variant_type cs) = omega arith
at-least-one (flags_type n) = omega arith

use-fits : (q : PathTo) (n : List ℕ) (t : Tree) → fits (ty_of t) ≡ true → entry_fits (use_entry q t n) ≡ true
use-fits q n (PrimTree p) h = h
use-fits q n TextTree h = h
use-fits q n (Reference k) h = refl
use-fits q n (ListTree t) h = h
use-fits q n (RecordTree form fs) h = h
use-fits q n (VariantTree form cs) h = h
use-fits q n (FlagsTree labels) h = h

-- a tree that is written as a type
abbrev is_expression : Tree → Bool
is_expression (PrimTree p) = true
is_expression TextTree = true
is_expression (Reference k) = true
is_expression (ListTree t) = true
is_expression (RecordTree AsTuple fs) = true
is_expression (RecordTree form fs) = false
is_expression (VariantTree AsOption cs) = true
is_expression (VariantTree AsResult cs) = true
is_expression (VariantTree form cs) = false
is_expression (FlagsTree labels) = false

expression-fits : (t : Tree) → is_expression t ≡ true → fits (ty_of t) ≡ true → body_fits (body_of t) ≡ true
expression-fits (PrimTree p) i h = h
expression-fits TextTree i h = h
expression-fits (Reference k) i h = h
expression-fits (ListTree t) i h = h
expression-fits (RecordTree AsTuple fs) i h = h
expression-fits (RecordTree Plain fs) i h = absurd (false≢true i)
expression-fits (RecordTree AsEnum fs) i h = absurd (false≢true i)
expression-fits (RecordTree AsOption fs) i h = absurd (false≢true i)
expression-fits (RecordTree AsResult fs) i h = absurd (false≢true i)
expression-fits (VariantTree AsOption cs) i h = h
expression-fits (VariantTree AsResult cs) i h = h
expression-fits (VariantTree Plain cs) i h = absurd (false≢true i)
expression-fits (VariantTree AsTuple cs) i h = absurd (false≢true i)
expression-fits (VariantTree AsEnum cs) i h = absurd (false≢true i)
expression-fits (FlagsTree labels) i h = absurd (false≢true i)

inner-expression : (trees : List Tree) (k : TypeDefKind) → is_inner k ≡ true → is_expression (read_kind trees k) ≡ true
inner-expression trees (kind.List v) h = refl
inner-expression trees (kind.Option v) h = refl
inner-expression trees (kind.Result ok error) h = refl
inner-expression trees (kind.Tuple vs) h = refl
inner-expression trees (kind.Use t) h = absurd (false≢true h)
inner-expression trees (kind.Alias v) h = absurd (false≢true h)
inner-expression trees (kind.Record fs) h = absurd (false≢true h)
inner-expression trees (kind.Variant cs) h = absurd (false≢true h)
inner-expression trees (kind.Enum ns) h = absurd (false≢true h)
inner-expression trees (kind.Flags ns) h = absurd (false≢true h)

module _ (trees : List Tree) (ts : List ClosedType) (has : ValType → Bool) (told : (v : ValType) → has v ≡ true → ty_depth (ty_of (read_val trees v)) ≤ closed.depth (closed_val ts v)) where
  tuple-deep : (vs : List ValType) → list_all has vs ≡ true → depth_all (tys_in (read_tuple trees vs)) ≤ closed.fields_depth (fields_of (map (closed_val ts) vs))
  tuple-deep [] h = omega arith
  tuple-deep (v ∷ vs) h =
      let t = and_parts (has v) (list_all has vs) h in
      let a = told v t.0 in let b = tuple-deep vs t.1 in omega (arith, a, b)

  pub params-deep : (ps : List Parameter) → list_all (λ p. has p.ty) ps ≡ true → depth_all (tys_in (read_params trees ps)) ≤ closed.fields_depth (fields_of (closed_params ts ps))
  params-deep [] h = omega arith
  params-deep (p ∷ ps) h =
      let t = and_parts (has p.ty) (list_all (λ p. has p.ty) ps) h in
      let a = told p.ty t.0 in let b = params-deep ps t.1 in omega (arith, a, b)

  result-deep : (ok error : Option ValType) → option_all has ok ≡ true → option_all has error ≡ true
      → ty_depth (ty_of (read_kind trees (kind.Result ok error))) ≤ closed.depth (closed_kind ts (kind.Result ok error))
  result-deep None None h k = omega arith
  result-deep (Some v) None h k = let a = told v h in omega (arith, a)
  result-deep None (Some w) h k = let b = told w k in omega (arith, b)
  result-deep (Some v) (Some w) h k = let a = told v h in let b = told w k in omega (arith, a, b)

  pub inner-deep : (k : TypeDefKind) → is_inner k ≡ true → kind_all has k ≡ true → ty_depth (ty_of (read_kind trees k)) ≤ closed.depth (closed_kind ts k)
  inner-deep (kind.List v) i h = let a = told v h in omega (arith, a)
  inner-deep (kind.Option v) i h = let a = told v h in omega (arith, a)
  inner-deep (kind.Result ok error) i h = let t = and_parts (option_all has ok) (option_all has error) h in result-deep ok error t.0 t.1
  inner-deep (kind.Tuple vs) i h = let a = tuple-deep vs h in omega (arith, a)
  inner-deep (kind.Use t) i h = absurd (false≢true i)
  inner-deep (kind.Alias v) i h = absurd (false≢true i)
  inner-deep (kind.Record fs) i h = absurd (false≢true i)
  inner-deep (kind.Variant cs) i h = absurd (false≢true i)
  inner-deep (kind.Enum ls) i h = absurd (false≢true i)
  inner-deep (kind.Flags ls) i h = absurd (false≢true i)

  -- ---- definitions

  fields-fit : (fs : List Field) → list_all (λ f. has f.ty) fs ≡ true → closed.fields_depth (fields_of (map (λ f. closed_val ts f.ty) fs)) ≤ 63 → list_all member_fits (members_in (read_fields trees fs)) ≡ true
  fields-fit [] h l = refl
  fields-fit (f ∷ fs) h l =
      let t = and_parts (has f.ty) (list_all (λ f. has f.ty) fs) h in
      both _ _ (below-limit (ty_of (read_val trees f.ty)) (closed.depth (closed_val ts f.ty)) (told f.ty t.0) (omega (arith, l))) (fields-fit fs t.1 (omega (arith, l)))

  cases-fit : (cs : List Case) → list_all (λ c. option_all has c.ty) cs ≡ true → closed.cases_depth (cases_of (map (λ c. option_map (closed_val ts) c.ty) cs)) ≤ 63 → list_all case_fits (cases_in (read_cases trees cs)) ≡ true
  cases-fit [] h l = refl
  cases-fit (c ∷ cs) h l =
      let t = and_parts (option_all has c.ty) (list_all (λ c. option_all has c.ty) cs) h in by c.ty t.0 l (λ m. cases-fit cs t.1 m)
    where
      by : (o : Option ValType) → option_all has o ≡ true → closed.cases_depth (cases_of (option_map (closed_val ts) o ∷ map (λ c. option_map (closed_val ts) c.ty) cs)) ≤ 63
          → (closed.cases_depth (cases_of (map (λ c. option_map (closed_val ts) c.ty) cs)) ≤ 63 → list_all case_fits (cases_in (read_cases trees cs)) ≡ true)
          → list_all case_fits (cases_in (read_choice trees c.name o (read_cases trees cs))) ≡ true
      by None q m on = on m
      by (Some v) q m on = both _ _ (below-limit (ty_of (read_val trees v)) (closed.depth (closed_val ts v)) (told v q) (omega (arith, m))) (on (omega (arith, m)))

  pub params-fit : (ps : List Parameter) → list_all (λ p. has p.ty) ps ≡ true → ((v : ValType) → has v ≡ true → closed.depth (closed_val ts v) ≤ 64) → list_all member_fits (members_in (read_params trees ps)) ≡ true
  params-fit [] h l = refl
  params-fit (p ∷ ps) h l =
      let t = and_parts (has p.ty) (list_all (λ p. has p.ty) ps) h in
      both _ _ (below-limit (ty_of (read_val trees p.ty)) (closed.depth (closed_val ts p.ty)) (told p.ty t.0) (l p.ty t.0)) (params-fit ps t.1 l)

  pub if-fits : (v : Option ValType) → option_all has v ≡ true → ((v : ValType) → has v ≡ true → closed.depth (closed_val ts v) ≤ 64) → fits_if (option_map ty_of (option_map (read_val trees) v)) ≡ true
  if-fits None h l = refl
  if-fits (Some v) h l = below-limit (ty_of (read_val trees v)) (closed.depth (closed_val ts v)) (told v h) (l v h)

  -- what is written for a kind whose closed type is at most 64 deep
  pub kind-fits : (q : PathTo) (n : List ℕ) (k : TypeDefKind) → kind_all has k ≡ true → ((v : ValType) → k ≡ kind.Alias v → is_expression (read_val trees v) ≡ true) → closed.depth (closed_kind ts k) ≤ 64
      → entry_fits (entry_by q n (meaning_of trees k)) ≡ true
  kind-fits q n (kind.Use t) h b l = use-fits q n (read_val trees (val.Id t)) (below-limit (ty_of (read_val trees (val.Id t))) (closed.depth (closed_val ts (val.Id t))) (told (val.Id t) h) l)
  kind-fits q n (kind.Alias v) h b l = expression-fits (read_val trees v) (b v refl) (below-limit (ty_of (read_val trees v)) (closed.depth (closed_val ts v)) (told v h) l)
  kind-fits q n (kind.List v) h b l = below-limit (ty_of (read_kind trees (kind.List v))) (closed.depth (closed_kind ts (kind.List v))) (inner-deep (kind.List v) refl h) l
  kind-fits q n (kind.Option v) h b l = below-limit (ty_of (read_kind trees (kind.Option v))) (closed.depth (closed_kind ts (kind.Option v))) (inner-deep (kind.Option v) refl h) l
  kind-fits q n (kind.Result ok error) h b l = below-limit (ty_of (read_kind trees (kind.Result ok error))) (closed.depth (closed_kind ts (kind.Result ok error))) (inner-deep (kind.Result ok error) refl h) l
  kind-fits q n (kind.Tuple vs) h b l = below-limit (ty_of (read_kind trees (kind.Tuple vs))) (closed.depth (closed_kind ts (kind.Tuple vs))) (inner-deep (kind.Tuple vs) refl h) l
  kind-fits q n (kind.Record fs) h b l = fields-fit fs h (omega (arith, l))
  kind-fits q n (kind.Variant cs) h b l = cases-fit cs h (omega (arith, l))
  kind-fits q n (kind.Enum ls) h b l = refl
  kind-fits q n (kind.Flags ls) h b l = refl

-- ---- the rows of a table

-- each tree is written no deeper than its closed type is
abbrev IsBounded : List Tree → List ClosedType → Type 0
IsBounded trees ts = (k : ℕ) → ty_depth (ty_of (get_or trees k TextTree)) ≤ closed.depth (get_or ts k string_type)

bounded-more : (trees : List Tree) (ts : List ClosedType) (x : Tree) (t : ClosedType) → length trees ≡ length ts → IsBounded trees ts → ty_depth (ty_of x) ≤ closed.depth t → IsBounded (trees ++ x ∷ []) (ts ++ t ∷ [])
bounded-more [] [] x t e b l zero = l
bounded-more [] [] x t e b l (suc k) = omega arith
bounded-more [] (u ∷ ts) x t e b l k = absurd (omega (arith, e))
bounded-more (y ∷ trees) [] x t e b l k = absurd (omega (arith, e))
bounded-more (y ∷ trees) (u ∷ ts) x t e b l zero = b 0
bounded-more (y ∷ trees) (u ∷ ts) x t e b l (suc k) = bounded-more trees ts x t (omega (arith, e)) (λ j. b (suc j)) l k

val-bounded : (trees : List Tree) (ts : List ClosedType) → IsBounded trees ts → (v : ValType) → ty_depth (ty_of (read_val trees v)) ≤ closed.depth (closed_val ts v)
val-bounded trees ts b (val.Primitive p) = omega arith
val-bounded trees ts b val.String = omega arith
val-bounded trees ts b (val.Id t) = b t.0

row-bounded : (ns : List (List ℕ)) (trees : List Tree) (ts : List ClosedType) (n : ℕ) → IsBounded trees ts → (d : Definition) → is_inner_row d ≡ true → definition_below n d ≡ true
    → ty_depth (ty_of (reference ns trees d)) ≤ closed.depth (closed_definition ts d)
row-bounded ns trees ts n b (row.Type d) i h = by d.name i
  where
    by : (m : Option TypeName) → is_inner_row (row.Type (record { name = m; kind = d.kind })) ≡ true → ty_depth (ty_of (reference_by ns m (read_kind trees d.kind))) ≤ closed.depth (closed_kind ts d.kind)
    by None q = inner-deep trees ts (is_below n) (λ v g. val-bounded trees ts b v) d.kind q h
    by (Some m) q = at-least-one (closed_kind ts d.kind)
row-bounded ns trees ts n b (row.Function f) i h =
    let t = and_parts (list_all (λ p. is_below n p.ty) f.params) (option_all (is_below n) f.result) h in
    let a = params-deep trees ts (is_below n) (λ v g. val-bounded trees ts b v) f.params t.0 in omega (arith, a)

rows-bounded : (ns : List (List ℕ)) (trees : List Tree) (ts : List ClosedType) (n : ℕ) (ds : List Definition) → length trees ≡ length ts → IsBounded trees ts → list_all is_inner_row ds ≡ true → are_earlier n ds ≡ true
    → IsBounded (references ns trees ds) (closed_rows ts ds)
rows-bounded ns trees ts n [] e b i h = b
rows-bounded ns trees ts n (d ∷ ds) e b i h =
    let s = and_parts (is_inner_row d) (list_all is_inner_row ds) i in
    let t = and_parts (definition_below n d) (are_earlier (n + 1) ds) h in
    let x = reference ns trees d in
    let u = closed_definition ts d in
    rows-bounded ns (trees ++ x ∷ []) (ts ++ u ∷ []) (n + 1) ds (omega (arith, e, length-append trees (x ∷ []), length-append ts (u ∷ [])))
    (bounded-more trees ts x u e b (row-bounded ns trees ts n b d s.0 t.0)) s.1 t.1

-- ---- a table

module _ (r : Resolve) (postfix : IsPostfix r.definitions) (shallow : IsShallow r) where
  inners : list_all is_inner_row r.definitions ≡ true
  inners = used-inner r.definitions 0 [] r.definitions (postfix-used r.definitions r.earlier postfix)

  bounded : IsBounded (own_trees r) (closed_types r)
  bounded = rows-bounded (own_names r) [] [] 0 r.definitions refl (λ k. omega arith) inners r.earlier

  val-shallow : (v : ValType) → is_type r.definitions v ≡ true → closed.depth (closed_val (closed_types r) v) ≤ 64
  val-shallow (val.Primitive p) h = omega arith
  val-shallow val.String h = omega arith
  val-shallow (val.Id t) h = by (slice_get r.definitions t.0) refl h
    where
      by : (o : Option Definition) → slice_get r.definitions t.0 ≡ o → is_there (type_of o) ≡ true → closed.depth (get_or (closed_types r) t.0 string_type) ≤ 64
      by None e q = absurd (false≢true q)
      by (Some (row.Function f)) e q = absurd (false≢true q)
      by (Some (row.Type d)) e q = shallow t.0 d e

  typed-at : (k : ℕ) (d : Definition) → slice_get r.definitions k ≡ Some d → definition_all (is_type r.definitions) d ≡ true
  typed-at k d e = all-get (definition_all (is_type r.definitions)) r.definitions k d r.typed e

  function-fits : (k : ℕ) (f : Function) → slice_get r.definitions k ≡ Some (row.Function f) → signature_fits (function_by (read_params (own_trees r) f.params) (option_map (read_val (own_trees r)) f.result)) ≡ true
  function-fits k f e =
      let t = and_parts (list_all (λ p. is_type r.definitions p.ty) f.params) (option_all (is_type r.definitions) f.result) (typed-at k (row.Function f) e) in
      let told : (v : ValType) → is_type r.definitions v ≡ true → ty_depth (ty_of (read_val (own_trees r) v)) ≤ closed.depth (closed_val (closed_types r) v) = λ v h. val-bounded (own_trees r) (closed_types r) bounded v in
      both _ _ (params-fit (own_trees r) (closed_types r) (is_type r.definitions) told f.params t.0 val-shallow) (if-fits (own_trees r) (closed_types r) (is_type r.definitions) told f.result t.1 val-shallow)

  -- the type of an alias is written as an expression
  val-expression : (v : ValType) → is_type r.definitions v ≡ true → is_expression (read_val (own_trees r) v) ≡ true
  val-expression (val.Primitive p) h = refl
  val-expression val.String h = refl
  val-expression (val.Id t) h = by (slice_get r.definitions t.0) refl h
    where
      named : (d : TypeDef) (m : Option TypeName) → d.name ≡ m → slice_get r.definitions t.0 ≡ Some (row.Type d) → is_expression (get_or (own_trees r) t.0 TextTree) ≡ true
      named d None q e =
          let x = inner-at (own_names r) r.definitions inners t.0 d e q in
          ap is_expression x.1 ∙ inner-expression x.0 d.kind x.2
      named d (Some n) q e = ap is_expression (ap (λ i. get_or (own_trees r) i TextTree) (omega arith) ∙ name-tree (own_names r) [] r.definitions t.0 d n e q)

      by : (o : Option Definition) → slice_get r.definitions t.0 ≡ o → is_there (type_of o) ≡ true → is_expression (get_or (own_trees r) t.0 TextTree) ≡ true
      by None e q = absurd (false≢true q)
      by (Some (row.Function f)) e q = absurd (false≢true q)
      by (Some (row.Type d)) e q = named d d.name refl e

  type-fits : (q : PathTo) (k : ℕ) (d : TypeDef) (n : List ℕ) → slice_get r.definitions k ≡ Some (row.Type d) → entry_fits (entry_by q n (meaning_of (own_trees r) d.kind)) ≡ true
  type-fits q k d n e =
      let at = get-at r.definitions k (row.Type d) e in
      let front = closed_rows [] (take k r.definitions) in
      let below : definition_below k (row.Type d) ≡ true = below-at k r.definitions k (row.Type d) r.earlier at.0 refl (sym (at.1 (row.Type d))) in
      let here : get_or (closed_types r) k string_type ≡ closed_kind front d.kind = closed-at r.definitions k (row.Type d) at.0 ∙ ap (closed_definition front) (at.1 (row.Type d)) in
      let told : (v : ValType) → is_below k v ≡ true → ty_depth (ty_of (read_val (own_trees r) v)) ≤ closed.depth (closed_val front v) = λ v h. val-front k (omega (arith, at.0)) v h in
      kind-fits (own_trees r) front (is_below k) told q n d.kind below
      (λ v u. val-expression v (subst (λ (c : TypeDefKind). kind_all (is_type r.definitions) c ≡ true) u (typed-at k (row.Type d) e)))
      (subst (λ (c : ClosedType). closed.depth c ≤ 64) here (shallow k d e))
    where
      val-front : (j : ℕ) → j ≤ length r.definitions → (v : ValType) → is_below j v ≡ true → ty_depth (ty_of (read_val (own_trees r) v)) ≤ closed.depth (closed_val (closed_rows [] (take j r.definitions)) v)
      val-front j l v h = subst (λ (c : ClosedType). ty_depth (ty_of (read_val (own_trees r) v)) ≤ closed.depth c) (sym (closed_val-stays r.definitions j v l h)) (val-bounded (own_trees r) (closed_types r) bounded v)

  place-fits : (k : ℕ) → list_all entry_fits (written_at r k) ≡ true
  place-fits k = by (slice_get r.definitions k) refl
    where
      named : (d : TypeDef) (m : Option TypeName) → slice_get r.definitions k ≡ Some (row.Type d)
          → list_all entry_fits (map (entry_of (row_path r (Some (row.Type d)))) (named_by (own_names r) (own_trees r) m d.kind)) ≡ true
      named d None e = refl
      named d (Some n) e = both _ _ (type-fits (row_path r (Some (row.Type d))) k d n.name e) refl

      owned : (f : Function) (o : Owner) → slice_get r.definitions k ≡ Some (row.Function f)
          → list_all entry_fits (map (entry_of (row_path r (Some (row.Function f)))) (named_function (own_names r) o f.name (function_meaning (own_trees r) f))) ≡ true
      owned f (owner.Interface i) e = both _ _ (function-fits k f e) refl
      owned f (owner.World w) e = refl

      by : (o : Option Definition) → slice_get r.definitions k ≡ o → list_all entry_fits (row_entries r o) ≡ true
      by None e = refl
      by (Some (row.Type d)) e = named d d.name e
      by (Some (row.Function f)) e = owned f f.owner e

  places-fit : (ks : List ℕ) → list_all entry_fits (flat_map (written_at r) ks) ≡ true
  places-fit [] = refl
  places-fit (k ∷ ks) = list_all-append entry_fits (written_at r k) (flat_map (written_at r) ks) ∙ both _ _ (place-fits k) (places-fit ks)

  interfaces-fit : (is : List Interface) → list_all interface_fits (map (interface_entry r) is) ≡ true
  interfaces-fit [] = refl
  interfaces-fit (i ∷ is) = both _ _ (places-fit (ids_of i)) (interfaces-fit is)

  item-fits : (way : Direction) (i : WorldItemKind) → world_entry_fits (item_entry (item_path r i) (item_meaning (own_names r) (own_trees r) r.definitions way i)) ≡ true
  item-fits way (item.Interface j) = refl
  item-fits way (item.Function f) = by (slice_get r.definitions f.0) refl
    where
      by : (o : Option Definition) → slice_get r.definitions f.0 ≡ o → world_entry_fits (item_entry (item_path r (item.Function f)) (function_item (own_trees r) way (function_of o))) ≡ true
      by None e = refl
      by (Some (row.Type d)) e = refl
      by (Some (row.Function g)) e = function-fits f.0 g e

  items-fit : (is : List WorldItem) → list_all world_entry_fits (map (item_written r) is) ≡ true
  items-fit [] = refl
  items-fit (i ∷ is) = both _ _ (item-fits i.direction i.kind) (items-fit is)

  worlds-fit : (ws : List World) → list_all interface_fits (map (world_written r) ws) ≡ true
  worlds-fit [] = refl
  worlds-fit (w ∷ ws) = both _ _ (items-fit w.items) (worlds-fit ws)

  pub tree-fits : file_fits (file_of r) ≡ true
  tree-fits = list_all-append interface_fits (map (interface_entry r) (interfaces_of_package r)) (map (world_written r) r.worlds) ∙ both _ _ (interfaces-fit (interfaces_of_package r)) (worlds-fit r.worlds)
