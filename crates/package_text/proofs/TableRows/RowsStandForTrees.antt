-- What the rows of a table stand for, each by all the rows.
use Rattle.std.proofs.Common.{◌≡◌, ℕ, List, [], ◌∷◌, ◌++◌, length, take, get_or, slice_get, refl, sym, ap, subst, ◌∙◌, append_assoc, length-take, arith, Option, None, Some}
use Rattle.std.specs.Prelude.{true}
use Rattle.std.specs.List.{list_all}
use Rattle.std.proofs.lemmas.Bool.{and_parts}
use Rattle.tables.specs.Tables.{function_all, definition_all, definition_below, is_below, are_earlier, is_type_before, is_type, type_of, function_of, option_all}
use Rattle.tables.specs.Package.{TextTree, Reference, RecordTree, Plain, key_of, read_kind, reference_by, reference, references}
use Rattle.tables.specs.declared.tables.TypeName.{TypeName}
use Rattle.tables.specs.declared.tables.TypeDef.{TypeDef}
use Rattle.tables.specs.declared.tables.Function.{Function}
use Rattle.tables.specs.declared.tables.Definition.{Definition}
use Rattle.tables.specs.declared.tables.Definition.TheVariants as row
use Rattle.tables.specs.declared.tables.Resolve.{Resolve}
use Rattle.tables.proofs.ClosedTypesRowByRow.{get-at, below-at, both}
use Rattle.tables.proofs.NamesEarlierTypes.{definition-both}
use Rattle.package_form.specs.Reached.{name_of}
use Rattle.package_form.proofs.AllAndContains.{all-get}
use Rattle.package_form.proofs.NamesMetOneByOne.{split-at}
use Rattle.tree_meaning.proofs.TableRows.{tree-here}
use Rattle.package_text.specs.Tree.{own_names, own_trees}
use Rattle.package_text.proofs.TableRows.RowsReadByEarlierRows.{kind-front, params-front, row-below}

reference-front : (ns : List (List ℕ)) (front rest : List Definition) (d : Definition) → definition_below (length front) d ≡ true
    → reference ns (references ns [] (front ++ rest)) d ≡ reference ns (references ns [] front) d
reference-front ns front rest (row.Type d) h = ap (reference_by ns d.name) (kind-front ns front rest d.kind h)
reference-front ns front rest (row.Function f) h =
    let t = and_parts (list_all (λ p. is_below (length front) p.ty) f.params) (option_all (is_below (length front)) f.result) h in
    ap (RecordTree Plain) (params-front ns front rest f.params t.0)

-- a row stands for what it reads as by all the rows
pub row-tree : (r : Resolve) (k : ℕ) (d : Definition) → slice_get r.definitions k ≡ Some d → get_or (own_trees r) k TextTree ≡ reference (own_names r) (own_trees r) d
row-tree r k d e =
    let ns = own_names r in
    let rows = r.definitions in
    let at = get-at rows k d e in
    let s = split-at rows k d at.0 (sym (at.1 d)) in
    let front : List Definition = take k rows in
    let flat : rows ≡ front ++ d ∷ s.0 = s.1 ∙ append_assoc front (d ∷ []) s.0 in
    let long : length front ≡ k = omega (arith, at.0, length-take k rows) in
    let below : definition_below (length front) d ≡ true = row-below front d s.0 (subst (λ (ds : List Definition). are_earlier 0 ds ≡ true) flat r.earlier) in
    ap (λ (ds : List Definition). get_or (references ns [] ds) k TextTree) flat
    ∙ (ap (λ i. get_or (references ns [] (front ++ d ∷ s.0)) i TextTree) (sym long)
    ∙ (tree-here ns front s.0 d
    ∙ (sym (reference-front ns front (d ∷ s.0) d below)
    ∙ ap (λ (ds : List Definition). reference ns (references ns [] ds) d) (sym flat))))

-- a type stands for its name, or for what it is
pub type-tree : (r : Resolve) (k : ℕ) (d : TypeDef) (o : Option TypeName) → slice_get r.definitions k ≡ Some (row.Type d) → d.name ≡ o
    → get_or (own_trees r) k TextTree ≡ reference_by (own_names r) o (read_kind (own_trees r) d.kind)
type-tree r k d o e n = row-tree r k (row.Type d) e ∙ ap (λ (m : Option TypeName). reference_by (own_names r) m (read_kind (own_trees r) d.kind)) n

pub name-at : (r : Resolve) (k : ℕ) (n : TypeName) → name_of (type_of (slice_get r.definitions k)) ≡ Some n → get_or (own_trees r) k TextTree ≡ Reference (key_of (own_names r) n)
name-at r k n h = by (slice_get r.definitions k) refl h
  where
    by : (o : Option Definition) → slice_get r.definitions k ≡ o → name_of (type_of o) ≡ Some n → get_or (own_trees r) k TextTree ≡ Reference (key_of (own_names r) n)
    by None e q = absurd cc
    by (Some (row.Function f)) e q = absurd cc
    by (Some (row.Type d)) e q = type-tree r k d (Some n) e q

-- a row names types that stand before it
pub earlier-at : (r : Resolve) (k : ℕ) (d : Definition) → slice_get r.definitions k ≡ Some d → definition_all (is_type_before r.definitions k) d ≡ true
earlier-at r k d e =
    let at = get-at r.definitions k d e in
    let below : definition_below k d ≡ true = below-at k r.definitions k d r.earlier at.0 refl (sym (at.1 d)) in
    let typed : definition_all (is_type r.definitions) d ≡ true = all-get (definition_all (is_type r.definitions)) r.definitions k d r.typed e in
    definition-both (is_below k) (is_type r.definitions) d ∙ both _ _ below typed

pub function-earlier : (r : Resolve) (k : ℕ) (f : Function) → function_of (slice_get r.definitions k) ≡ Some f → function_all (is_type_before r.definitions k) f ≡ true
function-earlier r k f h = by (slice_get r.definitions k) refl h
  where
    by : (o : Option Definition) → slice_get r.definitions k ≡ o → function_of o ≡ Some f → function_all (is_type_before r.definitions k) f ≡ true
    by None e q = absurd cc
    by (Some (row.Type d)) e q = absurd cc
    by (Some (row.Function g)) e q = let same : g ≡ f = cc in subst (λ (x : Function). function_all (is_type_before r.definitions k) x ≡ true) same (earlier-at r k (row.Function g) e)
