-- The types of a table are written in words, where its names are labels.
use Rattle.std.proofs.Common.{◌≡◌, ◌<◌, ◌≤◌, ℕ, zero, suc, List, [], ◌∷◌, ◌++◌, length, flat_map, get_or, slice_get, refl, sym, ap, subst, ◌∙◌, append_assoc, length-append, arith, All}
use Rattle.std.specs.Prelude.{true, ◌&&◌, Option, None, Some}
use Rattle.std.specs.List.{list_all}
use Rattle.std.proofs.lemmas.Bool.{and_parts, false≢true, ltb-true}
use Rattle.atoms.specs.Label.{IsLabel}
use Rattle.tables.specs.Tables.{option_all, is_standard_kind, is_standard, are_standard}
use Rattle.tables.specs.Package.{Tree, TextTree, read_val, read_choice, read_tuple, read_fields, read_cases, read_enum, read_kind, reference_by, reference, references}
use Rattle.tables.specs.declared.tables.TypeId.{TypeId}
use Rattle.tables.specs.declared.tables.ValType.{ValType}
use Rattle.tables.specs.declared.tables.ValType.TheVariants as val
use Rattle.tables.specs.declared.tables.TypeDef.{TypeDef}
use Rattle.tables.specs.declared.tables.TypeDefKind.{TypeDefKind}
use Rattle.tables.specs.declared.tables.TypeDefKind.TheVariants as kind
use Rattle.tables.specs.declared.tables.TypeName.{TypeName}
use Rattle.tables.specs.declared.tables.Field.{Field}
use Rattle.tables.specs.declared.tables.Case.{Case}
use Rattle.tables.specs.declared.tables.Definition.{Definition}
use Rattle.tables.specs.declared.tables.Definition.TheVariants as row
use Rattle.package_form.specs.Form.{is_own_name}
use Rattle.package_form.specs.Naming.{row_names, row_members, name_if}
use Rattle.package_form.proofs.AllAndContains.{all-head, all-left, all-right, flat_map-append}
use Rattle.tree_meaning.proofs.TableRows.{at-true, tree-here}
use Rattle.package_text.specs.Written.{ty_of, tys_in, some_of}
use Rattle.package_text.specs.Writable.{row_labels}
use Rattle.package_text.proofs.PrintableTrees.ListsFitTheText.{is_worded, are_worded}
use Rattle.package_text.proofs.TableRows.RowsReadAsTrees.{is_own_row, is_own, is_earlier_row, is_local_kind, IsOwned}
use Rattle.package_text.proofs.WrittenTrees.PartsOfInterfaces.{stands-at}

-- each type among these rows reads as a tree whose names are labels
abbrev pub AreSpelt : List (List ℕ) → List Definition → Type 0
AreSpelt ns front = (t : ℕ) (d : TypeDef) → slice_get front t ≡ Some (row.Type d) → is_worded (ty_of (get_or (references ns [] front) t TextTree)) ≡ true

enum-spelt : (names : List (List ℕ)) → is_worded (some_of (read_enum names)) ≡ true
enum-spelt [] = refl
enum-spelt (n ∷ names) = enum-spelt names

module _ (ns : List (List ℕ)) (front : List Definition) (k : ℕ) (so-far : AreSpelt ns front) where
  abbrev trees : List Tree
  trees = references ns [] front

  pub val-spelt : (v : ValType) → is_own front k v ≡ true → is_worded (ty_of (read_val trees v)) ≡ true
  val-spelt (val.Primitive p) h = refl
  val-spelt val.String h = refl
  val-spelt (val.Id t) h = by (slice_get front t.0) refl h
    where
      by : (o : Option Definition) → slice_get front t.0 ≡ o → is_own_row k o ≡ true → is_worded (ty_of (get_or (references ns [] front) t.0 TextTree)) ≡ true
      by None s x = absurd (false≢true x)
      by (Some (row.Function f)) s x = absurd (false≢true x)
      by (Some (row.Type d)) s x = so-far t.0 d s

  use-spelt : (t : TypeId) → is_earlier_row k (slice_get front t.0) ≡ true → is_worded (ty_of (read_val trees (val.Id t))) ≡ true
  use-spelt t h = by (slice_get front t.0) refl h
    where
      by : (o : Option Definition) → slice_get front t.0 ≡ o → is_earlier_row k o ≡ true → is_worded (ty_of (get_or (references ns [] front) t.0 TextTree)) ≡ true
      by None s x = absurd (false≢true x)
      by (Some (row.Function f)) s x = absurd (false≢true x)
      by (Some (row.Type d)) s x = so-far t.0 d s

  tuple-spelt : (vs : List ValType) → 0 < length vs → list_all (is_own front k) vs ≡ true → are_worded (tys_in (read_tuple trees vs)) ≡ true
  tuple-spelt [] n h = absurd (omega (arith, n))
  tuple-spelt (v ∷ []) n h = val-spelt v (and_parts (is_own front k v) true h).0
  tuple-spelt (v ∷ w ∷ vs) n h =
      let t = and_parts (is_own front k v) (list_all (is_own front k) (w ∷ vs)) h in
      ap (λ b. b && are_worded (tys_in (read_tuple trees (w ∷ vs)))) (val-spelt v t.0) ∙ tuple-spelt (w ∷ vs) (omega arith) t.1

  fields-spelt : (fs : List Field) → 0 < length fs → list_all (λ f. is_own front k f.ty) fs ≡ true → are_worded (tys_in (read_fields trees fs)) ≡ true
  fields-spelt [] n h = absurd (omega (arith, n))
  fields-spelt (f ∷ []) n h = val-spelt f.ty (and_parts (is_own front k f.ty) true h).0
  fields-spelt (f ∷ g ∷ fs) n h =
      let t = and_parts (is_own front k f.ty) (list_all (λ f. is_own front k f.ty) (g ∷ fs)) h in
      ap (λ b. b && are_worded (tys_in (read_fields trees (g ∷ fs)))) (val-spelt f.ty t.0) ∙ fields-spelt (g ∷ fs) (omega arith) t.1

  cases-spelt : (cs : List Case) → list_all (λ c. option_all (is_own front k) c.ty) cs ≡ true → is_worded (some_of (read_cases trees cs)) ≡ true
  cases-spelt [] h = refl
  cases-spelt (c ∷ cs) h =
      let t = and_parts (option_all (is_own front k) c.ty) (list_all (λ c. option_all (is_own front k) c.ty) cs) h in by c.ty t.0 (cases-spelt cs t.1) (λ v q. val-spelt v q)
    where
      by : (o : Option ValType) → option_all (is_own front k) o ≡ true → is_worded (some_of (read_cases (references ns [] front) cs)) ≡ true
          → ((v : ValType) → is_own front k v ≡ true → is_worded (ty_of (read_val (references ns [] front) v)) ≡ true)
          → is_worded (some_of (read_choice (references ns [] front) c.name o (read_cases (references ns [] front) cs))) ≡ true
      by None q on one = on
      by (Some v) q on one = one v q

  result-spelt : (ok error : Option ValType) → option_all (is_own front k) ok ≡ true → option_all (is_own front k) error ≡ true → is_worded (ty_of (read_kind trees (kind.Result ok error))) ≡ true
  result-spelt None None h q = refl
  result-spelt (Some v) None h q = ap (λ b. b && true) (val-spelt v h)
  result-spelt None (Some w) h q = val-spelt w q
  result-spelt (Some v) (Some w) h q = ap (λ b. b && is_worded (ty_of (read_val trees w))) (val-spelt v h) ∙ val-spelt w q

  pub kind-spelt : (d : TypeDefKind) → is_local_kind ns front k d ≡ true → is_standard_kind d ≡ true → is_worded (ty_of (read_kind trees d)) ≡ true
  kind-spelt (kind.Use t) h s = use-spelt t h
  kind-spelt (kind.Alias v) h s = val-spelt v h
  kind-spelt (kind.List v) h s = val-spelt v h
  kind-spelt (kind.Option v) h s = val-spelt v h
  kind-spelt (kind.Result ok error) h s =
      let t = and_parts (option_all (is_own front k) ok) (option_all (is_own front k) error) h in result-spelt ok error t.0 t.1
  kind-spelt (kind.Tuple vs) h s = tuple-spelt vs (ltb-true 0 (length vs) s) h
  kind-spelt (kind.Record fs) h s = fields-spelt fs (ltb-true 0 (length fs) s) h
  kind-spelt (kind.Variant cs) h s = cases-spelt cs h
  kind-spelt (kind.Enum names) h s = enum-spelt names
  kind-spelt (kind.Flags names) h s = refl

-- what is asked of the rows of a table that is written
pub record AreWritten (rows : List Definition) : Type 0 where
  pub standard : are_standard rows ≡ true
  pub labels : All IsLabel (flat_map row_labels rows)

module _ (rows : List Definition) (w : AreWritten rows) (front : List Definition) (d : Definition) (rest : List Definition) (e : rows ≡ front ++ d ∷ rest) where
  pub standard-here : is_standard d ≡ true
  standard-here = at-true is_standard front d rest (subst (λ (ds : List Definition). are_standard ds ≡ true) e w.standard)

  labels-here : All IsLabel (row_names d ++ row_members d)
  labels-here =
      all-left IsLabel (row_labels d) (flat_map row_labels rest)
      (all-right IsLabel (flat_map row_labels front) (row_labels d ++ flat_map row_labels rest) (subst (All IsLabel) (ap (flat_map row_labels) e ∙ flat_map-append row_labels front (d ∷ rest)) w.labels))

  pub names-here : All IsLabel (row_names d)
  names-here = all-left IsLabel (row_names d) (row_members d) labels-here

  pub members-here : All IsLabel (row_members d)
  members-here = all-right IsLabel (row_names d) (row_members d) labels-here

module _ (ns : List (List ℕ)) (rows : List Definition) (at : ℕ → ℕ) (o : IsOwned ns rows at) (w : AreWritten rows) where
  row-spelt : (front : List Definition) (d : TypeDef) (rest : List Definition) → rows ≡ front ++ row.Type d ∷ rest → AreSpelt ns front → is_worded (ty_of (reference ns (references ns [] front) (row.Type d))) ≡ true
  row-spelt front d rest e so-far =
      let l = and_parts (is_own_name (at (length front)) d.name) (is_local_kind ns front (at (length front)) d.kind) (o.local front (row.Type d) rest e) in
      by d.name (names-here rows w front (row.Type d) rest e)
      (kind-spelt ns front (at (length front)) so-far d.kind l.1 (standard-here rows w front (row.Type d) rest e))
    where
      by : (m : Option TypeName) → All IsLabel (name_if m) → is_worded (ty_of (read_kind (references ns [] front) d.kind)) ≡ true
          → is_worded (ty_of (reference_by ns m (read_kind (references ns [] front) d.kind))) ≡ true
      by None h q = q
      by (Some n) h q = all-head IsLabel n.name [] h

  spelt-below : (n : ℕ) (front rest : List Definition) → rows ≡ front ++ rest → length front ≤ n → AreSpelt ns front
  spelt-below zero front rest e l t d s =
      let x = stands-at front t (row.Type d) s in
      let long = ap length x.2 in
      let parts = length-append x.0 (row.Type d ∷ x.1) in
      absurd (omega (arith, l, long, parts))
  spelt-below (suc n) front rest e l t d s =
      let x = stands-at front t (row.Type d) s in
      let long = ap length x.2 in
      let parts = length-append x.0 (row.Type d ∷ x.1) in
      let flat : rows ≡ x.0 ++ row.Type d ∷ (x.1 ++ rest) = e ∙ (ap (λ (ds : List Definition). ds ++ rest) x.2 ∙ append_assoc x.0 (row.Type d ∷ x.1) rest) in
      let here = row-spelt x.0 d (x.1 ++ rest) flat (spelt-below n x.0 (row.Type d ∷ (x.1 ++ rest)) flat (omega (arith, l, long, parts))) in
      let tree : get_or (references ns [] front) t TextTree ≡ reference ns (references ns [] x.0) (row.Type d) =
      ap (λ (ds : List Definition). get_or (references ns [] ds) t TextTree) x.2
      ∙ (ap (λ j. get_or (references ns [] (x.0 ++ row.Type d ∷ x.1)) j TextTree) (sym x.3) ∙ tree-here ns x.0 x.1 (row.Type d)) in
      subst (λ (u : Tree). is_worded (ty_of u) ≡ true) (sym tree) here

  pub spelt-before : (front rest : List Definition) → rows ≡ front ++ rest → AreSpelt ns front
  spelt-before front rest e = spelt-below (length front) front rest e (omega arith)
