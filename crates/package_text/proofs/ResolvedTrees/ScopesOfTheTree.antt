-- The scopes of a package's tree are those of its table: in each, names differ.
use Rattle.std.proofs.Common.{◌≡◌, ◌-◌, ℕ, suc, List, [], ◌∷◌, ◌++◌, length, map, flat_map, filter_map, take, drop, get_or, refl, sym, ap, subst, ◌∙◌, append_assoc, length-append, arith, All}
use Rattle.std.specs.Prelude.{Bool, true, false, cond, not, Option, None, Some, is_some}
use Rattle.std.specs.List.{list_all, filter}
use Rattle.std.proofs.lemmas.Bool.{and_parts}
use Rattle.std.proofs.lemmas.List.{map-append}
use Rattle.std.proofs.Math.Seq.{drop-append_seam, take-append_seam}
use Rattle.tables.specs.Tables.{are_earlier}
use Rattle.tables.specs.Package.{Tree, PrimTree, TextTree, Reference, ListTree, RecordTree, VariantTree, FlagsTree, Meaning, IsUse, IsType, IsFunction, NamedDefinition, read_val, read_choice, read_fields, read_params, read_cases, read_enum, meaning_of, function_meaning, reference, references, named_by, named_function, definition_of, definitions_from, worlds}
use Rattle.tables.specs.declared.tables.ValType.{ValType}
use Rattle.tables.specs.declared.tables.TypeDefKind.{TypeDefKind}
use Rattle.tables.specs.declared.tables.TypeDefKind.TheVariants as kind
use Rattle.tables.specs.declared.tables.TypeName.{TypeName}
use Rattle.tables.specs.declared.tables.Parameter.{Parameter}
use Rattle.tables.specs.declared.tables.Field.{Field}
use Rattle.tables.specs.declared.tables.Case.{Case}
use Rattle.tables.specs.declared.tables.Owner.{Owner}
use Rattle.tables.specs.declared.tables.Owner.TheVariants as owner
use Rattle.tables.specs.declared.tables.Definition.{Definition}
use Rattle.tables.specs.declared.tables.Definition.TheVariants as row
use Rattle.tables.specs.declared.tables.Interface.{Interface}
use Rattle.tables.specs.declared.tables.Resolve.{Resolve}
use Rattle.tables.specs.declared.tables.World.{World}
use Rattle.tables.specs.PackageNames.{PackageParts}
use Rattle.wit_tokens.specs.Syntax.{Alias, FileEntry}
use Rattle.package_form.specs.Ends.{end_of, rows_of, interfaces_end}
use Rattle.package_form.specs.Scope.{AreDistinct}
use Rattle.package_form.specs.Closed.{own_package, is_world_of}
use Rattle.package_form.specs.Reached.{is_interface_of}
use Rattle.package_form.proofs.ScopesAreDistinct.{interfaces-distinct, worlds-distinct, labels-distinct}
use Rattle.package_form.proofs.FullNamesStandForInterfaces.{some-package, own-worlds}
use Rattle.package_form.specs.Naming.{field_name, case_name, parameter_name, interface_name, interface_labels_of, world_labels_of, kind_members, row_members, row_names, rows_scopes, interfaces_scopes, world_scopes, label_of, package_scopes}
use Rattle.package_form.specs.Ids.{is_world_function}
use Rattle.package_form.proofs.AllAndContains.{list-grows, all-none, all-cons, all-head, all-tail, all-append, all-left, all-right, flat_map-append}
use Rattle.tree_meaning.specs.Resolved as tree
use Rattle.tree_meaning.specs.Declarations.{WorldTree, world_of, full_world, full_worlds, entry_names, entry_scopes, definition_scopes, member_name, tree_case_name, package_named}
use Rattle.tree_meaning.specs.Scopes.{file_name, interface_scopes}
use Rattle.tree_meaning.proofs.RowNames.{key_name, names-defined}
use Rattle.tree_meaning.proofs.TableRows.{references-append}
use Rattle.tree_meaning.proofs.AllDefinitions.{all-are}
use Rattle.package_text.specs.Written.{ty_of, members_in, cases_in, labels_in, body_of}
use Rattle.package_text.proofs.WrittenTrees.TreeByNames.{entry_of, entry_by, use_entry}
use Rattle.package_form.specs.Postfix.{unnamed, aliased, IsPostfix}
use Rattle.package_form.specs.Form.{is_own_name, ids_of, is_local, IsInPackageForm}
use Rattle.tree_meaning.specs.Resolves.{HasDistinctNames}
use Rattle.package_text.specs.Tree.{own_names, interfaces_of_package}
use Rattle.package_text.proofs.WrittenTrees.TreeByNames.{interface_entry, world_entry, file_of}
use Rattle.package_text.proofs.WrittenTrees.WrittenStandsForTree.{alias-body}
use Rattle.package_text.proofs.ResolvedTrees.TreeResolvesInPlace.{local-back, Each, none_left}
use Rattle.package_text.proofs.TableRows.RowsReadAsTrees.{IsOwned, IsNamed, PlaceExpressed, val-expressed, is_local_kind}
use Rattle.package_text.proofs.TableRows.RowsReadAsTrees as by_front
use Rattle.package_text.proofs.TableRows.DefinitionsByInterface.{leaves-at}
use Rattle.package_text.proofs.TableRows.RowsReadByEarlierRows.{places-mean}
use Rattle.package_text.proofs.TableRows.AreRegions.{AreRegions, no_region, and_region, home}
use Rattle.package_text.proofs.TableRows.RowsAreLocal.{rows-owned, local-unworldly}
use Rattle.package_text.proofs.WrittenTrees.PartsOfInterfaces.{got, written}
use Rattle.package_text.proofs.TableRows.OwnInterfacesBegin.{form-regions, begins}
use Rattle.package_text.proofs.ResolvedTrees.TreeResolvesToPackage.{tree-worlds}

abbrev Scopes : Type 0
Scopes = List (List (List ℕ))

-- ---- names

use-names : (t : Tree) (n : List ℕ) → entry_names (use_entry t n) ≡ n ∷ []
use-names (PrimTree p) n = refl
use-names TextTree n = refl
use-names (Reference k) n = ap (λ (m : List ℕ). m ∷ []) (local-back k.name n)
use-names (ListTree t) n = refl
use-names (RecordTree form fs) n = refl
use-names (VariantTree form cs) n = refl
use-names (FlagsTree labels) n = refl

entry-names : (n : List ℕ) (m : Meaning) → entry_names (entry_by n m) ≡ n ∷ []
entry-names n (IsUse t) = use-names t n
entry-names n (IsType t) = refl
entry-names n (IsFunction fs result) = refl

-- the names that are written are those of the definitions
pub written-names : (ds : List NamedDefinition) → flat_map entry_names (map entry_of ds) ≡ map key_name ds
written-names [] = refl
written-names (d ∷ ds) =
    ap (λ (ns : List (List ℕ)). ns ++ flat_map entry_names (map entry_of ds)) (entry-names d.key.name d.meaning) ∙ ap (λ (ns : List (List ℕ)). d.key.name ∷ ns) (written-names ds)

-- ---- members

field-names : (ts : List Tree) (fs : List Field) → map member_name (members_in (read_fields ts fs)) ≡ map field_name fs
field-names ts [] = refl
field-names ts (f ∷ fs) = ap (λ (ns : List (List ℕ)). f.name ∷ ns) (field-names ts fs)

parameter-names : (ts : List Tree) (ps : List Parameter) → map member_name (members_in (read_params ts ps)) ≡ map parameter_name ps
parameter-names ts [] = refl
parameter-names ts (p ∷ ps) = ap (λ (ns : List (List ℕ)). p.name ∷ ns) (parameter-names ts ps)

case-names : (ts : List Tree) (cs : List Case) → map tree_case_name (cases_in (read_cases ts cs)) ≡ map case_name cs
case-names ts [] = refl
case-names ts (c ∷ cs) = by c.ty (case-names ts cs)
  where
    by : (v : Option ValType) → map tree_case_name (cases_in (read_cases ts cs)) ≡ map case_name cs → map tree_case_name (cases_in (read_choice ts c.name v (read_cases ts cs))) ≡ c.name ∷ map case_name cs
    by None h = ap (λ (ns : List (List ℕ)). c.name ∷ ns) h
    by (Some v) h = ap (λ (ns : List (List ℕ)). c.name ∷ ns) h

label-names : (ns : List (List ℕ)) → labels_in (read_enum ns) ≡ ns
label-names [] = refl
label-names (n ∷ ns) = ap (λ (ms : List (List ℕ)). n ∷ ms) (label-names ns)

use-scopes : (t : Tree) (n : List ℕ) → entry_scopes (use_entry t n) ≡ []
use-scopes (PrimTree p) n = refl
use-scopes TextTree n = refl
use-scopes (Reference k) n = refl
use-scopes (ListTree t) n = refl
use-scopes (RecordTree form fs) n = refl
use-scopes (VariantTree form cs) n = refl
use-scopes (FlagsTree labels) n = refl

-- what is written for a type whose names differ, where an alias is of no record, variant, enum or flags
type-scopes : (ts : List Tree) (n : List ℕ) (k : TypeDefKind) → ((v : ValType) → k ≡ kind.Alias v → body_of (read_val ts v) ≡ Alias (ty_of (read_val ts v)))
    → AreDistinct (kind_members k) → All AreDistinct (entry_scopes (entry_by n (meaning_of ts k)))
type-scopes ts n (kind.Use t) a h = subst (All AreDistinct) (sym (use-scopes _ n)) (all-none AreDistinct)
type-scopes ts n (kind.Alias v) a h = subst (λ b. All AreDistinct (definition_scopes b)) (sym (a v refl)) (all-none AreDistinct)
type-scopes ts n (kind.List v) a h = all-none AreDistinct
type-scopes ts n (kind.Option v) a h = all-none AreDistinct
type-scopes ts n (kind.Result ok error) a h = all-none AreDistinct
type-scopes ts n (kind.Tuple vs) a h = all-none AreDistinct
type-scopes ts n (kind.Record fs) a h = all-cons AreDistinct _ [] (subst AreDistinct (sym (field-names ts fs)) h) (all-none AreDistinct)
type-scopes ts n (kind.Variant cs) a h = all-cons AreDistinct _ [] (subst AreDistinct (sym (case-names ts cs)) h) (all-none AreDistinct)
type-scopes ts n (kind.Enum ns) a h = all-cons AreDistinct _ [] (subst AreDistinct (sym (label-names ns)) h) (all-none AreDistinct)
type-scopes ts n (kind.Flags ns) a h = all-cons AreDistinct _ [] h (all-none AreDistinct)

-- an alias of a row's is written as one
abbrev pub AliasWritten : List Tree → Definition → Type 0
AliasWritten ts (row.Type d) = (n : TypeName) → d.name ≡ Some n → (v : ValType) → d.kind ≡ kind.Alias v → body_of (read_val ts v) ≡ Alias (ty_of (read_val ts v))
AliasWritten ts (row.Function f) = Unit {0}

pub row-scopes : (ns : List (List ℕ)) (ts : List Tree) (d : Definition) → AliasWritten ts d → AreDistinct (row_members d) → All AreDistinct (flat_map entry_scopes (map entry_of (definition_of ns ts d)))
row-scopes ns ts (row.Function f) a h = by f.owner
  where
    by : (o : Owner) → All AreDistinct (flat_map entry_scopes (map entry_of (named_function ns o f.name (function_meaning ts f))))
    by (owner.Interface i) = all-cons AreDistinct (map member_name (members_in (read_params ts f.params))) [] (subst AreDistinct (sym (parameter-names ts f.params)) h) (all-none AreDistinct)
    by (owner.World w) = all-none AreDistinct
row-scopes ns ts (row.Type d) a h = by d.name refl
  where
    by : (m : Option TypeName) → d.name ≡ m → All AreDistinct (flat_map entry_scopes (map entry_of (named_by ns ts m d.kind)))
    by None q = all-none AreDistinct
    by (Some n) q = all-append AreDistinct (entry_scopes (entry_by n.name (meaning_of ts d.kind))) [] (type-scopes ts n.name d.kind (λ v e. a n q v e) h) (all-none AreDistinct)

-- ---- all rows

module _ (ns : List (List ℕ)) (rows : List Definition) (at : ℕ → ℕ) (earlier : are_earlier 0 rows ≡ true) (o : IsOwned ns rows at) (p : IsPostfix rows) where
  pub alias-written : (front : List Definition) (d : Definition) (rest : List Definition) → rows ≡ front ++ d ∷ rest → AliasWritten (references ns [] front) d
  alias-written front (row.Function f) rest e = tt
  alias-written front (row.Type d) rest e = λ n q v k.
      let k' : ℕ = at (length front) in
      let before = leaves-at rows [] p front (row.Type d) rest e (ap (λ m. not (is_some m)) q) in
      let none : unnamed front v ≡ [] = ap (aliased front) (sym k) ∙ before.1 in
      let l = and_parts (is_own_name (at (length front)) d.name) (is_local_kind ns front (at (length front)) d.kind) (o.local front (row.Type d) rest e) in
      let own : by_front.is_own front (at (length front)) v ≡ true = ap (is_local_kind ns front (at (length front))) (sym k) ∙ l.1 in
      alias-body (get_or ns (at (length front)) []) (IsNamed front (at (length front))) (read_val (references ns [] front) v)
      (val-expressed ns front (at (length front)) v own (subst (Each (PlaceExpressed ns front (at (length front)))) (sym none) none_left))

  rows-distinct : (front xs rest : List Definition) → rows ≡ front ++ (xs ++ rest) → All AreDistinct (map row_members xs)
      → All AreDistinct (flat_map entry_scopes (map entry_of (definitions_from ns (references ns [] front) xs)))
  rows-distinct front [] rest e h = all-none AreDistinct
  rows-distinct front (x ∷ xs) rest e h =
      let ts = references ns [] front in
      let here = row-scopes ns (references ns [] front) x (alias-written front x (xs ++ rest) e) (all-head AreDistinct (row_members x) (map row_members xs) h) in
      let on = rows-distinct (front ++ x ∷ []) xs rest (e ∙ sym (append_assoc front (x ∷ []) (xs ++ rest))) (all-tail AreDistinct (row_members x) (map row_members xs) h) in
      let on' = subst (λ (us : List Tree). All AreDistinct (flat_map entry_scopes (map entry_of (definitions_from ns us xs)))) (references-append ns [] front (x ∷ [])) on in
      let split : flat_map entry_scopes (map entry_of (definition_of ns ts x ++ definitions_from ns (ts ++ reference ns ts x ∷ []) xs))
      ≡ flat_map entry_scopes (map entry_of (definition_of ns ts x)) ++ flat_map entry_scopes (map entry_of (definitions_from ns (ts ++ reference ns ts x ∷ []) xs)) =
      ap (flat_map entry_scopes) (map-append entry_of (definition_of ns ts x) (definitions_from ns (ts ++ reference ns ts x ∷ []) xs))
      ∙ flat_map-append entry_scopes (map entry_of (definition_of ns ts x)) (map entry_of (definitions_from ns (ts ++ reference ns ts x ∷ []) xs)) in
      subst (All AreDistinct) (sym split) (all-append AreDistinct (flat_map entry_scopes (map entry_of (definition_of ns ts x))) _ here on')

  scopes-from : (named : PackageParts) (k : ℕ) (pre : List Definition) (is : List Interface) (post : List Definition) → AreRegions rows at k pre is post → rows ≡ pre ++ post → All AreDistinct (interfaces_scopes rows (length pre) is)
      → All AreDistinct (flat_map (interface_scopes named) (map (written ns rows at earlier o p) is))
  scopes-from named _ _ _ _ (no_region k pre back behind home) e h = all-none AreDistinct
  scopes-from named _ _ _ _ (and_region k pre own post i is ends ids uses types locals here more) e h =
      let long = length-append pre own in
      let mine : rows_of rows (length pre) i ≡ own =
      ap (λ n. take (n - length pre) (drop (length pre) rows)) ends
      ∙ (ap (λ n. take n (drop (length pre) rows)) (omega (arith, long))
      ∙ (ap (λ (xs : List Definition). take (length own) (drop (length pre) xs)) e ∙ (ap (take (length own)) (drop-append_seam pre (own ++ post)) ∙ take-append_seam own post))) in
      let parts : All AreDistinct (rows_scopes own ++ interfaces_scopes rows (length (pre ++ own)) is) =
      subst (λ n. All AreDistinct (rows_scopes own ++ interfaces_scopes rows n is)) ends (subst (λ (xs : List Definition). All AreDistinct (rows_scopes xs ++ interfaces_scopes rows (end_of (length pre) i) is)) mine h) in
      let first = all-left AreDistinct (rows_scopes own) (interfaces_scopes rows (length (pre ++ own)) is) parts in
      let others = scopes-from named (suc k) (pre ++ own) is post more (e ∙ sym (append_assoc pre own post)) (all-right AreDistinct (rows_scopes own) (interfaces_scopes rows (length (pre ++ own)) is) parts) in
      let ds = flat_map (got ns rows at earlier o p) (ids_of i) in
      let told : flat_map (got ns rows at earlier o p) (ids_of i) ≡ definitions_from ns (references ns [] pre) own = ap (flat_map (got ns rows at earlier o p)) ids ∙ places-mean ns rows earlier pre own post e in
      let names : flat_map entry_names (map entry_of ds) ≡ flat_map row_names own = written-names ds ∙ (ap (map key_name) (told ∙ all-are ns (references ns [] pre) own (list-grows (is_local rows k) (λ d. not (is_world_function d)) (local-unworldly rows k) own locals)) ∙ sym (names-defined ns (references ns [] pre) own)) in
      let members : All AreDistinct (flat_map entry_scopes (map entry_of ds)) =
      subst (λ (xs : List NamedDefinition). All AreDistinct (flat_map entry_scopes (map entry_of xs))) (sym told) (rows-distinct pre own post e (all-tail AreDistinct (flat_map row_names own) (map row_members own) first)) in
      all-append AreDistinct (flat_map entry_names (map entry_of ds) ∷ flat_map entry_scopes (map entry_of ds)) (flat_map (interface_scopes named) (map (written ns rows at earlier o p) is))
      (all-cons AreDistinct _ _ (subst AreDistinct (sym names) (all-head AreDistinct (flat_map row_names own) (map row_members own) first)) members) others

scopes-parted : (rows : List Definition) (start : ℕ) (front own : List Interface)
    → interfaces_scopes rows start (front ++ own) ≡ interfaces_scopes rows start front ++ interfaces_scopes rows (interfaces_end start front) own
scopes-parted rows start [] own = refl
scopes-parted rows start (i ∷ is) own =
    ap (λ (ss : Scopes). rows_scopes (rows_of rows start i) ++ ss) (scopes-parted rows (end_of start i) is own)
    ∙ sym (append_assoc (rows_scopes (rows_of rows start i)) (interfaces_scopes rows (end_of start i) is) (interfaces_scopes rows (interfaces_end (end_of start i) is) own))

-- the names of the own interfaces are those of its package
own-named : (k : ℕ) (is : List Interface) → interface_labels_of is k ≡ map interface_name (filter (is_interface_of k) is)
own-named k [] = refl
own-named k (i ∷ is) = by (is_interface_of k i) (own-named k is)
  where
    by : (b : Bool) → interface_labels_of is k ≡ map interface_name (filter (is_interface_of k) is)
        → cond b (i.name ∷ []) [] ++ interface_labels_of is k ≡ map interface_name (cond b (i ∷ filter (is_interface_of k) is) (filter (is_interface_of k) is))
    by true h = ap (λ (ns : List (List ℕ)). i.name ∷ ns) h
    by false h = h

worlds-named : (k : ℕ) (ws : List World) → list_all (is_world_of k) ws ≡ true → world_labels_of ws k ≡ map label_of ws
worlds-named k [] h = refl
worlds-named k (w ∷ ws) h =
    let s = and_parts (is_world_of k w) (list_all (is_world_of k) ws) h in
    ap (λ (b : Bool). cond b (w.name ∷ []) [] ++ world_labels_of ws k) s.0 ∙ ap (λ (ns : List (List ℕ)). w.name ∷ ns) (worlds-named k ws s.1)

-- in the scopes of the tree's interfaces names differ
pub tree-interfaces-distinct : (r : Resolve) → IsInPackageForm r → All AreDistinct (package_scopes r) → All AreDistinct (flat_map (interface_scopes (package_named (file_of r))) (map (interface_entry r) (interfaces_of_package r)))
tree-interfaces-distinct r f h =
    let b = begins r f in
    let regions = form-regions r f in
    let owned = rows-owned (own_names r) r.definitions (home 0 0 r.interfaces) r.interfaces r.earlier f.postfix regions in
    scopes-from (own_names r) r.definitions (home 0 0 r.interfaces) r.earlier owned f.postfix (package_named (file_of r)) (length b.front) b.before (interfaces_of_package r) b.behind b.regions b.rows
    (subst (λ (n : ℕ). All AreDistinct (interfaces_scopes r.definitions n (interfaces_of_package r))) (sym b.ends)
    (all-right AreDistinct (interfaces_scopes r.definitions 0 b.front) (interfaces_scopes r.definitions (interfaces_end 0 b.front) (interfaces_of_package r))
    (subst (All AreDistinct) (ap (interfaces_scopes r.definitions 0) b.interfaces ∙ scopes-parted r.definitions 0 b.front (interfaces_of_package r)) (interfaces-distinct r h))))

-- in the scopes of the tree names differ where they do in those of the table, whose worlds are those of the tree
pub tree-distinct : (r : Resolve) → IsInPackageForm r → worlds r ≡ map tree.meaning_of_world (full_worlds (file_of r)) → All AreDistinct (package_scopes r) → HasDistinctNames (file_of r)
tree-distinct r f same h =
    let p = package_named (file_of r) in
    let A : List FileEntry = map (interface_entry r) (interfaces_of_package r) in
    let B : List FileEntry = map (world_entry r) r.worlds in
    let names : map interface_name (interfaces_of_package r) ++ map label_of r.worlds ≡ map file_name (map (interface_entry r) (interfaces_of_package r) ++ map (world_entry r) r.worlds) =
    sym (map-append file_name A B ∙ (ap (λ (ns : List (List ℕ)). ns ++ map file_name B) (file-names (interfaces_of_package r)) ∙ ap (λ (ns : List (List ℕ)). map interface_name (interfaces_of_package r) ++ ns) (world-names r.worlds))) in
    let told : flat_map world_scopes (worlds r) ≡ flat_map (interface_scopes (package_named (file_of r))) (map (world_entry r) r.worlds) =
    ap (flat_map world_scopes) (same ∙ ap (λ (ts : List WorldTree). map tree.meaning_of_world (map (full_world p) ts)) (tree-worlds r)) ∙ sym (worlds-scopes r.worlds) in
    let outer : All AreDistinct (flat_map (interface_scopes (package_named (file_of r))) (map (world_entry r) r.worlds)) =
    subst (All AreDistinct) told
    (worlds-distinct r h) in
    let own = own_package r.packages in
    let scope : AreDistinct (interface_labels_of r.interfaces own ++ world_labels_of r.worlds own) = labels-distinct r h own (omega (arith, some-package r f.closed)) in
    let told_names : interface_labels_of r.interfaces own ++ world_labels_of r.worlds own ≡ map interface_name (interfaces_of_package r) ++ map label_of r.worlds =
    ap (λ (ns : List (List ℕ)). ns ++ world_labels_of r.worlds own) (own-named own r.interfaces)
    ∙ ap (λ (ns : List (List ℕ)). map interface_name (interfaces_of_package r) ++ ns) (worlds-named own r.worlds (own-worlds r f.closed)) in
    all-cons AreDistinct (map file_name (A ++ B)) (flat_map (interface_scopes p) (A ++ B)) (subst AreDistinct (told_names ∙ names) scope)
    (subst (All AreDistinct) (sym (flat_map-append (interface_scopes p) A B))
    (all-append AreDistinct (flat_map (interface_scopes p) A) (flat_map (interface_scopes p) B) (tree-interfaces-distinct r f h) outer))
  where
    file-names : (is : List Interface) → map file_name (map (interface_entry r) is) ≡ map interface_name is
    file-names [] = refl
    file-names (i ∷ is) = ap (λ (ns : List (List ℕ)). i.name ∷ ns) (file-names is)

    world-names : (ws : List World) → map file_name (map (world_entry r) ws) ≡ map label_of ws
    world-names [] = refl
    world-names (w ∷ ws) = ap (λ (ns : List (List ℕ)). w.name ∷ ns) (world-names ws)

    worlds-scopes : (ws : List World) → flat_map (interface_scopes (package_named (file_of r))) (map (world_entry r) ws)
        ≡ flat_map world_scopes (map tree.meaning_of_world (map (full_world (package_named (file_of r))) (filter_map world_of (map (world_entry r) ws))))
    worlds-scopes [] = refl
    worlds-scopes (w ∷ ws) = ap (λ (ss : List (List (List ℕ))). interface_scopes (package_named (file_of r)) (world_entry r w) ++ ss) (worlds-scopes ws)
