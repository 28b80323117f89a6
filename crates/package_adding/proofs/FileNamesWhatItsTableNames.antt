-- A file and its closed table name the same interfaces of other packages.
use Rattle.std.proofs.Common.{◌≡◌, ◌≢◌, ◌↔◌, ℕ, ◌+◌, ◌<◌, ◌==◌, Bool, true, List, [], ◌∷◌, ◌++◌, Option, None, Some, map, flat_map, drop, length, get_or, slice_get, refl, ap, sym, subst, ◌∙◌, arith, append_assoc, All, Contains, inl, inr}
use Rattle.std.specs.List.{list_all}
use Rattle.std.proofs.Math.Bool.{Bool-set}
use Rattle.std.proofs.Math.Logic.{∥∥₁_elim}
use Rattle.std.proofs.Math.Seq.{drop-append_seam}
use Rattle.std.proofs.lemmas.Bool.{cases_lt, eq-eqb, eqb-true}
use Rattle.std.proofs.lemmas.List.{append_cancel_left, get_or_default, get_or_past, length-map}
use Rattle.std.proofs.lemmas.Option.{slice_get-get_or, get_or_from_slice_get, slice_get_within}
use Rattle.package_form.specs.Closed.{own_package}
use Rattle.package_form.specs.Ends.{interfaces_end, is_parted}
use Rattle.package_form.specs.Form.{IsInPackageForm}
use Rattle.package_form.specs.Laws.{IsLabelled}
use Rattle.package_form.specs.Naming.{package_scopes}
use Rattle.package_form.specs.Reached.{reached_by_row, reached_by_kind, reached_by_item, reached_by_world}
use Rattle.package_form.specs.Scope.{AreDistinct}
use Rattle.package_form.proofs.AllAndContains.{all-contained, contains-here, contains-left, contains-right, contains-either, contains-map, contains-unmap, contains-flat}
use Rattle.package_form.proofs.FullNamesStandForInterfaces.{HasOneOfEachInterface, labelled-interfaces}
use Rattle.package_form.proofs.PostfixIsDecided.{postfix-used}
use Rattle.package_sets.specs.Follows.{BeginsWith, OfImports}
use Rattle.package_sets.proofs.FoundImports.OfImports.{follows}
use Rattle.package_sets.specs.Joining.{import_count}
use Rattle.package_sets.specs.SetForm.{IsInSetForm}
use Rattle.package_sets.proofs.FoundImports.BeginsWithImports.{own-is, begins-count, begins-imports}
use Rattle.package_sets.proofs.AttachedSets.OwnPartStandsBehind.{own-behind}
use Rattle.package_sets.proofs.GrowingLists.{map-get, front-get, contains-unflat}
use Rattle.package_sets.proofs.MovedRows.MovedRowsKeepMeaning.{definitions-append}
use Rattle.tree_meaning.specs.Declarations.{UsedItem, InterfaceTree, ItemTree, InterfaceNamed, ForeignNamed, FunctionOf, WorldTree, interfaces, file_worlds, full_label, full_use, full_item, full_interface, full_interfaces, full_world, full_worlds, interface_at, no_interface, interface_tree_name, names_of_trees, package_named, use_interface}
use Rattle.tree_meaning.specs.ImportForms.{UsesImport, HasImportItem}
use Rattle.tree_meaning.specs.Imports.{Import, HasImport, nameless, no_import, import_at, import_of, interfaces_of, imports_of}
use Rattle.tree_meaning.specs.Resolved.{use_meaning, type_meaning, meaning_of_function, in_order, interface_meaning, no_type, direction_meaning, tree_item_meaning, meaning_of_world}
use Rattle.tree_meaning.specs.Resolves.{uses_of_interface, interface_uses, names_in_order, is_of_interfaces, AreImports, interfaces_behind, IsKnownIn, IsKnownUseOf, HasKnownNamesOf, IsKnownItemOf, IsKnownWorldOf, HasNoFaultsOf, IsClosedPackageOf}
use Rattle.tree_meaning.proofs.AllDefinitions.{all_of}
use Rattle.tree_meaning.proofs.NamesOfScopeAreApart.{only}
use Rattle.tree_meaning.proofs.TableRows.{references-append}
use Rattle.tree_meaning.proofs.RowsOfEachInterface.{used-inner}
use Rattle.tree_meaning.proofs.tree_forms.ImportsStandInClosedTables.{last-end}
use Rattle.tree_meaning.proofs.tree_forms.RowsStandWhereDefined.{IsTable}
use Rattle.tree_meaning.proofs.InterfacesUnderFullNames.{interface-full}
use Rattle.tree_meaning.proofs.tree_forms.InterfaceOfEachRow.{IsPlace}
use Rattle.tree_meaning.proofs.ImportsFoundByName.{nowhere, get_or-append-right, imports-length, imports-at, import-within}
use Rattle.tree_meaning.proofs.tree_forms.FullNamesStandForOne.{own-some}
use Rattle.tree_meaning.proofs.OrderedNames.{ordered-has}
use Rattle.tree_meaning.proofs.PlacedTypesNameEarlier.{among-at}
use Rattle.tree_meaning.proofs.tree_forms.ReachedByMeaning.{defined-by, item-reaches}
use Rattle.tree_meaning.proofs.PackageOfAFile.{definitions-within}
use Rattle.tables.specs.Names.{full_name, full_name_in, world_name}
use Rattle.tables.specs.Package.{Tree, Reference, Key, IsUse, NamedDefinition, WithInterface, WorldMeaning, interface_names as names_in, trees as trees_in, worlds as worlds_in, definitions, definition_of, definitions_from, references, reference, item_meaning as meaning_of_item, world_meaning as meaning_in}
use Rattle.tables.specs.PackageNames.{PackageParts, own_name}
use Rattle.tables.specs.declared.tables.Definition.{Definition}
use Rattle.tables.specs.declared.tables.Direction.{Direction}
use Rattle.tables.specs.declared.tables.Interface.{Interface}
use Rattle.tables.specs.declared.tables.Resolve.{Resolve}
use Rattle.tables.specs.declared.tables.World.{World}
use Rattle.tables.specs.declared.tables.WorldItem.{WorldItem}
use Rattle.tables.specs.declared.tables.WorldItemKind.{WorldItemKind}
use Rattle.tables.specs.declared.tables.WorldItemKind.TheVariants as item
use Rattle.wit_tokens.specs.Syntax.{File}
use Rattle.package_adding.specs.Added.{IsOfTree}
use Rattle.package_adding.specs.Named.{NamesInterface, AreNamed}
use Rattle.package_sets.specs.NamedIn.{own_rows, own_reached, IsImportAt, NamesIn, AreNamedIn}
use Rattle.package_adding.proofs.ImportsFromSets.{named-there, are-imports}
use Rattle.package_adding.proofs.FileTableBeginsWithImports.{begins-with}
use Rattle.package_adding.proofs.MarksOfNamesAreOne.{also-marks}
use Rattle.package_adding.proofs.RowsReachWhatTheyUse.{parted-at, among-all, row-reaches, reached-used}

-- the closed table of a file behind imports whose rows are those of their interfaces; in it a full name stands for one interface
pub record StandsBehind (t : Resolve) (f : File) (p : Resolve) : Type 0 where
  pub faults : HasNoFaultsOf (imports_of t) f
  pub resolved : IsClosedPackageOf t f p
  pub owned : list_all (is_of_interfaces (length t.interfaces)) t.definitions ≡ true
  pub ends : interfaces_end 0 t.interfaces ≡ length t.definitions
  pub one : HasOneOfEachInterface p

-- ---- the use behind a meaning

use-behind : (i : InterfaceTree) (order : List ℕ) (x : NamedDefinition) (target : Key) → Contains (interface_meaning i order) x → x.meaning ≡ IsUse (Reference target)
    → (u : UsedItem) × Contains i.uses u × (use_interface u ≡ target.interface)
use-behind i order x target c means = elim (contains-either (map (use_meaning i.name) i.uses) (in_order i.name i.types order ++ map (meaning_of_function i.name) i.functions) x c) [
  | inl h ↦
      let u = contains-unmap (use_meaning i.name) i.uses x h in
      let k : Key = record { interface = use_interface u.0; name = u.0.name } in
      let m : IsUse (Reference k) ≡ IsUse (Reference target) = ap (λ (y : NamedDefinition). y.meaning) u.2 ∙ means in
      let same : k ≡ target = cc in
      (u.0, u.1, ap (λ (y : Key). y.interface) same)
  | inr h ↦ elim (contains-either (in_order i.name i.types order) (map (meaning_of_function i.name) i.functions) x h) [
    | inl g ↦
        let k = contains-unmap (λ (k : ℕ). type_meaning i.name (get_or i.types k no_type)) order x g in
        let m = ap (λ (y : NamedDefinition). y.meaning) k.2 ∙ means in
        absurd (cc)
    | inr g ↦
        let k = contains-unmap (meaning_of_function i.name) i.functions x g in
        let m = ap (λ (y : NamedDefinition). y.meaning) k.2 ∙ means in
        absurd (cc)
  ]
]

module _ (t : Resolve) (f : File) (p : Resolve) (s : StandsBehind t f p) where
  abbrev c : IsClosedPackageOf t f p
  c = s.resolved

  abbrev ns : List (List ℕ)
  ns = names_in p

  abbrev b : BeginsWith t p
  b = begins-with t f p c

  abbrev q : PackageParts
  q = package_named f

  abbrev is : List InterfaceTree
  is = full_interfaces f

  abbrev before : ℕ
  before = length t.interfaces

  abbrev own_names : List (List ℕ)
  own_names = names_in_order is c.resolves.order

  -- the own interfaces
  abbrev behind : List Interface
  behind = interfaces_behind (length t.packages) before p.definitions c.own.0

  counted : length (names_in t) ≡ before
  counted = length-map t.interfaces (full_name t)

  names-are : ns ≡ names_in t ++ own_names
  names-are = c.resolves.names

  long : length ns ≡ length p.interfaces
  long = length-map p.interfaces (full_name p)

  -- ---- a full name stands at one place

  only-place : (k : ℕ) (i : List ℕ) → k < length p.interfaces → i ≢ [] → get_or ns k [] ≡ i → IsPlace ns k i
  only-place k i l some at m e = elim (cases_lt m (length ns)) [
    | inl h ↦ s.one.each m k (omega (arith, h, long)) l (e ∙ sym at)
    | inr h ↦ absurd (some (sym e ∙ get_or_past ns m [] h))
  ]

  import-named : (o : PackageParts) (i : List ℕ) (k : ℕ) → IsImportAt p o i k → get_or ns k [] ≡ own_name o i
  import-named o i k a =
      get_or_from_slice_get ns k (full_name p a.interface) [] (map-get (full_name p) p.interfaces k a.interface a.at)
      ∙ (ap (λ (x : Option PackageParts). full_name_in x a.interface.name) a.of ∙ ap (own_name o) a.named)

  import-place : (o : PackageParts) (i : List ℕ) (k : ℕ) → IsImportAt p o i k → IsPlace ns k (own_name o i)
  import-place o i k a = only-place k (own_name o i) (slice_get_within p.interfaces k a.interface a.at) (own-some o i) (import-named o i k a)

  -- an interface of another package that is there
  import-there : (o : PackageParts) (i : List ℕ) → HasImport (imports_of t) o i → (k : ℕ) × IsImportAt p o i k
  import-there o i (x, d, of, named) =
      let ks = interfaces_of t in
      let k = d.0 in
      let l : k < before = let z = d.1 in omega (arith, z, imports-length t.packages t.definitions 0 t.interfaces) in
      let y = get_or t.interfaces k nowhere in
      let its_import : import_at ks k ≡ import_of t.packages t.definitions (0 + k) y = imports-at t.packages t.definitions 0 t.interfaces k no_import nowhere l in
      let at : import_of t.packages t.definitions (0 + k) y ≡ x = sym its_import ∙ (get_or_default ks k no_import x d.1 ∙ d.2) in
      let inside : y.«package».0 < length t.packages = import-within t k y l (get_or_default t.interfaces k nowhere y l) in
      let its : get_or t.packages y.«package».0 nameless ≡ o = ap (λ (z : Import). z.«package») at ∙ of in (
        k,
        record {
          interface = y;
          at = ap (λ (xs : List Interface). slice_get xs k) c.own.1 ∙ front-get t.interfaces behind k y (slice_get-get_or t.interfaces k nowhere l);
          of = ap (λ (xs : List PackageParts). slice_get xs y.«package».0) c.packages
              ∙ front-get t.packages (q ∷ []) y.«package».0 o (slice_get-get_or t.packages y.«package».0 nameless inside ∙ ap (λ (z : PackageParts). Some z) its);
          other = omega (arith, own-is t p b, inside);
          named = ap (λ (z : Import). z.name) at ∙ named;
        },
      )

  -- ---- the own interfaces stand behind the imports

  -- no import has the full name of an own interface
  own-apart : (n : List ℕ) → Contains (names_of_trees (interfaces f)) n → (o : PackageParts) (i : List ℕ) (k : ℕ) → IsImportAt p o i k → own_name q n ≡ own_name o i → ⊥
  own-apart n d o i k a e =
      let j = contains-unmap interface_tree_name (interfaces f) n d in
      let full : Contains (names_of_trees is) (own_name q j.0.name) = contains-map interface_tree_name is (full_interface q j.0) (contains-map (full_interface q) (interfaces f) j.0 j.1) in
      let there = ordered-has is c.resolves.order c.resolves.placed (own_name q j.0.name) full in
      let m = there.0 in
      let named : get_or ns (before + m) [] ≡ own_name o i =
      ap (λ (xs : List (List ℕ)). get_or xs (before + m) []) names-are
      ∙ (get_or-append-right (names_in t) own_names [] before m (sym counted)
      ∙ (get_or_default own_names m [] (own_name q j.0.name) there.1 ∙ (there.2 ∙ (ap (own_name q) j.2 ∙ e)))) in
      let place : before + m ≡ k = import-place o i k a (before + m) named in
      let same : import_count p + m ≡ k = ap (λ (z : ℕ). z + m) (begins-count t p b) ∙ place in
      let own : a.interface.«package».0 ≡ own_package p.packages =
      own-behind (length p.packages) 0 p.interfaces p.grouped m a.interface (ap (slice_get p.interfaces) same ∙ a.at) in
      omega (arith, own, a.other)

  -- ---- an interface that the file knows goes by the full name of an import just where it is that

  abbrev IsThere : Option PackageParts → List ℕ → Type 0
  IsThere None n = Contains (names_of_trees (interfaces f)) n
  IsThere (Some o) n = HasImport (imports_of t) o n

  same-import : (x : Option PackageParts) (n : List ℕ) → IsThere x n → (o : PackageParts) (i : List ℕ) (k : ℕ) → IsImportAt p o i k
      → full_name_in x (full_label q x n) ≡ own_name o i → (x ≡ Some o) × (n ≡ i)
  same-import None n d o i k a e = absurd (own-apart n d o i k a e)
  same-import (Some r) n d o i k a e =
      let b = import-there r n d in
      let place : b.0 ≡ k = import-place o i k a b.0 (import-named r n b.0 b.1 ∙ e) in
      let at : slice_get p.interfaces k ≡ Some b.1.interface = ap (slice_get p.interfaces) (sym place) ∙ b.1.at in
      let one : Some b.1.interface ≡ Some a.interface = sym at ∙ a.at in
      let is_same : b.1.interface ≡ a.interface = cc in
      let of : Some r ≡ Some o = sym b.1.of ∙ (ap (λ (y : Interface). slice_get p.packages y.«package».0) is_same ∙ a.of) in
      (of, sym b.1.named ∙ (ap (λ (y : Interface). y.name) is_same ∙ a.named))

  -- ---- the own rows

  abbrev first : List Definition
  first = t.definitions

  abbrev own : List Definition
  own = c.rows.0

  rows-are : own_rows p ≡ own
  rows-are =
      ap (λ (xs : List Interface). drop (interfaces_end 0 xs) p.definitions) (begins-imports t p b)
      ∙ (ap (λ (n : ℕ). drop n p.definitions) s.ends ∙ (ap (drop (length first)) c.rows.1 ∙ drop-append_seam first own))

  abbrev meanings : List NamedDefinition
  meanings = flat_map (λ k. interface_meaning (interface_at is k) (c.resolves.types k)) c.resolves.order

  first-defined : definitions_from ns [] first ≡ definitions t
  first-defined =
      ap (λ (xs : List (List ℕ)). definitions_from xs [] first) names-are
      ∙ definitions-within (names_in t) own_names [] first (subst (λ (n : ℕ). list_all (is_of_interfaces n) first ≡ true) (sym counted) s.owned)

  own-defined : definitions_from ns (references ns [] first) own ≡ meanings
  own-defined =
      append_cancel_left (definitions t) _ _
      (ap (λ (ds : List NamedDefinition). ds ++ definitions_from ns (references ns [] first) own) (sym first-defined)
      ∙ (sym (definitions-append ns [] first own) ∙ (ap (definitions_from ns []) (sym c.rows.1) ∙ c.resolves.definitions)))

  table : IsTable p.definitions
  table = record { earlier = p.earlier; typed = p.typed; inner = used-inner p.definitions 0 [] p.definitions (postfix-used p.definitions p.earlier c.postfix) }

  parts-with : (a : List Definition) (d : Definition) (b : List Definition) → own ≡ a ++ d ∷ b → p.definitions ≡ (first ++ a) ++ d ∷ b
  parts-with a d b e = c.rows.1 ∙ (ap (λ (ds : List Definition). first ++ ds) e ∙ sym (append_assoc first a (d ∷ b)))

  -- a use that is meant is reached
  meant-reached : (x : NamedDefinition) (target : Key) (k : ℕ) → Contains meanings x → x.meaning ≡ IsUse (Reference target) → IsPlace ns k target.interface → Contains (own_reached p) k
  meant-reached x target k d means place =
      let there = among-all ns x (references ns [] first) own (subst (λ (xs : List NamedDefinition). Contains xs x) (sym own-defined) d) in
      let b = defined-by ns (references ns [] first) own x there in
      let defines = subst (λ (ts : List Tree). Contains (all_of ns ts b.definition) x) (sym (references-append ns [] first b.pre)) b.defines in
      let reached = row-reaches ns p.definitions table (first ++ b.pre) b.definition b.post (parts-with b.pre b.definition b.post b.parts) x target k defines means place in
      let whole = contains-right b.pre (b.definition ∷ b.post) b.definition (contains-here b.definition b.post) in
      let has : Contains own b.definition = subst (λ (ds : List Definition). Contains ds b.definition) (sym b.parts) whole in
      contains-left (flat_map (reached_by_row p.definitions) (own_rows p)) (flat_map reached_by_world p.worlds) k
      (subst (λ (ds : List Definition). Contains (flat_map (reached_by_row p.definitions) ds) k) (sym rows-are) (contains-flat (reached_by_row p.definitions) own b.definition k has reached))

  -- what an own row reaches is meant
  reached-meant : (d : Definition) → Contains own d → (k : ℕ) → Contains (reached_by_row p.definitions d) k
      → (x : NamedDefinition) × (target : Key) × Contains meanings x × (x.meaning ≡ IsUse (Reference target)) × (target.interface ≡ get_or ns k [])
  reached-meant d has k r =
      let a = parted-at own d has in
      let u = reached-used ns p.definitions table (first ++ a.0) d a.1 (parts-with a.0 d a.1 a.2) k r in
      let trees = references ns (references ns [] first) a.0 in
      let here : Contains (definition_of ns trees d) u.used = subst (λ (ts : List Tree). Contains (definition_of ns ts d) u.used) (references-append ns [] first a.0) u.defines in
      let back = definitions_from ns (trees ++ reference ns trees d ∷ []) a.1 in
      let all : Contains (definitions_from ns (references ns [] first) (a.0 ++ d ∷ a.1)) u.used =
      subst (λ (xs : List NamedDefinition). Contains xs u.used) (sym (definitions-append ns (references ns [] first) a.0 (d ∷ a.1)))
      (contains-right (definitions_from ns (references ns [] first) a.0) (definition_of ns trees d ++ back) u.used (contains-left (definition_of ns trees d) back u.used here)) in
      let inside : Contains (definitions_from ns (references ns [] first) own) u.used =
      subst (λ (ds : List Definition). Contains (definitions_from ns (references ns [] first) ds) u.used) (sym a.2) all in
      (u.used, u.target, subst (λ (xs : List NamedDefinition). Contains xs u.used) own-defined inside, u.means, u.of)

  -- ---- interfaces of the file

  tree-there : (j : InterfaceTree) (d : Contains (interfaces f) j) → Contains c.resolves.order d.0 × (interface_at is d.0 ≡ full_interface q j)
  tree-there j d =
      let z = d.1 in
      let l : d.0 < length (interface_uses is) = omega (arith, z, length-map is (uses_of_interface (names_of_trees is)), length-map (interfaces f) (full_interface q)) in (
        among-at c.resolves.order d.0 (c.resolves.placed.complete d.0 l),
        interface-full q (interfaces f) d.0 d.1 ∙ ap (full_interface q) (get_or_default (interfaces f) d.0 no_interface j d.1 ∙ d.2),
      )

  there-tree : (k : ℕ) → Contains c.resolves.order k → (j : InterfaceTree) × Contains (interfaces f) j × (interface_at is k ≡ full_interface q j)
  there-tree k d =
      let at : get_or c.resolves.order d.0 0 ≡ k = get_or_default c.resolves.order d.0 0 k d.1 ∙ d.2 in
      let inside = (c.resolves.placed.next d.0 d.1).in_range in
      let l : k < length (interfaces f) = omega (arith, at, inside, length-map is (uses_of_interface (names_of_trees is)), length-map (interfaces f) (full_interface q)) in
      let j = interface_at (interfaces f) k in
      (j, (k, l, get_or_default (interfaces f) k j no_interface l), interface-full q (interfaces f) k l)

  known-use : (j : InterfaceTree) → Contains (interfaces f) j → (u : UsedItem) → Contains j.uses u → IsThere u.«package» u.interface
  known-use j d u e =
      let m = imports_of t in
      let known = all-contained (HasKnownNamesOf m (interfaces f)) (interfaces f) j s.faults.known.in_interfaces d in
      by u.«package» (all-contained (IsKnownUseOf m (interfaces f)) j.uses u known.uses e)
    where
      by : (o : Option PackageParts) → IsKnownIn (imports_of t) (interfaces f) o u.interface u.name → IsThere o u.interface
      by None h = subst (Contains (names_of_trees (interfaces f))) h.2 (contains-map interface_tree_name (interfaces f) h.0 h.1)
      by (Some o) h = (h.0, h.1, h.2, h.3)

  -- ---- a use

  use-reached : (o : PackageParts) (i : List ℕ) (k : ℕ) → IsImportAt p o i k → UsesImport f o i → Contains (own_reached p) k
  use-reached o i k a (j, d, (u, e, of, is_name)) =
      let tree = tree-there j d in
      let x = use_meaning (own_name q j.name) (full_use q u) in
      let named : own_name o i ≡ use_interface (full_use q u) =
      sym (ap (λ (z : Option PackageParts). full_name_in z (full_label q z u.interface)) of ∙ ap (own_name o) is_name) in
      let uses = contains-map (use_meaning (own_name q j.name)) (map (full_use q) j.uses) (full_use q u) (contains-map (full_use q) j.uses u e) in
      let inside : Contains (interface_meaning (interface_at is d.0) (c.resolves.types d.0)) x =
      subst (λ (y : InterfaceTree). Contains (interface_meaning y (c.resolves.types d.0)) x) (sym tree.1)
      (contains-left (map (use_meaning (own_name q j.name)) (map (full_use q) j.uses)) _ x uses) in
      let meant = contains-flat (λ (n : ℕ). interface_meaning (interface_at is n) (c.resolves.types n)) c.resolves.order d.0 x tree.0 inside in
      meant-reached x (record { interface = use_interface (full_use q u); name = u.name }) k meant refl (subst (IsPlace ns k) named (import-place o i k a))

  -- a use of an interface that goes by the import's full name
  use-behind-is : (o : PackageParts) (i : List ℕ) (k : ℕ) → IsImportAt p o i k → (j : InterfaceTree) → Contains (interfaces f) j → (v : UsedItem) → Contains (full_interface q j).uses v
      → use_interface v ≡ own_name o i → UsesImport f o i
  use-behind-is o i k a j d v e named =
      let u = contains-unmap (full_use q) j.uses v e in
      let same = same-import u.0.«package» u.0.interface (known-use j d u.0 u.1) o i k a (subst (λ (z : UsedItem). use_interface z ≡ own_name o i) (sym u.2) named) in
      (j, d, (u.0, u.1, same.0, same.1))

  reached-use : (o : PackageParts) (i : List ℕ) (k : ℕ) → IsImportAt p o i k → (d : Definition) → Contains own d → Contains (reached_by_row p.definitions d) k → UsesImport f o i
  reached-use o i k a d has r =
      let x = reached-meant d has k r in
      let y = contains-unflat (λ (n : ℕ). interface_meaning (interface_at is n) (c.resolves.types n)) c.resolves.order x.0 x.2 in
      let j = there-tree y.0 y.1 in
      let inside = subst (λ (z : InterfaceTree). Contains (interface_meaning z (c.resolves.types y.0)) x.0) j.2 y.2 in
      let v = use-behind (full_interface q j.0) (c.resolves.types y.0) x.0 x.1 inside x.3 in
      use-behind-is o i k a j.0 j.1 v.0 v.1 (v.2 ∙ (x.4 ∙ import-named o i k a))

  -- ---- an item of a world

  item-reached : (o : PackageParts) (i : List ℕ) (k : ℕ) → IsImportAt p o i k → HasImportItem f o i → Contains (own_reached p) k
  item-reached o i k a (w, d, (way, e)) =
      let tree = ForeignNamed way o i in
      let meant = meaning_of_world (full_world q w) in
      let there : Contains (worlds_in p) meant =
      subst (λ (ms : List WorldMeaning). Contains ms meant) (sym c.resolves.worlds) (contains-map meaning_of_world (full_worlds f) (full_world q w) (contains-map (full_world q) (file_worlds f) w d)) in
      let items : Contains meant.items (WithInterface (direction_meaning way) (own_name o i)) =
      contains-map tree_item_meaning (map (full_item q) w.items) (full_item q tree) (contains-map (full_item q) w.items tree e) in
      contains-right (flat_map (reached_by_row p.definitions) (own_rows p)) (flat_map reached_by_world p.worlds) k
      (item-reaches ns p.definitions table (trees_in p) p.worlds (world_name p) meant (direction_meaning way) (own_name o i) k (own-some o i) there items (import-place o i k a))

  item-behind : (o : PackageParts) (i : List ℕ) (k : ℕ) → IsImportAt p o i k → (w : WorldTree) → Contains (file_worlds f) w → (x : ItemTree) → Contains w.items x → (way : Direction)
      → tree_item_meaning (full_item q x) ≡ WithInterface way (own_name o i) → HasImportItem f o i
  item-behind o i k a w d (InterfaceNamed to n) e way m =
      let known : Contains (names_of_trees (interfaces f)) n =
      all-contained (IsKnownItemOf (imports_of t) (names_of_trees (interfaces f))) w.items (InterfaceNamed to n)
      (all-contained (IsKnownWorldOf (imports_of t) (names_of_trees (interfaces f))) (file_worlds f) w s.faults.known.in_worlds d) e in
      let named : own_name q n ≡ own_name o i = cc in
      absurd (own-apart n known o i k a named)
  item-behind o i k a w d (ForeignNamed to r n) e way m =
      let known : HasImport (imports_of t) r n =
      all-contained (IsKnownItemOf (imports_of t) (names_of_trees (interfaces f))) w.items (ForeignNamed to r n)
      (all-contained (IsKnownWorldOf (imports_of t) (names_of_trees (interfaces f))) (file_worlds f) w s.faults.known.in_worlds d) e in
      let named : own_name r n ≡ own_name o i = cc in
      let same = same-import (Some r) n known o i k a named in
      let of = same.0 in
      let its : r ≡ o = cc in
      (w, d, (to, subst (λ (z : List ℕ). Contains w.items (ForeignNamed to o z)) same.1 (subst (λ (z : PackageParts). Contains w.items (ForeignNamed to z n)) its e)))
  item-behind o i k a w d (FunctionOf to g) e way m = absurd (cc)

  -- the item of a world behind one of its meaning
  items-behind : (o : PackageParts) (i : List ℕ) (k : ℕ) → IsImportAt p o i k → (w : WorldTree) → Contains (file_worlds f) w → (way : Direction)
      → Contains (meaning_of_world (full_world q w)).items (WithInterface way (own_name o i)) → HasImportItem f o i
  items-behind o i k a w d way e =
      let g = contains-unmap tree_item_meaning (map (full_item q) w.items) (WithInterface way (own_name o i)) e in
      let h = contains-unmap (full_item q) w.items g.0 g.1 in
      item-behind o i k a w d h.0 h.1 way (subst (λ (x : ItemTree). tree_item_meaning x ≡ WithInterface way (own_name o i)) (sym h.2) g.2)

  reached-kind : (way : Direction) (k : ℕ) (x : WorldItemKind) → Contains (reached_by_kind x) k → meaning_of_item ns (trees_in p) p.definitions way x ≡ WithInterface way (get_or ns k [])
  reached-kind way k (item.Interface j) d = ap (λ (n : ℕ). WithInterface way (get_or ns n [])) (only j.0 k d)
  reached-kind way k (item.Function g) d = absurd (omega (arith, d.1))

  reached-item : (o : PackageParts) (i : List ℕ) (k : ℕ) → IsImportAt p o i k → Contains (flat_map reached_by_world p.worlds) k → HasImportItem f o i
  reached-item o i k a d =
      let v = contains-unflat reached_by_world p.worlds k d in
      let x = contains-unflat reached_by_item v.0.items k v.2 in
      let way = x.0.direction in
      let at : meaning_of_item ns (trees_in p) p.definitions way x.0.kind ≡ WithInterface way (own_name o i) =
      reached-kind way k x.0.kind x.2 ∙ ap (λ (n : List ℕ). WithInterface way n) (import-named o i k a) in
      let meant = meaning_in ns (trees_in p) p.definitions (world_name p v.0) v.0 in
      let items : Contains meant.items (WithInterface way (own_name o i)) =
      subst (Contains meant.items) at (contains-map (λ (y : WorldItem). meaning_of_item ns (trees_in p) p.definitions y.direction y.kind) v.0.items x.0 x.1) in
      let there : Contains (map meaning_of_world (full_worlds f)) meant =
      subst (λ (ms : List WorldMeaning). Contains ms meant) c.resolves.worlds
      (contains-map (λ (w : World). meaning_in ns (trees_in p) p.definitions (world_name p w) w) p.worlds v.0 v.1) in
      let y = contains-unmap meaning_of_world (full_worlds f) meant there in
      let w = contains-unmap (full_world q) (file_worlds f) y.0 y.1 in
      let whole : meaning_of_world (full_world q w.0) ≡ meant = ap meaning_of_world w.2 ∙ y.2 in
      items-behind o i k a w.0 w.1 way (subst (λ (m : WorldMeaning). Contains m.items (WithInterface way (own_name o i))) (sym whole) items)

  -- ---- both

  named-reached : (o : PackageParts) (i : List ℕ) → NamesInterface f o i → NamesIn p o i
  named-reached o i h = let a = import-there o i (named-there (imports_of t) f s.faults o i h) in (a.0, by a.0 a.1 h, a.1)
    where
      by : (k : ℕ) → IsImportAt p o i k → NamesInterface f o i → Contains (own_reached p) k
      by k a (inl h) = use-reached o i k a h
      by k a (inr h) = item-reached o i k a h

  reached-named : (o : PackageParts) (i : List ℕ) → NamesIn p o i → NamesInterface f o i
  reached-named o i (k, d, a) = elim (contains-either (flat_map (reached_by_row p.definitions) (own_rows p)) (flat_map reached_by_world p.worlds) k d) [
    | inl h ↦
        let x = contains-unflat (reached_by_row p.definitions) own k (subst (λ (ds : List Definition). Contains (flat_map (reached_by_row p.definitions) ds) k) rows-are h) in
        inl (reached-use o i k a x.0 x.1 x.2)
    | inr h ↦ inr (reached-item o i k a h)
  ]

  -- the file and the table name the same
  pub names-agree : (o : PackageParts) (i : List ℕ) → NamesInterface f o i ↔ NamesIn p o i
  names-agree o i = (named-reached o i, reached-named o i)

  -- marks of what the one names are marks of what the other does
  pub marks-agree : (set : Resolve) (packages interfaces : List Bool) → AreNamed f set packages interfaces ↔ AreNamedIn p set packages interfaces
  marks-agree set ps js = (
    also-marks (NamesInterface f) (NamesIn p) names-agree set ps js,
    also-marks (NamesIn p) (NamesInterface f) (λ o i. ((names-agree o i).1, (names-agree o i).0)) set ps js,
  )

-- ---- a closed table in form, whose names are labels that differ in each scope

pub one-of-each : (p : Resolve) → ∥ IsInPackageForm p ∥₁ → ∥ All AreDistinct (package_scopes p) ∥₁ → All IsLabelled p.interfaces → HasOneOfEachInterface p
one-of-each p form distinct labels = record {
  each = λ m n l k e.
      let so : IsProp ((m == n) ≡ true) = Bool-set (m == n) true in
      let one : IsInPackageForm p → All AreDistinct (package_scopes p) → (m == n) ≡ true =
      λ g d. eq-eqb m n ((labelled-interfaces p d g.closed g.names (λ i c. all-contained IsLabelled p.interfaces i labels c)).each m n l k e) in
      eqb-true m n (∥∥₁_elim form so (λ g. ∥∥₁_elim distinct so (λ d. one g d)));
}

pub stands-behind : (t : Resolve) (f : File) (p : Resolve) → HasNoFaultsOf (imports_of t) f → IsClosedPackageOf t f p → AreImports t → interfaces_end 0 t.interfaces ≡ length t.definitions
    → ∥ IsInPackageForm p ∥₁ → ∥ All AreDistinct (package_scopes p) ∥₁ → All IsLabelled p.interfaces → StandsBehind t f p
stands-behind t f p faults resolved are ends form distinct labels = record { faults = faults; resolved = resolved; owned = are.owned; ends = ends; one = one-of-each p form distinct labels }

-- .. of a file over a set
module _ (f : File) (set closed : Resolve) (t : IsOfTree f set closed) (form : ∥ IsInSetForm set ∥₁) (formed : ∥ IsInPackageForm closed ∥₁) (distinct : ∥ All AreDistinct (package_scopes closed) ∥₁)
    (labels : All IsLabelled closed.interfaces) where
  its : OfImports set t.from.packages t.from.interfaces t.imports t.from.are
  its = follows set t.from.packages t.from.interfaces t.imports t.from.are

  ends-are : interfaces_end 0 t.imports.interfaces ≡ length t.imports.definitions
  ends-are =
      let n = interfaces_end 0 t.imports.interfaces in
      let m = length t.imports.definitions in
      eqb-true n m (∥∥₁_elim form (Bool-set (n == m) true) (λ g.
      eq-eqb n m (last-end m 0 t.imports.interfaces (subst (λ (ws : List World). is_parted m 0 t.imports.interfaces ws ≡ true) its.worlds_are (its.in_form g.rows).parted))))

  pub tree-behind : StandsBehind t.imports f closed
  tree-behind = stands-behind t.imports f closed t.faults t.resolved (are-imports set t.from.packages t.from.interfaces t.imports t.from.are form) ends-are formed distinct labels

  -- what it imports of the set is what it names there
  pub named-of-tree : AreNamedIn closed set t.from.packages t.from.interfaces
  named-of-tree = (marks-agree t.imports f closed tree-behind set t.from.packages t.from.interfaces).0 t.from.named
