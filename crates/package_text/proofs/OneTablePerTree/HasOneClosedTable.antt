-- The tables in the form of packages that a tree resolves to behind its imports are one.
use Rattle.std.proofs.Common.{◌≡◌, ◌<◌, ◌+◌, ℕ, zero, suc, List, [], ◌∷◌, ◌++◌, length, map, flat_map, get_or, slice_get, refl, sym, ap, subst, ◌∙◌, append-nil, arith, All}
use Rattle.std.specs.Prelude.{Bool, true, false, not, ◌||◌, ◌&&◌, ◌==◌, nat_le, nat_lt, Option, None, Some, is_some}
use Rattle.std.specs.List.{list_all}
use Rattle.std.proofs.lemmas.Bool.{and_parts, false≢true, ltb-true, eqb-true, eq-eqb}
use Rattle.std.proofs.lemmas.List.{length-map, map-append, append_cancel_left}
use Rattle.tables.specs.Tables.{option_all, are_grouped, are_worlds_grouped, are_placed_worlds}
use Rattle.tables.specs.PackageNames.{PackageParts, own_name}
use Rattle.tables.specs.Names.{full_name, full_name_in, world_name}
use Rattle.tables.specs.Same.{IsSamePackage}
use Rattle.tables.specs.Package.{Package, interface_names, trees, definitions, worlds, package_of, world_meaning, references}
use Rattle.tables.specs.declared.tables.TypeId.{TypeId}
use Rattle.tables.specs.declared.tables.InterfaceId.{InterfaceId}
use Rattle.tables.specs.declared.tables.ValType.TheVariants as val
use Rattle.tables.specs.declared.tables.TypeDefKind.{TypeDefKind}
use Rattle.tables.specs.declared.tables.TypeName.{TypeName}
use Rattle.tables.specs.declared.tables.Owner.{Owner}
use Rattle.tables.specs.declared.tables.Definition.{Definition}
use Rattle.tables.specs.declared.tables.Definition.TheVariants as row
use Rattle.tables.specs.declared.tables.Interface.{Interface}
use Rattle.tables.specs.declared.tables.World.{World}
use Rattle.tables.specs.declared.tables.Resolve.{Resolve}
use Rattle.tables.proofs.ClosedTypesRowByRow.{both}
use Rattle.package_form.specs.Scope.{AreDistinct}
use Rattle.package_form.specs.Entries.{labels_of}
use Rattle.package_form.specs.Ids.{is_owned_by, is_of_worlds, is_world_function, places_where, interface_in, interfaces_from}
use Rattle.package_form.specs.Postfix.{is_unnamed_row, one_if, unnamed}
use Rattle.package_form.specs.Form.{is_own_name, is_earlier_name, functions_of, IsInPackageForm}
use Rattle.package_form.specs.Naming.{package_scopes}
use Rattle.package_form.proofs.PostfixIsDecided.{postfix-used}
use Rattle.package_form.proofs.FullNamesStandForInterfaces.{package-there, HasOneOfEachInterface, labelled-interfaces, alone-interfaces}
use Rattle.package_form.proofs.InterfacesOfOnePackage.{one-full-name}
use Rattle.package_form.proofs.AllAndContains.{all-left, all-contained, contains-map}
use Rattle.atoms.specs.Label.{IsLabel}
use Rattle.package_form.proofs.NamesTypesApart.{types-apart}
use Rattle.wit_tokens.specs.Syntax.{File}
use Rattle.tree_meaning.specs.Declarations.{package_named, full_interfaces, full_worlds}
use Rattle.tree_meaning.specs.Resolves.{is_behind, in_package, interfaces_behind, IsPackageOf, IsClosedPackageOf}
use Rattle.tree_meaning.proofs.RowsOfEachInterface.{used-inner}
use Rattle.tree_meaning.proofs.PlacementsHaveNoCycle.{one-behind}
use Rattle.tree_meaning.proofs.MoreRowsReadTheSame.{get-end}
use Rattle.tree_meaning.proofs.TypedRows.{earlier-typed}
use Rattle.tree_meaning.proofs.AllDefinitions.{all_from}
use Rattle.tree_meaning.proofs.WorldMeanings.{worlds_definitions, all-told}
use Rattle.package_text.proofs.TableRows.AreRegions.{home}
use Rattle.package_text.proofs.TableRows.RowsReadAsTrees.{IsOwned, is_own, is_earlier_row, is_local_kind}
use Rattle.package_text.proofs.TableRows.RowsAreLocal.{rows-owned}
use Rattle.package_text.proofs.PrintableTrees.RowsHaveTexts.{regions-homes}
use Rattle.package_text.specs.Writable.{IsWritable}
use Rattle.package_text.specs.Laws.{HasOneClosedTable}
use Rattle.package_text.proofs.TableRows.OwnInterfacesBegin.{form-regions}
use Rattle.package_text.proofs.TreeAndTextStandForPackage.{empty}
use Rattle.package_text.proofs.OneTablePerTree.SameNamesSameRows.{IsSound, one-list, world_owners}
use Rattle.package_text.proofs.OneTablePerTree.WorldsAreToldByMeaning.{owners_by, all-owned, worlds-same}
use Rattle.package_form.specs.Closed.{is_world_of}

filled : (xs ys : List ℕ) (x : ℕ) → xs ++ x ∷ ys ≡ [] → ⊥
filled [] ys x e = absurd cc
filled (y ∷ xs) ys x e = absurd cc

map-same : {A B : Type 0} (g : A → B) → ((a b : A) → g a ≡ g b → a ≡ b) → (xs ys : List A) → map g xs ≡ map g ys → xs ≡ ys
map-same g one [] [] e = refl
map-same g one [] (y ∷ ys) e = absurd cc
map-same g one (x ∷ xs) [] e = absurd cc
map-same g one (x ∷ xs) (y ∷ ys) e =
    let front : g x ≡ g y = cc in
    let back : map g xs ≡ map g ys = cc in
    let a = one x y front in
    let b = map-same g one xs ys back in
    cc

-- ---- one table in form

module _ (r : Resolve) (form : IsInPackageForm r) (one : HasOneOfEachInterface r) (distinct : All AreDistinct (package_scopes r)) where
  pub counted : length (interface_names r) ≡ length r.interfaces
  counted = length-map r.interfaces (full_name r)

  pub names-apart : (i j : ℕ) → i < length (interface_names r) → j < length (interface_names r) → get_or (interface_names r) i [] ≡ get_or (interface_names r) j [] → i ≡ j
  names-apart i j l m e = one.each i j (omega (arith, l, counted)) (omega (arith, m, counted)) e

  filled-from : (first : ℕ) (is : List Interface) → are_grouped (length r.packages) first is ≡ true → (i : ℕ) → i < length is → get_or (map (full_name r) is) i [] ≡ [] → ⊥
  filled-from first [] h i l e = omega (arith, l)
  filled-from first (x ∷ xs) h zero l e =
      let s = and_parts (nat_le first x.«package».0 && nat_lt x.«package».0 (length r.packages)) (are_grouped (length r.packages) x.«package».0 xs) h in
      let q = package-there r.packages x.«package».0 (ltb-true x.«package».0 (length r.packages) (and_parts (nat_le first x.«package».0) (nat_lt x.«package».0 (length r.packages)) s.0).1) in
      filled q.0.namespace _ 58 (ap (λ (o : Option PackageParts). full_name_in o x.name) (sym q.1) ∙ e)
  filled-from first (x ∷ xs) h (suc i) l e =
      filled-from x.«package».0 xs (and_parts (nat_le first x.«package».0 && nat_lt x.«package».0 (length r.packages)) (are_grouped (length r.packages) x.«package».0 xs) h).1 i (omega (arith, l)) e

  pub names-filled : (i : ℕ) → i < length (interface_names r) → get_or (interface_names r) i [] ≡ [] → ⊥
  names-filled i l e = filled-from 0 r.interfaces r.grouped i (omega (arith, l, counted)) e

  owned : IsOwned (interface_names r) r.definitions (home 0 0 r.interfaces)
  owned = rows-owned (interface_names r) r.definitions (home 0 0 r.interfaces) r.interfaces r.earlier form.postfix (form-regions r form)

  homed : (front : List Definition) (d : Definition) (rest : List Definition) → r.definitions ≡ front ++ d ∷ rest → is_behind d ≡ false → home 0 0 r.interfaces (length front) < length (interface_names r)
  homed front d rest e h =
      let q = regions-homes r.definitions (home 0 0 r.interfaces) 0 [] r.interfaces r.definitions (form-regions r form) refl front d rest e (omega arith) h in
      omega (arith, q, counted)

  named-use : (k : ℕ) (front : List Definition) (t : TypeId) → is_earlier_row k (slice_get front t.0) ≡ true → unnamed front (val.Id t) ≡ []
  named-use k front t h = by (slice_get front t.0) h
    where
      named : (m : Option TypeName) (c : TypeDefKind) → is_earlier_name k m ≡ true → one_if (is_unnamed_row (Some (row.Type (record { name = m; kind = c })))) t.0 ≡ []
      named None c q = absurd (false≢true q)
      named (Some n) c q = refl

      by : (o : Option Definition) → is_earlier_row k o ≡ true → one_if (is_unnamed_row o) t.0 ≡ []
      by None q = absurd (false≢true q)
      by (Some (row.Function f)) q = absurd (false≢true q)
      by (Some (row.Type d)) q = named d.name d.kind q

  pub sound : IsSound (interface_names r) r.definitions
  sound = record {
    typed = earlier-typed r.definitions r.earlier r.typed;
    inners = used-inner r.definitions 0 [] r.definitions (postfix-used r.definitions r.earlier form.postfix);
    keys = types-apart r one form distinct;
    uses = λ front d t rest e k.
        let local = owned.local front (row.Type d) rest e in
        let s = and_parts (is_own_name (home 0 0 r.interfaces (length front)) d.name) (is_local_kind (interface_names r) front (home 0 0 r.interfaces (length front)) d.kind) local in
        named-use (home 0 0 r.interfaces (length front)) front t (subst (λ (c : TypeDefKind). is_local_kind (interface_names r) front (home 0 0 r.interfaces (length front)) c ≡ true) k s.1);
    homes = λ front d n rest e k.
        let local = owned.local front (row.Type d) rest e in
        let s = and_parts (is_own_name (home 0 0 r.interfaces (length front)) d.name) (is_local_kind (interface_names r) front (home 0 0 r.interfaces (length front)) d.kind) local in
        let here = eqb-true n.interface.0 (home 0 0 r.interfaces (length front)) (subst (λ (m : Option TypeName). is_own_name (home 0 0 r.interfaces (length front)) m ≡ true) k s.0) in
        let l = homed front (row.Type d) rest e (ap (λ (m : Option TypeName). not (is_some m)) k) in
        omega (arith, here, l);
    owners = λ front f i rest e k.
        let at : ℕ = home 0 0 r.interfaces (length front) in
        let local = owned.local front (row.Function f) rest e in
        let s = and_parts (is_owned_by at f.owner || is_of_worlds f.owner) (list_all (λ q. is_own front at q.ty) f.params && option_all (is_own front at) f.result) local in
        let here = own at i (subst (λ (o : Owner). (is_owned_by at o || is_of_worlds o) ≡ true) k s.0) in
        let l = homed front (row.Function f) rest e (ap is_of_worlds k) in
        omega (arith, here, l);
  }
    where
      own : (at : ℕ) (i : InterfaceId) → ((i.0 == at) || false) ≡ true → i.0 ≡ at
      own at i h = eqb-true i.0 at (by (i.0 == at) h)
        where
          by : (b : Bool) → (b || false) ≡ true → b ≡ true
          by true q = q
          by false q = q

-- ---- two tables

named-behind : (ps : List PackageParts) (p : PackageParts) (n m : ℕ) (rows : List Definition) (names : List (List ℕ)) → slice_get ps n ≡ Some p
    → map (λ (x : Interface). full_name_in (slice_get ps x.«package».0) x.name) (interfaces_behind n m rows names) ≡ map (own_name p) names
named-behind ps p n m rows [] e = refl
named-behind ps p n m rows (x ∷ names) e =
    ap (λ (o : Option PackageParts). full_name_in o x ∷ map (λ (y : Interface). full_name_in (slice_get ps y.«package».0) y.name) (interfaces_behind n (m + 1) rows names)) e
    ∙ ap (λ (ns : List (List ℕ)). own_name p x ∷ ns) (named-behind ps p n (m + 1) rows names e)

module _ (imports : Resolve) (f : File) (r s : Resolve) (a : IsClosedPackageOf imports f r) (b : IsClosedPackageOf imports f s) (form : IsInPackageForm r) (other : IsInPackageForm s)
    (one : HasOneOfEachInterface r) (single : HasOneOfEachInterface s) (distinct : All AreDistinct (package_scopes r)) (differ : All AreDistinct (package_scopes s)) where
  abbrev n : ℕ
  n = length imports.packages

  abbrev p : PackageParts
  p = package_named f

  same : package_of r ≡ package_of s
  same = one-behind (package_of imports) (full_interfaces f) (full_worlds f) (package_of r) (package_of s) a.resolves b.resolves

  names : interface_names r ≡ interface_names s
  names = ap (λ (q : Package). q.interfaces) same

  packages-same : r.packages ≡ s.packages
  packages-same = a.packages ∙ sym b.packages

  own-at : (t : Resolve) → IsClosedPackageOf imports f t → slice_get t.packages n ≡ Some p
  own-at t h = ap (λ (ps : List PackageParts). slice_get ps n) h.packages ∙ get-end imports.packages p n refl

  told : (t : Resolve) → IsClosedPackageOf imports f t → all_from (interface_names t) [] t.definitions ≡ definitions t ++ worlds_definitions (worlds t)
  told t h = all-told (interface_names t) t.definitions (earlier-typed t.definitions t.earlier t.typed) t.earlier t.typed (world_name t) t.worlds h.behind h.items

  told-same : all_from (interface_names r) [] r.definitions ≡ all_from (interface_names r) [] s.definitions
  told-same =
      told r a ∙ (ap (λ (q : Package). q.definitions ++ worlds_definitions q.worlds) same ∙ (sym (told s b) ∙ ap (λ (ns : List (List ℕ)). all_from ns [] s.definitions) (sym names)))

  owned-by : (t : Resolve) → IsClosedPackageOf imports f t → world_owners t.definitions ≡ owners_by 0 (worlds t)
  owned-by t h = all-owned (interface_names t) (trees t) t.definitions (length t.interfaces) (world_name t) t.worlds t.worlds_placed h.items

  rows-same : r.definitions ≡ s.definitions
  rows-same =
      one-list (interface_names r) (names-apart r form one distinct) (names-filled r form one distinct) r.definitions s.definitions (sound r form one distinct)
      (subst (λ (ns : List (List ℕ)). IsSound ns s.definitions) (sym names) (sound s other single differ)) a.postfix b.postfix told-same
      (owned-by r a ∙ (ap (λ (q : Package). owners_by 0 q.worlds) same ∙ sym (owned-by s b)))

  -- the full names of a table's own interfaces
  fulls : (t : Resolve) (h : IsClosedPackageOf imports f t) → interface_names t ≡ map (λ (x : Interface). full_name_in (slice_get t.packages x.«package».0) x.name) imports.interfaces ++ map (own_name p) h.own.0
  fulls t h =
      let named : Interface → List ℕ = λ x. full_name_in (slice_get t.packages x.«package».0) x.name in
      let behind = interfaces_behind n (length imports.interfaces) t.definitions h.own.0 in
      ap (map named) h.own.1
      ∙ (map-append named imports.interfaces behind ∙ ap (λ (ns : List (List ℕ)). map named imports.interfaces ++ ns) (named-behind t.packages p n (length imports.interfaces) t.definitions h.own.0 (own-at t h)))

  own-same : a.own.0 ≡ b.own.0
  own-same =
      let front : List PackageParts → List (List ℕ) = λ ps. map (λ (x : Interface). full_name_in (slice_get ps x.«package».0) x.name) imports.interfaces in
      let whole : front r.packages ++ map (own_name p) a.own.0 ≡ front r.packages ++ map (own_name p) b.own.0 =
      sym (fulls r a) ∙ (names ∙ (fulls s b ∙ ap (λ (ps : List PackageParts). front ps ++ map (own_name p) b.own.0) (sym packages-same))) in
      map-same (own_name p) (λ x y e. one-full-name p x y e) a.own.0 b.own.0 (append_cancel_left (front r.packages) (map (own_name p) a.own.0) (map (own_name p) b.own.0) whole)

  interfaces-same : r.interfaces ≡ s.interfaces
  interfaces-same =
      a.own.1 ∙ (ap (λ (ls : List (List ℕ)). imports.interfaces ++ interfaces_behind n (length imports.interfaces) r.definitions ls) own-same
      ∙ (ap (λ (ds : List Definition). imports.interfaces ++ interfaces_behind n (length imports.interfaces) ds b.own.0) rows-same ∙ sym b.own.1))

  world-full : (t : Resolve) → IsClosedPackageOf imports f t → (w : World) → is_world_of n w ≡ true → world_name t w ≡ own_name p w.name
  world-full t h w q = ap (λ (o : Option PackageParts). full_name_in o w.name) (ap (slice_get t.packages) (eqb-true w.«package».0 n q) ∙ own-at t h)

  worlds-one : r.worlds ≡ s.worlds
  worlds-one =
      worlds-same (interface_names r) (names-apart r form one distinct) (trees r) r.definitions (length r.interfaces) (counted r form one distinct) n p (world_name r) (world_name s)
      (world-full r a) (world-full s b) 0 0 r.worlds s.worlds a.worlds b.worlds r.worlds_placed placed meant [] []
      (append-nil (flat_map functions_of r.worlds) ∙ (sym a.items ∙ (ap (places_where is_world_function 0) rows-same ∙ (b.items ∙ sym (append-nil (flat_map functions_of s.worlds))))))
    where
      placed : are_placed_worlds r.definitions (length r.interfaces) 0 s.worlds ≡ true
      placed =
          ap (λ (ds : List Definition). are_placed_worlds ds (length r.interfaces) 0 s.worlds) rows-same
          ∙ (ap (λ (is : List Interface). are_placed_worlds s.definitions (length is) 0 s.worlds) interfaces-same ∙ s.worlds_placed)

      meant : map (λ w. world_meaning (interface_names r) (trees r) r.definitions (world_name r w) w) r.worlds ≡ map (λ w. world_meaning (interface_names r) (trees r) r.definitions (world_name s w) w) s.worlds
      meant =
          ap (λ (q : Package). q.worlds) same
          ∙ (ap (λ (ns : List (List ℕ)). map (λ w. world_meaning ns (references ns [] s.definitions) s.definitions (world_name s w) w) s.worlds) (sym names)
          ∙ ap (λ (ds : List Definition). map (λ w. world_meaning (interface_names r) (references (interface_names r) [] ds) ds (world_name s w) w) s.worlds) (sym rows-same))

  -- The tree has one table.
  pub one-closed : IsSamePackage r s
  one-closed = record { packages = packages-same; interfaces = interfaces-same; worlds = worlds-one; definitions = rows-same }

-- ---- a package that stands alone

first-kept : (rows : List Definition) (i : ℕ) (ns : List (List ℕ)) → interfaces_from rows i ns ≡ interfaces_behind 0 i rows ns
first-kept rows i [] = refl
first-kept rows i (m ∷ ns) = ap (λ (is : List Interface). in_package 0 (interface_in rows i m) ∷ is) (first-kept rows (i + 1) ns)

worlds-first : (first : ℕ) (ws : List World) → are_worlds_grouped 1 first ws ≡ true → list_all (is_world_of 0) ws ≡ true
worlds-first first [] h = refl
worlds-first first (w ∷ ws) h =
    let s = and_parts (nat_le first w.«package».0 && nat_lt w.«package».0 1) (are_worlds_grouped 1 w.«package».0 ws) h in
    let below = ltb-true w.«package».0 1 (and_parts (nat_le first w.«package».0) (nat_lt w.«package».0 1) s.0).1 in
    both (is_world_of 0 w) (list_all (is_world_of 0) ws) (eq-eqb w.«package».0 0 (omega (arith, below))) (worlds-first w.«package».0 ws s.1)

-- it is closed behind no imports
alone-closed : (f : File) (r : Resolve) → IsPackageOf f r → IsClosedPackageOf empty f r
alone-closed f r h = record {
  earlier = h.earlier;
  packages = h.packages;
  resolves = h.resolves;
  postfix = h.postfix;
  behind = h.behind;
  items = h.items;
  rows = (r.definitions, refl);
  own = (labels_of r.interfaces, h.ids ∙ first-kept r.definitions 0 (labels_of r.interfaces));
  worlds = worlds-first 0 r.worlds (subst (λ n. are_worlds_grouped n 0 r.worlds ≡ true) (ap length h.packages) r.worlds_grouped);
  within = h.within;
}

pub one-table : (f : File) (r s : Resolve) → IsPackageOf f r → IsPackageOf f s → IsInPackageForm r → IsInPackageForm s → All AreDistinct (package_scopes r) → All AreDistinct (package_scopes s) → IsSamePackage r s
one-table f r s a b form other distinct differ =
    one-closed empty f r s (alone-closed f r a) (alone-closed f s b) form other (alone-interfaces r distinct (ap length a.packages)) (alone-interfaces s differ (ap length b.packages)) distinct differ

-- ---- behind imports

pub one-behind-imports : (f : File) → HasOneClosedTable f
one-behind-imports f imports r s v w a b =
    one-closed imports f r s a b v.form w.form (one-of-each r v) (one-of-each s w) v.distinct w.distinct
  where
    one-of-each : (t : Resolve) → IsWritable t → HasOneOfEachInterface t
    one-of-each t u =
        let labels : All IsLabel (labels_of t.interfaces) = all-left IsLabel (labels_of t.interfaces) _ u.labels in
        labelled-interfaces t u.distinct u.form.closed u.form.names (λ i c. all-contained IsLabel (labels_of t.interfaces) i.name labels (contains-map (λ (i : Interface). i.name) t.interfaces i c))
