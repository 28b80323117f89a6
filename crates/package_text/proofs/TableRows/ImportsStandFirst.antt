-- The imports of a closed table in form: they stand before all that is its own, under their full names.
use Rattle.std.proofs.Common.{◌≡◌, ◌⊎◌, ◌+◌, ◌-◌, ◌<◌, ◌≤◌, ℕ, zero, suc, List, [], ◌∷◌, ◌++◌, length, map, get_or, slice_get, refl, sym, ap, subst, ◌∙◌, append_assoc, length-append, arith, inl, inr, All, Contains}
use Rattle.std.specs.Prelude.{Bool, true, false, not, ◌&&◌, nat_le, nat_lt, Option, None, Some, is_some, cond}
use Rattle.std.specs.List.{list_all, filter}
use Rattle.std.proofs.lemmas.Bool.{and_parts, eqb-true, eq-eqb, ne_eqb, ltb-true, cases_lt, false≢true}
use Rattle.std.proofs.lemmas.List.{length-map, map-append, get_or_default, get_or_append_left, append_cancel_right}
use Rattle.std.proofs.lemmas.Option.{slice_get-get_or, get_or_from_slice_get}
use Rattle.atoms.specs.Label.{IsLabel}
use Rattle.wit_tokens.specs.Syntax.{PathTo, Local, Foreign, Whole}
use Rattle.wit_tokens.specs.declared.wit_syntax.ast.Direction.{Direction as Way}
use Rattle.tables.specs.PackageNames.{PackageParts, own_name}
use Rattle.tables.specs.Names.{full_name_in, full_name}
use Rattle.tables.specs.Tables.{are_grouped, type_of, is_type_id, is_function_id, is_placed, function_of, is_there}
use Rattle.tables.specs.Package.{key_of, interface_names}
use Rattle.tables.specs.declared.tables.TypeId.{TypeId}
use Rattle.tables.specs.declared.tables.FunctionId.{FunctionId}
use Rattle.tables.specs.declared.tables.TypeName.{TypeName}
use Rattle.tables.specs.declared.tables.TypeDef.{TypeDef}
use Rattle.tables.specs.declared.tables.Definition.{Definition}
use Rattle.tables.specs.declared.tables.Definition.TheVariants as row
use Rattle.tables.specs.declared.tables.Interface.{Interface}
use Rattle.tables.specs.declared.tables.Resolve.{Resolve}
use Rattle.package_form.specs.Closed.{own_package}
use Rattle.package_form.specs.Reached.{is_interface_of, name_of}
use Rattle.tables.proofs.NamesEarlierTypes.{grouped-at}
use Rattle.package_form.specs.Entries.{labels_of}
use Rattle.package_form.specs.Ends.{interfaces_end}
use Rattle.package_form.specs.Ids.{places_where}
use Rattle.package_form.specs.Postfix.{is_unnamed, Leaves, begin, whole, IsPostfix}
use Rattle.package_form.specs.Form.{is_named, ids_of}
use Rattle.package_form.proofs.AllAndContains.{all-contained, contains-map, contains-unmap, contains-here, contains-later, contains-left, contains-right, contains-either, get-front}
use Rattle.package_form.proofs.FullNamesStandForInterfaces.{package-there, labelled-interfaces}
use Rattle.tree_meaning.specs.Declarations.{path_package, path_interface, item_tree}
use Rattle.tree_meaning.specs.Imports.{Import, nameless, no_import, import_at, import_of, AreApart, name_within, type_within, types_within, interfaces_of, imports_of}
use Rattle.tree_meaning.specs.Resolves.{IsKnownIn, IsKnownItemOf, is_of_interfaces, AreImports}
use Rattle.tree_meaning.proofs.FileEntries.{found}
use Rattle.tree_meaning.proofs.ImportsFoundByName.{nowhere, imports-length, imports-at, at-itself, import-named}
use Rattle.package_text.specs.Tree.{other_package, path_in, path_if, name_here, own_names, interfaces_of_package, own_parts}
use Rattle.package_text.specs.Writable.{IsWritable}
use Rattle.package_text.specs.Imports.{AreImportsOf}
use Rattle.package_text.proofs.TableRows.AreRegions.{AreRegions, no_region, and_region, home}
use Rattle.package_text.proofs.TableRows.RowsReadAsTrees.{IsNamed, IsOwned}
use Rattle.package_text.proofs.TableRows.DefinitionsByInterface.{leaves-at}
use Rattle.package_text.proofs.TableRows.RowsAreLocal.{rows-owned}
use Rattle.package_text.proofs.OneTablePerTree.SameNamesSameRows.{append-same}
use Rattle.package_text.proofs.ResolvedTrees.TreesNameEarlierTrees.{got-behind, home-here}
use Rattle.package_text.proofs.WrittenTrees.PathsSpelledByNames.{path_named, label-path, paths-spelt}
use Rattle.package_text.proofs.ResolvedTrees.TreesNameWhatIsKnown.{HasType}
use Rattle.package_text.proofs.TableRows.OwnInterfacesBegin.{form-regions, begins, at-least, names-parted, own-at, own-are-labels, own-there}

-- ---- lists

last-of : {A : Type 0} (xs : List A) → (xs ≡ []) ⊎ ((ys : List A) × (y : A) × (xs ≡ ys ++ y ∷ []))
last-of [] = inl refl
last-of {A = A} (x ∷ xs) = elim (last-of xs) [
  | inl e ↦ inr ([], x, ap (λ (zs : List A). x ∷ zs) e)
  | inr s ↦ inr (x ∷ s.0, s.1, ap (λ (zs : List A). x ∷ zs) s.2)
]

place-in : (P : Definition → Bool) (s : ℕ) (xs : List Definition) (n : ℕ) (d : Definition) → slice_get xs n ≡ Some d → P d ≡ true → Contains (places_where P s xs) (s + n)
place-in P s [] n d e h = absurd cc
place-in P s (x ∷ xs) zero d e h =
    let same : x ≡ d = cc in
    subst (λ (b : Bool). Contains (cond b (s ∷ places_where P (s + 1) xs) (places_where P (s + 1) xs)) (s + 0)) (sym (ap P same ∙ h))
    (subst (Contains (s ∷ places_where P (s + 1) xs)) (omega arith) (contains-here s (places_where P (s + 1) xs)))
place-in P s (x ∷ xs) (suc n) d e h = by (P x) (subst (Contains (places_where P (s + 1) xs)) (omega arith) (place-in P (s + 1) xs n d e h))
  where
    by : (b : Bool) → Contains (places_where P (s + 1) xs) (s + suc n) → Contains (cond b (s ∷ places_where P (s + 1) xs) (places_where P (s + 1) xs)) (s + suc n)
    by true c = contains-later s (s + suc n) (places_where P (s + 1) xs) c
    by false c = c

-- ---- the types of an interface

-- a type with a name is one of the ids of its interface
record IsListed (rows : List Definition) (at : ℕ → ℕ) (k : ℕ) (is : List Interface) (t : ℕ) : Type 0 where
  place : ℕ
  one : Interface
  stands : slice_get is place ≡ Some one
  home : at t ≡ k + place
  has : (id : TypeId) × Contains (one.uses ++ one.types) id × (id.0 ≡ t)

among-types : (rows : List Definition) (i : Interface) (t : ℕ) (d : TypeDef) → slice_get rows t ≡ Some (row.Type d) → is_placed rows i ≡ true → Contains (ids_of i) t
    → (id : TypeId) × Contains (i.uses ++ i.types) id × (id.0 ≡ t)
among-types rows i t d e placed c =
    let us = map (λ (t : TypeId). t.0) i.uses in
    let ts = map (λ (t : TypeId). t.0) i.types in
    let fs = map (λ (f : FunctionId). f.0) i.functions in
    let q = and_parts (list_all (is_type_id rows) i.uses) (list_all (is_type_id rows) i.types && list_all (is_function_id rows) i.functions) placed in
    let q' = and_parts (list_all (is_type_id rows) i.types) (list_all (is_function_id rows) i.functions) q.1 in
    elim (contains-either us (ts ++ fs) t c) [
      | inl h ↦ let x = contains-unmap (λ (t : TypeId). t.0) i.uses t h in (x.0, left x.0 x.1, x.2)
      | inr h ↦ elim (contains-either ts fs t h) [
        | inl g ↦ let x = contains-unmap (λ (t : TypeId). t.0) i.types t g in (x.0, right x.0 x.1, x.2)
        | inr g ↦
            let x = contains-unmap (λ (f : FunctionId). f.0) i.functions t g in
            absurd (no-function x.0 x.2 (every (is_function_id rows) i.functions x.0 q'.1 x.1))
      ]
    ]
  where
    left : (id : TypeId) → Contains i.uses id → Contains (i.uses ++ i.types) id
    left id h = contains-left i.uses i.types id h

    right : (id : TypeId) → Contains i.types id → Contains (i.uses ++ i.types) id
    right id h = contains-right i.uses i.types id h

    every : (P : FunctionId → Bool) (xs : List FunctionId) (x : FunctionId) → list_all P xs ≡ true → Contains xs x → P x ≡ true
    every P [] x h c = absurd (omega (arith, c.1))
    every P (y ∷ ys) x h (zero, l, is) = ap P (sym is) ∙ (and_parts (P y) (list_all P ys) h).0
    every P (y ∷ ys) x h (suc n, l, is) = every P ys x (and_parts (P y) (list_all P ys) h).1 (n, omega (arith, l), is)

    no-function : (f : FunctionId) → f.0 ≡ t → is_function_id rows f ≡ true → ⊥
    no-function f same h =
        let at : slice_get rows f.0 ≡ Some (row.Type d) = ap (slice_get rows) same ∙ e in
        false≢true (ap (λ (o : Option Definition). is_there (function_of o)) (sym at) ∙ h)

listed : (rows : List Definition) (at : ℕ → ℕ) (k : ℕ) (pre : List Definition) (is : List Interface) (post : List Definition) → AreRegions rows at k pre is post → rows ≡ pre ++ post
    → list_all (is_placed rows) is ≡ true → (t : ℕ) (d : TypeDef) (m : TypeName) → slice_get rows t ≡ Some (row.Type d) → d.name ≡ Some m → length pre ≤ t → at t < k + length is → IsListed rows at k is t
listed rows at _ _ _ _ (no_region k pre back behind home) e placed t d m s q l u = absurd (let h = home t l in omega (arith, h, u))
listed rows at _ _ _ _ (and_region k pre own post i is ends ids uses types locals here more) e placed t d m s q l u = elim (cases_lt t (length (pre ++ own))) [
  | inl v ↦
      let p = and_parts (is_placed rows i) (list_all (is_placed rows) is) placed in
      let h = here t l v in
      let long = length-append pre own in
      let got : slice_get own (t - length pre) ≡ Some (row.Type d) =
      sym (get-front own post (t - length pre) (omega (arith, l, v, long))) ∙ (sym (got-behind pre (own ++ post) t l) ∙ (ap (λ (ds : List Definition). slice_get ds t) (sym e) ∙ s)) in
      let there : Contains (ids_of i) t =
      subst (λ (xs : List ℕ). Contains xs t) (sym ids)
      (subst (Contains (places_where is_named (length pre) own)) (omega (arith, l)) (place-in is_named (length pre) own (t - length pre) (row.Type d) got (ap (λ (o : Option TypeName). not (not (is_some o))) q))) in
      record { place = 0; one = i; stands = refl; home = h ∙ omega arith; has = among-types rows i t d s p.0 there }
  | inr v ↦
      let p = and_parts (is_placed rows i) (list_all (is_placed rows) is) placed in
      let x = listed rows at (suc k) (pre ++ own) is post more (e ∙ sym (append_assoc pre own post)) p.1 t d m s q v (omega (arith, u)) in
      record { place = suc x.place; one = x.one; stands = x.stands; home = x.home ∙ omega arith; has = x.has }
]

-- ---- imports

some-same : {A : Type 0} {x y : A} → Some x ≡ Some y → x ≡ y
some-same e = cc

module _ (r imports : Resolve) (w : IsWritable r) (a : AreImportsOf r imports) (labels : All IsLabel (labels_of r.interfaces)) where
  pub front-same : (begins r w.form).front ≡ imports.interfaces
  front-same = append_cancel_right (begins r w.form).front imports.interfaces (interfaces_of_package r) (sym (begins r w.form).interfaces ∙ a.interfaces)

  rows-parted : ((begins r w.form).before ≡ imports.definitions) × ((begins r w.form).behind ≡ a.rows.0)
  rows-parted =
      append-same (begins r w.form).before imports.definitions (begins r w.form).behind a.rows.0 ((begins r w.form).ends ∙ (ap (interfaces_end 0) front-same ∙ sym a.ends))
      (sym (begins r w.form).rows ∙ a.rows.1)

  pub before-same : (begins r w.form).before ≡ imports.definitions
  before-same = rows-parted.0

  pub own-place : own_package r.packages ≡ length imports.packages
  own-place = let l = ap length a.packages in let p = length-append imports.packages (own_parts r.packages ∷ []) in omega (arith, l, p)

  -- the packages of imports stand as in their table
  package-kept : (k : ℕ) → k < length imports.packages → slice_get r.packages k ≡ slice_get imports.packages k
  package-kept k l = ap (λ (ps : List PackageParts). slice_get ps k) a.packages ∙ get-front imports.packages (own_parts r.packages ∷ []) k l

  pub other-is : (i : Interface) → i.«package».0 < length imports.packages → other_package r i ≡ slice_get imports.packages i.«package».0
  other-is i l =
      let none : is_interface_of (own_package r.packages) i ≡ false = ne_eqb i.«package».0 (own_package r.packages) (λ e. let p = own-place in omega (arith, l, e, p)) in
      ap (λ (b : Bool). cond b None (slice_get r.packages i.«package».0)) none ∙ package-kept i.«package».0 l

  names-from : (first : ℕ) (is : List Interface) → are_grouped (length imports.packages) first is ≡ true → map (name_here r) is ≡ map (full_name imports) is
  names-from first [] h = refl
  names-from first (i ∷ is) h =
      let s = and_parts (nat_le first i.«package».0 && nat_lt i.«package».0 (length imports.packages)) (are_grouped (length imports.packages) i.«package».0 is) h in
      let l = ltb-true i.«package».0 (length imports.packages) (and_parts (nat_le first i.«package».0) (nat_lt i.«package».0 (length imports.packages)) s.0).1 in
      ap (λ (o : Option PackageParts). full_name_in o i.name ∷ map (name_here r) is) (other-is i l) ∙ ap (λ (ns : List (List ℕ)). full_name imports i ∷ ns) (names-from i.«package».0 is s.1)

  -- imports go by their full names, and own interfaces by their labels
  pub names-are : own_names r ≡ interface_names imports ++ labels_of (interfaces_of_package r)
  names-are =
      names-parted r (begins r w.form)
      ∙ ap (λ (ns : List (List ℕ)). ns ++ labels_of (interfaces_of_package r)) (ap (map (name_here r)) front-same ∙ names-from 0 imports.interfaces imports.grouped)

  fulls-from : (first : ℕ) (is : List Interface) → are_grouped (length imports.packages) first is ≡ true → map (full_name r) is ≡ map (full_name imports) is
  fulls-from first [] h = refl
  fulls-from first (i ∷ is) h =
      let s = and_parts (nat_le first i.«package».0 && nat_lt i.«package».0 (length imports.packages)) (are_grouped (length imports.packages) i.«package».0 is) h in
      let l = ltb-true i.«package».0 (length imports.packages) (and_parts (nat_le first i.«package».0) (nat_lt i.«package».0 (length imports.packages)) s.0).1 in
      ap (λ (o : Option PackageParts). full_name_in o i.name ∷ map (full_name r) is) (package-kept i.«package».0 l) ∙ ap (λ (ns : List (List ℕ)). full_name imports i ∷ ns) (fulls-from i.«package».0 is s.1)

  fulls-own : (is : List Interface) → map (full_name r) (filter (is_interface_of (own_package r.packages)) is) ≡ map (own_name (own_parts r.packages)) (labels_of (filter (is_interface_of (own_package r.packages)) is))
  fulls-own [] = refl
  fulls-own (i ∷ is) = by (is_interface_of (own_package r.packages) i) refl (fulls-own is)
    where
      there : slice_get r.packages (own_package r.packages) ≡ Some (own_parts r.packages)
      there = own-there r.packages (let l = ap length a.packages in let p = length-append imports.packages (own_parts r.packages ∷ []) in omega (arith, l, p))

      by : (b : Bool) → is_interface_of (own_package r.packages) i ≡ b
          → map (full_name r) (filter (is_interface_of (own_package r.packages)) is) ≡ map (own_name (own_parts r.packages)) (labels_of (filter (is_interface_of (own_package r.packages)) is))
          → map (full_name r) (cond b (i ∷ filter (is_interface_of (own_package r.packages)) is) (filter (is_interface_of (own_package r.packages)) is))
          ≡ map (own_name (own_parts r.packages)) (labels_of (cond b (i ∷ filter (is_interface_of (own_package r.packages)) is) (filter (is_interface_of (own_package r.packages)) is)))
      by true e on =
          ap (λ (o : Option PackageParts). full_name_in o i.name ∷ map (full_name r) (filter (is_interface_of (own_package r.packages)) is))
          (ap (slice_get r.packages) (eqb-true i.«package».0 (own_package r.packages) e) ∙ there)
          ∙ ap (λ (ns : List (List ℕ)). own_name (own_parts r.packages) i.name ∷ ns) on
      by false e on = on

  -- the full names of all
  pub fulls-are : interface_names r ≡ interface_names imports ++ map (own_name (own_parts r.packages)) (labels_of (interfaces_of_package r))
  fulls-are =
      ap (map (full_name r)) a.interfaces
      ∙ (map-append (full_name r) imports.interfaces (interfaces_of_package r)
      ∙ (ap (λ (ns : List (List ℕ)). ns ++ map (full_name r) (interfaces_of_package r)) (fulls-from 0 imports.interfaces imports.grouped)
      ∙ ap (λ (ns : List (List ℕ)). interface_names imports ++ ns) (fulls-own r.interfaces)))

  -- ---- as a table of imports

  long : length r.interfaces ≡ length imports.interfaces + length (interfaces_of_package r)
  long = ap length a.interfaces ∙ length-append imports.interfaces (interfaces_of_package r)

  apart : AreApart (interfaces_of imports)
  apart = record {
    each = λ j k l m e f.
        let counted = imports-length imports.packages imports.definitions 0 imports.interfaces in
        let x : j < length imports.interfaces = omega (arith, l, counted) in
        let y : k < length imports.interfaces = omega (arith, m, counted) in
        let ks = interfaces_of imports in
        let q = (import_at ks k).«package» in
        let i = (import_at ks k).name in
        let one = import-named imports j x q i (record { below = l; of = e; named = f }) in
        let two = import-named imports k y q i (record { below = m; of = refl; named = refl }) in
        let s = long in
        (labelled-interfaces r w.distinct w.form.closed w.form.names (λ i c. all-contained IsLabel (labels_of r.interfaces) i.name labels (contains-map (λ (i : Interface). i.name) r.interfaces i c))).each
        j k (omega (arith, x, s)) (omega (arith, y, s)) (full-at j x ∙ (one ∙ (sym two ∙ sym (full-at k y))));
  }
    where
      full-at : (j : ℕ) → j < length imports.interfaces → get_or (interface_names r) j [] ≡ get_or (interface_names imports) j []
      full-at j l =
          ap (λ (ns : List (List ℕ)). get_or ns j []) fulls-are
          ∙ get_or_append_left (interface_names imports) (map (own_name (own_parts r.packages)) (labels_of (interfaces_of_package r))) [] j (omega (arith, l, length-map imports.interfaces (full_name imports)))

  regions : AreRegions r.definitions (home 0 0 r.interfaces) 0 [] r.interfaces r.definitions
  regions = form-regions r w.form

  owned : IsOwned (own_names r) r.definitions (home 0 0 r.interfaces)
  owned = rows-owned (own_names r) r.definitions (home 0 0 r.interfaces) r.interfaces r.earlier w.form.postfix (form-regions r w.form)

  before-postfix : Leaves (begins r w.form).before []
  before-postfix = elim (last-of (begins r w.form).before) [
    | inl e ↦ subst (λ (ds : List Definition). Leaves ds []) (sym e) begin
    | inr s ↦ by s.0 s.1 s.2 (is_unnamed s.1) refl
  ]
    where
      by : (front : List Definition) (d : Definition) → (begins r w.form).before ≡ front ++ d ∷ [] → (u : Bool) → is_unnamed d ≡ u → Leaves (begins r w.form).before []
      by front d e true u =
          let b = begins r w.form in
          let flat : r.definitions ≡ front ++ d ∷ b.behind = b.rows ∙ (ap (λ (ds : List Definition). ds ++ b.behind) e ∙ append_assoc front (d ∷ []) b.behind) in
          let same = owned.onward front d b.behind flat u in
          let long = ap length e ∙ length-append front (d ∷ []) in
          let low = b.past (length front) (omega (arith, long)) in
          let high = at-least r.definitions (home 0 0 r.interfaces) (length b.front) b.before (interfaces_of_package r) b.behind b.regions in
          let here : home 0 0 r.interfaces (length b.before) ≡ home 0 0 r.interfaces (suc (length front)) = ap (home 0 0 r.interfaces) (omega (arith, long)) in
          absurd (omega (arith, same, low, high, here))
      by front d e false u =
          let b = begins r w.form in
          let flat : r.definitions ≡ front ++ d ∷ b.behind = b.rows ∙ (ap (λ (ds : List Definition). ds ++ b.behind) e ∙ append_assoc front (d ∷ []) b.behind) in
          let t = leaves-at r.definitions [] w.form.postfix front d b.behind flat u in
          subst (λ (ds : List Definition). Leaves ds []) (sym e) (whole front d u t.1 t.0)

  pub are-imports : AreImports imports
  are-imports = record {
    apart = apart;
    worlds = a.worlds;
    owned = subst (λ (n : ℕ). list_all (is_of_interfaces n) imports.definitions ≡ true) (ap length front-same)
        (subst (λ (ds : List Definition). list_all (is_of_interfaces (length (begins r w.form).front)) ds ≡ true) before-same (begins r w.form).owned);
    postfix = subst IsPostfix before-same before-postfix;
  }

  -- ---- what a path to an import names

  -- the import at a place
  record IsImportAt (j : ℕ) : Type 0 where
    one : Interface
    of : PackageParts
    there : slice_get imports.interfaces j ≡ Some one
    path : path_named (get_or (own_names r) j []) ≡ Foreign of.namespace of.name of.version one.name
    is : import_at (interfaces_of imports) j ≡ import_of imports.packages imports.definitions j one
    named : get_or imports.packages one.«package».0 nameless ≡ of
    below : j < length (interfaces_of imports)

  import-here : (j : ℕ) → j < length imports.interfaces → IsImportAt j
  import-here j l =
      let i = get_or imports.interfaces j nowhere in
      let got = slice_get-get_or imports.interfaces j nowhere l in
      let counted = imports-length imports.packages imports.definitions 0 imports.interfaces in
      let inside : i.«package».0 < length imports.packages =
      grouped-at (length imports.packages) 0 imports.interfaces j i imports.grouped l (get_or_default imports.interfaces j i nowhere l) in
      let q = package-there imports.packages i.«package».0 inside in
      let other : other_package r i ≡ Some q.0 = other-is i inside ∙ q.1 in
      let place : j < length r.interfaces = let s = long in omega (arith, l, s) in
      let at : slice_get r.interfaces j ≡ Some i = ap (λ (is : List Interface). slice_get is j) a.interfaces ∙ (get-front imports.interfaces (interfaces_of_package r) j l ∙ got) in
      let path : path_named (get_or (own_names r) j []) ≡ Foreign q.0.namespace q.0.name q.0.version i.name =
      sym (paths-spelt r w.form.names labels j place) ∙ (ap (path_if r) at ∙ ap (λ (o : Option PackageParts). path_in o i.name) other) in
      record {
        one = i;
        of = q.0;
        there = got;
        path = path;
        is = imports-at imports.packages imports.definitions 0 imports.interfaces j no_import nowhere l ∙ ap (λ (n : ℕ). import_of imports.packages imports.definitions n i) (omega arith);
        named = get_or_from_slice_get imports.packages i.«package».0 q.0 nameless q.1;
        below = omega (arith, l, counted);
      }

  -- an own interface goes by its label
  own-path : (j : ℕ) → length imports.interfaces ≤ j → j < length r.interfaces
      → (path_named (get_or (own_names r) j []) ≡ Local (get_or (own_names r) j [])) × Contains (labels_of (interfaces_of_package r)) (get_or (own_names r) j [])
  own-path j l u =
      let m = length imports.interfaces in
      let k = j - length imports.interfaces in
      let s = long in
      let front = ap length front-same in
      let label : get_or (own_names r) j [] ≡ get_or (labels_of (interfaces_of_package r)) k [] =
      ap (λ (n : ℕ). get_or (own_names r) n []) (omega (arith, l, front)) ∙ own-at r (begins r w.form) k in
      let counted = length-map (interfaces_of_package r) (λ (i : Interface). i.name) in
      let inside : k < length (labels_of (interfaces_of_package r)) = omega (arith, l, u, s, counted) in
      let there : Contains (labels_of (interfaces_of_package r)) (get_or (labels_of (interfaces_of_package r)) k []) =
      (k, inside, get_or_default (labels_of (interfaces_of_package r)) k (get_or (labels_of (interfaces_of_package r)) k []) [] inside) in
      let is : IsLabel (get_or (own_names r) j []) =
      subst IsLabel (sym label) (all-contained IsLabel (labels_of (interfaces_of_package r)) (get_or (labels_of (interfaces_of_package r)) k []) (own-are-labels r (begins r w.form) labels) there) in
      (label-path (get_or (own_names r) j []) is, subst (Contains (labels_of (interfaces_of_package r))) (sym label) there)

  -- the interfaces that items of worlds name are known
  pub items-there : (d : Way) (j : ℕ) → j < length r.interfaces → IsKnownItemOf (imports_of imports) (labels_of (interfaces_of_package r)) (item_tree (Whole d (path_named (get_or (own_names r) j []))))
  items-there d j u = elim (cases_lt j (length imports.interfaces)) [
    | inl l ↦
        let x = import-here j l in
        subst (λ (p : PathTo). IsKnownItemOf (imports_of imports) (labels_of (interfaces_of_package r)) (item_tree (Whole d p))) (sym x.path)
        (import_at (interfaces_of imports) j, at-itself (interfaces_of imports) j x.below, ap (λ (k : Import). k.«package») x.is ∙ x.named, ap (λ (k : Import). k.name) x.is)
    | inr l ↦
        let x = own-path j l u in
        subst (λ (p : PathTo). IsKnownItemOf (imports_of imports) (labels_of (interfaces_of_package r)) (item_tree (Whole d p))) (sym x.0) x.1
  ]

  -- a type of an import is known by the import's path
  known-import : (j : ℕ) (x : IsImportAt j) (n : List ℕ) → Contains (types_within imports.definitions j x.one) n
      → IsKnownIn (imports_of imports) [] (path_package (path_named (get_or (own_names r) j []))) (path_interface (path_named (get_or (own_names r) j []))) n
  known-import j x n c =
      subst (λ (p : PathTo). IsKnownIn (imports_of imports) [] (path_package p) (path_interface p) n) (sym x.path) (
        import_at (interfaces_of imports) j,
        at-itself (interfaces_of imports) j x.below,
        ap (λ (k : Import). k.«package») x.is ∙ x.named,
        ap (λ (k : Import). k.name) x.is,
        subst (λ (k : Import). Contains k.types n) (sym x.is) c,
      )

  -- the types of imports that uses name are known
  pub rooms-there : (m : TypeName) → IsNamed (begins r w.form).before m.interface.0 m.name → HasType (imports_of imports) [] (key_of (own_names r) m)
  rooms-there m (t, d, n, s, q, i, same) =
      let b = begins r w.form in
      let home-is = home-here (own_names r) r.definitions (home 0 0 r.interfaces) owned w.form.postfix b.before b.behind t d n b.rows s q in
      let past = b.past t home-is.1 in
      let front = ap length front-same in
      let whole : slice_get r.definitions t ≡ Some (row.Type d) = ap (λ (ds : List Definition). slice_get ds t) b.rows ∙ (get-front b.before b.behind t home-is.1 ∙ s) in
      let counted = long in
      let listed-so = listed r.definitions (home 0 0 r.interfaces) 0 [] r.interfaces r.definitions (form-regions r w.form) refl r.placed t d n whole q (omega arith) (omega (arith, past, front, counted)) in
      let j : ℕ = m.interface.0 in
      let at-j : listed-so.place ≡ m.interface.0 = let h = listed-so.home in omega (arith, h, home-is.0, i) in
      let inside : m.interface.0 < length imports.interfaces = let h = home-is.0 in omega (arith, past, front, h, i) in
      let x = import-here m.interface.0 inside in
      let one : listed-so.one ≡ x.one =
      some-same (sym listed-so.stands ∙ (ap (slice_get r.interfaces) at-j
      ∙ (ap (λ (is : List Interface). slice_get is m.interface.0) a.interfaces ∙ (get-front imports.interfaces (interfaces_of_package r) m.interface.0 inside ∙ x.there)))) in
      let id = listed-so.has.0 in
      let among : Contains (x.one.uses ++ x.one.types) id = subst (λ (y : Interface). Contains (y.uses ++ y.types) id) one listed-so.has.1 in
      let rows-at : slice_get imports.definitions id.0 ≡ Some (row.Type d) =
      ap (slice_get imports.definitions) listed-so.has.2 ∙ (ap (λ (ds : List Definition). slice_get ds t) (sym before-same) ∙ s) in
      let within : type_within imports.definitions m.interface.0 id ≡ Some n.name =
      ap (λ (o : Option Definition). name_within m.interface.0 (name_of (type_of o))) rows-at
      ∙ (ap (name_within m.interface.0) q ∙ ap (λ (c : Bool). cond c (Some n.name) None) (eq-eqb n.interface.0 m.interface.0 i)) in
      let types : Contains (types_within imports.definitions m.interface.0 x.one) n.name = found (type_within imports.definitions m.interface.0) (x.one.uses ++ x.one.types) id n.name among within in
      known-import m.interface.0 x m.name (subst (Contains (types_within imports.definitions m.interface.0 x.one)) same types)
