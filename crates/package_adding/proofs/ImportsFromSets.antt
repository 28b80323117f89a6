-- Imports from a set: what a file may be read behind.
use Rattle.std.proofs.Common.{◌≡◌, ◌<◌, ◌+◌, ◌==◌, ◌⊎◌, inl, inr, ℕ, zero, suc, Bool, true, false, nat_le, true≢false, IsTrue, List, [], ◌∷◌, Option, None, Some, length, get_or, slice_get, refl, ap, sym, subst, ◌∙◌, arith, All, Contains}
use Rattle.std.specs.List.{list_all}
use Rattle.std.proofs.Math.Bool.{Bool-set}
use Rattle.std.proofs.Math.Logic.{∥∥₁_elim}
use Rattle.std.proofs.lemmas.Bool.{lt-ltb, eq-eqb, eqb-true}
use Rattle.std.proofs.lemmas.List.{get_or_default}
use Rattle.std.proofs.lemmas.Option.{slice_get-get_or}
use Rattle.package_form.specs.Closed.{is_same_package, are_apart}
use Rattle.package_form.specs.Ends.{is_parted}
use Rattle.package_form.specs.Form.{is_package_name}
use Rattle.package_form.specs.Laws.{IsLabelled}
use Rattle.package_form.specs.Reached.{reached as reached_by}
use Rattle.package_form.proofs.AllAndContains.{all-contained, all-get, contains-map}
use Rattle.package_form.proofs.FullNamesStandForInterfaces.{package-there, apart-places, full-name-parts, same-itself}
use Rattle.package_form.proofs.PostfixIsDecided.{used-postfix, postfix-used}
use Rattle.package_sets.specs.Attached.{HasRoom, has_package}
use Rattle.package_sets.specs.Follows.{IsOfInterfaces, OfImports}
use Rattle.package_sets.specs.Imports.{IsImportsOf}
use Rattle.package_sets.proofs.FoundImports.OfImports.{follows}
use Rattle.tables.specs.Names.{owner_of}
use Rattle.package_sets.specs.Restricted.{IsReachedIn}
use Rattle.package_sets.specs.SetForm.{HasNamesApart, IsInSetForm}
use Rattle.package_sets.proofs.KeptParts.ClosedTypesStay.{kept-from}
use Rattle.package_sets.proofs.KeptParts.PackagesOfKept.{kept-fewer}
use Rattle.package_sets.proofs.GrowingLists.{map-unget, get-contains}
use Rattle.tree_meaning.specs.Declarations.{interfaces, file_worlds, package_named}
use Rattle.tree_meaning.specs.ImportForms.{NamesImport, IsNamedBehind, AreReachedFrom}
use Rattle.tree_meaning.specs.Imports.{Import, Imports, AreApart, HasImport, nameless, no_import, import_at, import_of, interfaces_of, imports_of}
use Rattle.tree_meaning.specs.Resolves.{is_of_interfaces, AreImports, HasNoFaultsOf, HasKnownNamesOf, IsKnownUseOf, IsKnownIn, IsKnownItemOf, IsKnownWorldOf}
use Rattle.tree_meaning.proofs.ImportsFoundByName.{nowhere, imports-length, imports-at}
use Rattle.tables.proofs.NamesEarlierTypes.{grouped-at}
use Rattle.tables.proofs.ClosedTypesRowByRow.{split, both}
use Rattle.tables.specs.Names.{full_name, full_name_in}
use Rattle.tables.specs.Package.{interface_names}
use Rattle.tables.specs.PackageNames.{PackageParts}
use Rattle.tables.specs.declared.tables.TypeName.{TypeName}
use Rattle.tables.specs.declared.tables.Owner.{Owner}
use Rattle.tables.specs.declared.tables.Owner.TheVariants as owner
use Rattle.tables.specs.declared.tables.Definition.{Definition}
use Rattle.tables.specs.declared.tables.Definition.TheVariants as row
use Rattle.tables.specs.declared.tables.Interface.{Interface}
use Rattle.tables.specs.declared.tables.World.{World}
use Rattle.tables.specs.declared.tables.Resolve.{Resolve}
use Rattle.wit_tokens.specs.FullNames.{file_has_full_names}
use Rattle.wit_tokens.specs.Syntax.{File}
use Rattle.package_adding.specs.Named.{NamesInterface, AreNamed}
use Rattle.package_adding.proofs.TestsTellFileNames.{one-any}

-- ---- lists

all-by : {A : Type 0} (p : A → Bool) (xs : List A) → ((k : ℕ) (x : A) → slice_get xs k ≡ Some x → p x ≡ true) → list_all p xs ≡ true
all-by p [] h = refl
all-by p (x ∷ xs) h = both (p x) (list_all p xs) (h 0 x refl) (all-by p xs (λ k y e. h (suc k) y e))

marked-anyway : (bs : List Bool) (k : ℕ) → get_or bs k false ≡ true → get_or bs k true ≡ true
marked-anyway [] k h = refl
marked-anyway (b ∷ bs) zero h = h
marked-anyway (b ∷ bs) (suc k) h = marked-anyway bs k h

-- ---- rows of interfaces

row-owned : (n : ℕ) (d : Definition) → IsOfInterfaces n (owner_of d) → is_of_interfaces n d ≡ true
row-owned n (row.Type d) h = by d.name h
  where
    by : (o : Option TypeName) → IsOfInterfaces n (owner_of (row.Type (record { name = o; kind = d.kind }))) → is_of_interfaces n (row.Type (record { name = o; kind = d.kind })) ≡ true
    by None h = refl
    by (Some m) h = lt-ltb m.interface.0 n h
row-owned n (row.Function f) h = by f.owner h
  where
    by : (o : Owner) → IsOfInterfaces n (Some o) → is_of_interfaces n (row.Function (record f { owner = o })) ≡ true
    by (owner.Interface i) h = lt-ltb i.0 n h
    by (owner.World w) h = absurd h

-- ---- an interface that a file without faults names is among its imports

module _ (m : Imports) (f : File) (faults : HasNoFaultsOf m f) where
  pub named-there : (q : PackageParts) (i : List ℕ) → NamesInterface f q i → HasImport m q i
  named-there q i (inl (j, c, (u, d, e, g))) =
      let known = all-contained (HasKnownNamesOf m (interfaces f)) (interfaces f) j faults.known.in_interfaces c in
      let h : IsKnownIn m (interfaces f) (Some q) u.interface u.name =
      subst (λ (o : Option PackageParts). IsKnownIn m (interfaces f) o u.interface u.name) e (all-contained (IsKnownUseOf m (interfaces f)) j.uses u known.uses d) in
      (h.0, h.1, h.2, h.3 ∙ g)
  named-there q i (inr (w, c, (way, d))) =
      all-contained (IsKnownItemOf m _) w.items _ (all-contained (IsKnownWorldOf m _) (file_worlds f) w faults.known.in_worlds c) d

module _ (s : Resolve) (packages interfaces : List Bool) (r : Resolve) (n : IsImportsOf s packages interfaces r) where
  its : OfImports s packages interfaces r n
  its = follows s packages interfaces r n

  abbrev one : ℕ → Interface
  one j = get_or r.interfaces j nowhere

  as-import : (j : ℕ) → j < length r.interfaces → import_at (interfaces_of r) j ≡ import_of r.packages r.definitions (0 + j) (one j)
  as-import j l = imports-at r.packages r.definitions 0 r.interfaces j no_import nowhere l

  inside : (j : ℕ) → j < length r.interfaces → (one j).«package».0 < length r.packages
  inside j l = grouped-at (length r.packages) 0 r.interfaces j (one j) r.grouped l (get_or_default r.interfaces j (one j) nowhere l)

  here : (j : ℕ) → j < length r.interfaces → slice_get r.interfaces j ≡ Some (one j)
  here j l = slice_get-get_or r.interfaces j nowhere l

  of-package : (j : ℕ) → j < length r.interfaces → slice_get r.packages (one j).«package».0 ≡ Some (import_at (interfaces_of r) j).«package»
  of-package j l =
      slice_get-get_or r.packages (one j).«package».0 nameless (inside j l)
      ∙ ap (λ (p : PackageParts). Some p) (sym (ap (λ (k : Import). k.«package») (as-import j l)))

  named-one : (j : ℕ) → j < length r.interfaces → (one j).name ≡ (import_at (interfaces_of r) j).name
  named-one j l = sym (ap (λ (k : Import). k.name) (as-import j l))

  counted : length (interfaces_of r) ≡ length r.interfaces
  counted = imports-length r.packages r.definitions 0 r.interfaces

  -- ---- a file may be read behind them

  each-apart : HasNamesApart s → AreApart (interfaces_of r)
  each-apart h = record {
    each = λ j k l m e f.
        let a : j < length r.interfaces = omega (arith, l, counted) in
        let b : k < length r.interfaces = omega (arith, m, counted) in
        (its.apart h).each j k (one j) (one k) (here j a) (here k b) (of-package j a ∙ (ap (λ (p : PackageParts). Some p) e ∙ sym (of-package k b))) (named-one j a ∙ (f ∙ sym (named-one k b)));
  }

  pub are-imports : ∥ IsInSetForm s ∥₁ → AreImports r
  are-imports h = record {
    apart = record { each = λ j k l m e f. eqb-true j k (∥∥₁_elim h (Bool-set (j == k) true) (λ form. eq-eqb j k ((each-apart form.apart).each j k l m e f))) };
    worlds = its.worlds_are;
    owned = ∥∥₁_elim h (Bool-set _ true) (λ form. all-by (is_of_interfaces (length r.interfaces)) r.definitions (λ k d e. row-owned (length r.interfaces) d (its.owned form.rows k d e)));
    postfix = used-postfix r.definitions r.earlier (∥∥₁_elim h (Bool-set _ true) (λ form. postfix-used r.definitions r.earlier (its.postfix form.postfix)));
  }

  module _ (f : File) (form : IsInSetForm s) where
    not-there : has_package s (package_named f) ≡ false → Contains r.packages (package_named f) → ⊥
    not-there new c =
        let k = kept-from n.to.packages s.packages (package_named f) (subst (λ (ps : List PackageParts). Contains ps (package_named f)) n.table.packages c) in
        true≢false (sym (one-any (is_same_package (package_named f)) s.packages (package_named f) (get-contains s.packages k.0 (package_named f) k.2) (same-itself (package_named f))) ∙ new)

    pub named-behind : All IsLabelled r.interfaces → IsTrue (file_has_full_names f) → has_package s (package_named f) ≡ false → IsNamedBehind r f
    named-behind labels names new = record {
      form = record {
        names = its.names form.names;
        labels = labels;
        parted = subst (λ (ws : List World). is_parted (length r.definitions) 0 r.interfaces ws ≡ true) its.worlds_are (its.in_form form.rows).parted;
        interfaces = (its.in_form form.rows).interfaces;
      };
      names = names;
      other = not-there new;
    }

    module _ (labels : All IsLabelled r.interfaces) (set-labels : All IsLabelled s.interfaces) where
      packages-apart : are_apart s.packages ≡ true
      packages-apart = (split (nat_le (length s.packages) 64) (are_apart s.packages) form.packages).1

      -- the interface of the set that an import is
      record IsOfSet (q : PackageParts) (i : List ℕ) : Type 0 where
        pub place : ℕ
        pub interface : Interface
        pub at : slice_get s.interfaces place ≡ Some interface
        pub marked : get_or n.kept.marks.interfaces place false ≡ true
        pub of : slice_get s.packages interface.«package».0 ≡ Some q
        pub name : interface.name ≡ i

      of-set : (j : ℕ) (x : Interface) (q : PackageParts) → slice_get r.interfaces j ≡ Some x → slice_get r.packages x.«package».0 ≡ Some q → IsOfSet q x.name
      of-set j x q e g =
          let c : Contains r.interfaces x = get-contains r.interfaces j x e in
          let named = subst (λ (ns : List (List ℕ)). Contains ns (full_name r x)) its.interfaces_are (contains-map (full_name r) r.interfaces x c) in
          let k = kept-from n.kept.marks.interfaces (interface_names s) (full_name r x) named in
          let y = map-unget (full_name s) s.interfaces k.0 (full_name r x) k.2 in
          let d : Contains s.interfaces y.0 = get-contains s.interfaces k.0 y.0 y.1 in
          let p = package-there s.packages y.0.«package».0 (grouped-at (length s.packages) 0 s.interfaces d.0 y.0 s.grouped d.1 d.2) in
          let whole = ap (λ (o : Option PackageParts). full_name_in o y.0.name) (sym p.1) ∙ (y.2 ∙ ap (λ (o : Option PackageParts). full_name_in o x.name) g) in
          let parts = full-name-parts p.0 q y.0.name x.name (all-get is_package_name s.packages y.0.«package».0 p.0 form.names p.1) (all-get is_package_name r.packages x.«package».0 q (its.names form.names) g)
          (all-contained IsLabelled s.interfaces y.0 set-labels d) (all-contained IsLabelled r.interfaces x labels c) whole in
          record { place = k.0; interface = y.0; at = y.1; marked = k.1; of = p.1 ∙ ap (λ (z : PackageParts). Some z) parts.0; name = parts.1 }

      module _ (named : AreNamed f s packages interfaces) (faults : HasNoFaultsOf (imports_of r) f) where
        reached-in : (k : ℕ) → k < length s.packages → get_or packages k false ≡ true → IsReachedIn s n.kept.marks k
        reached-in k l h =
            let p = package-there s.packages k l in
            let t = (named.packages_are k p.0 p.1).0 h in
            let i = named-there (imports_of r) f faults p.0 t.0 t.1 in
            let j = i.1.0 in
            let a : j < length r.interfaces = omega (arith, i.1.1, counted) in
            let is : import_at (interfaces_of r) j ≡ i.0 = get_or_default (interfaces_of r) j no_import i.0 i.1.1 ∙ i.1.2 in
            let o = of-set j (one j) p.0 (here j a) (of-package j a ∙ ap (λ (x : PackageParts). Some x) (ap (λ (x : Import). x.«package») is ∙ i.2)) in
            (o.place, o.interface, o.at, marked-anyway n.kept.marks.interfaces o.place o.marked, apart-places s.packages packages-apart o.interface.«package».0 k p.0 o.of p.1)

        reached : (k : ℕ) → k < length r.interfaces → Contains (reached_by r.definitions []) k ⊎ NamesImport f (import_at (interfaces_of r) k)
        reached k l =
            let q = (import_at (interfaces_of r) k).«package» in
            let o = of-set k (one k) q (here k l) (of-package k l) in
            elim (its.used form.rows form.postfix form.apart k o.place (one k) o.interface (here k l) o.at (of-package k l ∙ sym o.of) (sym o.name)) [
              | inl c ↦ inl c
              | inr g ↦ inr (subst (NamesInterface f q) (o.name ∙ named-one k l) ((named.interfaces_are o.place o.interface q o.at o.of).0 g))
            ]

        pub reached-from : HasRoom s → AreReachedFrom r f
        reached-from room = record {
          few = omega (arith, room, ap length n.table.packages, kept-fewer n.to.packages s.packages);
          apart = (split (nat_le (length r.packages) 64) (are_apart r.packages) (its.packages_of_set form.packages)).1;
          each = its.each_package reached-in;
          reached = reached;
        }
