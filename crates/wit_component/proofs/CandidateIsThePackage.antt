-- The candidate of a component is the package that it stands for.
use Rattle.std.proofs.Common.{◌≡◌, ◌<◌, ◌+◌, true, false, cond, ℕ, List, [], ◌∷◌, ◌++◌, map, length, slice_get, append_assoc, arith, None, Some, Ok, Err, refl, ap, sym, subst, ◌∙◌, All, Contains, inl, inr}
use Rattle.ctype_format.specs.Raw.{Decl, BinaryFile}
use Rattle.ctype_format.specs.View.{decls_of}
use Rattle.ctype_bin.specs.FileView.{raw_component_view}
use Rattle.ctype_bin.specs.declared.component.RawComponent.{RawComponent}
use Rattle.tables.specs.Parts.{is_package}
use Rattle.tables.specs.Same.{IsSamePackage}
use Rattle.tables.specs.Names.{full_name_in, full_name}
use Rattle.tables.specs.Package.{WorldMeaning, world_meaning, references}
use Rattle.tables.specs.PackageNames.{PackageParts}
use Rattle.tables.specs.declared.tables.World.{World}
use Rattle.tables.specs.declared.tables.Interface.{Interface}
use Rattle.tables.specs.declared.tables.Definition.{Definition}
use Rattle.tables.specs.declared.tables.Resolve.{Resolve}
use Rattle.tables.specs.declared.error.ResolveError.{ResolveError}
use Rattle.tables.specs.declared.error.ResolveError.TheVariants as error
use Rattle.package_form.specs.Scope.{AreDistinct}
use Rattle.package_form.specs.Distinct.{RefusesScopes}
use Rattle.package_form.proofs.AllAndContains.{all-contained}
use Rattle.component_reader.specs.declared.unread.Unread.TheVariants as unread
use Rattle.package_form.specs.Ends.{end_of, rows_of, interfaces_end}
use Rattle.wit_component.specs.Component.{aliases_of, ComponentFront, interface_declarations, interface_direction, front_after, interfaces_declared, no_front, interfaces_front, worlds_declared, component_of}
use Rattle.wit_component.specs.FromComponent.{is_none, is_empty_package}
use Rattle.package_form.specs.Naming.{package_scopes, table_scopes}
use Rattle.package_form.specs.Closed.{own_package}
use Rattle.package_form.specs.Form.{IsInPackageForm}
use Rattle.package_form.proofs.FullNamesStandForInterfaces.{some-part}
use Rattle.wit_component.specs.ToComponent.{ComponentStands}
use Rattle.component_reader.specs.Instance.{if_found}
use Rattle.component_reader.specs.Component.{candidate_read, candidate_of, Candidate, IsMadeOf, Makes}
use Rattle.wit_component.proofs.AlikeRows.{AreAlike}
use Rattle.wit_component.proofs.ReadAgain.WholePackages.{reread}
use Rattle.wit_component.proofs.AlikeTablesHaveOneComponent.{IsAlikePackage, package-same, component-same, form-same}
use Rattle.wit_component.proofs.UsedNamesStandForOneRow.{same-definitions, same-package}

module _ (raw : RawComponent) (r : Resolve) (s : ComponentStands raw r) where
  candidate-is : (c : Candidate) × (candidate_of (raw_component_view raw) ≡ Some c) × ((p : Resolve) → IsMadeOf c p → IsAlikePackage r p)
      × (All AreDistinct (package_scopes r) → IsMadeOf c r)
  candidate-is =
      let x = reread r s.form s.labels s.world_labels in
      let made = x.0 in
      let ok : is_package (length made.packages) made.rows made.interfaces made.worlds ≡ true =
      (λ j. is_package (length (x.5 j)) made.rows (x.2 j) (x.3 j)) ∙ package-same r made.rows x.4 in
      let c : Candidate = record { packages = made.packages; interfaces = made.interfaces; worlds = made.worlds; definitions = made.rows } in (
        c,
        ap candidate_of s.component
            ∙ ap (λ o. if_found o candidate_read) x.1
            ∙ ap (λ b. cond b (Some c) None) ok,
        λ p m. record {
          packages = m.packages ∙ x.5;
          interfaces = m.interfaces ∙ x.2;
          worlds = m.worlds ∙ x.3;
          definitions = subst (λ (ds : List Definition). AreAlike r.definitions 0 r.definitions ds) (sym m.definitions) x.4;
        },
        λ d. record {
          packages = sym x.5;
          interfaces = sym x.2;
          worlds = sym x.3;
          definitions = sym (same-definitions r made.rows x.4 s.form d);
        },
      )

  pub reads-as : All AreDistinct (package_scopes r) → Makes (candidate_of (raw_component_view raw)) (Ok r)
  reads-as d = let x = candidate-is in (x.0, x.1, x.3 d)

  -- what was read is like it
  pub is-alike : (p : Resolve) → Makes (candidate_of (raw_component_view raw)) (Ok p) → IsAlikePackage r p
  is-alike p (c, found, made) =
      let x = candidate-is in
      let same : x.0 ≡ c = some-is (sym x.1 ∙ found) in
      x.2 p (subst (λ (d : Candidate). IsMadeOf d p) (sym same) made)
    where
      some-is : {a b : Candidate} → Some a ≡ Some b → a ≡ b
      some-is e = cc

  -- so it is found
  pub no-other-shape : Makes (candidate_of (raw_component_view raw)) (Err unread.NotThisShape) → ⊥
  no-other-shape (inl e) = absurd (cc)
  no-other-shape (inr e) = absurd (let x = candidate-is in let y : Some x.0 ≡ None = sym x.1 ∙ e.1 in cc)

  pub in-form : (p : Resolve) → Makes (candidate_of (raw_component_view raw)) (Ok p) → IsInPackageForm p
  in-form p m = form-same r p (is-alike p m) s.form

  -- and it is the same component
  pub written-again : (p : Resolve) → Makes (candidate_of (raw_component_view raw)) (Ok p) → raw_component_view raw ≡ component_of p
  written-again p m = s.component ∙ sym (component-same r p (is-alike p m))

  pub is-that-package : All AreDistinct (package_scopes r) → (p : Resolve) → Makes (candidate_of (raw_component_view raw)) (Ok p) → IsSamePackage p r
  is-that-package d p m = same-package r p (is-alike p m) s.form d

-- a package's component has declarations
some-decls : (xs : List Decl) (y : Decl) (ys : List Decl) → is_none (decls_of (xs ++ y ∷ ys)) ≡ false
some-decls [] y ys = refl
some-decls (x ∷ xs) y ys = refl

some-declared : (r : Resolve) (is : List Interface) (at : ComponentFront) (start : ℕ) (ws : List World) → 0 < length is + length ws
    → is_none (decls_of (interfaces_declared r no_front 0 is ++ worlds_declared r at start ws)) ≡ false
some-declared r [] at start [] some = absurd (omega (arith, some))
some-declared r [] at start (w ∷ ws) some = refl
some-declared r (i ∷ is) at start ws some =
    let ds = rows_of r.definitions 0 i in
    let rest = interfaces_declared r (front_after r.definitions no_front ds) (end_of 0 i) is in
    ap (λ (xs : List Decl). is_none (decls_of xs)) (append_assoc (interface_declarations r.definitions no_front ds (interface_direction (own_package r.packages) i) (full_name r i)) rest (worlds_declared r at start ws))
    ∙ ap (λ (xs : List Decl). is_none (decls_of xs)) (append_assoc (aliases_of r.definitions ds) _ (rest ++ worlds_declared r at start ws)) ∙ some-decls (aliases_of r.definitions ds) _ _

pub not-empty : (raw : RawComponent) (r : Resolve) → ComponentStands raw r → is_empty_package (raw_component_view raw).types ≡ false
not-empty raw r s =
    ap (λ (f : BinaryFile). is_empty_package f.types) s.component
    ∙ some-declared r r.interfaces (interfaces_front r.definitions no_front 0 r.interfaces) (interfaces_end 0 r.interfaces) r.worlds (some-part r s.form.closed)

-- the worlds of these tables, as their names tell them
abbrev names_in : List PackageParts → List Interface → List (List ℕ)
names_in ps is = map (λ i. full_name_in (slice_get ps i.«package».0) i.name) is

abbrev meanings : List PackageParts → List Interface → List World → List Definition → List WorldMeaning
meanings ps is ws ds =
    map (λ w. world_meaning (names_in ps is) (references (names_in ps is) [] ds) ds (full_name_in (slice_get ps w.«package».0) w.name) w) ws

-- the same tables have the same scopes
pub same-scopes : (p r : Resolve) → IsSamePackage p r → package_scopes p ≡ package_scopes r
same-scopes p r e =
    λ j. table_scopes (e.packages j) (e.definitions j) (e.interfaces j) (e.worlds j)
    (meanings (e.packages j) (e.interfaces j) (e.worlds j) (e.definitions j))

-- names that differ are not told as standing twice
pub no-duplicate : (p r : Resolve) (e : ResolveError) → IsSamePackage p r → All AreDistinct (package_scopes r) → RefusesScopes (package_scopes p) e → e ≡ error.NoMemory
no-duplicate p r (error.Duplicate n) same d h =
    let distinct = all-contained AreDistinct (package_scopes r) h.0 d (subst (λ scopes. Contains scopes h.0) (same-scopes p r same) h.1) in
    absurd (distinct.each h.2.0 h.2.1 h.2.3)
no-duplicate p r error.NoMemory same d h = refl
no-duplicate p r _ same d h = absurd h
