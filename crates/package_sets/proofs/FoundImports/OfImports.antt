-- The table of what interfaces reach is as its definition says.
use Rattle.std.proofs.Common.{◌≡◌, ◌<◌, ◌⊎◌, inl, inr, zero, suc, ℕ, Bool, true, false, List, [], length, get_or, slice_get, map, Option, None, Some, refl, ap, sym, subst, ◌∙◌, arith, ◌∷◌, eqb-true}
use Rattle.std.specs.Prelude.{Contains}
use Rattle.std.proofs.lemmas.Option.{slice_get_within, get_or_from_slice_get}
use Rattle.package_form.specs.Postfix.{IsPostfix}
use Rattle.package_form.specs.Reached.{reached}
use Rattle.package_form.specs.Ends.{interfaces_end, are_worlds_parted}
use Rattle.package_form.proofs.AllAndContains.{contains-unmap}
use Rattle.tables.specs.declared.tables.Owner.{Owner}
use Rattle.tables.specs.declared.tables.Owner.TheVariants as owner
use Rattle.tables.specs.declared.tables.Definition.{Definition}
use Rattle.tables.specs.declared.tables.Interface.{Interface}
use Rattle.tables.specs.declared.tables.World.{World}
use Rattle.tables.specs.declared.tables.Resolve.{Resolve}
use Rattle.tables.specs.Names.{owner_of}
use Rattle.set_rows.specs.Places.{place}
use Rattle.set_rows.specs.Renamed.{renaming}
use Rattle.set_rows.specs.Moved.{put_interface, put_world}
use Rattle.package_sets.specs.Part.{IsTableOf}
use Rattle.set_rows.specs.Reaches.{OfInterfaces, padded}
use Rattle.package_sets.specs.Follows.{IsOfInterfaces, OfImports}
use Rattle.package_sets.specs.Imports.{IsImported, IsImportsOf}
use Rattle.package_sets.specs.Set.{IsSet, HasRowsInForm}
use Rattle.package_sets.specs.SetForm.{HasNamesApart}
use Rattle.tables.specs.PackageNames.{PackageParts}
use Rattle.package_sets.proofs.GrowingLists.{map-unget}
use Rattle.package_sets.proofs.KeptParts.PlacesOfKept.{was-kept, kept-package}
use Rattle.package_sets.proofs.FoundImports.HasAllImports.{fits-there, has-all}
use Rattle.package_sets.proofs.DistinctNames.ScopesOfKept.{table-scopes}
use Rattle.package_sets.proofs.KeptParts.PackagesOfKept.{kept-set, kept-names, has-each}
use Rattle.std.specs.List.{list_all, items_where_true}
use Rattle.package_form.specs.Closed.{are_of_a_set}
use Rattle.package_form.specs.Form.{is_package_name}
use Rattle.set_rows.specs.declared.moved.Moved.{Moved}
use Rattle.package_sets.proofs.ReachedParts.ReachedByUsedNames.{kept-cited}
use Rattle.package_sets.proofs.KeptParts.ClosedTypesStay.{kept-from}
use Rattle.package_sets.proofs.PackageTables.RowsAreInForm.{AreBefore, rows-in-form}
use Rattle.package_sets.proofs.OwnedRows.RowsAreOwned.{IsOwnedFrom, rows-owned, parted-worlds}
use Rattle.package_sets.proofs.ReachedParts.ReachedIsPart.{interfaces-part, no-world}
use Rattle.package_sets.proofs.KeptParts.KeptRowsArePostfix.{postfix-kept, blocks}
use Rattle.package_sets.proofs.KeptParts.KeptTellsTheSame.{interfaces-same, definitions-same, worlds-same}

empty-list : {A : Type 0} (xs : List A) → ((x : A) → Contains xs x → ⊥) → xs ≡ []
empty-list [] h = refl
empty-list (x ∷ xs) h = absurd (h x (0, omega arith, refl))

of-interfaces : (count : ℕ) (o : Option Owner) → IsOwnedFrom 0 count o → IsOfInterfaces count o
of-interfaces count None h = tt
of-interfaces count (Some (owner.World w)) h = h
of-interfaces count (Some (owner.Interface i)) h = h.1

-- what isn't given has no mark
pub given-there : (n : ℕ) (bs : List Bool) (j : ℕ) → j < n → get_or (padded n bs) j true ≡ true → get_or bs j false ≡ true
given-there zero bs j l h = absurd (omega (arith, l))
given-there (suc n) [] zero l h = h
given-there (suc n) [] (suc j) l h = given-there n [] j (omega (arith, l)) h
given-there (suc n) (b ∷ bs) zero l h = h
given-there (suc n) (b ∷ bs) (suc j) l h = given-there n bs j (omega (arith, l)) h

module _ (s : Resolve) (packages interfaces : List Bool) (to : Moved) (n : IsImported s packages interfaces to) where
  no-worlds : items_where_true to.worlds s.worlds ≡ []
  no-worlds = empty-list (items_where_true to.worlds s.worlds) (λ w c. let k = kept-from to.worlds s.worlds w c in no-world s packages interfaces to n k.0 k.1)

  none-before : AreBefore (map (put_interface (renaming to)) (items_where_true to.interfaces s.interfaces)) (map (put_world (renaming to)) (items_where_true to.worlds s.worlds))
  none-before a b i w e f =
      let v = contains-unmap (put_world (renaming to)) (items_where_true to.worlds s.worlds) w (b, slice_get_within _ b w f, get_or_from_slice_get _ b w w f) in
      let k = kept-from to.worlds s.worlds v.0 v.1 in
      absurd (no-world s packages interfaces to n k.0 k.1)

  module _ (r : Resolve) (t : IsTableOf s to r) where
    worlds-none : r.worlds ≡ []
    worlds-none = t.worlds ∙ ap (map (put_world (renaming to))) no-worlds

    form : IsSet s → HasRowsInForm r
    form h = rows-in-form s to (interfaces-part s packages interfaces to n) r t.interfaces t.worlds t.definitions h none-before

    -- all rows are of interfaces
    owned : IsSet s → (k : ℕ) (d : Definition) → slice_get r.definitions k ≡ Some d → IsOfInterfaces (length r.interfaces) (owner_of d)
    owned h k d e =
        let f = form h in
        let end : interfaces_end 0 r.interfaces ≡ length r.definitions =
        end-is (length r.definitions) (interfaces_end 0 r.interfaces) (subst (λ (ws : List World). are_worlds_parted (length r.definitions) (interfaces_end 0 r.interfaces) ws ≡ true) worlds-none (parted-worlds (length r.definitions) 0 r.interfaces r.worlds f.parted)) in
        of-interfaces (length r.interfaces) (owner_of d)
        (subst (λ m. IsOwnedFrom 0 m (owner_of d)) (omega arith) (rows-owned r.definitions 0 0 r.interfaces f.interfaces k d (omega arith) (omega (arith, end, slice_get_within r.definitions k d e)) e))
      where
        end-is : (count end : ℕ) → are_worlds_parted count end [] ≡ true → end ≡ count
        end-is count end p = eqb-true end count p

    -- the interface that is kept there, and its package
    kept-one : (k : ℕ) (x : Interface) → slice_get r.interfaces k ≡ Some x → (i : Interface) × (m : ℕ) × (slice_get s.interfaces m ≡ Some i) × (place to.interfaces m ≡ k) × (i.name ≡ x.name) × (slice_get r.packages x.«package».0 ≡ slice_get s.packages i.«package».0) × (get_or to.interfaces m false ≡ true)
    kept-one k x e =
        let u = map-unget (put_interface (renaming to)) (items_where_true to.interfaces s.interfaces) k x (ap (λ (is : List Interface). slice_get is k) (sym t.interfaces) ∙ e) in
        let w = was-kept to.interfaces s.interfaces k u.0 u.1 in
        let number : place to.packages u.0.«package».0 ≡ x.«package».0 = ap (λ (z : Interface). z.«package».0) u.2 in (
          u.0,
          w.from,
          w.stood,
          w.is,
          ap (λ (z : Interface). z.name) u.2,
          ap (λ (ps : List PackageParts). slice_get ps x.«package».0) t.packages
              ∙ (ap (slice_get (items_where_true to.packages s.packages)) (sym number) ∙ kept-package s to (interfaces-part s packages interfaces to n) w.from u.0 w.marked w.stood),
          w.marked,
        )

    names-apart : HasNamesApart s → HasNamesApart r
    names-apart h = record {
      each = λ j k x y e f p m.
          let a = kept-one j x e in
          let b = kept-one k y f in
          let same = h.each a.1 b.1 a.0 b.0 a.2 b.2 (sym a.5 ∙ (p ∙ b.5)) (a.4 ∙ (m ∙ sym b.4)) in
          sym a.3 ∙ (ap (place to.interfaces) same ∙ b.3);
    }

    used : IsSet s → IsPostfix s.definitions → HasNamesApart s → (k j : ℕ) (x i : Interface) → slice_get r.interfaces k ≡ Some x → slice_get s.interfaces j ≡ Some i
        → slice_get r.packages x.«package».0 ≡ slice_get s.packages i.«package».0 → x.name ≡ i.name → Contains (reached r.definitions []) k ⊎ (get_or interfaces j false ≡ true)
    used h p apart k j x i e f of name =
        let a = kept-one k x e in
        let same : a.1 ≡ j = apart.each a.1 j a.0 i a.2 f (sym a.5 ∙ of) (a.4 ∙ name) in
        let cited = kept-cited s (OfInterfaces interfaces) to (interfaces-part s packages interfaces to n) n.are_reached r t h p (λ m. get_or interfaces m false ≡ true)
        (λ m l given. inr (given-there (length s.interfaces) interfaces m l given)) j (slice_get_within s.interfaces j i f) (subst (λ (m : ℕ). get_or to.interfaces m false ≡ true) same a.6) in
        subst (λ (m : ℕ). Contains (reached r.definitions []) m ⊎ (get_or interfaces j false ≡ true)) (ap (place to.interfaces) (sym same) ∙ a.3)
        (subst (λ (ws : List World). Contains (reached r.definitions ws) (place to.interfaces j) ⊎ (get_or interfaces j false ≡ true)) worlds-none cited)

    of-imports : OfImports s packages interfaces r (record { to = to; kept = n; table = t })
    of-imports =
        let p = interfaces-part s packages interfaces to n in
        record {
          interfaces_are = interfaces-same s to p r t.packages t.interfaces t.worlds t.definitions;
          definitions_are = definitions-same s to p r t.packages t.interfaces t.worlds t.definitions;
          worlds_are = worlds-none;
          in_form = form;
          owned = owned;
          apart = names-apart;
          used = used;
          packages_of_set = λ h. subst (λ (ps : List PackageParts). are_of_a_set ps ≡ true) (sym t.packages) (kept-set to.packages s.packages h);
          names = λ h. subst (λ (ps : List PackageParts). list_all is_package_name ps ≡ true) (sym t.packages) (kept-names to.packages s.packages h);
          each_package = λ given. has-each s to p r t (length r.packages) (omega arith) (omega arith) (λ k l e b. elim (n.packages_are.only k e) [ inl g ↦ given k l g | inr g ↦ g ]);
          scopes = λ h k d. table-scopes s to p h r t (worlds-same s to p r t.packages t.interfaces t.worlds t.definitions) (form h) (subst IsPostfix (sym t.definitions) (postfix-kept to s.definitions (blocks s to p) k)) d;
          found = λ h k c b. record { have = has-all s to p h k (no-world s packages interfaces to n) r t worlds-none (form h) c b; fits = fits-there s to p h k (no-world s packages interfaces to n) r t worlds-none (form h) c b };
          postfix = λ h. subst IsPostfix (sym t.definitions) (postfix-kept to s.definitions (blocks s to p) h);
        }

pub follows : (s : Resolve) (packages interfaces : List Bool) (r : Resolve) (n : IsImportsOf s packages interfaces r) → OfImports s packages interfaces r n
follows s packages interfaces r n = of-imports s packages interfaces n.to n.kept r n.table
