-- A set with a package more is in a set's form, and so is a set of none.
use Rattle.std.proofs.Common.{All, ◌≡◌, ◌≤◌, ℕ, Bool, true, false, not, ◌||◌, nat_le, List, [], ◌∷◌, ◌++◌, length, map, slice_get, Some, refl, ap, sym, subst, ◌∙◌, arith, true≢false}
use Rattle.std.specs.Prelude.{Contains}
use Rattle.std.specs.List.{list_all, list_any}
use Rattle.std.proofs.lemmas.Bool.{le-leb}
use Rattle.std.proofs.lemmas.List.{length-append}
use Rattle.package_form.specs.Closed.{own_package, is_same_package, are_apart, are_of_a_set}
use Rattle.package_form.specs.Form.{is_package_name, IsInPackageForm}
use Rattle.package_form.specs.Postfix.{begin, IsPostfix}
use Rattle.package_form.proofs.FullNamesStandForInterfaces.{package-is, same-itself}
use Rattle.tables.specs.PackageNames.{PackageParts}
use Rattle.tables.proofs.ClosedTypesRowByRow.{split, both}
use Rattle.tables.specs.declared.tables.Definition.{Definition}
use Rattle.tables.specs.declared.tables.Interface.{Interface}
use Rattle.tables.specs.declared.tables.World.{World}
use Rattle.tables.specs.declared.tables.Resolve.{Resolve}
use Rattle.set_rows.specs.Moved.{put_interface}
use Rattle.package_sets.specs.Set.{ArePackageByPackage, behind_all, IsPackageByPackage, HasRowsInForm}
use Rattle.package_sets.specs.SetForm.{IsInSetForm, IsEmpty}
use Rattle.package_sets.specs.Joining.{own_interfaces}
use Rattle.package_sets.specs.Joined.{renaming_of, IsJoined}
use Rattle.package_sets.proofs.AttachedSets.PutBehind.{IsPut}
use Rattle.package_sets.specs.Attached.{IsOwn, HasRoom, has_package}
use Rattle.package_sets.specs.Joined.{JoinedPlaces}
use Rattle.package_sets.proofs.GrowingLists.{all-append, not-is}
use Rattle.package_sets.proofs.KeptParts.PropertiesOfKept.{list-at}
use Rattle.package_sets.proofs.AttachedSets.OwnPartStandsBehind.{rows-there}
use Rattle.package_sets.proofs.AttachedSets.IsPackageByPackage.{all-stand}
use Rattle.package_sets.proofs.OwnedRows.WorldsAreApart.{worlds-apart}
use Rattle.package_sets.proofs.AttachedSets.RowsArePostfix.{postfix-behind}
use Rattle.package_sets.proofs.DistinctNames.InterfaceNamesApart.{closed-apart, put-apart}
use Rattle.package_sets.proofs.AttachedSets.NamesEarlierPackages.{earlier-packages}
use Rattle.package_sets.proofs.DistinctNames.ScopesOfSets.{closed-scopes, put-scopes, none-scopes}
use Rattle.tables.specs.Package.{worlds}
use Rattle.package_form.specs.Scope.{AreDistinct}
use Rattle.package_form.specs.Naming.{package_scopes}

-- ---- packages

or-false : (a b : Bool) → (a || b) ≡ false → (a ≡ false) × (b ≡ false)
or-false true b h = absurd (true≢false h)
or-false false b h = (refl, h)

any-push : {A : Type 0} (f : A → Bool) (xs : List A) (x : A) → list_any f xs ≡ false → f x ≡ false → list_any f (xs ++ x ∷ []) ≡ false
any-push f [] x h e = ap (λ (b : Bool). b || false) e
any-push f (y ∷ xs) x h e =
    let p = or-false (f y) (list_any f xs) h in
    ap (λ (b : Bool). b || list_any f (xs ++ x ∷ [])) p.0 ∙ any-push f xs x p.1 e

-- a package of another name is of another name
other-way : (p q : PackageParts) → is_same_package p q ≡ false → is_same_package q p ≡ false
other-way p q h = by (is_same_package q p) refl
  where
    by : (b : Bool) → is_same_package q p ≡ b → is_same_package q p ≡ false
    by false e = e
    by true e = absurd (true≢false (sym (subst (λ (x : PackageParts). is_same_package p x ≡ true) (sym (package-is q p e)) (same-itself p)) ∙ h))

apart-push : (ps : List PackageParts) (p : PackageParts) → are_apart ps ≡ true → list_any (is_same_package p) ps ≡ false → are_apart (ps ++ p ∷ []) ≡ true
apart-push [] p h e = refl
apart-push (x ∷ ps) p h e =
    let a = split (not (list_any (is_same_package x) ps)) (are_apart ps) h in
    let b = or-false (is_same_package p x) (list_any (is_same_package p) ps) e in
    both _ _ (ap not (any-push (is_same_package x) ps p (not-is _ a.0) (other-way p x b.0))) (apart-push ps p a.1 b.1)

set-push : (ps : List PackageParts) (p : PackageParts) → length ps ≤ 63 → are_of_a_set ps ≡ true → list_any (is_same_package p) ps ≡ false → are_of_a_set (ps ++ p ∷ []) ≡ true
set-push ps p l h e =
    both (nat_le (length (ps ++ p ∷ [])) 64) (are_apart (ps ++ p ∷ [])) (le-leb (length (ps ++ p ∷ [])) 64 (omega (arith, l, length-append ps (p ∷ [])))) (apart-push ps p (split (nat_le (length ps) 64) (are_apart ps) h).1 e)

-- ---- a set with a package more

module _ (s c : Resolve) (j : JoinedPlaces) (q : IsJoined s c j) (own : PackageParts) where
  module _ (r : Resolve) (put : IsPut s c own j r) where
    pub stands-there : IsPackageByPackage s → HasRowsInForm c → IsPackageByPackage r
    stands-there h form =
        subst (λ (ds : List Definition). ArePackageByPackage ds 0 0 r.interfaces 0 r.worlds) (sym put.definitions)
        (subst (λ (is : List Interface). ArePackageByPackage (rows-there s c j q) 0 0 is 0 r.worlds) (sym put.interfaces)
        (subst (λ (ws : List World). ArePackageByPackage (rows-there s c j q) 0 0 (s.interfaces ++ map (put_interface (renaming_of j)) (own_interfaces c)) 0 ws) (sym put.worlds) (all-stand s c j q h form)))

  pub set-form : (is : IsOwn c own) (r : Resolve) (put : IsPut s c own j r) → HasRoom s → has_package s own ≡ false → IsInSetForm s → IsInPackageForm c → All AreDistinct (package_scopes c) → worlds r ≡ worlds s ++ worlds c → IsInSetForm r
  set-form is r put room new set closed distinct told = record {
    packages = subst (λ (ps : List PackageParts). are_of_a_set ps ≡ true) (sym put.packages) (set-push s.packages own room set.packages new);
    names = subst (λ (ps : List PackageParts). list_all is_package_name ps ≡ true) (sym put.packages)
        (all-append is_package_name s.packages (own ∷ []) set.names (both (is_package_name own) true (list-at is_package_name c.packages (own_package c.packages) own closed.names is) refl));
    apart = put-apart s c j q own is r put new set.apart (closed-apart c closed.closed distinct);
    rows = record { stands = stands; apart = worlds-apart r stands postfix };
    postfix = postfix;
    earlier = earlier-packages s c j q own r put set.rows.stands set.earlier form;
    scopes = put-scopes s c j q own r put form closed.closed set.scopes (closed-scopes c form distinct) told;
  }
    where
      form : HasRowsInForm c
      form = record { parted = closed.parted; interfaces = closed.interfaces; items = closed.worlds }

      stands : IsPackageByPackage r
      stands = stands-there r put set.rows.stands form

      postfix : IsPostfix r.definitions
      postfix = subst IsPostfix (sym put.definitions) (postfix-behind s c j q form set.postfix closed.postfix)

-- ---- a set of none

pub none-in-form : (r : Resolve) → IsEmpty r → IsInSetForm r
none-in-form r h = record {
  packages = subst (λ (ps : List PackageParts). are_of_a_set ps ≡ true) (sym h.packages) refl;
  names = subst (λ (ps : List PackageParts). list_all is_package_name ps ≡ true) (sym h.packages) refl;
  apart = record { each = λ j k x y e. absurd (no-interface j x e) };
  rows = record { stands = stands; apart = worlds-apart r stands postfix };
  postfix = postfix;
  earlier = record {
    rows = λ k d o e. absurd (none k d e);
    items = λ w o c. absurd (no-world w c);
  };
  scopes = none-scopes r h;
}
  where
    stands : IsPackageByPackage r
    stands = subst (λ (is : List Interface). ArePackageByPackage r.definitions 0 0 is 0 r.worlds) (sym h.interfaces)
        (subst (λ (ws : List World). ArePackageByPackage r.definitions 0 0 [] 0 ws) (sym h.worlds) (behind_all 0 0 0 (sym (ap length h.definitions))))

    postfix : IsPostfix r.definitions
    postfix = subst IsPostfix (sym h.definitions) begin

    none : (k : ℕ) (d : Definition) → slice_get r.definitions k ≡ Some d → ⊥
    none k d e = let at : slice_get [] k ≡ Some d = ap (λ (ds : List Definition). slice_get ds k) (sym h.definitions) ∙ e in cc

    no-interface : (k : ℕ) (x : Interface) → slice_get r.interfaces k ≡ Some x → ⊥
    no-interface k x e = let at : slice_get [] k ≡ Some x = ap (λ (is : List Interface). slice_get is k) (sym h.interfaces) ∙ e in cc

    no-world : (w : World) → Contains r.worlds w → ⊥
    no-world w (k, l, e) = omega (arith, l, ap length h.worlds)
