-- What a set has with a package more, as its names tell it.
use Rattle.std.proofs.Common.{◌≡◌, ◌<◌, ℕ, suc, true, List, [], ◌∷◌, ◌++◌, length, map, get_or, slice_get, Option, None, Some, refl, ap, sym, ◌∙◌, arith, true≢false}
use Rattle.std.specs.Str.{bytes_eq}
use Rattle.std.proofs.lemmas.List.{map-append}
use Rattle.std.proofs.lemmas.Option.{slice_get_within, get_or_from_slice_get}
use Rattle.std.proofs.lemmas.Slice.Eq.{bytes_eq-Decides}
use Rattle.canonical_abi.proofs.Traces.TracesLeaveImages.{slice_get-drop}
use Rattle.package_form.specs.Closed.{own_package}
use Rattle.package_form.proofs.AllAndContains.{get-front}
use Rattle.package_form.proofs.FullNamesStandForInterfaces.{package-is}
use Rattle.tables.specs.Names.{full_name, full_name_in}
use Rattle.tables.specs.Package.{interface_names}
use Rattle.tables.specs.PackageNames.{PackageParts}
use Rattle.tables.proofs.ClosedTypesRowByRow.{split}
use Rattle.tables.proofs.NamesEarlierTypes.{grouped-at}
use Rattle.tables.specs.declared.tables.Interface.{Interface}
use Rattle.tables.specs.declared.tables.Resolve.{Resolve}
use Rattle.set_rows.specs.Moved.{put_interface}
use Rattle.package_sets.specs.Joining.{import_count, own_interfaces, are_same_packages, has_name_of}
use Rattle.package_sets.specs.Joined.{renaming_of, IsJoined}
use Rattle.package_sets.proofs.AttachedSets.PutBehind.{IsPut}
use Rattle.package_sets.specs.Attached.{IsOwn}
use Rattle.package_sets.specs.Follows.{own_interface_names}
use Rattle.package_sets.specs.Joined.{JoinedPlaces}
use Rattle.package_sets.proofs.GrowingLists.{map-get, behind-get}
use Rattle.package_sets.proofs.KeptParts.PropertiesOfKept.{map-put-as}
use Rattle.package_sets.proofs.AttachedSets.OwnPartStandsBehind.{own-behind}

pub map-each : {A B : Type 0} (f g : A → B) (xs : List A) → ((k : ℕ) (x : A) → slice_get xs k ≡ Some x → f x ≡ g x) → map f xs ≡ map g xs
map-each f g [] h = refl
map-each f g (x ∷ xs) h = let e = h 0 x refl in let r = map-each f g xs (λ k y z. h (suc k) y z) in cc

pub name-get : {A : Type 0} (f : A → List ℕ) (xs : List A) (k : ℕ) (x : A) → slice_get xs k ≡ Some x → get_or (map f xs) k [] ≡ f x
name-get f xs k x e = get_or_from_slice_get (map f xs) k (f x) [] (map-get f xs k x e)

pub same-packages : (o p : Option PackageParts) → are_same_packages o p ≡ true → o ≡ p
same-packages None p h = absurd (true≢false (sym h))
same-packages (Some x) None h = absurd (true≢false (sym h))
same-packages (Some x) (Some y) h = ap Some (package-is x y h)

-- an interface that is found has the name of the one that is sought
pub name-found : (s c : Resolve) (i x : Interface) → has_name_of s c i x ≡ true → full_name s x ≡ full_name c i
name-found s c i x h =
    let p = split (are_same_packages (slice_get c.packages i.«package».0) (slice_get s.packages x.«package».0)) (bytes_eq i.name x.name) h in
    let name : i.name ≡ x.name = (bytes_eq-Decides i.name x.name).0 p.1 in
    ap (λ (o : Option PackageParts). full_name_in o x.name) (sym (same-packages _ _ p.0)) ∙ ap (full_name_in (slice_get c.packages i.«package».0)) (sym name)

module _ (s c : Resolve) (j : JoinedPlaces) (q : IsJoined s c j) (own : PackageParts) (is : IsOwn c own) (r : Resolve) (put : IsPut s c own j r) where
  pub set-package : (k : ℕ) (name : List ℕ) → k < length s.packages → full_name_in (slice_get r.packages k) name ≡ full_name_in (slice_get s.packages k) name
  set-package k name l = ap (λ (o : Option PackageParts). full_name_in o name) (ap (λ (ps : List PackageParts). slice_get ps k) put.packages ∙ get-front s.packages (own ∷ []) k l)

  -- an interface of the set keeps its name
  set-name : (k : ℕ) (i : Interface) → slice_get s.interfaces k ≡ Some i → full_name r i ≡ full_name s i
  set-name k i e = set-package i.«package».0 i.name (grouped-at (length s.packages) 0 s.interfaces k i s.grouped (slice_get_within s.interfaces k i e) (get_or_from_slice_get s.interfaces k i i e))

  pub own-package : (name : List ℕ) → full_name_in (slice_get r.packages j.«package») name ≡ full_name_in (slice_get c.packages (own_package c.packages)) name
  own-package name =
      let at : slice_get (s.packages ++ own ∷ []) (length s.packages) ≡ Some own = ap (slice_get (s.packages ++ own ∷ [])) (omega arith) ∙ behind-get s.packages (own ∷ []) 0 in
      ap (λ (o : Option PackageParts). full_name_in o name) (ap (λ (ps : List PackageParts). slice_get ps j.«package») put.packages ∙ (ap (slice_get (s.packages ++ own ∷ [])) q.are_joined.package_is ∙ (at ∙ sym is)))

  -- .. and one of the own package its
  own-name : (k : ℕ) (i : Interface) → slice_get (own_interfaces c) k ≡ Some i → full_name r (put_interface (renaming_of j) i) ≡ full_name c i
  own-name k i e =
      let at : i.«package».0 ≡ own_package c.packages = own-behind (length c.packages) 0 c.interfaces c.grouped k i (sym (slice_get-drop (import_count c) c.interfaces k) ∙ e) in
      own-package i.name ∙ ap (λ n. full_name_in (slice_get c.packages n) i.name) (sym at)

  pub names-are : interface_names r ≡ interface_names s ++ own_interface_names c
  names-are =
      ap (map (full_name r)) put.interfaces
      ∙ (map-append (full_name r) s.interfaces (map (put_interface (renaming_of j)) (own_interfaces c))
      ∙ (ap (λ ns. ns ++ map (full_name r) (map (put_interface (renaming_of j)) (own_interfaces c))) (map-each (full_name r) (full_name s) s.interfaces set-name)
      ∙ ap (λ ns. interface_names s ++ ns) (map-put-as (put_interface (renaming_of j)) (full_name c) (full_name r) (own_interfaces c) own-name)))
