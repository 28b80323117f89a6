-- Interfaces under their full names: what is said of them under their own names holds.
use Rattle.std.proofs.Common.{◌≡◌, ℕ, suc, ◌<◌, Bool, true, false, cond, List, [], ◌∷◌, ◌++◌, Option, None, Some, map, length, refl, ap, sym, subst, ◌∙◌, All, Contains}
use Rattle.std.specs.List.{cons_option, filter_map}
use Rattle.std.specs.Option.{option_map}
use Rattle.std.specs.Str.{bytes_eq}
use Rattle.std.proofs.lemmas.List.{get_or-map}
use Rattle.std.proofs.lemmas.Slice.Eq.{bytes_eq-Decides}
use Rattle.tables.specs.PackageNames.{PackageParts, own_name}
use Rattle.package_form.proofs.AllAndContains.{all-contained, contains-map, contains-unmap}
use Rattle.package_form.proofs.InterfacesOfOnePackage.{one-full-name}
use Rattle.tree_meaning.specs.Declarations.{UsedItem, InterfaceTree, full_label, full_use, full_interface, interface_at, no_interface, names_of_trees, own_interface, own_use, use_local, own_types, type_names, named_definition, names_in_function}
use Rattle.tree_meaning.specs.Imports.{Imports}
use Rattle.tree_meaning.specs.Resolves.{place_of, places, own_uses, uses_of_interface, interface_uses, IsKnownIn, IsKnownUseOf, HasKnownNamesOf}
use Rattle.tree_meaning.proofs.PlacedTypesNameEarlier.{all-from}

-- ---- places of names

bytes-same : (p : PackageParts) (a b : List ℕ) → bytes_eq (own_name p a) (own_name p b) ≡ bytes_eq a b
bytes-same p a b = by (bytes_eq (own_name p a) (own_name p b)) (bytes_eq a b) refl refl
  where
    by : (x y : Bool) → bytes_eq (own_name p a) (own_name p b) ≡ x → bytes_eq a b ≡ y → x ≡ y
    by true true e f = refl
    by false false e f = refl
    by true false e f = absurd (cc (f, (bytes_eq-Decides a b).1 (one-full-name p a b ((bytes_eq-Decides (own_name p a) (own_name p b)).0 e))))
    by false true e f = absurd (cc (e, (bytes_eq-Decides (own_name p a) (own_name p b)).1 (ap (own_name p) ((bytes_eq-Decides a b).0 f))))

place-same : (p : PackageParts) (ns : List (List ℕ)) (n : List ℕ) → place_of (map (own_name p) ns) (own_name p n) ≡ place_of ns n
place-same p [] n = refl
place-same p (m ∷ ms) n =
    ap (λ (b : Bool). cond b (Some 0) (option_map suc (place_of (map (own_name p) ms) (own_name p n)))) (bytes-same p m n)
    ∙ ap (λ (o : Option ℕ). cond (bytes_eq m n) (Some 0) (option_map suc o)) (place-same p ms n)

places-same : (p : PackageParts) (ns ws : List (List ℕ)) → places (map (own_name p) ns) (map (own_name p) ws) ≡ places ns ws
places-same p ns [] = refl
places-same p ns (w ∷ ws) =
    ap (λ (o : Option ℕ). cons_option o (places (map (own_name p) ns) (map (own_name p) ws))) (place-same p ns w)
    ∙ ap (cons_option (place_of ns w)) (places-same p ns ws)

-- ---- interfaces

names-full : (p : PackageParts) (is : List InterfaceTree) → names_of_trees (map (full_interface p) is) ≡ map (own_name p) (names_of_trees is)
names-full p [] = refl
names-full p (i ∷ is) = ap (λ (ns : List (List ℕ)). own_name p i.name ∷ ns) (names-full p is)

-- an interface of another package isn't one of these
used-full : (p : PackageParts) (us : List UsedItem) → filter_map own_use (map (full_use p) us) ≡ map (own_name p) (filter_map own_use us)
used-full p [] = refl
used-full p (u ∷ us) = by u.«package» (used-full p us)
  where
    by : (o : Option PackageParts) → filter_map own_use (map (full_use p) us) ≡ map (own_name p) (filter_map own_use us)
        → cons_option (own_interface o (full_label p o u.interface)) (filter_map own_use (map (full_use p) us)) ≡ map (own_name p) (cons_option (own_interface o u.interface) (filter_map own_use us))
    by None h = ap (λ (ns : List (List ℕ)). own_name p u.interface ∷ ns) h
    by (Some q) h = h

pub locals-full : (p : PackageParts) (us : List UsedItem) → map use_local (map (full_use p) us) ≡ map use_local us
locals-full p [] = refl
locals-full p (u ∷ us) = ap (λ (ns : List (List ℕ)). u.local ∷ ns) (locals-full p us)

pub type-names-full : (p : PackageParts) (i : InterfaceTree) → type_names (full_interface p i) ≡ type_names i
type-names-full p i = ap (λ (ns : List (List ℕ)). ns ++ own_types i) (locals-full p i.uses)

pub interface-full : (p : PackageParts) (is : List InterfaceTree) (k : ℕ) → k < length is → interface_at (map (full_interface p) is) k ≡ full_interface p (interface_at is k)
interface-full p is k l = get_or-map (full_interface p) is k no_interface no_interface l

-- the interfaces use the same ones
pub uses-full : (p : PackageParts) (is : List InterfaceTree) → interface_uses (map (full_interface p) is) ≡ interface_uses is
uses-full p is = by is
  where
    one : (i : InterfaceTree) → uses_of_interface (names_of_trees (map (full_interface p) is)) (full_interface p i) ≡ uses_of_interface (names_of_trees is) i
    one i =
        ap (λ (ms : List (List ℕ)). places ms (filter_map own_use (map (full_use p) i.uses))) (names-full p is)
        ∙ ap (places (map (own_name p) (names_of_trees is))) (used-full p i.uses)
        ∙ places-same p (names_of_trees is) (own_uses i)

    by : (js : List InterfaceTree) → map (uses_of_interface (names_of_trees (map (full_interface p) is))) (map (full_interface p) js) ≡ map (uses_of_interface (names_of_trees is)) js
    by [] = refl
    by (j ∷ js) = let a = one j in let b = by js in cc

-- ---- names that stand for something

module _ (m : Imports) where
  known-use : (p : PackageParts) (is : List InterfaceTree) (u : UsedItem) → IsKnownUseOf m is u → IsKnownUseOf m (map (full_interface p) is) (full_use p u)
  known-use p is u h = by u.«package» h
    where
      by : (o : Option PackageParts) → IsKnownIn m is o u.interface u.name → IsKnownIn m (map (full_interface p) is) o (full_label p o u.interface) u.name
      by None (j, c, e, has) =
          (full_interface p j, contains-map (full_interface p) is j c, ap (own_name p) e, subst (λ (ns : List (List ℕ)). Contains ns u.name) (sym (type-names-full p j)) has)
      by (Some q) k = k

  known-interface : (p : PackageParts) (is : List InterfaceTree) (i : InterfaceTree) → HasKnownNamesOf m is i → HasKnownNamesOf m (map (full_interface p) is) (full_interface p i)
  known-interface p is i h = record {
    uses = all-from (IsKnownUseOf m (map (full_interface p) is)) (map (full_use p) i.uses) (λ v c.
        let u = contains-unmap (full_use p) i.uses v c in
        subst (IsKnownUseOf m (map (full_interface p) is)) u.2 (known-use p is u.0 (all-contained (IsKnownUseOf m is) i.uses u.0 h.uses u.1)));
    types = subst (λ (ns : List (List ℕ)). All (λ t. All (Contains ns) (named_definition t.definition)) i.types) (sym (type-names-full p i)) h.types;
    functions = subst (λ (ns : List (List ℕ)). All (λ f. All (Contains ns) (names_in_function f.function)) i.functions) (sym (type-names-full p i)) h.functions;
  }

  pub known-full : (p : PackageParts) (is : List InterfaceTree) → All (HasKnownNamesOf m is) is → All (HasKnownNamesOf m (map (full_interface p) is)) (map (full_interface p) is)
  known-full p is h = all-from (HasKnownNamesOf m (map (full_interface p) is)) (map (full_interface p) is) (λ v c.
      let i = contains-unmap (full_interface p) is v c in
      subst (HasKnownNamesOf m (map (full_interface p) is)) i.2 (known-interface p is i.0 (all-contained (HasKnownNamesOf m is) is i.0 h i.1)))
