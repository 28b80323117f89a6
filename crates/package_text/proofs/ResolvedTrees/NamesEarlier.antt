-- Interfaces use those that stand before them, and types name those before them: so each is placed where it stands.
use Rattle.std.proofs.Common.{◌≡◌, ◌<◌, ℕ, zero, suc, List, [], ◌∷◌, ◌++◌, length, map, take, get_or, refl, sym, ap, subst, ◌∙◌, arith, inl, inr, All, Contains}
use Rattle.std.specs.Prelude.{Bool, true, false, ◌&&◌, nat_lt, Option, None, Some, if◌then◌else◌}
use Rattle.std.specs.List.{list_all, cons_option}
use Rattle.std.specs.Option.{option_map}
use Rattle.std.specs.Str.{bytes_eq}
use Rattle.std.proofs.lemmas.Bool.{lt-ltb}
use Rattle.std.proofs.lemmas.List.{get_or-map, length-map}
use Rattle.std.specs.List.{take-map}
use Rattle.std.proofs.lemmas.Slice.Eq.{bytes_eq-Decides}
use Rattle.package_form.specs.Scope.{lowered}
use Rattle.package_form.proofs.AllAndContains.{all-head, all-tail, all-mono, all-contained, contains-left, contains-either, contains-map}
use Rattle.tables.specs.PackageNames.{PackageParts}
use Rattle.tree_meaning.specs.Declarations.{UsedItem, InterfaceTree, interface_at, interface_tree_name, names_of_trees, no_interface, used_names, own_types, named_definition}
use Rattle.tree_meaning.specs.Resolved.{no_type}
use Rattle.tree_meaning.specs.Imports.{Imports}
use Rattle.tree_meaning.specs.Resolves.{place_of, places, own_uses, uses_of_interface, interface_uses, uses_of_type, type_uses, IsKnownIn, IsKnownUseOf}
use Rattle.tree_meaning.proofs.NamesOfScopeAreApart.{every-contained, AreOthers, AreApart, only}
use Rattle.tree_meaning.proofs.NamesFoundInLists.{place-has}
use Rattle.tree_meaning.proofs.OwnUsedNames.{own-uses-all}
use Rattle.tree_meaning.proofs.ScopesFromDeclarations.{function_name, HasDistinctParts}
use Rattle.package_text.proofs.ResolvedTrees.OwnPlacement.{UsesEarlier, NamesEarlier}
use Rattle.package_text.proofs.ResolvedTrees.TreesNameWhatIsKnown.{IsKnownTree, AreKnownTrees, known-at}

-- ---- places of names

-- where it stands, it stands before place k
abbrev pub IsEarlier : ℕ → List (List ℕ) → List ℕ → Type 0
IsEarlier k ns n = (j : ℕ) → place_of ns n ≡ Some j → j < k

pub places-before : (k : ℕ) (ns wanted : List (List ℕ)) → All (IsEarlier k ns) wanted → list_all (λ u. nat_lt u k) (places ns wanted) ≡ true
places-before k ns [] h = refl
places-before k ns (n ∷ wanted) h =
    by (place_of ns n) refl (all-head (IsEarlier k ns) n wanted h) (places-before k ns wanted (all-tail (IsEarlier k ns) n wanted h))
  where
    by : (o : Option ℕ) → place_of ns n ≡ o → IsEarlier k ns n → list_all (λ u. nat_lt u k) (places ns wanted) ≡ true → list_all (λ u. nat_lt u k) (cons_option o (places ns wanted)) ≡ true
    by None e here on = on
    by (Some j) e here on = ap (λ b. b && list_all (λ u. nat_lt u k) (places ns wanted)) (lt-ltb j k (here j e)) ∙ on

-- a name that stands before
pub taken-earlier : (k : ℕ) (ns : List (List ℕ)) (n : List ℕ) → Contains (take k ns) n → IsEarlier k ns n
taken-earlier zero ns n c = absurd (omega (arith, c.1))
taken-earlier (suc k) [] n c = absurd (omega (arith, c.1))
taken-earlier (suc k) (m ∷ ns) n c = by (bytes_eq m n) refl (λ h. taken-earlier k ns n h)
  where
    behind : (o : Option ℕ) → ((j : ℕ) → o ≡ Some j → j < k) → (j : ℕ) → option_map suc o ≡ Some j → j < suc k
    behind None h j e = absurd cc
    behind (Some i) h j e = let q : suc i ≡ j = cc in let l = h i refl in omega (arith, q, l)

    by : (b : Bool) → bytes_eq m n ≡ b → (Contains (take k ns) n → IsEarlier k ns n) → (j : ℕ) → (if b then Some 0 else option_map suc (place_of ns n)) ≡ Some j → j < suc k
    by true e on j q = let z : 0 ≡ j = cc in omega (arith, z)
    by false e on j q = elim (contains-either (m ∷ []) (take k ns) n c) [
      | inl h ↦ absurd (let t : true ≡ false = sym ((bytes_eq-Decides m n).1 (only m n h)) ∙ e in cc)
      | inr h ↦ behind (place_of ns n) (on h) j q
    ]

-- a name that doesn't stand there
pub absent-earlier : (k : ℕ) (ns : List (List ℕ)) (n : List ℕ) → (Contains ns n → ⊥) → IsEarlier k ns n
absent-earlier k ns n none j e = absurd (none (place-has ns n j e))

-- names that are apart don't stand on both sides
apart-across : (xs ys : List (List ℕ)) (n : List ℕ) → AreApart (xs ++ ys) → Contains xs n → Contains ys n → ⊥
apart-across [] ys n h c d = omega (arith, c.1)
apart-across (x ∷ xs) ys n h c d = elim (contains-either (x ∷ []) xs n c) [
  | inl q ↦ every-contained (AreOthers x) (xs ++ ys) n h.0 (right xs ys n d) (ap lowered (sym (only x n q)))
  | inr q ↦ apart-across xs ys n h.1 q d
]
  where
    right : (xs ys : List (List ℕ)) (n : List ℕ) → Contains ys n → Contains (xs ++ ys) n
    right [] ys n d = d
    right (x ∷ xs) ys n d = let r = right xs ys n d in (suc r.0, omega (arith, r.1), r.2)

-- ---- interfaces

pub interfaces-earlier : (m : Imports) (is : List InterfaceTree) → AreKnownTrees m [] is → UsesEarlier (interface_uses is)
interfaces-earlier m is h k l =
    let below : k < length is = omega (arith, l, length-map is (uses_of_interface (names_of_trees is))) in
    let i = interface_at is k in
    let uses : All (IsKnownUseOf m (take k is)) i.uses = (known-at m [] is h k below).uses in
    let names = names_of_trees is in
    let wanted : All (IsEarlier k names) (own_uses i) = own-uses-all (IsEarlier k names) i.uses (λ u c e. taken-earlier k names u.interface (before u e (all-contained (IsKnownUseOf m (take k is)) i.uses u uses c))) in
    ap (list_all (λ u. nat_lt u k)) (get_or-map (uses_of_interface names) is k no_interface [] below) ∙ places-before k names (own_uses i) wanted
  where
    before : (u : UsedItem) → u.«package» ≡ None → IsKnownUseOf m (take k is) u → Contains (take k (names_of_trees is)) u.interface
    before u e x =
        let o = subst (λ (q : Option PackageParts). IsKnownIn m (take k is) q u.interface u.name) e x in
        subst (λ (ns : List (List ℕ)). Contains ns u.interface) (sym (take-map interface_tree_name k is)) (subst (Contains (map interface_tree_name (take k is))) o.2 (contains-map interface_tree_name (take k is) o.0 o.1))

-- ---- types

pub types-earlier : (m : Imports) (before : List InterfaceTree) (i : InterfaceTree) → IsKnownTree m before i → HasDistinctParts i → UsesEarlier (type_uses i)
types-earlier m before i h apart k l =
    let below : k < length i.types = omega (arith, l, length-map i.types (uses_of_type (own_types i))) in
    let names = named_definition (get_or i.types k no_type).definition in
    ap (list_all (λ u. nat_lt u k)) (get_or-map (uses_of_type (own_types i)) i.types k no_type [] below)
    ∙ places-before k (own_types i) names (all-mono (Contains (used_names i ++ take k (own_types i))) (IsEarlier k (own_types i)) early names (h.types k below))
  where
    early : (n : List ℕ) → Contains (used_names i ++ take k (own_types i)) n → IsEarlier k (own_types i) n
    early n c = elim (contains-either (used_names i) (take k (own_types i)) n c) [
      | inl q ↦ absent-earlier k (own_types i) n (λ d. apart-across (used_names i) (own_types i ++ map function_name i.functions) n apart.names q (contains-left (own_types i) (map function_name i.functions) n d))
      | inr q ↦ taken-earlier k (own_types i) n q
    ]

pub names-earlier : (m : Imports) (is : List InterfaceTree) → AreKnownTrees m [] is → All HasDistinctParts is → NamesEarlier is
names-earlier m is h apart = record {
  interfaces = interfaces-earlier m is h;
  types = λ k l. types-earlier m (take k is) (interface_at is k) (known-at m [] is h k l) (apart k no_interface l);
}
