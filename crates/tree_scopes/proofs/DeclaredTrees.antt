-- What is declared by parts of a tree that are lent.
use Rattle.std.proofs.Common.{◌≡◌, ◌↔◌, Bool, true, false, true≢false, IsTrue, Option, None, is_some, List, [], ◌∷◌, ◌++◌, map, ap, sym, ◌∙◌, ℕ, ◌<◌, Some, length, get_or, subst, arith, Contains, All, Bor, inl, inr}
use Rattle.tree_meaning.specs.Declarations.{InterfaceTree, names_of_trees, interface_tree_name, interface_at, no_interface, type_names, used_names, own_types}
use Rattle.tree_scopes.specs.Sources.{declared_tree}
use Rattle.tree_scopes.specs.declared.declared.Declarations.{Declarations}
use Rattle.std.proofs.lemmas.List.{map-append, get_or-map, length-map, get_or_default}
use Rattle.tree_scopes.specs.Lent.{lent_names}
use Rattle.tree_meaning.proofs.NamesFoundInLists.{place-below, place-at, place-has, place-lacks}
use Rattle.tree_meaning.specs.Resolves.{place_of, IsUnknownName, interface_uses, uses_of_interface}
use Rattle.placement.specs.Order.{IsPlacement}
use Rattle.package_form.proofs.AllAndContains.{contains-left, contains-right, contains-either}

-- the declarations of one entry more
pub declared-more : (all before : List Declarations) (d : Declarations) (i : InterfaceTree) (is js : List InterfaceTree) → all ≡ before ++ d ∷ [] → map declared_tree before ≡ is → declared_tree d ≡ i
    → js ≡ is ++ i ∷ [] → map declared_tree all ≡ js
declared-more all before d i is js e h di f =
    ap (map declared_tree) e ∙ map-append declared_tree before (d ∷ []) ∙ ap (λ (ts : List InterfaceTree). ts ++ declared_tree d ∷ []) h ∙ ap (λ (t : InterfaceTree). is ++ t ∷ []) di ∙ sym f

-- .. where they are the names of interfaces
pub place-in : (all : List Declarations) (names : List (List ℕ)) (n : List ℕ) (j : ℕ) → names ≡ names_of_trees (map declared_tree all) → place_of names n ≡ Some j → j < length all
place-in all names n j same e =
    omega (arith, place-below names n j e, ap length same, length-map (map declared_tree all) interface_tree_name, length-map all declared_tree)

pub interface-there : (all : List Declarations) (names : List (List ℕ)) (n : List ℕ) (j : ℕ) (d : Declarations) → names ≡ names_of_trees (map declared_tree all)
    → place_of names n ≡ Some j → d ≡ get_or all j d → d.name.now ≡ n
interface-there all names n j d same e is =
    let l = place-in all names n j same e in
    let here : j < length (map declared_tree all) = omega (arith, l, length-map all declared_tree) in
    ap (λ (x : Declarations). x.name.now) is
    ∙ sym (ap (λ (i : InterfaceTree). i.name) (get_or-map declared_tree all j d no_interface l))
    ∙ sym (get_or-map interface_tree_name (map declared_tree all) j no_interface [] here)
    ∙ ap (λ (ns : List (List ℕ)). get_or ns j []) (sym same) ∙ place-at names n j [] e

-- ---- the names of an interface's types

module _ (d : Declarations) where
  pub own-known : (n : List ℕ) (o : Option ℕ) → o ≡ place_of (own_types (declared_tree d)) n → is_some o ≡ true → Contains (type_names (declared_tree d)) n
  own-known n None e h = absurd (cc)
  own-known n (Some j) e h = contains-right (used_names (declared_tree d)) (own_types (declared_tree d)) n (place-has (own_types (declared_tree d)) n j (sym e))

  pub has-local : (n : List ℕ) (o l : Option ℕ) (b : Bool) → o ≡ place_of (own_types (declared_tree d)) n → is_some o ≡ false → l ≡ place_of (used_names (declared_tree d)) n → b ≡ is_some l
      → IsTrue b ↔ Contains (type_names (declared_tree d)) n
  has-local n (Some j) l b e none f same = absurd (cc)
  has-local n None (Some j) b e none f same = (
    λ t. contains-left (used_names (declared_tree d)) (own_types (declared_tree d)) n (place-has (used_names (declared_tree d)) n j (sym f)),
    λ h. same,
  )
  has-local n None None b e none f same = (
    λ t. absurd (true≢false (sym t ∙ same)),
    λ h. elim (contains-either (used_names (declared_tree d)) (own_types (declared_tree d)) n h) [
      | inl c ↦ absurd (place-lacks (used_names (declared_tree d)) n (sym f) c)
      | inr c ↦ absurd (place-lacks (own_types (declared_tree d)) n (sym e) c)
    ],
  )

  pub knows-all : (names : List (Bor (List ℕ))) (ns : List (List ℕ)) → lent_names names ≡ ns → All (Contains (type_names (declared_tree d))) (lent_names names) → All (Contains (type_names (declared_tree d))) ns
  knows-all names ns e h = subst (λ zs. All (Contains (type_names (declared_tree d))) zs) e h

  pub lacks-name : (names : List (Bor (List ℕ))) (ns : List (List ℕ)) (n : List ℕ) → lent_names names ≡ ns → Contains (lent_names names) n × (¬ Contains (type_names (declared_tree d)) n)
      → IsUnknownName (declared_tree d) ns n
  lacks-name names ns n e h = (subst (λ zs. Contains zs n) e h.0, h.1)

pub tree-at : (all : List Declarations) (k : ℕ) (d : Declarations) → k < length all → d ≡ get_or all k d → interface_at (map declared_tree all) k ≡ declared_tree d
tree-at all k d l is = get_or-map declared_tree all k d no_interface l ∙ ap declared_tree (sym is)

pub order-below : (all : List Declarations) (order : List ℕ) → IsPlacement (interface_uses (map declared_tree all)) order → All (λ k. k < length all) order
order-below all order placed k d l =
    let is = map declared_tree all in
    let r = (placed.next k l).in_range in
    let same = get_or_default order k 0 d l in
    omega (arith, r, same, length-map is (uses_of_interface (names_of_trees is)), length-map all declared_tree)
