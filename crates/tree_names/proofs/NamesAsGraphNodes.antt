-- The places of names in a list, as the nodes of a graph.
use Rattle.std.proofs.Common.{◌≡◌, ℕ, ◌+◌, ◌<◌, List, [], ◌∷◌, ◌++◌, Option, None, Some, map, take, length, get_or, refl, ap, sym, ◌∙◌, subst, arith, All, Bor, inl, inr}
use Rattle.std.specs.List.{cons_option}
use Rattle.std.proofs.lemmas.List.{length-map, length-append, get_or-map, get_or_append_left, get_or_at}
use Rattle.std.proofs.lemmas.List.Elements.{filter_map-append}
use Rattle.placement.specs.Order.{IsPlacement}
use Rattle.tree_meaning.specs.Declarations.{InterfaceTree, interface_at, no_interface, names_of_trees, interface_tree_name, own_types, type_name, named_definition}
use Rattle.tree_scopes.specs.Lent.{lent_names, lent_name}
use Rattle.tree_scopes.specs.Sources.{declared_tree}
use Rattle.tree_meaning.specs.Resolves.{place_of, places, interface_uses, uses_of_interface, own_uses, type_uses, uses_of_type}
use Rattle.tree_scopes.specs.declared.declared.Declarations.{Declarations}
use Rattle.package_form.proofs.AllAndContains.{map-more, all-none, all-cons}
use Rattle.package_form.proofs.NamesMetOneByOne.{below_or_at}
use Rattle.tree_meaning.proofs.NamesFoundInLists.{place-below}

module _ (ns : List (List ℕ)) (wanted : List (Bor (List ℕ))) (k : ℕ) (x : Bor (List ℕ)) (l : k < length wanted) (is : x ≡ get_or wanted k x) where
  places-more : places ns (lent_names (take (k + 1) wanted)) ≡ places ns (lent_names (take k wanted)) ++ cons_option (place_of ns x.now) []
  places-more = ap (places ns) (map-more lent_name wanted k x l is) ∙ filter_map-append (place_of ns) (lent_names (take k wanted)) (x.now ∷ [])

  pub places-some : (j : ℕ) → place_of ns x.now ≡ Some j → places ns (lent_names (take (k + 1) wanted)) ≡ places ns (lent_names (take k wanted)) ++ j ∷ []
  places-some j e = places-more ∙ ap (λ (o : Option ℕ). places ns (lent_names (take k wanted)) ++ cons_option o []) e

  pub places-none : place_of ns x.now ≡ None → places ns (lent_names (take (k + 1) wanted)) ≡ places ns (lent_names (take k wanted))
  places-none e = places-more ∙ ap (λ (o : Option ℕ). places ns (lent_names (take k wanted)) ++ cons_option o []) e ∙ by (places ns (lent_names (take k wanted)))
    where
      by : (xs : List ℕ) → xs ++ [] ≡ xs
      by [] = refl
      by (y ∷ ys) = ap (λ zs. y ∷ zs) (by ys)

cons-below : (o : Option ℕ) (n : ℕ) (xs : List ℕ) → ((i : ℕ) → o ≡ Some i → i < n) → All (λ u. u < n) xs → All (λ u. u < n) (cons_option o xs)
cons-below None n xs h p = p
cons-below (Some i) n xs h p = all-cons (λ u. u < n) i xs (h i refl) p

pub places-below : (ns wanted : List (List ℕ)) → All (λ u. u < length ns) (places ns wanted)
places-below ns [] = all-none (λ u. u < length ns)
places-below ns (w ∷ ws) = cons-below (place_of ns w) (length ns) (places ns ws) (λ i e. place-below ns w i e) (places-below ns ws)

all-below : {A : Type 0} (h : A → List ℕ) (n : ℕ) (xs : List A) → ((x : A) → All (λ u. u < n) (h x)) → All (λ used. All (λ u. u < n) used) (map h xs)
all-below h n [] f = all-none (λ used. All (λ u. u < n) used)
all-below h n (x ∷ xs) f = all-cons (λ used. All (λ u. u < n) used) (h x) (map h xs) (f x) (all-below h n xs f)

graph-below : {A : Type 0} (h : A → List ℕ) (n : ℕ) (xs : List A) → n ≡ length (map h xs) → ((x : A) → All (λ u. u < n) (h x)) → All (λ used. All (λ u. u < length (map h xs)) used) (map h xs)
graph-below h n xs e f = subst (λ m. All (λ used. All (λ u. u < m) used) (map h xs)) e (all-below h n xs f)

pub interface_graph-below : (is : List InterfaceTree) (g : List (List ℕ)) → g ≡ interface_uses is → All (λ used. All (λ u. u < length g) used) g
interface_graph-below is g e =
    let ns = names_of_trees is in
    let len : length ns ≡ length (interface_uses is) = length-map is interface_tree_name ∙ sym (length-map is (uses_of_interface ns)) in
    subst (λ (x : List (List ℕ)). All (λ used. All (λ u. u < length x) used) x) (sym e)
    (graph-below (uses_of_interface ns) (length ns) is len (λ i. places-below ns (own_uses i)))

pub type_graph-below : (i : InterfaceTree) (g : List (List ℕ)) → g ≡ type_uses i → All (λ used. All (λ u. u < length g) used) g
type_graph-below i g e =
    let ns = own_types i in
    let len : length ns ≡ length (type_uses i) = length-map i.types type_name ∙ sym (length-map i.types (uses_of_type ns)) in
    subst (λ (x : List (List ℕ)). All (λ used. All (λ u. u < length x) used) x) (sym e)
    (graph-below (uses_of_type ns) (length ns) i.types len (λ t. places-below ns (named_definition t.definition)))

-- the orders of the first interfaces
pub record OrdersBelow (n : ℕ) (all : List Declarations) (orders : List (List ℕ)) : Type 0 where
  pub count : length orders ≡ n
  pub placed : (k : ℕ) → k < n → IsPlacement (type_uses (interface_at (map declared_tree all) k)) (get_or orders k [])

pub orders-more : (n : ℕ) (all : List Declarations) (orders new : List (List ℕ)) (d : Declarations) (order : List ℕ) → OrdersBelow n all orders → n < length all → d ≡ get_or all n d
    → IsPlacement (type_uses (declared_tree d)) order → new ≡ orders ++ order ∷ [] → OrdersBelow (n + 1) all new
orders-more n all orders new d order h l is p more = subst (OrdersBelow (n + 1) all) (sym more) (record {
  count = omega (arith, length-append orders (order ∷ []), h.count);
  placed = λ k q. by k q;
})
  where
    at : declared_tree d ≡ interface_at (map declared_tree all) n
    at = sym (get_or-map declared_tree all n d no_interface l ∙ ap declared_tree (sym is))

    last : (k : ℕ) → k ≡ n → IsPlacement (type_uses (interface_at (map declared_tree all) k)) (get_or (orders ++ order ∷ []) k [])
    last k e =
        subst (λ j. IsPlacement (type_uses (interface_at (map declared_tree all) j)) (get_or (orders ++ order ∷ []) j [])) (sym e)
        (subst (λ o. IsPlacement (type_uses (interface_at (map declared_tree all) n)) o) (sym (get_or_at orders order [] [] n h.count))
        (subst (λ i. IsPlacement (type_uses i) order) at p))

    front : (k : ℕ) → k < n → IsPlacement (type_uses (interface_at (map declared_tree all) k)) (get_or (orders ++ order ∷ []) k [])
    front k q =
        let q2 : k < length orders = omega (arith, h.count) in
        subst (λ o. IsPlacement (type_uses (interface_at (map declared_tree all) k)) o) (sym (get_or_append_left orders (order ∷ []) [] k q2)) (h.placed k q)

    by : (k : ℕ) → k < n + 1 → IsPlacement (type_uses (interface_at (map declared_tree all) k)) (get_or (orders ++ order ∷ []) k [])
    by k q = elim (below_or_at k n (omega (arith, q))) [
      | inl r ↦ front k r
      | inr e ↦ last k e
    ]
