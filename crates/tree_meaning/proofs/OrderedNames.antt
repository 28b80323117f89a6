-- The names of interfaces in an order.
use Rattle.std.proofs.Common.{◌≡◌, ℕ, zero, suc, ◌<◌, List, [], ◌∷◌, length, get_or, refl, ◌∙◌, subst, arith, Contains}
use Rattle.std.proofs.lemmas.List.{length-map, get_or-map, get_or_default}
use Rattle.placement.specs.Order.{IsPlacement}
use Rattle.tree_meaning.specs.Declarations.{InterfaceTree, interface_at, interface_tree_name, names_of_trees}
use Rattle.tree_meaning.specs.Resolves.{interface_uses, uses_of_interface, names_in_order}
use Rattle.package_form.proofs.AllAndContains.{contains-map}
use Rattle.tree_meaning.proofs.PlacedTypesNameEarlier.{among-at}

pub interface-name : (is : List InterfaceTree) (k : ℕ) → (interface_at is k).name ≡ get_or (names_of_trees is) k []
interface-name [] k = refl
interface-name (i ∷ is) zero = refl
interface-name (i ∷ is) (suc k) = interface-name is k

pub name-in-order : (is : List InterfaceTree) (order : List ℕ) (k : ℕ) → k < length order → get_or (names_in_order is order) k [] ≡ (interface_at is (get_or order k 0)).name
name-in-order is order k l = get_or-map (λ (j : ℕ). (interface_at is j).name) order k 0 [] l

-- interfaces are known by their names in package order too
pub ordered-has : (is : List InterfaceTree) (order : List ℕ) → IsPlacement (interface_uses is) order → (n : List ℕ) → Contains (names_of_trees is) n → Contains (names_in_order is order) n
ordered-has is order placed n c =
    let l : c.0 < length (interface_uses is) = omega (arith, c.1, length-map is interface_tree_name, length-map is (uses_of_interface (names_of_trees is))) in
    let m = among-at order c.0 (placed.complete c.0 l) in
    let named : (interface_at is c.0).name ≡ n = interface-name is c.0 ∙ get_or_default (names_of_trees is) c.0 [] n c.1 ∙ c.2 in
    subst (Contains (names_in_order is order)) named (contains-map (λ (k : ℕ). (interface_at is k).name) order c.0 m)
