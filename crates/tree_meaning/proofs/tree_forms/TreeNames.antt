-- What an interface of a syntax tree means has the tree's names, and they differ.
use Rattle.std.proofs.Common.{◌≡◌, ℕ, zero, suc, ◌<◌, List, [], ◌∷◌, ◌++◌, map, length, get_or, refl, ap, sym, subst, ◌∙◌, arith, All, Contains}
use Rattle.std.specs.Prelude.{slice_index_or}
use Rattle.std.proofs.lemmas.List.{length-map, map-append, get_or_default}
use Rattle.std.proofs.lemmas.Simd.{map-map}
use Rattle.placement.specs.Order.{IsPlacement}
use Rattle.package_form.specs.Scope.{AreDistinct}
use Rattle.tree_meaning.specs.Declarations.{TypeItem, FunctionItem, InterfaceTree, use_local, type_name, member_name, definition_scopes, own_types}
use Rattle.tree_meaning.specs.Resolved.{no_type, use_meaning, type_meaning, meaning_of_function, in_order, interface_meaning}
use Rattle.tree_meaning.specs.Resolves.{type_uses, uses_of_type}
use Rattle.package_form.proofs.AllAndContains.{all-append, all-contained, contains-unmap}
use Rattle.tree_meaning.proofs.ReferencesOfDefinitions.{Every}
use Rattle.tree_meaning.proofs.tree_forms.ResolvedTreesAreInForm.{one-place, each-map}
use Rattle.tree_meaning.proofs.NamesOfScopeAreApart.{every-from, every-contained, apart-distinct, are-apart, apart-front, apart-back, apart-between, order-distinct, none-distinct}
use Rattle.tree_meaning.proofs.RowNames.{key_name}
use Rattle.tree_meaning.proofs.tree_forms.MemberNamesOfRows.{HasDistinctMembers, type-distinct, function-distinct}
use Rattle.tree_meaning.proofs.ScopesFromDeclarations.{function_name, HasDistinctParts}

-- names that differ, in the order of what they name
pub placed-distinct : (uses : List (List ℕ)) (order : List ℕ) → IsPlacement uses order → (ns : List (List ℕ)) (name : ℕ → List ℕ) → ((k : ℕ) → name k ≡ get_or ns k []) → length uses ≡ length ns
    → AreDistinct ns → AreDistinct (map name order)
placed-distinct uses order placed ns name is long d =
    order-distinct ns name order is d (λ k l. let q = (placed.next k l).in_range in omega (arith, q, long)) (λ a b l m e. one-place uses order placed a b l m e)

type-at : (ts : List TypeItem) (k : ℕ) → (slice_index_or ts k no_type).name ≡ get_or (map type_name ts) k []
type-at [] k = refl
type-at (t ∷ ts) zero = refl
type-at (t ∷ ts) (suc k) = type-at ts k

module _ (i : InterfaceTree) (order : List ℕ) (placed : IsPlacement (type_uses i) order) (h : HasDistinctParts i) where
  abbrev uses : List (List ℕ)
  uses = map use_local i.uses

  abbrev own : List (List ℕ)
  own = map type_name i.types

  abbrev functions : List (List ℕ)
  functions = map function_name i.functions

  abbrev item : ℕ → TypeItem
  item k = slice_index_or i.types k no_type

  abbrev name : ℕ → List ℕ
  name k = (item k).name

  long : length (type_uses i) ≡ length own
  long = length-map i.types (uses_of_type (own_types i)) ∙ sym (length-map i.types type_name)

  in-range : (k : ℕ) → Contains order k → k < length own
  in-range k c =
      let q = (placed.next c.0 c.1).in_range in
      let at : get_or order c.0 0 ≡ k = get_or_default order c.0 0 k c.1 ∙ c.2 in
      omega (arith, q, at, long)

  own-here : (n : List ℕ) → Contains (map name order) n → Contains own n
  own-here n c =
      let x = contains-unmap name order n c in
      let l = in-range x.0 x.1 in
      (x.0, l, get_or_default own x.0 n [] l ∙ sym (type-at i.types x.0) ∙ x.2)

  own-distinct : AreDistinct (map name order)
  own-distinct =
      placed-distinct (type_uses i) order placed own name (type-at i.types) long
      (apart-distinct own (apart-front own functions (apart-back uses (own ++ functions) h.names)))

  kept : (P : List ℕ → Type 0) → Every P own → Every P (map name order)
  kept P e = every-from P (map name order) (λ n c. every-contained P own n e (own-here n c))

  names-are : map key_name (interface_meaning i order) ≡ uses ++ (map name order ++ functions)
  names-are =
      let A = map (use_meaning i.name) i.uses in
      let B = in_order i.name i.types order in
      let C = map (meaning_of_function i.name) i.functions in
      map-append key_name A (B ++ C)
      ∙ ap (λ (ns : List (List ℕ)). ns ++ map key_name (B ++ C)) (map-map key_name (use_meaning i.name) i.uses)
      ∙ ap (λ (ns : List (List ℕ)). uses ++ ns)
      (map-append key_name B C ∙ ap (λ (ns : List (List ℕ)). ns ++ map key_name C) (map-map key_name (λ k. type_meaning i.name (item k)) order)
      ∙ ap (λ (ns : List (List ℕ)). map name order ++ ns) (map-map key_name (meaning_of_function i.name) i.functions))

  pub names-distinct : AreDistinct (map key_name (interface_meaning i order))
  names-distinct =
      subst AreDistinct (sym names-are)
      (apart-distinct (uses ++ (map name order ++ functions)) (apart-between uses own (map name order) functions h.names kept (are-apart (map name order) own-distinct)))

  placed-type : (k : ℕ) → Contains order k → HasDistinctMembers (type_meaning i.name (item k))
  placed-type k c =
      let l : k < length i.types = omega (arith, in-range k c, length-map i.types type_name) in
      type-distinct i.name (item k) (all-contained (λ (t : TypeItem). All AreDistinct (definition_scopes t.definition)) i.types (item k) h.types (k, l, get_or_default i.types k (item k) no_type l))

  pub members-distinct : All HasDistinctMembers (interface_meaning i order)
  members-distinct =
      let B = in_order i.name i.types order in
      let C = map (meaning_of_function i.name) i.functions in
      all-append HasDistinctMembers (map (use_meaning i.name) i.uses) (B ++ C) (each-map HasDistinctMembers (use_meaning i.name) i.uses (λ u c. none-distinct))
      (all-append HasDistinctMembers B C (each-map HasDistinctMembers (λ k. type_meaning i.name (item k)) order placed-type)
      (each-map HasDistinctMembers (meaning_of_function i.name) i.functions
      (λ f c. function-distinct i.name f (all-contained (λ (g : FunctionItem). AreDistinct (map member_name g.function.params)) i.functions f h.functions c))))
