-- Where all are placed, none use each other in a cycle, and the order is the only one.
use Rattle.std.proofs.Common.{◌≡◌, ◌≤◌, ◌<◌, inl, inr, ℕ, zero, suc, List, [], ◌∷◌, ◌++◌, length, take, get_or, refl, sym, ap, subst, ◌∙◌, arith, map, flat_map}
use Rattle.std.specs.Prelude.{Bool, true, false, not, ◌||◌, ◌==◌}
use Rattle.std.specs.List.{list_any, list_all}
use Rattle.std.proofs.lemmas.Bool.{and_parts, or_cases, false≢true, eqb-true, cases_order}
use Rattle.std.proofs.lemmas.List.Folds.{list_any-append}
use Rattle.std.proofs.Math.Seq.{take-suc}
use Rattle.std.proofs.lemmas.List.{take_all, length-map}
use Rattle.tables.specs.Package.{WorldMeaning, Package, NamedDefinition}
use Rattle.tree_meaning.specs.Declarations.{InterfaceTree, WorldTree, interface_at, names_of_trees}
use Rattle.tree_meaning.specs.Resolved.{interface_meaning}
use Rattle.tree_meaning.specs.Resolves.{ResolvesBehind, interface_uses, uses_of_interface, type_uses, names_in_order}
use Rattle.placement.specs.Order.{has_placed, IsNext, IsPlacement, IsCycle}

all-at : (test : ℕ → Bool) (xs : List ℕ) (k x : ℕ) → list_all test xs ≡ true → k < length xs → get_or xs k x ≡ x → test x ≡ true
all-at test [] k x h l e = absurd (omega (arith, l))
all-at test (y ∷ ys) zero x h l e = let t = and_parts (test y) (list_all test ys) h in ap test (sym e) ∙ t.0
all-at test (y ∷ ys) (suc k) x h l e = let t = and_parts (test y) (list_all test ys) h in all-at test ys k x t.1 (omega (arith, l)) e

module _ (uses : List (List ℕ)) (order : List ℕ) (p : IsPlacement uses order) where
  -- none of the first k of the order is of a cycle
  none-before : (group : ℕ → Bool) → IsCycle uses group → (k : ℕ) → k ≤ length order → (i : ℕ) → has_placed (take k order) i ≡ true → group i ≡ true → ⊥
  none-before group c zero l i a g = absurd (false≢true a)
  none-before group c (suc k) l i a g =
      let y : ℕ = get_or order k 0 in
      let next = p.next k (omega (arith, l)) in
      let parts : has_placed (take k order) i || (y == i || false) ≡ true =
      sym (list_any-append (λ o. o == i) (take k order) (y ∷ [])) ∙ (ap (λ xs. list_any (λ o. o == i) xs) (sym (take-suc order k 0 (omega (arith, l)))) ∙ a) in
      elim (or_cases (has_placed (take k order) i) (y == i || false) parts) [
        | inl h ↦ none-before group c k (omega (arith, l)) i h g
        | inr h ↦
            let same : y ≡ i = eqb-true y i (elim (or_cases (y == i) false h) [ inl q ↦ q | inr q ↦ absurd (false≢true q) ]) in
            let u = c.closed y next.in_range (ap group same ∙ g) in
            let placed = (and_parts (not (has_placed (take k order) y)) (list_all (has_placed (take k order)) (get_or uses y [])) next.ready).1 in
            none-before group c k (omega (arith, l)) u.0 (all-at (has_placed (take k order)) (get_or uses y []) u.1.0 u.0 placed u.1.1 u.1.2) u.3
      ]

  -- A placement has no cycle.
  pub no-cycle : (group : ℕ → Bool) → IsCycle uses group → ⊥
  no-cycle group c =
      none-before group c (length order) (omega arith) c.some.0
      (ap (λ xs. has_placed xs c.some.0) (take_all (length order) order (omega arith)) ∙ p.complete c.some.0 c.some.1) c.some.2

-- the first that is ready is one
one-next : (uses : List (List ℕ)) (placed : ℕ → Bool) (i j : ℕ) → IsNext uses placed i → IsNext uses placed j → i ≡ j
one-next uses placed i j a b = elim (cases_order i j) [
  | inl e ↦ e
  | inr h ↦ elim h [
    | inl l ↦ absurd (false≢true (sym (b.first i l) ∙ a.ready))
    | inr l ↦ absurd (false≢true (sym (a.first j l) ∙ b.ready))
  ]
]

module _ (uses : List (List ℕ)) (xs ys : List ℕ) (p : IsPlacement uses xs) (q : IsPlacement uses ys) where
  fronts-same : (k : ℕ) → k ≤ length xs → k ≤ length ys → take k xs ≡ take k ys
  fronts-same zero l m = refl
  fronts-same (suc k) l m =
      let h = fronts-same k (omega (arith, l)) (omega (arith, m)) in
      let a = p.next k (omega (arith, l)) in
      let b = q.next k (omega (arith, m)) in
      let e = one-next uses (has_placed (take k xs)) (get_or xs k 0) (get_or ys k 0) a (subst (λ zs. IsNext uses (has_placed zs) (get_or ys k 0)) (sym h) b) in
      take-suc xs k 0 (omega (arith, l)) ∙ (ap (λ zs. zs ++ get_or xs k 0 ∷ []) h ∙ (ap (λ z. take k ys ++ z ∷ []) e ∙ sym (take-suc ys k 0 (omega (arith, m)))))

-- all of one are placed before the other goes on
not-longer : (uses : List (List ℕ)) (xs ys : List ℕ) → IsPlacement uses xs → IsPlacement uses ys → length xs < length ys → ⊥
not-longer uses xs ys p q l =
    let n = q.next (length xs) l in
    let y = get_or ys (length xs) 0 in
    let front : take (length xs) ys ≡ xs = sym (fronts-same uses xs ys p q (length xs) (omega arith) (omega (arith, l))) ∙ take_all (length xs) xs (omega arith) in
    let among : has_placed (take (length xs) ys) y ≡ true = ap (λ zs. has_placed zs y) front ∙ p.complete y n.in_range in
    let free = (and_parts (not (has_placed (take (length xs) ys) y)) (list_all (has_placed (take (length xs) ys)) (get_or uses y [])) n.ready).0 in
    false≢true (ap not (sym among) ∙ free)

-- A placement is the only one.
pub one-placement : (uses : List (List ℕ)) (xs ys : List ℕ) → IsPlacement uses xs → IsPlacement uses ys → xs ≡ ys
one-placement uses xs ys p q = elim (cases_order (length xs) (length ys)) [
  | inl e ↦ sym (take_all (length xs) xs (omega arith)) ∙ (fronts-same uses xs ys p q (length xs) (omega arith) (omega (arith, e)) ∙ take_all (length xs) ys (omega (arith, e)))
  | inr h ↦ elim h [
    | inl l ↦ absurd (not-longer uses xs ys p q l)
    | inr l ↦ absurd (not-longer uses ys xs q p l)
  ]
]

pub same-map : {A : Type 0} (f g : ℕ → A) (xs : List ℕ) → ((k : ℕ) → k < length xs → f (get_or xs k 0) ≡ g (get_or xs k 0)) → map f xs ≡ map g xs
same-map f g [] h = refl
same-map f g (x ∷ xs) h = let a = h 0 (omega arith) in let b = same-map f g xs (λ k l. h (suc k) (omega (arith, l))) in cc

pub same-flat : {A : Type 0} (f g : ℕ → List A) (xs : List ℕ) → ((k : ℕ) → k < length xs → f (get_or xs k 0) ≡ g (get_or xs k 0)) → flat_map f xs ≡ flat_map g xs
same-flat f g [] h = refl
same-flat f g (x ∷ xs) h = let a = h 0 (omega arith) in let b = same-flat f g xs (λ k l. h (suc k) (omega (arith, l))) in cc

-- Interfaces and worlds resolve to one package behind their imports.
pub one-behind : (before : Package) (is : List InterfaceTree) (ws : List WorldTree) (p q : Package) → ResolvesBehind before is ws p → ResolvesBehind before is ws q → p ≡ q
one-behind before is ws p q a b =
    let order : a.order ≡ b.order = one-placement (interface_uses is) a.order b.order a.placed b.placed in
    let counted : length (interface_uses is) ≡ length is = length-map is (uses_of_interface (names_of_trees is)) in
    let inside : (k : ℕ) → k < length a.order → get_or a.order k 0 < length is = λ k l. subst (λ n. get_or a.order k 0 < n) counted (a.placed.next k l).in_range in
    let types : (k : ℕ) → k < length is → a.types k ≡ b.types k = λ k l. one-placement (type_uses (interface_at is k)) (a.types k) (b.types k) (a.types_placed k l) (b.types_placed k l) in
    let definitions : p.definitions ≡ q.definitions =
    a.definitions
    ∙ ap (λ (ds : List NamedDefinition). before.definitions ++ ds)
    (same-flat (λ k. interface_meaning (interface_at is k) (a.types k)) (λ k. interface_meaning (interface_at is k) (b.types k)) a.order
    (λ k l. ap (interface_meaning (interface_at is (get_or a.order k 0))) (types (get_or a.order k 0) (inside k l)))
    ∙ ap (flat_map (λ k. interface_meaning (interface_at is k) (b.types k))) order)
    ∙ sym b.definitions in
    let names : p.interfaces ≡ q.interfaces = a.names ∙ (ap (λ (o : List ℕ). before.interfaces ++ names_in_order is o) order ∙ sym b.names) in
    ap (λ (ns : List (List ℕ)). record { interfaces = ns; worlds = p.worlds; definitions = p.definitions }) names
    ∙ ap (λ (ms : List WorldMeaning). record { interfaces = q.interfaces; worlds = ms; definitions = p.definitions }) (a.worlds ∙ sym b.worlds)
    ∙ ap (λ (ds : List NamedDefinition). record { interfaces = q.interfaces; worlds = q.worlds; definitions = ds }) definitions
