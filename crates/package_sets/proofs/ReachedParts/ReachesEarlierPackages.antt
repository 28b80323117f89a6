-- Where each package stands behind those that it names, a package reaches none behind it.
use Rattle.std.proofs.Common.{◌≡◌, ◌≤◌, ◌⊎◌, inl, inr, ℕ, zero, suc, Bool, true, false, List, [], ◌∷◌, map, get_or, slice_get, Option, None, Some, refl, ap, arith, eqb-true}
use Rattle.std.specs.Prelude.{flat_map, Contains}
use Rattle.std.specs.Option.{option_map}
use Rattle.std.proofs.lemmas.List.Elements.{Contains-append_cases}
use Rattle.tables.specs.declared.tables.Owner.{Owner}
use Rattle.tables.specs.declared.tables.Owner.TheVariants as owner
use Rattle.tables.specs.declared.tables.Interface.{Interface}
use Rattle.tables.specs.declared.tables.World.{World}
use Rattle.tables.specs.declared.tables.Resolve.{Resolve}
use Rattle.set_rows.specs.Reaches.{is_marked, own_marks, world_owners, owners_in, OfPackage, Reaches, of_start, of_row}
use Rattle.package_sets.specs.Restricted.{number_or, package_of_owner, NamesEarlierPackages, IsNeeded, IsReachedIn}
use Rattle.set_rows.specs.declared.moved.Moved.{Moved}
use Rattle.package_form.specs.Closed.{is_world_of}
use Rattle.package_form.specs.Reached.{is_interface_of}

own-of : {A : Type 0} (of : A → ℕ) (is : A → Bool) (own : ℕ) → ((x : A) → is x ≡ true → of x ≡ own) → (xs : List A) (k : ℕ) → get_or (map is xs) k true ≡ true → number_or (option_map of (slice_get xs k)) ≤ own
own-of of is own each [] k h = omega arith
own-of of is own each (x ∷ xs) zero h = let e = each x h in omega arith
own-of of is own each (x ∷ xs) (suc k) h = own-of of is own each xs k h

own-marked : (s : Resolve) (own : ℕ) (o : Option Owner) → is_marked (own_marks s own) o ≡ true → package_of_owner s o ≤ own
own-marked s own None h = omega arith
own-marked s own (Some (owner.Interface i)) h = own-of (λ x. x.«package».0) (is_interface_of own) own (λ x e. eqb-true x.«package».0 own e) s.interfaces i.0 h
own-marked s own (Some (owner.World w)) h = own-of (λ x. x.«package».0) (is_world_of own) own (λ x e. eqb-true x.«package».0 own e) s.worlds w.0 h

-- what an item of a package's worlds names is named by an item of one of them
pub item-of : (own : ℕ) (ws : List World) (o : Option Owner) → Contains (flat_map (world_owners own) ws) o → (w : World) × Contains ws w × (w.«package».0 ≡ own) × Contains (flat_map owners_in w.items) o
item-of own [] o (k, h, e) = absurd (omega arith)
item-of own (w ∷ ws) o c = elim (Contains-append_cases (world_owners own w) (flat_map (world_owners own) ws) o c) [ inl q ↦ here (is_world_of own w) refl q | inr q ↦ later (item-of own ws o q) ]
  where
    later : (v : World) × Contains ws v × (v.«package».0 ≡ own) × Contains (flat_map owners_in v.items) o → (v : World) × Contains (w ∷ ws) v × (v.«package».0 ≡ own) × Contains (flat_map owners_in v.items) o
    later (v, (k, h, e), p, q) = (v, (suc k, omega (arith, h), e), p, q)

    here : (b : Bool) → is_world_of own w ≡ b → Contains (world_owners own w) o → (v : World) × Contains (w ∷ ws) v × (v.«package».0 ≡ own) × Contains (flat_map owners_in v.items) o
    here true e q = (w, (0, omega arith, refl), eqb-true w.«package».0 own e, (rw e at q))
    here false e q = absurd (none (rw e at q))
      where
        none : Contains [] o → ⊥
        none (k, h, z) = omega arith

pub reached-before : (s : Resolve) (own : ℕ) → NamesEarlierPackages s → (o : Option Owner) → Reaches s (OfPackage own) o → package_of_owner s o ≤ own
reached-before s own h o (of_start _ e) = by e
  where
    by : (is_marked (own_marks s own) o ≡ true) ⊎ Contains (flat_map (world_owners own) s.worlds) o → package_of_owner s o ≤ own
    by (inl q) = own-marked s own o q
    by (inr c) =
        let w = item-of own s.worlds o c in
        let l = h.items w.0 o w.1 w.3 in
        omega (arith, l, w.2)
reached-before s own h o (of_row k d _ at r c) =
    let before = reached-before s own h _ r in
    let l = h.rows k d o at c in
    omega (arith, before, l)

pub last-own : (s : Resolve) (own : ℕ) (to : Moved) (n : IsNeeded s own to) → NamesEarlierPackages s → (k : ℕ) → (k ≡ own) ⊎ IsReachedIn s n.marks k → k ≤ own
last-own s own to n h k (inl e) = omega arith
last-own s own to n h k (inr (i, x, at, m, e)) =
    let reached = n.are_reached.sound (Some (owner.Interface (record { 0 = i }))) m in
    let before = reached-before s own h (Some (owner.Interface (record { 0 = i }))) reached in
    let is : package_of_owner s (Some (owner.Interface (record { 0 = i }))) ≡ x.«package».0 = ap (λ (y : Option Interface). number_or (option_map (λ z. z.«package».0) y)) at in
    omega (arith, before, is, e)
