-- What a package reaches is a part of the set, and so is what interfaces reach.
use Rattle.std.proofs.Common.{◌≡◌, ◌<◌, ◌⊎◌, inl, inr, ℕ, zero, suc, Bool, true, false, List, [], length, get_or, slice_get, map, Option, None, Some, refl, ap, sym, subst, ◌∙◌, arith, true≢false, eqb-true}
use Rattle.std.specs.Prelude.{flat_map, Contains}
use Rattle.std.proofs.lemmas.List.{get_or-map, get_or_default, length-map}
use Rattle.std.proofs.lemmas.Option.{slice_get_within, get_or_from_slice_get}
use Rattle.package_form.proofs.AllAndContains.{contains-flat}
use Rattle.tables.proofs.NamesEarlierTypes.{grouped-at}
use Rattle.tables.specs.declared.tables.WorldId.{WorldId}
use Rattle.tables.specs.declared.tables.Owner.{Owner}
use Rattle.tables.specs.declared.tables.Owner.TheVariants as owner
use Rattle.tables.specs.declared.tables.Definition.{Definition}
use Rattle.tables.specs.declared.tables.Interface.{Interface}
use Rattle.tables.specs.declared.tables.World.{World}
use Rattle.tables.specs.declared.tables.WorldItemKind.{WorldItemKind}
use Rattle.tables.specs.declared.tables.WorldItemKind.TheVariants as item
use Rattle.tables.specs.declared.tables.Resolve.{Resolve}
use Rattle.set_rows.specs.Owners.{owners}
use Rattle.set_rows.specs.Reaches.{Marks, is_marked, own_marks, item_owners, owners_in, world_owners, named_owners, padded, Start, IsStart, OfPackage, OfInterfaces, Reaches, of_start, of_row, AreReached}
use Rattle.package_sets.specs.Restricted.{IsReachedIn, IsNeeded}
use Rattle.package_sets.specs.Imports.{IsImported}
use Rattle.package_sets.specs.Part.{of_world, IsPart}
use Rattle.package_sets.specs.Set.{AreWorldsApart}
use Rattle.set_rows.specs.declared.moved.Moved.{Moved}
use Rattle.package_sets.proofs.KeptParts.PropertiesOfKept.{worlds-grouped-at}
use Rattle.package_sets.proofs.ReachedParts.ReachesEarlierPackages.{item-of}
use Rattle.package_sets.proofs.GrowingLists.{contains-unflat, get-contains}
use Rattle.set_rows.proofs.MarksOfReached.{length-padded}
use Rattle.set_rows.proofs.PaddedMarks.{padded-none}
use Rattle.package_form.specs.Closed.{is_world_of}

-- ---- of either

pub needed-interface : (s : Resolve) (m : Marks) (to : Moved) → length m.interfaces ≡ length s.interfaces → to.interfaces ≡ m.interfaces → length to.packages ≡ length s.packages
    → ((k : ℕ) → IsReachedIn s m k → get_or to.packages k true ≡ true) → (k : ℕ) (i : Interface) → get_or to.interfaces k false ≡ true → slice_get s.interfaces k ≡ Some i → get_or to.packages i.«package».0 false ≡ true
needed-interface s m to count are counted others k i h e =
    let within : k < length s.interfaces = slice_get_within s.interfaces k i e in
    let here : get_or m.interfaces k true ≡ true = get_or_default m.interfaces k true false (omega (arith, count)) ∙ (ap (λ (bs : List Bool). get_or bs k false) (sym are) ∙ h) in
    let package-there : i.«package».0 < length s.packages = grouped-at (length s.packages) 0 s.interfaces k i s.grouped within (get_or_from_slice_get s.interfaces k i i e) in
    get_or_default to.packages i.«package».0 false true (omega (arith, counted, package-there)) ∙ others i.«package».0 (k, i, e, here, refl)

pub named-reached : (s : Resolve) (from : Start) (m : Marks) → AreReached s from m → (k : ℕ) (d : Definition) (o : Option Owner) → slice_get s.definitions k ≡ Some d → is_marked m (get_or (owners s.definitions) k None) ≡ true
    → Contains (named_owners (owners s.definitions) d) o → is_marked m o ≡ true
named-reached s from m a k d o e h c = a.complete o (of_row k d o e (a.sound (get_or (owners s.definitions) k None) h) c)

-- where worlds are apart, a world that is reached is one where reaching starts
pub world-start : (s : Resolve) (from : Start) → AreWorldsApart s → (o : Option Owner) → Reaches s from o → (w : WorldId) → o ≡ Some (owner.World w) → IsStart s from (Some (owner.World w))
world-start s from h o (of_start _ e) w q = subst (IsStart s from) q e
world-start s from h o (of_row k d _ at r c) w q = world-start s from h _ r w (h k d w at (subst (λ (x : Option Owner). Contains (named_owners (owners s.definitions) d) x) q c))

-- no item of a world names a world
pub no-item : (k : WorldItemKind) (w : WorldId) → Contains (item_owners k) (Some (owner.World w)) → ⊥
no-item (item.Function f) w (k, l, e) = omega arith
no-item (item.Interface i) w (zero, l, e) = cc
no-item (item.Interface i) w (suc k, l, e) = omega arith

-- ---- of a package

module _ (s : Resolve) (own : ℕ) (to : Moved) (n : IsNeeded s own to) where
  pub world-own : (k : ℕ) (w : World) → get_or to.worlds k false ≡ true → slice_get s.worlds k ≡ Some w → is_world_of own w ≡ true
  world-own k w h e =
      sym (get_or-map (is_world_of own) s.worlds k w false (slice_get_within s.worlds k w e) ∙ ap (is_world_of own) (get_or_from_slice_get s.worlds k w w e))
      ∙ (ap (λ (bs : List Bool). get_or bs k false) (sym n.worlds_are) ∙ h)

  -- a world is kept just where it is the package's
  pub mark-same : (k : ℕ) → k < length s.worlds → get_or to.worlds k false ≡ is_marked (own_marks s own) (of_world k)
  mark-same k l = ap (λ (bs : List Bool). get_or bs k false) n.worlds_are ∙ get_or_default (map (is_world_of own) s.worlds) k false true (omega (arith, l, length-map s.worlds (is_world_of own)))

  pub worlds-kept : AreWorldsApart s → (k : ℕ) → k < length s.worlds → is_marked n.marks (of_world k) ≡ true → get_or to.worlds k false ≡ true
  worlds-kept h k l m = by (world-start s (OfPackage own) h (of_world k) (n.are_reached.sound (of_world k) m) (record { 0 = k }) refl)
    where
      by : (is_marked (own_marks s own) (of_world k) ≡ true) ⊎ Contains (flat_map (world_owners own) s.worlds) (of_world k) → get_or to.worlds k false ≡ true
      by (inl e) = mark-same k l ∙ e
      by (inr c) =
          let p = item-of own s.worlds (of_world k) c in
          let i = contains-unflat owners_in p.0.items (of_world k) p.3 in
          absurd (no-item i.0.kind (record { 0 = k }) i.2)

  pub items-marked : (k : ℕ) (w : World) (o : Option Owner) → get_or to.worlds k false ≡ true → slice_get s.worlds k ≡ Some w → Contains (flat_map owners_in w.items) o → is_marked n.marks o ≡ true
  items-marked k w o h e c = n.are_reached.complete o (of_start o (inr (contains-flat (world_owners own) s.worlds w o (get-contains s.worlds k w e) (own-items (world-own k w h e)))))
    where
      own-items : is_world_of own w ≡ true → Contains (world_owners own w) o
      own-items z = rw z c

  pub world-needed : (k : ℕ) (w : World) → get_or to.worlds k false ≡ true → slice_get s.worlds k ≡ Some w → get_or to.packages w.«package».0 false ≡ true
  world-needed k w h e =
      let same : w.«package».0 ≡ own = eqb-true w.«package».0 own (world-own k w h e) in
      rw same (n.packages_are.own_one (omega (arith, same, worlds-grouped-at (length s.packages) 0 s.worlds k w s.worlds_grouped e)))

  abbrev pub package-part : IsPart s to
  package-part = record {
    marks = n.marks;
    count = n.are_reached.count;
    count_worlds = ap length n.worlds_are ∙ length-map s.worlds (is_world_of own);
    count_packages = n.packages_are.count;
    interfaces_are = n.interfaces_are;
    rows_are = n.rows_are;
    named = named-reached s (OfPackage own) n.marks n.are_reached;
    worlds_marked = λ k l h. n.are_reached.complete (of_world k) (of_start (of_world k) (inl (sym (mark-same k l) ∙ h)));
    items_marked = items-marked;
    worlds_kept = worlds-kept;
    interfaces_needed = needed-interface s n.marks to n.are_reached.count n.interfaces_are n.packages_are.count n.packages_are.others;
    worlds_needed = world-needed;
  }

-- ---- of interfaces

module _ (s : Resolve) (packages interfaces : List Bool) (to : Moved) (n : IsImported s packages interfaces to) where
  pub no-world : (k : ℕ) → get_or to.worlds k false ≡ true → ⊥
  no-world k h = true≢false (sym h ∙ (ap (λ (bs : List Bool). get_or bs k false) n.worlds_are ∙ padded-none (length s.worlds) k))

  pub none-reached : AreWorldsApart s → (k : ℕ) → k < length s.worlds → is_marked n.marks (of_world k) ≡ true → ⊥
  none-reached h k l m =
      let start = world-start s (OfInterfaces interfaces) h (of_world k) (n.are_reached.sound (of_world k) m) (record { 0 = k }) refl in
      true≢false (sym start ∙ (get_or_default (padded (length s.worlds) []) k true false (omega (arith, l, length-padded (length s.worlds) [])) ∙ padded-none (length s.worlds) k))

  abbrev pub interfaces-part : IsPart s to
  interfaces-part = record {
    marks = n.marks;
    count = n.are_reached.count;
    count_worlds = ap length n.worlds_are ∙ length-padded (length s.worlds) [];
    count_packages = n.packages_are.count;
    interfaces_are = n.interfaces_are;
    rows_are = n.rows_are;
    named = named-reached s (OfInterfaces interfaces) n.marks n.are_reached;
    worlds_marked = λ k l h. absurd (no-world k h);
    items_marked = λ k w o h. absurd (no-world k h);
    worlds_kept = λ h k l m. absurd (none-reached h k l m);
    interfaces_needed = needed-interface s n.marks to n.are_reached.count n.interfaces_are n.packages_are.count n.packages_are.others;
    worlds_needed = λ k w h. absurd (no-world k h);
  }
