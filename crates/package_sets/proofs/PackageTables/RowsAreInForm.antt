-- Rows that stand package by package, with all worlds in the last package, are parted as those of a closed table.
use Rattle.std.proofs.Common.{◌≡◌, ◌≤◌, ℕ, suc, ◌+◌, true, ◌&&◌, nat_le, nat_lt, List, [], ◌∷◌, length, map, slice_get, Some, refl, arith, eq-eqb}
use Rattle.std.specs.List.{list_all, items_where_true}
use Rattle.std.proofs.lemmas.Bool.{ltb-true, le-leb}
use Rattle.package_form.specs.Ends.{end_of, rows_of, interfaces_end, world_end, world_rows, is_parted}
use Rattle.package_form.specs.Form.{has_ids, is_local, has_items, is_world_row, are_interfaces, have_items}
use Rattle.tables.proofs.ClosedTypesRowByRow.{split, both}
use Rattle.tables.specs.declared.tables.Definition.{Definition}
use Rattle.tables.specs.declared.tables.Interface.{Interface}
use Rattle.tables.specs.declared.tables.World.{World}
use Rattle.tables.specs.declared.tables.Resolve.{Resolve}
use Rattle.set_rows.specs.Renamed.{renaming}
use Rattle.set_rows.specs.Moved.{put_row, put_interface, put_world}
use Rattle.package_sets.specs.Part.{IsPart}
use Rattle.package_sets.specs.Set.{ArePackageByPackage, behind_all, an_interface, a_world, IsSet, HasRowsInForm}
use Rattle.set_rows.specs.declared.moved.Moved.{Moved}
use Rattle.package_sets.proofs.KeptParts.KeptIsPackageByPackage.{all-stand}

-- no interface is of a later package than a world
abbrev pub AreBefore : List Interface → List World → Type 0
AreBefore is ws = (a b : ℕ) (i : Interface) (w : World) → slice_get is a ≡ Some i → slice_get ws b ≡ Some w → i.«package».0 ≤ w.«package».0

record AreInForm (rows : List Definition) (start k : ℕ) (is : List Interface) (j : ℕ) (ws : List World) : Type 0 where
  pub parted : is_parted (length rows) start is ws ≡ true
  pub interfaces : are_interfaces rows k start is ≡ true
  pub items : have_items rows j (interfaces_end start is) ws ≡ true

in-form : (rows : List Definition) (start k : ℕ) (is : List Interface) (j : ℕ) (ws : List World) → ArePackageByPackage rows start k is j ws → AreBefore is ws → AreInForm rows start k is j ws
in-form rows _ _ _ _ _ (behind_all start k j e) before = record { parted = eq-eqb _ _ e; interfaces = refl; items = refl }
in-form rows _ _ _ _ _ (an_interface start k i is j ws a below rest) before =
    let r = in-form rows (end_of start i) (k + 1) is j ws rest (λ x y p q e f. before (suc x) y p q e f) in
    record {
      parted = both (nat_le start (end_of start i)) _ (le-leb start (end_of start i) a.begins) (both (nat_le (end_of start i) (length rows)) _ (le-leb (end_of start i) (length rows) a.ends) r.parted);
      interfaces = both (has_ids rows start i && list_all (is_local rows k) (rows_of rows start i)) _ (both (has_ids rows start i) _ a.ids a.local) r.interfaces;
      items = r.items;
    }
in-form rows _ _ _ _ _ (a_world start k [] j w ws a later rest) before =
    let r = in-form rows (world_end start w) k [] (j + 1) ws rest (λ x y p q e f. absurd (cc)) in
    record {
      parted = both (nat_le start (world_end start w)) _ (le-leb start (world_end start w) a.begins) (both (nat_le (world_end start w) (length rows)) _ (le-leb (world_end start w) (length rows) a.ends) r.parted);
      interfaces = refl;
      items = both (has_items rows start w && list_all (is_world_row rows j) (world_rows rows start w)) _ (both (has_items rows start w) _ a.items a.local) r.items;
    }
in-form rows _ _ _ _ _ (a_world start k (i ∷ is) j w ws a later rest) before =
    let p = split (nat_lt w.«package».0 i.«package».0) (list_all (λ x. nat_lt w.«package».0 x.«package».0) is) later in
    let l = ltb-true w.«package».0 i.«package».0 p.0 in
    let m = before 0 0 i w refl refl in
    absurd (omega arith)

module _ (s : Resolve) (to : Moved) (n : IsPart s to) where
  pub rows-in-form : (r : Resolve) → r.interfaces ≡ map (put_interface (renaming to)) (items_where_true to.interfaces s.interfaces) → r.worlds ≡ map (put_world (renaming to)) (items_where_true to.worlds s.worlds)
      → r.definitions ≡ map (put_row (renaming to)) (items_where_true to.rows s.definitions) → IsSet s → AreBefore (map (put_interface (renaming to)) (items_where_true to.interfaces s.interfaces)) (map (put_world (renaming to)) (items_where_true to.worlds s.worlds)) → HasRowsInForm r
  rows-in-form r is ws ds h e =
      let f = in-form (map (put_row (renaming to)) (items_where_true to.rows s.definitions)) 0 0 (map (put_interface (renaming to)) (items_where_true to.interfaces s.interfaces)) 0 (map (put_world (renaming to)) (items_where_true to.worlds s.worlds)) (all-stand s to n h) e in
      record { parted = rw (is, ws, ds) f.parted; interfaces = rw (is, ds) f.interfaces; items = rw (is, ws, ds) f.items }
