-- What follows of a set with a package more.
use Rattle.std.proofs.Common.{ℕ, length, [], refl}
use Rattle.package_sets.specs.Attached.{IsAttached}
use Rattle.package_sets.specs.Follows.{OfAttached}
use Rattle.package_sets.specs.Joined.{JoinedPlaces, IsJoined}
use Rattle.package_sets.proofs.AttachedSets.PutBehind.{IsPut}
use Rattle.package_sets.specs.Joining.{import_rows, all_places}
use Rattle.package_sets.specs.Tower.{KeepsTower}
use Rattle.tables.specs.declared.tables.Resolve.{Resolve}
use Rattle.package_sets.proofs.AttachedSets.IsAttached.{of-attached}
use Rattle.package_sets.proofs.AttachedSets.LastPackageHasClosedTable.{is-again}
use Rattle.package_sets.proofs.AttachedSets.IsInTower.{tower-there}
use Rattle.package_sets.proofs.AttachedSets.EarlierTablesStay.{stays}

module _ (s c r : Resolve) (id : ℕ) (a : IsAttached s c r id) where
  -- where its imports are found
  abbrev places : JoinedPlaces
  places =
      let found = a.fits.imports.places in
      let rows = import_rows s c found in
      record {
        «package» = length s.packages;
        interfaces = all_places found (length s.interfaces) (length c.interfaces);
        worlds = all_places [] (length s.worlds) (length c.worlds);
        rows = all_places rows (length s.definitions) (length c.definitions);
        imported = length rows;
      }

  is-joined : IsJoined s c places
  is-joined = record {
    are_joined = record { places = a.fits.imports.places; found = a.fits.imports.found; package_is = refl; interfaces_are = refl; worlds_are = refl; imported_is = refl; rows_are = refl };
    rows = a.fits.imports.rows;
    ids = a.fits.imports.ids;
  }

  is-put : IsPut s c a.fits.own places r
  is-put = record { packages = a.packages_are; interfaces = a.own_behind.interfaces; worlds = a.own_behind.worlds; definitions = a.own_behind.rows }

  of-it : OfAttached s c r
  of-it = of-attached s c places is-joined a.fits.own a.fits.own_is r is-put a.room (a.new a.fits.own a.fits.own_is)

pub follows : (s c r : Resolve) (id : ℕ) → IsAttached s c r id → OfAttached s c r
follows = of-it

pub keeps-tower : (s c : Resolve) → KeepsTower s c
keeps-tower s c tower form distinct r id a =
    let q = is-joined s c r id a in
    let put = is-put s c r id a in
    let there = (of-it s c r id a).in_form tower.form form distinct in
    record {
      tower = tower-there s c (places s c r id a) q a.fits.own r put tower form there;
      again = λ b table n. is-again s c (places s c r id a) q a.fits.own a.fits.own_is r put tower form there b.packages b.interfaces b.named b.imports b.are b.stands table n.to n.needed n.table;
      earlier = λ k l table then n m. stays s c (places s c r id a) q a.fits.own r put tower form there k l n.to n.needed m.to m.needed table then n.table m.table;
    }
