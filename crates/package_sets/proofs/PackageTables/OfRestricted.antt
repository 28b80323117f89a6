-- The table of one package of a set is as its definition says.
use Rattle.std.proofs.Common.{◌≡◌, ◌≤◌, ℕ, List, map, subst, ap, sym, ◌∙◌, arith, eqb-true, Bool}
use Rattle.std.proofs.lemmas.Option.{slice_get_within, get_or_from_slice_get}
use Rattle.package_form.specs.Postfix.{IsPostfix}
use Rattle.package_form.proofs.AllAndContains.{contains-unmap}
use Rattle.tables.specs.Package.{worlds}
use Rattle.tables.specs.declared.tables.Interface.{Interface}
use Rattle.tables.specs.declared.tables.World.{World}
use Rattle.tables.specs.declared.tables.Resolve.{Resolve}
use Rattle.set_rows.specs.Places.{place}
use Rattle.set_rows.specs.Renamed.{renaming}
use Rattle.set_rows.specs.Moved.{put_interface, put_world}
use Rattle.package_sets.specs.Part.{IsTableOf}
use Rattle.package_sets.specs.Follows.{OfRestricted}
use Rattle.package_sets.specs.Restricted.{IsNeeded, IsRestricted, NamesEarlierPackages}
use Rattle.set_rows.specs.declared.moved.Moved.{Moved}
use Rattle.package_sets.proofs.KeptParts.ClosedTypesStay.{kept-from, functions-same}
use Rattle.package_sets.proofs.PackageTables.RowsAreInForm.{AreBefore, rows-in-form}
use Rattle.set_rows.proofs.KeptElementsAndPlaces.{place-order}
use Rattle.package_sets.proofs.ReachedParts.ReachesEarlierPackages.{last-own}
use Rattle.package_sets.proofs.ReachedParts.ReachedIsPart.{package-part, world-own}
use Rattle.package_sets.proofs.KeptParts.KeptRowsArePostfix.{postfix-kept, blocks}
use Rattle.package_sets.proofs.KeptParts.KeptTellsTheSame.{interfaces-same, definitions-same, worlds-same, name-same}
use Rattle.std.specs.List.{items_where_true}

module _ (s : Resolve) (own : ℕ) (to : Moved) (n : IsNeeded s own to) where
  pub before-there : NamesEarlierPackages s → AreBefore (map (put_interface (renaming to)) (items_where_true to.interfaces s.interfaces)) (map (put_world (renaming to)) (items_where_true to.worlds s.worlds))
  before-there h a b i w e f =
      let u = contains-unmap (put_interface (renaming to)) (items_where_true to.interfaces s.interfaces) i (a, slice_get_within _ a i e, get_or_from_slice_get _ a i i e) in
      let x = kept-from to.interfaces s.interfaces u.0 u.1 in
      let v = contains-unmap (put_world (renaming to)) (items_where_true to.worlds s.worlds) w (b, slice_get_within _ b w f, get_or_from_slice_get _ b w w f) in
      let y = kept-from to.worlds s.worlds v.0 v.1 in
      let needed = (package-part s own to n).interfaces_needed x.0 u.0 x.1 x.2 in
      let low : u.0.«package».0 ≤ own = last-own s own to n h u.0.«package».0 (n.packages_are.only u.0.«package».0 needed) in
      let is : v.0.«package».0 ≡ own = eqb-true v.0.«package».0 own (world-own s own to n y.0 v.0 y.1 y.2) in
      let order = place-order to.packages u.0.«package».0 v.0.«package».0 (omega (arith, low, is)) in
      let p : place to.packages u.0.«package».0 ≡ i.«package».0 = ap (λ (z : Interface). z.«package».0) u.2 in
      let q : place to.packages v.0.«package».0 ≡ w.«package».0 = ap (λ (z : World). z.«package».0) v.2 in
      omega (arith, order, p, q)

  module _ (r : Resolve) (t : IsTableOf s to r) where
    of-restricted : OfRestricted s own r (record { to = to; needed = n; table = t })
    of-restricted =
        let p = package-part s own to n in
        record {
          interfaces_are = interfaces-same s to p r t.packages t.interfaces t.worlds t.definitions;
          definitions_are = definitions-same s to p r t.packages t.interfaces t.worlds t.definitions;
          worlds_are = worlds-same s to p r t.packages t.interfaces t.worlds t.definitions ∙ ap (λ (bs : List Bool). items_where_true bs (worlds s)) n.worlds_are;
          own_is_last = λ h k e. last-own s own to n h k (n.packages_are.only k e);
          in_form = λ h e. rows-in-form s to p r t.interfaces t.worlds t.definitions h (before-there e);
          functions_are = functions-same s to p r t.interfaces t.definitions (name-same s to p r t.packages t.interfaces t.worlds t.definitions);
          postfix = λ h. subst IsPostfix (sym t.definitions) (postfix-kept to s.definitions (blocks s to p) h);
        }

pub follows : (s : Resolve) (own : ℕ) (r : Resolve) (n : IsRestricted s own r) → OfRestricted s own r n
follows s own r n = of-restricted s own n.to n.needed r n.table
