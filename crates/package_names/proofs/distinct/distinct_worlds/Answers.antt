use Rattle.std.proofs.Common.{◌≡◌, ◌<◌, ◌+◌, ◌++◌, List, [], ℕ, IsTrue, map, flat_map, take, drop, length, get_or, refl, ap, sym, subst, ◌∙◌, arith, append-nil, length-set, All}
use Rattle.std.proofs.lemmas.Result.{err_from_is_err_and}
use Rattle.tables.specs.Tables.{are_worlds_grouped, are_placed_worlds}
use Rattle.tables.specs.Names.{world_name}
use Rattle.tables.specs.Package.{WorldMeaning, world_meaning, interface_names, trees}
use Rattle.tables.specs.declared.tables.World.{World}
use Rattle.tables.specs.declared.tables.Resolve.{Resolve}
use Rattle.package_form.specs.Scope.{AreDistinct}
use Rattle.package_form.specs.Distinct.{RefusesScopes}
use Rattle.package_form.specs.Naming.{world_label_of, world_labels_of, of_each, world_scopes}
use Rattle.package_form.proofs.NamesMetInEachPackage.{each-distinct, refuses-each, met-alike, met-more, refuses-met}
use Rattle.package_form.proofs.AllAndContains.{all-none, contains-left}
use Rattle.package_form.proofs.NamesMetOneByOne.{refuses-among, all-taken}
use Rattle.package_names.proofs.NamesOfOneScope.{item-dropped}
use Rattle.package_form.proofs.ScopesAreDistinct.{refuses-world-scopes, world-scopes-more, world-placed, worlds-placed-on}
use Rattle.package_form.proofs.FullNamesStandForInterfaces.{world-at}
use Rattle.package_names.proofs.distinct.distinct_worlds.Goals as goal

-- each world is of a package
of-package : (r : Resolve) (ws : List World) → ws ≡ r.worlds → (k : ℕ) (w : World) → k < length ws → w ≡ get_or ws k w → w.«package».0 < length r.packages
of-package r ws same k w l at = world-at (length r.packages) 0 ws k w (subst (λ (vs : List World). IsTrue (are_worlds_grouped (length r.packages) 0 vs)) (sym same) r.worlds_grouped) l (sym at)

pub loop-place-init : goal.loop-place-init
loop-place-init c =
    let r = c.args.resolve.now in
    record {
      counted = c.requires;
      names = λ ns h. met-alike (length r.packages) ns (λ k. ns k ++ []) c.args.met.items (λ k. sym (append-nil (ns k))) h;
      parts = all-none AreDistinct;
      placed = subst (λ (ws : List World). IsTrue (are_placed_worlds r.definitions (length r.interfaces) 0 ws)) (sym c.as_slice-world-items.ensures) r.worlds_placed;
    }

pub distinct_items-requires : goal.distinct_items-requires
distinct_items-requires c =
    let r = c.args.resolve.now in
    let ws = c.as_slice-world-items.result.now in
    let k = c.loop-place.place in
    world-placed r.definitions (length r.interfaces) k c.world-item.result (drop (k + 1) ws)
    (subst (λ (xs : List World). IsTrue (are_placed_worlds r.definitions (length r.interfaces) k xs)) (item-dropped ws k c.world-item.result c.loop-place-test.true c.world-item.is) c.loop-place.invariant.placed)

pub returns-in_err-distinct_items-clause-err : goal.returns-in_err-distinct_items-clause-err
returns-in_err-distinct_items-clause-err c =
    let r = c.args.resolve.now in
    let p = err_from_is_err_and c.from_residual.result c.from_residual.ensures.1 in
    let e = c.in_err-distinct_items.field-0.0 in
    let g : World → WorldMeaning = λ w. world_meaning (interface_names r) (trees r) r.definitions (world_name r w) w in
    rw (p.1, p.2) (λ ns h. subst (λ (ws : List World). RefusesScopes (of_each (λ k. ns k ++ world_labels_of ws k) 0 r.packages ++ flat_map world_scopes (map g ws)) e) c.as_slice-world-items.ensures
    (refuses-world-scopes g c.as_slice-world-items.result.now c.loop-place.place c.world-item.result c.loop-place-test.true c.world-item.is
    (of_each (λ k. ns k ++ world_labels_of c.as_slice-world-items.result.now k) 0 r.packages) e c.in_err-distinct_items.ensures.err))

pub meet_in-requires : goal.meet_in-requires
meet_in-requires c =
    let below = of-package c.args.resolve.now c.as_slice-world-items.result.now c.as_slice-world-items.ensures c.loop-place.place c.world-item.result c.loop-place-test.true c.world-item.is in
    omega (arith, below, c.loop-place.invariant.counted)

pub returns-in_err-meet_in-clause-err : goal.returns-in_err-meet_in-clause-err
returns-in_err-meet_in-clause-err c =
    let r = c.args.resolve.now in
    let p = err_from_is_err_and c.from_residual-in_err-meet_in.result c.from_residual-in_err-meet_in.ensures.1 in
    let e = c.in_err-meet_in.field-0.0 in
    let ws = c.as_slice-world-items.result.now in
    let k = c.loop-place.place in
    let w = c.world-item.result in
    let below = of-package r ws c.as_slice-world-items.ensures k w c.loop-place-test.true c.world-item.is in
    let g : World → WorldMeaning = λ w. world_meaning (interface_names r) (trees r) r.definitions (world_name r w) w in
    rw (p.1, p.2) (λ ns h. subst (λ (ws : List World). RefusesScopes (of_each (λ k. ns k ++ world_labels_of ws k) 0 r.packages ++ flat_map world_scopes (map g ws)) e) c.as_slice-world-items.ensures
    (let labels : List (List (List ℕ)) = of_each (λ k. ns k ++ world_labels_of ws k) 0 r.packages in
    refuses-among labels (labels ++ flat_map world_scopes (map g ws)) e (λ zs h. contains-left labels (flat_map world_scopes (map g ws)) zs h)
    (refuses-each (λ k. ns k ++ world_labels_of ws k) r.packages w.«package».0 e below
    (refuses-met world_label_of ws k w c.loop-place-test.true c.world-item.is w.«package».0 w.name (λ j. refl) ns (length r.packages) c.loop-place.scopes.items e below
    (c.loop-place.invariant.names ns h) c.in_err-meet_in.ensures.err))))

pub loop-place-preserved : goal.loop-place-preserved
loop-place-preserved c =
    let r = c.args.resolve.now in
    let ws = c.as_slice-world-items.result.now in
    let k = c.loop-place.place in
    let w = c.world-item.result in
    let g : World → WorldMeaning = λ w. world_meaning (interface_names r) (trees r) r.definitions (world_name r w) w in
    record {
      counted = ap length c.in_ok-meet_in.ensures.ok ∙ length-set c.loop-place.scopes.items w.«package».0 _ ∙ c.loop-place.invariant.counted;
      names = λ ns h.
          met-more world_label_of ws k w c.loop-place-test.true c.world-item.is w.«package».0 w.name (λ j. refl) ns (length r.packages) c.loop-place.scopes.items c.meet_in.new.scopes.items
          (of-package r ws c.as_slice-world-items.ensures k w c.loop-place-test.true c.world-item.is) (c.loop-place.invariant.names ns h) c.in_ok-meet_in.ensures.new c.in_ok-meet_in.ensures.ok;
      parts = world-scopes-more g ws k w c.loop-place-test.true c.world-item.is c.loop-place.invariant.parts c.in_ok-distinct_items.ensures.ok;
      placed = worlds-placed-on r.definitions (length r.interfaces) k w (drop (k + 1) ws)
          (subst (λ (xs : List World). IsTrue (are_placed_worlds r.definitions (length r.interfaces) k xs)) (item-dropped ws k w c.loop-place-test.true c.world-item.is) c.loop-place.invariant.placed);
    }

pub returns-clause-ok : goal.returns-clause-ok
returns-clause-ok c = λ ns h.
    let r = c.args.resolve.now in
    subst (λ (ws : List World). All AreDistinct (of_each (λ k. ns k ++ world_labels_of ws k) 0 r.packages)) c.as_slice-world-items.ensures
    (all-taken (λ (ws : List World). All AreDistinct (of_each (λ k. ns k ++ world_labels_of ws k) 0 r.packages)) c.as_slice-world-items.result.now c.loop-place.place c.loop-place-test.false
    (each-distinct (λ k. ns k ++ world_labels_of (take c.loop-place.place c.as_slice-world-items.result.now) k) 0 r.packages
    (λ k l. let same : k ≡ 0 + k = omega arith in
    subst (λ (j : ℕ). AreDistinct (ns j ++ world_labels_of (take c.loop-place.place c.as_slice-world-items.result.now) j)) same ((c.loop-place.invariant.names ns h).each k l).distinct)))

pub returns-clause-parts : goal.returns-clause-parts
returns-clause-parts c =
    let r = c.args.resolve.now in
    let g : World → WorldMeaning = λ w. world_meaning (interface_names r) (trees r) r.definitions (world_name r w) w in
    subst (λ (ws : List World). All AreDistinct (flat_map world_scopes (map g ws))) c.as_slice-world-items.ensures
    (all-taken (λ (ws : List World). All AreDistinct (flat_map world_scopes (map g ws))) c.as_slice-world-items.result.now c.loop-place.place c.loop-place-test.false c.loop-place.invariant.parts)
