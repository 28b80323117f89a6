use Rattle.std.proofs.Common.{◌≡◌, ℕ, ◌+◌, ◌<◌, ◌≤◌, ◌++◌, ◌&&◌, List, [], map, drop, length, get_or, ap, sym, subst, ◌∙◌, arith, append-nil}
use Rattle.std.proofs.lemmas.Bool.Decides.{Decides-like}
use Rattle.std.proofs.lemmas.List.{drop_all}
use Rattle.std.specs.List.{list_all}
use Rattle.ctype_format.specs.Raw.{Decl}
use Rattle.ctype_format.specs.View.{decl_view}
use Rattle.ctype_format.specs.declared.raw.RawDecl.{RawDecl}
use Rattle.tables.specs.declared.tables.World.{World}
use Rattle.tables.proofs.ClosedTypesRowByRow.{both}
use Rattle.package_form.specs.Ends.{interfaces_end, world_end, world_rows}
use Rattle.package_form.proofs.PackageFormIsTested.{rows-few}
use Rattle.atoms.specs.Label.{is_label}
use Rattle.wit_component.specs.Component.{ComponentFront, no_front, interfaces_declared, worlds_declared, world_declarations, world_front, package_declarations}
use Rattle.wit_component.specs.ToComponent.{is_labelled, are_worlds_labelled}
use Rattle.wit_component.proofs.PartsInTurn.{at-start, behind-part, other-part, none-behind, some-behind, told-of, empty-decides}
use Rattle.wit_component.proofs.WorldItemsStandInOrder.{AreWorlds, world-first, worlds-later, world-grouped, items-stand, package-worlds, end-within, worlds-few, world-items-few, instances-count}
use Rattle.wit_component.proofs.WorldsWritten.{next-of}
use Rattle.wit_component.proofs.comparison.are_declarations_of.Goals as goal

pub behind_interfaces-requires-clause-rows : goal.behind_interfaces-requires-clause-rows
behind_interfaces-requires-clause-rows c = rows-few c.args.resolve.now c.requires

pub loop-world-init : goal.loop-world-init
loop-world-init c =
    let r = c.args.resolve.now in
    let some = told-of _ _ _ c.in-Some.is c.in_ok-rest.ensures.some in
    let place = told-of _ _ _ c.in-Some.is c.in_ok-rest.ensures.place in
    let few = told-of _ _ _ c.in-Some.is c.in_ok-rest.ensures.few in
    let start : c.interfaces_end-start.result ≡ interfaces_end 0 r.interfaces = c.interfaces_end-start.ensures ∙ ap (interfaces_end 0) c.as_slice.ensures in
    let all : package_declarations r ≡ interfaces_declared r no_front 0 r.interfaces ++ worlds_declared r c.in-Some.first c.interfaces_end-start.result r.worlds =
    λ j. interfaces_declared r no_front 0 r.interfaces ++ worlds_declared r (sym place j) (sym start j) r.worlds in
    record {
      left = behind-part _ _ _ _ _ _ all (at-start _ _) _ some;
      are = subst (λ (n : ℕ). AreWorlds r.definitions (length r.interfaces) 0 n r.worlds) (sym start) (package-worlds r c.requires);
      instances = ap (λ (p : ComponentFront). length p.instances) place ∙ instances-count r.definitions no_front 0 r.interfaces ∙ omega arith;
      start = omega (arith, start, end-within r c.requires);
      types = omega (arith, few);
      labelled = ap (λ (n : ℕ). are_worlds_labelled r.definitions n r.worlds) start;
    }

pub push_world-requires-clause-placed : goal.push_world-requires-clause-placed
push_world-requires-clause-placed c =
    let r = c.args.resolve.now in
    let w = c.world-item.result in
    let same = c.as_slice-world-items.ensures in
    world-grouped (length r.packages) 0 r.worlds c.loop-world.world-index w r.worlds_grouped (omega (arith, c.loop-world-test.true, ap length same))
    (ap (λ (ws : List World). get_or ws c.loop-world.world-index w) (sym same) ∙ sym c.world-item.is)

pub push_world-requires-clause-rows : goal.push_world-requires-clause-rows
push_world-requires-clause-rows c = rows-few c.args.resolve.now c.requires

pub push_world-requires-clause-items : goal.push_world-requires-clause-items
push_world-requires-clause-items c =
    let r = c.args.resolve.now in
    let w = c.world-item.result in
    let k = c.loop-world.world-index in
    let same = c.as_slice-world-items.ensures in
    let low : k < length r.worlds = omega (arith, c.loop-world-test.true, ap length same) in
    let at : get_or r.worlds k w ≡ w = ap (λ (ws : List World). get_or ws k w) (sym same) ∙ sym c.world-item.is in
    let next = next-of r.worlds k w low (sym at) in
    let are = subst (AreWorlds r.definitions (length r.interfaces) k c.loop-world.start) next c.loop-world.invariant.are in
    world-items-few r c.requires k c.loop-world.start w low at (world-first r.definitions (length r.interfaces) k c.loop-world.start w (drop (k + 1) r.worlds) are).items

pub push_world-requires-clause-types : goal.push_world-requires-clause-types
push_world-requires-clause-types c =
    let r = c.args.resolve.now in
    omega (arith, c.loop-world.invariant.types, c.loop-world-test.true, ap length c.as_slice-world-items.ensures, worlds-few r c.requires)

pub push_world-requires-clause-stand : goal.push_world-requires-clause-stand
push_world-requires-clause-stand c =
    let r = c.args.resolve.now in
    let w = c.world-item.result in
    let k = c.loop-world.world-index in
    let start = c.loop-world.start in
    let same = c.as_slice-world-items.ensures in
    let low : k < length r.worlds = omega (arith, c.loop-world-test.true, ap length same) in
    let at : get_or r.worlds k w ≡ w = ap (λ (ws : List World). get_or ws k w) (sym same) ∙ sym c.world-item.is in
    let next = next-of r.worlds k w low (sym at) in
    let are = subst (AreWorlds r.definitions (length r.interfaces) k start) next c.loop-world.invariant.are in
    let first = world-first r.definitions (length r.interfaces) k start w (drop (k + 1) r.worlds) are in
    items-stand r.definitions (length r.interfaces) k start w first.low first.high first.items first.placed

pub returns-in_default-behind-clause-same : goal.returns-in_default-behind-clause-same
returns-in_default-behind-clause-same c =
    let r = c.args.resolve.now in
    let w = c.world-item.result in
    let k = c.loop-world.world-index in
    let start = c.loop-world.start in
    let at = c.loop-world.place in
    let same = c.as_slice-world-items.ensures in
    let low : k < length r.worlds = omega (arith, c.loop-world-test.true, ap length same) in
    let here : get_or r.worlds k w ≡ w = ap (λ (ws : List World). get_or ws k w) (sym same) ∙ sym c.world-item.is in
    let rest = drop (k + 1) r.worlds in
    let next = next-of r.worlds k w low (sym here) in
    let told = c.in_ok-place.ensures in
    let own = world_declarations r at start w in
    let part : map decl_view c.as_slice-in-loop-world.result.now ≡ own =
    ap (map decl_view) c.as_slice-in-loop-world.ensures.value ∙ told.declarations ∙ ap (λ (ds : List RawDecl). map decl_view ds ++ own) c.new-part.ensures.items in
    let declared : worlds_declared r at start (drop k r.worlds) ≡ map decl_view c.as_slice-in-loop-world.result.now ++ worlds_declared r (world_front r.definitions at start w) (world_end start w) rest =
    ap (worlds_declared r at start) next ∙ ap (λ (ds : List Decl). ds ++ worlds_declared r (world_front r.definitions at start w) (world_end start w) rest) (sym part) in
    (λ t. absurd (cc), λ e. absurd (other-part _ _ _ _ _ _ declared c.loop-world.invariant.left c.in_default-behind.ensures.none [] (e ∙ sym (append-nil (package_declarations r)))))

pub loop-world-preserved : goal.loop-world-preserved
loop-world-preserved c =
    let r = c.args.resolve.now in
    let w = c.world-item.result in
    let k = c.loop-world.world-index in
    let start = c.loop-world.start in
    let at = c.loop-world.place in
    let same = c.as_slice-world-items.ensures in
    let low : k < length r.worlds = omega (arith, c.loop-world-test.true, ap length same) in
    let here : get_or r.worlds k w ≡ w = ap (λ (ws : List World). get_or ws k w) (sym same) ∙ sym c.world-item.is in
    let rest = drop (k + 1) r.worlds in
    let next = next-of r.worlds k w low (sym here) in
    let told = c.in_ok-place.ensures in
    let own = world_declarations r at start w in
    let part : map decl_view c.as_slice-in-loop-world.result.now ≡ own =
    ap (map decl_view) c.as_slice-in-loop-world.ensures.value ∙ told.declarations ∙ ap (λ (ds : List RawDecl). map decl_view ds ++ own) c.new-part.ensures.items in
    let rows = r.definitions in
    let count = length r.interfaces in
    let inv = c.loop-world.invariant in
    let are = subst (AreWorlds rows count k start) next inv.are in
    let first = world-first rows count k start w rest are in
    let end : c.world_end-start.result ≡ world_end start w = c.world_end-start.ensures in
    let types = ap (λ (p : ComponentFront). p.types) told.place in
    let declared : worlds_declared r at start (drop k r.worlds) ≡ map decl_view c.as_slice-in-loop-world.result.now ++ worlds_declared r c.in_ok-place.place c.world_end-start.result rest =
    ap (worlds_declared r at start) next ∙ (λ j. (sym part j) ++ worlds_declared r (sym told.place j) (sym end j) rest) in
    record {
      left = behind-part _ _ _ _ _ _ declared inv.left _ c.in-Some-behind.ensures.some;
      are = subst (λ (n : ℕ). AreWorlds rows count (k + 1) n rest) (sym end) (worlds-later rows count k start w rest are);
      instances = ap (λ (p : ComponentFront). length p.instances) told.place ∙ inv.instances;
      start = omega (arith, end, first.high);
      types = omega (arith, types, inv.types);
      labelled =
          ap (λ (n : ℕ). are_worlds_labelled rows n rest) end
          ∙ sym (ap (λ b. b && are_worlds_labelled rows (world_end start w) rest) (both (is_label w.name) (list_all is_labelled (world_rows rows start w)) told.label told.labelled))
          ∙ sym (ap (are_worlds_labelled rows start) next) ∙ inv.labelled;
    }

pub returns-clause-same : goal.returns-clause-same
returns-clause-same c =
    let r = c.args.resolve.now in
    let k = c.loop-world.world-index in
    let left = c.loop-world.invariant.left in
    let done : length r.worlds ≤ k = omega (arith, c.loop-world-test.false, ap length c.as_slice-world-items.ensures) in
    let none = ap (worlds_declared r c.loop-world.place c.loop-world.start) (drop_all k r.worlds done) in
    Decides-like c.is_empty.result (none-behind _ _ _ _ none left) (some-behind _ _ _ _ none left) (empty-decides decl_view c.loop-world.left.now c.is_empty.result c.is_empty.ensures)
