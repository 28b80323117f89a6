use Rattle.std.proofs.Common.{◌≡◌, ℕ, ◌+◌, ◌<◌, ◌++◌, ◌&&◌, List, map, drop, length, get_or, append_assoc, ap, sym, subst, ◌∙◌, arith}
use Rattle.std.specs.List.{list_all}
use Rattle.ctype_format.specs.View.{decl_view}
use Rattle.tables.specs.declared.tables.World.{World}
use Rattle.tables.proofs.ClosedTypesRowByRow.{both}
use Rattle.package_form.specs.Ends.{interfaces_end, world_end, world_rows}
use Rattle.package_form.proofs.PackageFormIsTested.{rows-few}
use Rattle.atoms.specs.Label.{is_label}
use Rattle.wit_component.specs.Component.{ComponentFront, no_front, worlds_declared}
use Rattle.wit_component.specs.ToComponent.{is_labelled, are_worlds_labelled}
use Rattle.wit_component.proofs.WorldItemsStandInOrder.{AreWorlds, world-first, worlds-later, world-grouped, items-stand, package-worlds, end-within, worlds-few, world-items-few, instances-count}
use Rattle.wit_component.proofs.WorldsWritten.{next-of}
use Rattle.wit_component.proofs.component.declarations.Goals as goal

pub interfaces_declared-requires-clause-rows : goal.interfaces_declared-requires-clause-rows
interfaces_declared-requires-clause-rows c = rows-few c.args.resolve.now c.requires

pub loop-world-init : goal.loop-world-init
loop-world-init c =
    let r = c.args.resolve.now in
    let told = c.in_ok-decls.ensures in
    let start : c.interfaces_end-start.result ≡ interfaces_end 0 r.interfaces = c.interfaces_end-start.ensures ∙ ap (interfaces_end 0) c.as_slice.ensures in
    record {
      declared = λ j. (told.declared j) ++ worlds_declared r (told.place j) (start j) r.worlds;
      are = subst (λ (n : ℕ). AreWorlds r.definitions (length r.interfaces) 0 n r.worlds) (sym start) (package-worlds r c.requires);
      instances = ap (λ (p : ComponentFront). length p.instances) told.place ∙ instances-count r.definitions no_front 0 r.interfaces ∙ omega arith;
      start = omega (arith, start, end-within r c.requires);
      types = omega (arith, told.few);
      labelled = ap (λ (n : ℕ). are_worlds_labelled r.definitions n r.worlds) start;
    }

pub push_world-requires-clause-placed : goal.push_world-requires-clause-placed
push_world-requires-clause-placed c =
    let r = c.args.resolve.now in
    let w = c.world-item.result in
    let same = c.as_slice-world-items.ensures in
    world-grouped (length r.packages) 0 r.worlds c.loop-world.world-index w r.worlds_grouped (omega (arith, c.loop-world-test.true, ap length same))
    (ap (λ (ws : List World). get_or ws c.loop-world.world-index w) (sym same) ∙ sym c.world-item.is)

pub push_world-requires-clause-rows : goal.push_world-requires-clause-rows
push_world-requires-clause-rows c = rows-few c.args.resolve.now c.requires

pub push_world-requires-clause-items : goal.push_world-requires-clause-items
push_world-requires-clause-items c =
    let r = c.args.resolve.now in
    let w = c.world-item.result in
    let k = c.loop-world.world-index in
    let same = c.as_slice-world-items.ensures in
    let low : k < length r.worlds = omega (arith, c.loop-world-test.true, ap length same) in
    let at : get_or r.worlds k w ≡ w = ap (λ (ws : List World). get_or ws k w) (sym same) ∙ sym c.world-item.is in
    let next = next-of r.worlds k w low (sym at) in
    let are = subst (AreWorlds r.definitions (length r.interfaces) k c.loop-world.start) next c.loop-world.invariant.are in
    world-items-few r c.requires k c.loop-world.start w low at (world-first r.definitions (length r.interfaces) k c.loop-world.start w (drop (k + 1) r.worlds) are).items

pub push_world-requires-clause-types : goal.push_world-requires-clause-types
push_world-requires-clause-types c =
    let r = c.args.resolve.now in
    omega (arith, c.loop-world.invariant.types, c.loop-world-test.true, ap length c.as_slice-world-items.ensures, worlds-few r c.requires)

pub push_world-requires-clause-stand : goal.push_world-requires-clause-stand
push_world-requires-clause-stand c =
    let r = c.args.resolve.now in
    let w = c.world-item.result in
    let k = c.loop-world.world-index in
    let start = c.loop-world.start in
    let same = c.as_slice-world-items.ensures in
    let low : k < length r.worlds = omega (arith, c.loop-world-test.true, ap length same) in
    let at : get_or r.worlds k w ≡ w = ap (λ (ws : List World). get_or ws k w) (sym same) ∙ sym c.world-item.is in
    let next = next-of r.worlds k w low (sym at) in
    let are = subst (AreWorlds r.definitions (length r.interfaces) k start) next c.loop-world.invariant.are in
    let first = world-first r.definitions (length r.interfaces) k start w (drop (k + 1) r.worlds) are in
    items-stand r.definitions (length r.interfaces) k start w first.low first.high first.items first.placed

pub loop-world-preserved : goal.loop-world-preserved
loop-world-preserved c =
    let r = c.args.resolve.now in
    let rows = r.definitions in
    let count = length r.interfaces in
    let w = c.world-item.result in
    let k = c.loop-world.world-index in
    let start = c.loop-world.start in
    let inv = c.loop-world.invariant in
    let told = c.in_ok-place.ensures in
    let same = c.as_slice-world-items.ensures in
    let low : k < length r.worlds = omega (arith, c.loop-world-test.true, ap length same) in
    let at : get_or r.worlds k w ≡ w = ap (λ (ws : List World). get_or ws k w) (sym same) ∙ sym c.world-item.is in
    let rest = drop (k + 1) r.worlds in
    let next = next-of r.worlds k w low (sym at) in
    let are = subst (AreWorlds rows count k start) next inv.are in
    let first = world-first rows count k start w rest are in
    let end : c.world_end-start.result ≡ world_end start w = c.world_end-start.ensures in
    let decls = map decl_view c.loop-world.decls.items in
    let types = ap (λ (p : ComponentFront). p.types) told.place in
    record {
      declared =
          (λ j. (told.declarations j) ++ worlds_declared r (told.place j) (end j) rest) ∙ append_assoc decls _ _
          ∙ sym (ap (λ ws. decls ++ worlds_declared r c.loop-world.place start ws) next) ∙ inv.declared;
      are = subst (λ (n : ℕ). AreWorlds rows count (k + 1) n rest) (sym end) (worlds-later rows count k start w rest are);
      instances = ap (λ (p : ComponentFront). length p.instances) told.place ∙ inv.instances;
      start = omega (arith, end, first.high);
      types = omega (arith, types, inv.types);
      labelled =
          ap (λ (n : ℕ). are_worlds_labelled rows n rest) end
          ∙ sym (ap (λ b. b && are_worlds_labelled rows (world_end start w) rest) (both (is_label w.name) (list_all is_labelled (world_rows rows start w)) told.label told.labelled))
          ∙ sym (ap (are_worlds_labelled rows start) next) ∙ inv.labelled;
    }
