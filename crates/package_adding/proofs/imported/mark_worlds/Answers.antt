use Rattle.std.proofs.Common.{◌++◌, List, flat_map, take, ℕ, subst}
use Rattle.tables.specs.declared.tables.World.{World}
use Rattle.tables.specs.declared.tables.WorldItem.{WorldItem}
use Rattle.package_form.specs.Reached.{reached_by_item, reached_by_world}
use Rattle.package_form.specs.Marks.{AreMarked}
use Rattle.package_form.proofs.MarksOneByOne.{marked-more}
use Rattle.package_form.proofs.NamesMetOneByOne.{all-taken}
use Rattle.package_adding.proofs.imported.mark_worlds.Goals as goal

pub loop-world-preserved : goal.loop-world-preserved
loop-world-preserved c = λ n places m.
    let ws = c.args.worlds.now in
    let k = c.loop-world.world-index in
    let before : List ℕ = places ++ flat_map reached_by_world (take k ws) in
    marked-more reached_by_world ws k c.world-item.result c.loop-world-test.true c.world-item.is n places c.mark_items.new.marks.items
    (subst (λ (xs : List WorldItem). AreMarked n (before ++ flat_map reached_by_item xs) c.mark_items.new.marks.items) c.as_slice.ensures
    (c.mark_items.ensures n before (c.loop-world.invariant n places m)))

pub returns : goal.returns
returns c = λ n places m.
    all-taken (λ (xs : List World). AreMarked n (places ++ flat_map reached_by_world xs) c.loop-world.marks.items) c.args.worlds.now c.loop-world.world-index c.loop-world-test.false
    (c.loop-world.invariant n places m)
