use Rattle.std.proofs.Common.{ℕ, arith, sym, subst}
use Rattle.std.specs.BTreeSet.{BTreeSet}
use Rattle.structure_comparison.specs.Worlds.{AreIds, IsItem}
use Rattle.structure_comparison.proofs.Sets.{ids_more, item_at}
use Rattle.structure_comparison.proofs.listed.items_of.Goals.{in-Some+in_ok-insert, in_default}
use Rattle.structure_comparison.proofs.listed.items_of.Goals as goal

pub loop-item-preserved : goal.loop-item-preserved
loop-item-preserved c =
    elim c.match-interface_in.branch [
      | in-Some+in_ok-insert w ↦ subst (λ (s : BTreeSet ℕ). AreIds (IsItem c.args.world.now c.args.way) s.keys) (sym w.set-is)
          (ids_more (IsItem c.args.world.now c.args.way) c.loop-item.set.keys w.insert.new.self.keys w.in-Some.id
          (item_at c.args.world.now c.args.way w.in-Some.id c.as_slice-item-items.result.now c.loop-item.item-index _ c.as_slice-item-items.ensures (omega arith) w.in-Some.ensures)
          w.in_ok-insert.ensures.keys c.loop-item.invariant)
      | in_default w ↦ subst (λ (s : BTreeSet ℕ). AreIds (IsItem c.args.world.now c.args.way) s.keys) (sym w.set-is) c.loop-item.invariant
    ]
