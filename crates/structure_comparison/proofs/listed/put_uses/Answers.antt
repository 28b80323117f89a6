use Rattle.std.proofs.Common.{◌⊎◌, inr, ℕ, arith, sym, subst}
use Rattle.std.specs.Prelude.{Contains}
use Rattle.tables.specs.declared.tables.InterfaceId.{InterfaceId}
use Rattle.std.specs.BTreeSet.{BTreeSet}
use Rattle.structure_comparison.specs.Worlds.{AreIds, Uses}
use Rattle.structure_comparison.proofs.Sets.{ids_more, ids_before, uses_at}
use Rattle.structure_comparison.proofs.listed.put_uses.Goals.{in-Some+in_ok-insert, in_default}
use Rattle.structure_comparison.proofs.listed.put_uses.Goals as goal

pub loop-row-init : goal.loop-row-init
loop-row-init c = ids_before (λ (id : InterfaceId). Uses c.args.resolve.now id c.args.interface.now) c.args.set.now.keys

pub loop-row-preserved : goal.loop-row-preserved
loop-row-preserved c =
    elim c.match-used_interface.branch [
      | in-Some+in_ok-insert w ↦ subst (λ (s : BTreeSet ℕ). AreIds (λ (id : InterfaceId). Contains c.args.set.now.keys id.0 ⊎ Uses c.args.resolve.now id c.args.interface.now) s.keys) (sym w.set-is)
          (ids_more (λ (id : InterfaceId). Contains c.args.set.now.keys id.0 ⊎ Uses c.args.resolve.now id c.args.interface.now) c.loop-row.set.keys w.insert.new.self.keys w.in-Some.used
          (inr (uses_at c.args.resolve.now w.in-Some.used c.args.interface.now c.as_slice-row-items.result.now c.loop-row.row-index _ c.as_slice-row-items.ensures (omega arith) w.in-Some.ensures))
          w.in_ok-insert.ensures.keys c.loop-row.invariant)
      | in_default w ↦ subst (λ (s : BTreeSet ℕ). AreIds (λ (id : InterfaceId). Contains c.args.set.now.keys id.0 ⊎ Uses c.args.resolve.now id c.args.interface.now) s.keys) (sym w.set-is) c.loop-row.invariant
    ]
