use Rattle.std.proofs.Common.{◌⊎◌, inr, ℕ, arith, sym, subst}
use Rattle.std.specs.Prelude.{Contains}
use Rattle.tables.specs.declared.tables.InterfaceId.{InterfaceId}
use Rattle.std.specs.BTreeSet.{BTreeSet}
use Rattle.structure_comparison.specs.Worlds.{AreIds, Uses, IsUsedByOne}
use Rattle.structure_comparison.proofs.Sets.{ids_chain, ids_before, used_at}
use Rattle.structure_comparison.proofs.listed.put_used.Goals.{in-Some+in_ok-put_uses, in_default}
use Rattle.structure_comparison.proofs.listed.put_used.Goals as goal

pub loop-user-init : goal.loop-user-init
loop-user-init c = ids_before (λ (id : InterfaceId). IsUsedByOne c.args.resolve.now c.args.users.now id) c.args.set.now.keys

pub loop-user-preserved : goal.loop-user-preserved
loop-user-preserved c =
    elim c.match-interface_at.branch [
      | in-Some+in_ok-put_uses w ↦ subst (λ (s : BTreeSet ℕ). AreIds (λ (id : InterfaceId). Contains c.args.set.now.keys id.0 ⊎ IsUsedByOne c.args.resolve.now c.args.users.now id) s.keys) (sym w.set-is)
          (ids_chain (λ (id : InterfaceId). Contains c.args.set.now.keys id.0 ⊎ IsUsedByOne c.args.resolve.now c.args.users.now id) (λ (id : InterfaceId). Uses c.args.resolve.now id w.in-Some.interface.now) c.loop-user.set.keys w.put_uses.new.set.keys c.loop-user.invariant
          (λ (id : InterfaceId) u. inr (used_at c.args.resolve.now id c.args.users.now c.loop-user.user-index _ w.in-Some.interface.now (omega arith) w.in-Some.ensures u))
          w.in_ok-put_uses.ensures)
      | in_default w ↦ subst (λ (s : BTreeSet ℕ). AreIds (λ (id : InterfaceId). Contains c.args.set.now.keys id.0 ⊎ IsUsedByOne c.args.resolve.now c.args.users.now id) s.keys) (sym w.set-is) c.loop-user.invariant
    ]
