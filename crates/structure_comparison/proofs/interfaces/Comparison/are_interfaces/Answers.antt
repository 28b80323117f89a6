use Rattle.std.proofs.Common.{◌≡◌, ℕ, length, arith, subst}
use Rattle.std.proofs.lemmas.Option.{slice_get-get_or}
use Rattle.component_structure.specs.Parts.{structure_view, extern_part}
use Rattle.structure_comparison.specs.Interfaces.{IsInterfaceExtern}
use Rattle.structure_comparison.proofs.ListsInStep.{InStepBelow, in_step_more, in_step_all, in_step_map, item_get}
use Rattle.structure_comparison.proofs.interfaces.Comparison.are_interfaces.Goals as goal

pub loop-place-preserved : goal.loop-place-preserved
loop-place-preserved c =
    let n = c.loop-place.place in
    in_step_more (λ id e. IsInterfaceExtern c.args.self.now.resolve.now (structure_view c.args.self.now.structure.now) c.args.manner.way c.args.manner.whole id (extern_part e)) c.args.ids.now c.args.read.now n _ c.index-read-place.result
    (slice_get-get_or c.args.ids.now n _ (omega arith)) (item_get c.args.read.now n c.index-read-place.result (omega arith) c.index-read-place.is)
    (c.in_ok-is_interface_extern.ensures c.if-not-branch.false) c.loop-place.invariant

pub returns : goal.returns
returns c = λ t.
    let n : c.loop-place.place ≡ length c.args.ids.now = omega arith in
    in_step_map extern_part (IsInterfaceExtern c.args.self.now.resolve.now (structure_view c.args.self.now.structure.now) c.args.manner.way c.args.manner.whole) c.args.ids.now c.args.read.now
    (in_step_all (λ id e. IsInterfaceExtern c.args.self.now.resolve.now (structure_view c.args.self.now.structure.now) c.args.manner.way c.args.manner.whole id (extern_part e)) c.args.ids.now c.args.read.now c.if-ids-read.false
    (subst (λ (k : ℕ). InStepBelow (λ id e. IsInterfaceExtern c.args.self.now.resolve.now (structure_view c.args.self.now.structure.now) c.args.manner.way c.args.manner.whole id (extern_part e)) c.args.ids.now c.args.read.now k) n c.loop-place.invariant))
