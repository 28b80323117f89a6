use Rattle.std.proofs.Common.{length, get_or, inl, inr, ap, sym, ◌∙◌, arith, List}
use Rattle.tables.specs.declared.tables.Interface.{Interface}
use Rattle.package_sets.proofs.PackageTables.NeededPackages.{adds-needed-more, adds-needed-all}
use Rattle.package_sets.proofs.part.add_needed.Goals as goal
use Rattle.package_sets.proofs.part.add_needed.Goals.{then-has_interface, else-has_interface}

pub loop-place-preserved : goal.loop-place-preserved
loop-place-preserved c =
    let same = c.as_slice-interface-items.ensures in
    adds-needed-more c.args.set.now c.args.reached.now c.loop-place.place c.interface-item.result c.args.marks.now.items c.loop-place.marks.items c.if-has_interface.marks.items (omega (arith, ap length same))
    (c.interface-item.is ∙ ap (λ (is : List Interface). get_or is c.loop-place.place c.interface-item.result) same) c.loop-place.invariant
    (elim c.if-has_interface.branch [
      | then-has_interface w ↦ inl (sym c.has_interface.ensures ∙ w.if-has_interface.true, ap (λ v. v.items) w.marks-is ∙ w.mark.ensures.marked)
      | else-has_interface w ↦ inr (sym c.has_interface.ensures ∙ w.if-has_interface.false, ap (λ v. v.items) w.marks-is)
    ])

pub returns : goal.returns
returns c = adds-needed-all c.args.set.now c.args.reached.now c.loop-place.place _ _ (omega (arith, ap length c.as_slice-interface-items.ensures)) c.loop-place.invariant
