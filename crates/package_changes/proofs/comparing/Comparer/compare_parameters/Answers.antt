use Rattle.std.proofs.Common.{◌≡◌, ap, ◌∙◌}
use Rattle.package_changes.specs.Alike.{parts_likeness}
use Rattle.package_changes.specs.Comparing.{part_types}
use Rattle.package_changes.proofs.NodesTold.{parameters-told}
use Rattle.package_changes.proofs.comparing.Comparer.compare_parameters.Goals as goal

pub returns-clause-ok : goal.returns-clause-ok
returns-clause-ok c =
    let r = c.args.self.now.old.table.now in
    let s = c.args.self.now.new.table.now in
    let parts : c.in_ok-parts.parts ≡ parts_likeness (part_types r c.in_ok-old.old.parts.items) (part_types s c.in_ok-new.new.parts.items) =
    c.in_ok-parts.ensures.ok ∙ ap (λ ps. parts_likeness (part_types r ps) (part_types s c.as_slice-2.result.now)) c.as_slice.ensures.value
    ∙ ap (λ ps. parts_likeness (part_types r c.in_ok-old.old.parts.items) (part_types s ps)) c.as_slice-2.ensures.value in
    c.whole.ensures ∙ parameters-told r s c.args.parameters.now c.args.others.now c.in_ok-old.old c.in_ok-new.new c.in_ok-parts.parts c.in_ok-old.ensures c.in_ok-new.ensures parts
