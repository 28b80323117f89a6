use Rattle.std.proofs.Common.{List, subst}
use Rattle.tables.specs.declared.tables.TypeId.{TypeId}
use Rattle.component_structure.specs.Parts.{extern_part}
use Rattle.structure_comparison.specs.InStep.{InStep}
use Rattle.structure_comparison.specs.Types.{site_view, IsTypeExtern}
use Rattle.structure_comparison.proofs.Members.{members_of_parts}
use Rattle.structure_comparison.proofs.interfaces.has_members.Goals as goal

pub returns : goal.returns
returns c = λ t.
    let site = site_view c.args.site.now in
    members_of_parts site c.args.interface.now c.args.functions.now c.args.read.now
    c.in-Some.uses.now c.in-Some.others.now c.in-Some-split_at_checked.types.now c.in-Some-split_at_checked.others.now c.len.result c.len-2.result
    c.in-Some.ensures.cases c.in-Some-split_at_checked.ensures.cases
    (subst (λ (ids : List TypeId). InStep (λ id e. IsTypeExtern site id (extern_part e)) ids c.in-Some.uses.now) c.as_slice.ensures (c.are_written.ensures c.if-not-are_written.false))
    (subst (λ (ids : List TypeId). InStep (λ id e. IsTypeExtern site id (extern_part e)) ids c.in-Some-split_at_checked.types.now) c.as_slice-2.ensures (c.are_written-2.ensures c.if-not-are_written-2.false))
    (c.are_written-3.ensures t)
