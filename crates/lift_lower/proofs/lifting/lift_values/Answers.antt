use Rattle.std.proofs.Common.{◌∙◌, sym}
use Rattle.values.specs.Members.{fields_of_types}
use Rattle.lift_lower.proofs.DenotingWholeLists.{denotes-flat, denotes-flat-not, denotes-spilled-not}
use Rattle.values.proofs.FieldsFromAPlace.{count-types}
use Rattle.lift_lower.proofs.lifting.lift_values.Goals as goal

pub returns-then-not-are_kinds-clause-value : goal.returns-then-not-are_kinds-clause-value
returns-then-not-are_kinds-clause-value c =
    denotes-spilled-not c.args.limit (fields_of_types c.args.table.now c.args.types.now) c.args.memory.now c.args.flats.now c.in_default.ensures.spilled (λ kinds. let h = c.are_kinds.ensures.1 kinds in cc)

pub returns-then-not-are_kinds-2-clause-value : goal.returns-then-not-are_kinds-2-clause-value
returns-then-not-are_kinds-2-clause-value c =
    let same = c.as_slice.ensures.value ∙ c.in-Some.ensures.kinds in
    denotes-flat-not c.args.limit (fields_of_types c.args.table.now c.args.types.now) c.args.memory.now c.args.flats.now c.in-Some.ensures.flat (λ kinds. let h = c.are_kinds-2.ensures.1 (kinds ∙ sym same) in cc)

pub lift_fields-requires-clause-counted : goal.lift_fields-requires-clause-counted
lift_fields-requires-clause-counted c = count-types c.args.table.now c.args.types.now

pub returns-clause-value : goal.returns-clause-value
returns-clause-value c =
    let same = c.as_slice.ensures.value ∙ c.in-Some.ensures.kinds in
    let kinds = c.are_kinds-2.ensures.0 c.if-not-are_kinds-2.false ∙ same in
    rw (denotes-flat c.args.limit (fields_of_types c.args.table.now c.args.types.now) c.args.memory.now c.args.flats.now c.in-Some.ensures.flat kinds) c.lift_fields.ensures
