use Rattle.std.proofs.Common.{◌∙◌, sym}
use Rattle.canonical_abi.specs.Types.{field, no_field}
use Rattle.canonical_abi.specs.Layout.{max_flat_results}
use Rattle.tables.specs.Closed.{closed_type}
use Rattle.lift_lower.proofs.OneFieldRecords.{gives-flat, gives-spilled}
use Rattle.lift_lower.proofs.DenotingWholeLists.{denotes-flat-not, denotes-spilled-not}
use Rattle.lift_lower.proofs.lifting.lift_value.Goals as goal

pub returns-then-not-are_kinds-clause-value : goal.returns-then-not-are_kinds-clause-value
returns-then-not-are_kinds-clause-value c =
    denotes-spilled-not max_flat_results (field (closed_type c.args.table.now c.args.ty) no_field) c.args.memory.now c.args.flats.now c.in_default-kinds_within.ensures.spilled (λ kinds. let h = c.are_kinds.ensures.1 kinds in cc)

pub returns-in_default-kinds_within-clause-value : goal.returns-in_default-kinds_within-clause-value
returns-in_default-kinds_within-clause-value c =
    let t = closed_type c.args.table.now c.args.ty in
    let kinds = c.are_kinds.ensures.0 c.if-not-are_kinds.false in
    let read = rw c.low_word-at.ensures at c.load_block.ensures.value in
    gives-spilled t c.args.memory.now c.args.flats.now c.load_block.result c.in_default-kinds_within.ensures.spilled kinds read

pub returns-then-not-are_kinds-2-clause-value : goal.returns-then-not-are_kinds-2-clause-value
returns-then-not-are_kinds-2-clause-value c =
    let same = c.as_slice.ensures.value ∙ c.in-Some.ensures.kinds in
    denotes-flat-not max_flat_results (field (closed_type c.args.table.now c.args.ty) no_field) c.args.memory.now c.args.flats.now c.in-Some.ensures.flat (λ kinds. let h = c.are_kinds-2.ensures.1 (kinds ∙ sym same) in cc)

pub returns-clause-value : goal.returns-clause-value
returns-clause-value c =
    let t = closed_type c.args.table.now c.args.ty in
    let kinds = c.are_kinds-2.ensures.0 c.if-not-are_kinds-2.false ∙ c.as_slice.ensures.value ∙ c.in-Some.ensures.kinds in
    gives-flat t c.args.memory.now c.args.flats.now c.lift_at.result c.in-Some.ensures.flat kinds c.lift_at.ensures.value
