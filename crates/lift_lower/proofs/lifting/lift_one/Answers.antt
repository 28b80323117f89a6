use Rattle.std.proofs.Common.{refl, sym, ap, ◌∙◌, [], ◌∷◌}
use Rattle.canonical_abi.specs.Types.{field, no_field, prim_type}
use Rattle.canonical_abi.specs.Layout.{max_flat_results}
use Rattle.tables.specs.Closed.{prim_of}
use Rattle.lift_lower.proofs.OneFieldRecords.{gives-flat}
use Rattle.lift_lower.proofs.DenotingWholeLists.{denotes-flat-not}
use Rattle.lift_lower.proofs.lifting.lift_one.Goals as goal

pub returns-then-not-are_kinds-clause-value : goal.returns-then-not-are_kinds-clause-value
returns-then-not-are_kinds-clause-value c = λ m.
    denotes-flat-not max_flat_results (field (prim_type (prim_of c.args.primitive)) no_field) m c.args.flats.now refl (λ kinds. let h = c.are_kinds.ensures.1 (kinds ∙ ap (λ k. k ∷ []) (sym c.core_kind.ensures)) in cc)

pub returns-clause-value : goal.returns-clause-value
returns-clause-value c = λ m.
    let kinds = c.are_kinds.ensures.0 c.if-not-are_kinds.false ∙ ap (λ k. k ∷ []) c.core_kind.ensures in
    gives-flat (prim_type (prim_of c.args.primitive)) m c.args.flats.now c.lift_primitive.result refl kinds (c.lift_primitive.ensures.value m)
