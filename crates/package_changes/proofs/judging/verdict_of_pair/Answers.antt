use Rattle.std.proofs.Common.{◌≡◌, ap, sym, subst, ◌∙◌}
use Rattle.canonical_abi.specs.Labelled.{labelled_record}
use Rattle.tables.specs.Labelled.{labelled_types, labelled_params}
use Rattle.package_changes.specs.Comparing.{AreParametersOf}
use Rattle.package_changes.specs.Likeness.{likeness}
use Rattle.package_changes.proofs.PartnersByNames.{verdict-told}
use Rattle.package_changes.proofs.PartsAreTypes.{function-typed}
use Rattle.package_changes.proofs.judging.verdict_of_pair.Goals as goal

pub compare_parameters-requires-clause-old : goal.compare_parameters-requires-clause-old
compare_parameters-requires-clause-old c =
    let r = c.args.comparer.now.old.table.now in
    subst (AreParametersOf r) (sym c.as_slice.ensures) (function-typed r c.args.pair.old c.signature-old.result.now c.signature-old.ensures).0

pub compare_parameters-requires-clause-new : goal.compare_parameters-requires-clause-new
compare_parameters-requires-clause-new c =
    let s = c.args.comparer.now.new.table.now in
    subst (AreParametersOf s) (sym c.as_slice-2.ensures) (function-typed s c.args.pair.new c.signature-new.result.now c.signature-new.ensures).0

pub compare_part-requires-clause-old : goal.compare_part-requires-clause-old
compare_part-requires-clause-old c = (function-typed c.args.comparer.now.old.table.now c.args.pair.old c.signature-old.result.now c.signature-old.ensures).1

pub compare_part-requires-clause-new : goal.compare_part-requires-clause-new
compare_part-requires-clause-new c = (function-typed c.args.comparer.now.new.table.now c.args.pair.new c.signature-new.result.now c.signature-new.ensures).1

pub returns-clause-ok : goal.returns-clause-ok
returns-clause-ok c =
    let r = c.args.comparer.now.old.table.now in
    let s = c.args.comparer.now.new.table.now in
    let inputs = c.in_ok-inputs.ensures.ok
    ∙ ap (λ ps. likeness (labelled_record (labelled_params (labelled_types r) ps)) (labelled_record (labelled_params (labelled_types s) c.as_slice-2.result.now))) c.as_slice.ensures
    ∙ ap (λ ps. likeness (labelled_record (labelled_params (labelled_types r) c.signature-old.result.now.params)) (labelled_record (labelled_params (labelled_types s) ps))) c.as_slice-2.ensures in
    verdict-told c.args.role r s c.args.pair.old c.args.pair.new c.signature-old.result.now c.signature-new.result.now c.in_ok-inputs.inputs c.in_ok-output.output c.verdict_of.result
    c.signature-old.ensures c.signature-new.ensures inputs c.in_ok-output.ensures.ok c.verdict_of.ensures
