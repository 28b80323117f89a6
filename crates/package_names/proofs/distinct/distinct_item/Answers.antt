use Rattle.std.proofs.Common.{IsTrue, length, slice_get, sym, subst}
use Rattle.tables.specs.Package.{interface_names, trees}
use Rattle.tables.specs.Tables.{function_of, is_placed_item}
use Rattle.package_names.proofs.WorldItemNamesAreMet.{function-there, parameters-met, parameters-refused}
use Rattle.package_names.proofs.distinct.distinct_item.Goals as goal

pub signature-requires : goal.signature-requires
signature-requires c =
    let r = c.args.resolve.now in
    function-there c.args.place (function_of (slice_get r.definitions c.in-Function.id.0))
    (subst (λ k. IsTrue (is_placed_item r.definitions (length r.interfaces) c.args.place k)) c.in-Function.is c.requires)

pub returns-in-Function-clause-ok : goal.returns-in-Function-clause-ok
returns-in-Function-clause-ok c =
    let r = c.args.resolve.now in
    parameters-met (interface_names r) (trees r) r.definitions c.args.item.direction c.args.item.kind c.in-Function.id c.in-Function.is c.distinct_parameters.result c.signature.result.now c.signature.ensures
    (rw (sym c.as_slice.ensures) c.distinct_parameters.ensures.ok)

pub returns-in-Function-clause-err : goal.returns-in-Function-clause-err
returns-in-Function-clause-err c =
    let r = c.args.resolve.now in
    parameters-refused (interface_names r) (trees r) r.definitions c.args.item.direction c.args.item.kind c.in-Function.id c.in-Function.is c.distinct_parameters.result c.signature.result.now c.signature.ensures
    (rw (sym c.as_slice.ensures) c.distinct_parameters.ensures.err)
