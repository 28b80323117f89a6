use Rattle.std.proofs.Common.{flat_map, sym}
use Rattle.std.proofs.lemmas.Result.{err_from_is_err_and}
use Rattle.tables.specs.Package.{worlds}
use Rattle.package_form.specs.Naming.{interface_labels_of, world_labels_of, interfaces_scopes, world_scopes}
use Rattle.package_form.proofs.NamesMetInEachPackage.{refuses-wider}
use Rattle.package_form.proofs.ScopesAreDistinct.{all-met, all-refused}
use Rattle.package_names.proofs.distinct.distinct_names.Goals as goal

pub meet_interfaces-requires-clause-grouped : goal.meet_interfaces-requires-clause-grouped
meet_interfaces-requires-clause-grouped c = rw (c.as_slice-packages.ensures, c.as_slice-interfaces.ensures) c.args.resolve.now.grouped

pub distinct_worlds-requires : goal.distinct_worlds-requires
distinct_worlds-requires c = rw (sym c.as_slice-packages.ensures) c.in_ok-scopes.ensures.names.counted

pub returns-in_err-scopes-clause-err : goal.returns-in_err-scopes-clause-err
returns-in_err-scopes-clause-err c =
    let r = c.args.resolve.now in
    let p = err_from_is_err_and c.from_residual.result c.from_residual.ensures.1 in
    rw (p.1, p.2) (refuses-wider (interface_labels_of r.interfaces) (world_labels_of r.worlds) r.packages (interfaces_scopes r.definitions 0 r.interfaces) (flat_map world_scopes (worlds r)) c.in_err-scopes.field-0.0
    (rw (sym c.as_slice-packages.ensures, sym c.as_slice-rows.ensures, sym c.as_slice-interfaces.ensures) c.in_err-scopes.ensures.err))

pub returns-clause-ok : goal.returns-clause-ok
returns-clause-ok c =
    let r = c.args.resolve.now in
    all-met c.distinct_worlds.result (interface_labels_of r.interfaces) (world_labels_of r.worlds) r.packages (interfaces_scopes r.definitions 0 r.interfaces) (flat_map world_scopes (worlds r)) c.in_ok-scopes.scopes.items
    (rw (sym c.as_slice-packages.ensures, sym c.as_slice-interfaces.ensures) c.in_ok-scopes.ensures.names) (rw (sym c.as_slice-rows.ensures, sym c.as_slice-interfaces.ensures) c.in_ok-scopes.ensures.parts)
    c.distinct_worlds.ensures.ok c.distinct_worlds.ensures.parts

pub returns-clause-err : goal.returns-clause-err
returns-clause-err c =
    let r = c.args.resolve.now in
    all-refused c.distinct_worlds.result (interface_labels_of r.interfaces) (world_labels_of r.worlds) r.packages (interfaces_scopes r.definitions 0 r.interfaces) (flat_map world_scopes (worlds r)) c.in_ok-scopes.scopes.items
    (rw (sym c.as_slice-packages.ensures, sym c.as_slice-interfaces.ensures) c.in_ok-scopes.ensures.names) c.distinct_worlds.ensures.err
