-- The closed table is in form, and the only one; the tree is refused for what is wrong behind the imports.
use Rattle.std.proofs.Common.{List, All, subst}
use Rattle.std.proofs.Math.Logic.{∥∥₁_elim, ∥∥₁_map₂}
use Rattle.std.proofs.lemmas.Result.{err_from_is_err_and}
use Rattle.package_form.specs.Laws.{IsLabelled}
use Rattle.package_sets.proofs.SamePackagesAreOne.{same-is-prop}
use Rattle.tables.specs.declared.tables.Interface.{Interface}
use Rattle.wit_tokens.specs.View.{file_view}
use Rattle.package_adding.proofs.ClosedTableOfFileIsAdded.{cause-stands, in-form, distinct-scopes}
use Rattle.package_adding.proofs.BeginningsAreImports.{tree-is-behind}
use Rattle.package_adding.proofs.ImportsFromSets.{are-imports}
use Rattle.package_adding.proofs.OneSetOrOutOfMemory.{one-imports, has-closed}
use Rattle.package_adding.proofs.tree.closed_over.Goals as goal

pub closed_table-requires : goal.closed_table-requires
closed_table-requires c =
    let n = c.in_ok-imports.ensures.from in
    are-imports c.args.set.now n.packages n.interfaces c.in_ok-imports.imports n.are c.requires.form

pub returns-clause-ok : goal.returns-clause-ok
returns-clause-ok c = record {
  imports = c.in_ok-imports.imports;
  from = c.in_ok-imports.ensures.from;
  faults = c.in_ok-closed.ensures.faults;
  resolved = c.in_ok-closed.ensures.ok;
}

pub returns-clause-form : goal.returns-clause-form
returns-clause-form c =
    let labels = subst (λ (is : List Interface). All IsLabelled is) c.as_slice.ensures c.are_labelled.ensures in
    in-form (file_view c.args.ast.now) c.args.set.now c.in_ok-imports.imports c.in_ok-imports.ensures.from c.requires.form c.in_ok-imports.ensures.labels c.names_are_full.ensures c.requires.new labels c.requires.room
    c.in_ok-closed.closed c.in_ok-closed.ensures.faults c.in_ok-closed.ensures.closed c.in_ok-closed.ensures.form

pub returns-clause-distinct : goal.returns-clause-distinct
returns-clause-distinct c =
    distinct-scopes (file_view c.args.ast.now) c.args.set.now c.in_ok-imports.imports c.in_ok-imports.ensures.from c.requires.form c.in_ok-imports.ensures.labels c.names_are_full.ensures c.requires.new
    c.in_ok-closed.closed c.in_ok-closed.ensures.distinct

pub returns-clause-only : goal.returns-clause-only
returns-clause-only c = λ p h w fits.
    let f = file_view c.args.ast.now in
    let t = c.in_ok-imports.imports in
    let same = one-imports c.imports_one.ensures f c.args.set.now t h.imports c.in_ok-imports.ensures.from h.from in
    let has = has-closed f c.args.set.now t p h same fits in
    let answer = c.in_ok-closed.closed in
    let writable = ∥∥₁_map₂ (returns-clause-form c) (returns-clause-distinct c) (λ form distinct. record { form = form; distinct = distinct; labels = c.names_are_labels.ensures }) in
    ∥∥₁_elim writable (same-is-prop answer p) (λ v. ∥∥₁_elim w (same-is-prop answer p) (λ u. c.tree_has_one_closed_table.ensures f t answer p v u c.in_ok-closed.ensures.ok has.resolved))

pub returns-in_err-closed-clause-only : goal.returns-in_err-closed-clause-only
returns-in_err-closed-clause-only c = λ p h w fits.
    let f = file_view c.args.ast.now in
    let t = c.in_ok-imports.imports in
    let same = one-imports c.imports_one.ensures f c.args.set.now t h.imports c.in_ok-imports.ensures.from h.from in
    let e = err_from_is_err_and c.from_residual-in_err-closed.result c.from_residual-in_err-closed.ensures.1 in
    rw (e.1, e.2) (c.in_err-closed.ensures.only p (has-closed f c.args.set.now t p h same fits))

pub returns-in_err-closed-clause-err : goal.returns-in_err-closed-clause-err
returns-in_err-closed-clause-err c =
    let e = err_from_is_err_and c.from_residual-in_err-closed.result c.from_residual-in_err-closed.ensures.1 in
    rw (e.1, e.2) (cause-stands (file_view c.args.ast.now) c.args.set.now c.in_err-closed.field-0.0 (record { imports = c.in_ok-imports.imports; from = c.in_ok-imports.ensures.from; refused = c.in_err-closed.ensures.err }))

pub returns-clause-behind : goal.returns-clause-behind
returns-clause-behind c =
    tree-is-behind (file_view c.args.ast.now) c.args.set.now c.in_ok-closed.closed (returns-clause-ok c) c.requires.form (returns-clause-form c) (returns-clause-distinct c) c.names_are_labels.ensures
