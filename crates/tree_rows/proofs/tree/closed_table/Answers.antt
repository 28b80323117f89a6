use Rattle.std.proofs.Common.{subst, Err, IfOk, IfErr}
use Rattle.std.proofs.lemmas.Result.{err_from_is_err_and}
use Rattle.wit_tokens.specs.View.{file_view}
use Rattle.tables.specs.declared.tables.Resolve.{Resolve}
use Rattle.tree_meaning.specs.Imports.{imports_of}
use Rattle.tree_meaning.specs.Resolves.{IsClosedPackageOf, HasNoFaultsOf, ResolveRefusesOf}
use Rattle.tree_meaning.proofs.PackageOfAFile.{ok-map}
use Rattle.tree_meaning.proofs.tree_forms.TablesAreClosed.{closes}
use Rattle.tree_meaning.proofs.tree_forms.FailsOnlyForMemory.{answers-behind}
use Rattle.tree_meaning.proofs.tree_forms.PackageScopes.{has-distinct-names}
use Rattle.tree_meaning.proofs.tree_forms.ResolvedTreesAreInForm.{has-form}
use Rattle.tree_rows.proofs.tree.closed_table.Goals as goal

pub returns-in_err-all-clause-err : goal.returns-in_err-all-clause-err
returns-in_err-all-clause-err c =
    let p = err_from_is_err_and c.from_residual-in_err-all.result c.from_residual-in_err-all.ensures.1 in
    let e = c.in_err-all.field-0.0 in
    rw (p.1, p.2) (subst (λ (r : Resolve). ResolveRefusesOf (imports_of r) (file_view c.args.ast.now) e) c.in_ok-indexed.ensures.table c.in_err-all.ensures.err)

pub returns-clause-err : goal.returns-clause-err
returns-clause-err c =
    subst (λ (r : Resolve). IfErr c.defined.result (ResolveRefusesOf (imports_of r) (file_view c.args.ast.now))) c.in_ok-indexed.ensures.table c.defined.ensures.err

pub returns-clause-form : goal.returns-clause-form
returns-clause-form c =
    let f = file_view c.args.ast.now in
    let ok = subst (λ (r : Resolve). IfOk c.defined.result (IsClosedPackageOf r f)) c.in_ok-indexed.ensures.table c.defined.ensures.ok in
    let faults = subst (λ (r : Resolve). HasNoFaultsOf (imports_of r) f) c.in_ok-indexed.ensures.table c.in_ok-all.ensures.faults in
    ok-map c.defined.result _ _ (λ r p. λ named. has-form c.args.imports.now f r c.requires faults named p) ok

pub returns-clause-closed : goal.returns-clause-closed
returns-clause-closed c =
    let f = file_view c.args.ast.now in
    let ok = subst (λ (r : Resolve). IfOk c.defined.result (IsClosedPackageOf r f)) c.in_ok-indexed.ensures.table c.defined.ensures.ok in
    let faults = subst (λ (r : Resolve). HasNoFaultsOf (imports_of r) f) c.in_ok-indexed.ensures.table c.in_ok-all.ensures.faults in
    ok-map c.defined.result _ _ (λ r p. λ named reach. closes c.args.imports.now f r c.requires faults named p reach) ok

pub returns-clause-distinct : goal.returns-clause-distinct
returns-clause-distinct c =
    let f = file_view c.args.ast.now in
    let ok = subst (λ (r : Resolve). IfOk c.defined.result (IsClosedPackageOf r f)) c.in_ok-indexed.ensures.table c.defined.ensures.ok in
    let faults = subst (λ (r : Resolve). HasNoFaultsOf (imports_of r) f) c.in_ok-indexed.ensures.table c.in_ok-all.ensures.faults in
    ok-map c.defined.result _ _ (λ r p. λ named. has-distinct-names c.args.imports.now f r c.requires faults named p) ok

pub returns-in_err-indexed-clause-only : goal.returns-in_err-indexed-clause-only
returns-in_err-indexed-clause-only c =
    let p = err_from_is_err_and c.from_residual.result c.from_residual.ensures.1 in
    rw (p.1, p.2) (answers-behind c.args.imports.now (file_view c.args.ast.now) (Err _) c.requires.apart tt tt)

pub returns-in_err-all-clause-only : goal.returns-in_err-all-clause-only
returns-in_err-all-clause-only c =
    let p = err_from_is_err_and c.from_residual-in_err-all.result c.from_residual-in_err-all.ensures.1 in
    let e = c.in_err-all.field-0.0 in
    let refused = subst (λ (r : Resolve). ResolveRefusesOf (imports_of r) (file_view c.args.ast.now) e) c.in_ok-indexed.ensures.table c.in_err-all.ensures.err in
    rw (p.1, p.2) (answers-behind c.args.imports.now (file_view c.args.ast.now) (Err e) c.requires.apart tt refused)

pub returns-clause-only : goal.returns-clause-only
returns-clause-only c =
    let f = file_view c.args.ast.now in
    let ok = subst (λ (r : Resolve). IfOk c.defined.result (IsClosedPackageOf r f)) c.in_ok-indexed.ensures.table c.defined.ensures.ok in
    let err = subst (λ (r : Resolve). IfErr c.defined.result (ResolveRefusesOf (imports_of r) f)) c.in_ok-indexed.ensures.table c.defined.ensures.err in
    answers-behind c.args.imports.now f c.defined.result c.requires.apart ok err
