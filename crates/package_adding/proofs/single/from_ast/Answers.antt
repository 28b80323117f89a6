-- What is added to no package, in the words for a package that names no other.
use Rattle.std.proofs.Common.{sym, subst, All}
use Rattle.std.proofs.lemmas.Result.{err_from_is_err_and}
use Rattle.atoms.specs.Label.{IsLabel}
use Rattle.package_text.specs.Writable.{package_labels}
use Rattle.tables.specs.Same.{IsSamePackage}
use Rattle.tables.specs.declared.tables.Resolve.{Resolve}
use Rattle.wit_tokens.specs.View.{file_view}
use Rattle.package_adding.specs.Alone.{IsFileAlone}
use Rattle.package_adding.proofs.PackagesAddedAlone.{file-alone, file-writable, file-added, file-refused}
use Rattle.package_adding.proofs.single.from_ast.Goals as goal

pub returns-clause-ok : goal.returns-clause-ok
returns-clause-ok c =
    let f = file_view c.args.ast.now in
    let a = c.in_ok-add_ast.ensures.ok in
    let labels = subst (λ (r : Resolve). All IsLabel (package_labels r)) c.into_resolve-package.ensures c.names_are_labels.ensures in
    subst (IsFileAlone f) (sym c.into_resolve-package.ensures) (file-alone c.new-set.result.resolve c.new-set.ensures f a.closed c.add_ast.new.self.resolve c.in_ok-add_ast.field-0.0 a.adds a.behind a.writable a.fits labels)

pub returns-clause-writable : goal.returns-clause-writable
returns-clause-writable c = file-writable c.new-set.result.resolve c.new-set.ensures (file_view c.args.ast.now) c.into_resolve-package.result c.names_are_full.ensures (returns-clause-ok c)

pub returns-clause-only : goal.returns-clause-only
returns-clause-only c = λ r h.
    let f = file_view c.args.ast.now in
    let none = c.new-set.result.resolve in
    let e = c.new-set.ensures in
    subst (λ (x : Resolve). IsSamePackage x r) (sym c.into_resolve-package.ensures) (c.in_ok-add_ast.ensures.only r r 0 (file-added none e f r c.names_are_full.ensures h) (file-writable none e f r c.names_are_full.ensures h) h.fits)

pub returns-in_err-add_ast-clause-err : goal.returns-in_err-add_ast-clause-err
returns-in_err-add_ast-clause-err c =
    let p = err_from_is_err_and c.from_residual.result c.from_residual.ensures.1 in
    rw (p.1, p.2) (file-refused c.new-set.result.resolve c.new-set.ensures (file_view c.args.ast.now) c.in_err-add_ast.field-0.0 c.in_err-add_ast.ensures.err)

pub returns-in_err-add_ast-clause-only : goal.returns-in_err-add_ast-clause-only
returns-in_err-add_ast-clause-only c = λ r h.
    let f = file_view c.args.ast.now in
    let none = c.new-set.result.resolve in
    let e = c.new-set.ensures in
    let p = err_from_is_err_and c.from_residual.result c.from_residual.ensures.1 in
    rw (p.1, p.2) (c.in_err-add_ast.ensures.only r r 0 (file-added none e f r c.names_are_full.ensures h) (file-writable none e f r c.names_are_full.ensures h) h.fits)
