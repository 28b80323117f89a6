-- A text's package is added where it is read and stands in the set, and makes one set.
use Rattle.std.proofs.Common.{sym, subst}
use Rattle.std.proofs.lemmas.Result.{err_from_is_err_and}
use Rattle.wit_tokens.specs.View.{file_view}
use Rattle.wit_text.specs.Reading.{IsRead, FaultyText}
use Rattle.opening.proofs.OneInputAdded.{adds-text, of-member, tree-added, text-refuses, no-text, not-read, not-long, wants}
use Rattle.opening.proofs.LastPackageAsText.{read-tree, only-memory}
use Rattle.opening.proofs.set.add_text.Goals as goal

pub returns-in_err-text-clause-err : goal.returns-in_err-text-clause-err
returns-in_err-text-clause-err c =
    let p = err_from_is_err_and c.from_residual.result c.from_residual.ensures.1 in
    rw (p.1, p.2) (no-text c.args.set.now.resolve c.args.bytes.now c.requires.text c.requires.room c.in_err-text.field-0.0 c.in_err-text.ensures.err)

pub returns-in_err-text-clause-only : goal.returns-in_err-text-clause-only
returns-in_err-text-clause-only c = λ closed r h. absurd (not-long c.args.set.now.resolve c.args.bytes.now c.requires.text closed r h c.in_err-text.ensures.refused)

pub returns-in_err-ast-clause-err : goal.returns-in_err-ast-clause-err
returns-in_err-ast-clause-err c =
    let p = err_from_is_err_and c.from_residual-in_err-ast.result c.from_residual-in_err-ast.ensures.1 in
    let e = c.in_err-ast.field-0.0 in
    rw (p.1, p.2) (not-read c.args.set.now.resolve c.args.bytes.now c.requires.text c.requires.room c.in_ok-text.ensures.utf8 e (subst (λ t. FaultyText t e) c.in_ok-text.ensures.ok c.in_err-ast.ensures.fault))

pub returns-in_err-ast-clause-only : goal.returns-in_err-ast-clause-only
returns-in_err-ast-clause-only c = λ closed r h.
    let p = err_from_is_err_and c.from_residual-in_err-ast.result c.from_residual-in_err-ast.ensures.1 in
    let t = of-member c.args.set.now.resolve c.args.bytes.now c.requires.text closed r h in
    rw (p.1, p.2) (only-memory _ t.file (c.in_err-ast.ensures.only t.file (subst (λ x. IsRead x t.file) (sym c.in_ok-text.ensures.ok) t.read)))

pub returns-in_err-add_ast-clause-err : goal.returns-in_err-add_ast-clause-err
returns-in_err-add_ast-clause-err c =
    let p = err_from_is_err_and c.from_residual-in_err-add_ast.result c.from_residual-in_err-add_ast.ensures.1 in
    let f = file_view c.in_ok-ast.ast in
    let read = subst (λ t. IsRead t f) c.in_ok-text.ensures.ok c.in_ok-ast.ensures.found in
    rw (p.1, p.2) (text-refuses c.args.set.now.resolve c.args.bytes.now c.requires.text c.requires.room f c.in_ok-text.ensures.utf8 read c.in_err-add_ast.field-0.0 c.in_err-add_ast.ensures.err)

pub returns-in_err-add_ast-clause-only : goal.returns-in_err-add_ast-clause-only
returns-in_err-add_ast-clause-only c = λ closed r h.
    let p = err_from_is_err_and c.from_residual-in_err-add_ast.result c.from_residual-in_err-add_ast.ensures.1 in
    let t = of-member c.args.set.now.resolve c.args.bytes.now c.requires.text closed r h in
    let f = file_view c.in_ok-ast.ast in
    let same = read-tree t.file f (c.in_ok-ast.ensures.only t.file (subst (λ x. IsRead x t.file) (sym c.in_ok-text.ensures.ok) t.read)) in
    let a = tree-added c.args.set.now.resolve c.args.bytes.now c.requires.text closed r h f (sym same) in
    rw (p.1, p.2) (wants c.in_err-add_ast.field-0.0 (c.in_err-add_ast.ensures.only closed r h.puts.id a.0 h.puts.writable a.1))

pub returns-clause-ok : goal.returns-clause-ok
returns-clause-ok c =
    let f = file_view c.in_ok-ast.ast in
    let read = subst (λ t. IsRead t f) c.in_ok-text.ensures.ok c.in_ok-ast.ensures.found in
    let added = c.in_ok-add_ast.ensures.ok in
    (_, adds-text c.args.set.now.resolve c.args.bytes.now c.requires.text f added.closed _ _ c.in_ok-text.ensures.utf8 read added.fits added.adds added.writable added.behind)

pub returns-clause-only : goal.returns-clause-only
returns-clause-only c = λ closed r h.
    let t = of-member c.args.set.now.resolve c.args.bytes.now c.requires.text closed r h in
    let f = file_view c.in_ok-ast.ast in
    let same = read-tree t.file f (c.in_ok-ast.ensures.only t.file (subst (λ x. IsRead x t.file) (sym c.in_ok-text.ensures.ok) t.read)) in
    let a = tree-added c.args.set.now.resolve c.args.bytes.now c.requires.text closed r h f (sym same) in
    c.in_ok-add_ast.ensures.only closed r h.puts.id a.0 h.puts.writable a.1
