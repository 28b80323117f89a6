-- A tree's package is not put behind the set where memory is wanting alone, and makes one set.
use Rattle.std.proofs.Math.Logic.{∥∥₁_map, ∥∥₁_map₂}
use Rattle.std.proofs.lemmas.Result.{err_from_is_err_and}
use Rattle.wit_tokens.specs.View.{file_view}
use Rattle.package_adding.proofs.ClosedTableOfFileIsAdded.{not-resolved, not-put}
use Rattle.package_adding.proofs.OneSetOrOutOfMemory.{want, refused-for-memory, makes-one, is-known}
use Rattle.package_adding.proofs.set.PackageSet.add_ast.Goals as goal

pub returns-in_err-closed-clause-err : goal.returns-in_err-closed-clause-err
returns-in_err-closed-clause-err c =
    let p = err_from_is_err_and c.from_residual-in_err-closed.result c.from_residual-in_err-closed.ensures.1 in
    rw (p.1, p.2) (not-resolved (file_view c.args.ast.now) c.args.self.now.resolve c.in_ok-has_room.ensures.ok c.in_ok-has_entries.ensures.ok c.in_ok-lacks_package.ensures.ok c.in_err-closed.field-0.0 c.in_err-closed.ensures.err)

pub returns-in_err-id-clause-err : goal.returns-in_err-id-clause-err
returns-in_err-id-clause-err c =
    let p = err_from_is_err_and c.from_residual-in_err-id.result c.from_residual-in_err-id.ensures.1 in
    rw (p.1, p.2) (not-put (file_view c.args.ast.now) c.args.self.now.resolve c.in_ok-closed.closed c.in_ok-closed.ensures.ok (∥∥₁_map c.args.self.now.tower (λ t. t.form)) c.in_ok-lacks_package.ensures.ok c.in_err-id.field-0.0 c.in_err-id.ensures.err)

pub returns-clause-only : goal.returns-clause-only
returns-clause-only c = λ closed r id h w fits.
    let same = c.in_ok-closed.ensures.only closed h.tree w fits in
    makes-one c.args.self.now.resolve closed r id h.attached c.attaches_one.ensures c.in_ok-closed.closed same _ _ c.in_ok-id.ensures.ok

pub returns-clause-ok : goal.returns-clause-ok
returns-clause-ok c = record {
  closed = c.in_ok-closed.closed;
  adds = record { tree = c.in_ok-closed.ensures.ok; attached = c.in_ok-id.ensures.ok };
  table = c.in_ok-id.ensures.again c.in_ok-closed.ensures.behind;
  writable = ∥∥₁_map₂ c.in_ok-closed.ensures.form c.in_ok-closed.ensures.distinct (λ form distinct. record { form = form; distinct = distinct; labels = c.in_ok-closed.ensures.labels });
  behind = c.in_ok-closed.ensures.behind;
  fits = c.in_ok-closed.ensures.fits;
  only = λ other new j h w. c.in_ok-closed.ensures.only other h.tree w c.in_ok-closed.ensures.fits;
}

pub returns-clause-known : goal.returns-clause-known
returns-clause-known c = is-known c.args.self.now.resolve c.in_ok-closed.closed _ _ c.in_ok-id.ensures.ok

pub returns-in_err-closed-clause-only : goal.returns-in_err-closed-clause-only
returns-in_err-closed-clause-only c = λ closed r id h w fits.
    let p = err_from_is_err_and c.from_residual-in_err-closed.result c.from_residual-in_err-closed.ensures.1 in
    rw (p.1, p.2) (want c.in_err-closed.field-0.0 (c.in_err-closed.ensures.only closed h.tree w fits))

pub returns-in_err-id-clause-only : goal.returns-in_err-id-clause-only
returns-in_err-id-clause-only c = λ closed r id h w fits.
    let p = err_from_is_err_and c.from_residual-in_err-id.result c.from_residual-in_err-id.ensures.1 in
    let same = c.in_ok-closed.ensures.only closed h.tree w fits in
    rw (p.1, p.2) (refused-for-memory c.args.self.now.resolve closed r id h.attached c.in_ok-closed.closed same c.in_err-id.field-0.0 c.in_err-id.ensures.err)

pub closed_over-requires-clause-form : goal.closed_over-requires-clause-form
closed_over-requires-clause-form c = ∥∥₁_map c.args.self.now.tower (λ t. t.form)
