-- A component's package is put behind the set for what is right with it there, and makes one set.
use Rattle.std.proofs.lemmas.Result.{err_from_is_err_and}
use Rattle.package_adding.proofs.OneSetOrOutOfMemory.{one-component, component-for-memory, component-refused, makes-one, is-known}
use Rattle.package_adding.proofs.NotAttachedIsNotAdded.{not-read, not-attached}
use Rattle.package_adding.proofs.set.PackageSet.add_raw.Goals as goal

pub returns-in_err-closed-clause-err : goal.returns-in_err-closed-clause-err
returns-in_err-closed-clause-err c =
    let p = err_from_is_err_and c.from_residual-in_err-closed.result c.from_residual-in_err-closed.ensures.1 in
    rw (p.1, p.2) (not-read c.args.raw.now c.args.self.now.resolve c.in_ok-has_room.ensures.ok c.in_err-closed.field-0.0 c.in_err-closed.ensures.err)

pub returns-in_err-id-clause-err : goal.returns-in_err-id-clause-err
returns-in_err-id-clause-err c =
    let p = err_from_is_err_and c.from_residual-in_err-id.result c.from_residual-in_err-id.ensures.1 in
    rw (p.1, p.2) (not-attached c.args.raw.now c.args.self.now.resolve c.in_ok-closed.closed (record { stands = c.in_ok-closed.ensures.ok; distinct = c.in_ok-closed.ensures.distinct }) c.in_err-id.field-0.0 c.in_err-id.ensures.err)

pub returns-in_err-id-clause-only : goal.returns-in_err-id-clause-only
returns-in_err-id-clause-only c = λ closed r id h.
    let p = err_from_is_err_and c.from_residual-in_err-id.result c.from_residual-in_err-id.ensures.1 in
    let same = one-component c.args.raw.now closed h.component c.in_ok-closed.closed c.in_ok-closed.ensures.only in
    rw (p.1, p.2) (component-refused c.args.self.now.resolve closed r id h.attached h.behind c.in_ok-closed.closed same c.in_err-id.field-0.0 c.in_err-id.ensures.err)

pub returns-in_err-closed-clause-only : goal.returns-in_err-closed-clause-only
returns-in_err-closed-clause-only c = λ closed r id h.
    let p = err_from_is_err_and c.from_residual-in_err-closed.result c.from_residual-in_err-closed.ensures.1 in
    rw (p.1, p.2) (component-for-memory c.args.raw.now closed h.component c.in_err-closed.field-0.0 c.in_err-closed.ensures.only)

pub returns-clause-ok : goal.returns-clause-ok
returns-clause-ok c = record {
  closed = c.in_ok-closed.closed;
  adds = record {
    component = record { stands = c.in_ok-closed.ensures.ok; distinct = c.in_ok-closed.ensures.distinct };
    behind = c.in_ok-id.ensures.behind;
    attached = c.in_ok-id.ensures.ok;
  };
  table = c.in_ok-id.ensures.again;
  writable = ∣ record { form = c.in_ok-closed.ensures.form; distinct = c.in_ok-closed.ensures.distinct; labels = c.names_are_labels.ensures } ∣₁;
  only = λ other new j h. one-component c.args.raw.now other h.component c.in_ok-closed.closed c.in_ok-closed.ensures.only;
}

pub returns-clause-known : goal.returns-clause-known
returns-clause-known c = is-known c.args.self.now.resolve c.in_ok-closed.closed _ _ c.in_ok-id.ensures.ok

pub returns-clause-only : goal.returns-clause-only
returns-clause-only c = λ closed r id h.
    let same = one-component c.args.raw.now closed h.component c.in_ok-closed.closed c.in_ok-closed.ensures.only in
    makes-one c.args.self.now.resolve closed r id h.attached c.attaches_one.ensures c.in_ok-closed.closed same _ _ c.in_ok-id.ensures.ok
