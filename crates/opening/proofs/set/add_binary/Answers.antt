-- A binary's package is added where it is decoded and stands in the set, and makes one set.
use Rattle.std.proofs.lemmas.Result.{err_from_is_err_and}
use Rattle.opening.proofs.OneInputAdded.{adds-binary, component-added, binary-refuses, wants}
use Rattle.opening.proofs.set.add_binary.Goals as goal

pub returns-in_err-add_raw-clause-err : goal.returns-in_err-add_raw-clause-err
returns-in_err-add_raw-clause-err c =
    let p = err_from_is_err_and c.from_residual-in_err-add_raw.result c.from_residual-in_err-add_raw.ensures.1 in
    rw (p.1, p.2) (binary-refuses c.args.set.now.resolve c.args.bytes.now c.requires.binary c.in_ok-raw.raw c.in_ok-raw.ensures.exact c.requires.room c.in_err-add_raw.field-0.0 c.in_err-add_raw.ensures.err)

pub returns-in_err-add_raw-clause-only : goal.returns-in_err-add_raw-clause-only
returns-in_err-add_raw-clause-only c = λ closed r h.
    let p = err_from_is_err_and c.from_residual-in_err-add_raw.result c.from_residual-in_err-add_raw.ensures.1 in
    let a = component-added c.args.set.now.resolve c.args.bytes.now c.requires.binary c.in_ok-raw.raw c.in_ok-raw.ensures.exact closed r h in
    rw (p.1, p.2) (wants c.in_err-add_raw.field-0.0 (c.in_err-add_raw.ensures.only closed r h.puts.id a))

pub returns-clause-ok : goal.returns-clause-ok
returns-clause-ok c =
    let added = c.in_ok-add_raw.ensures.ok in
    (_, adds-binary c.args.set.now.resolve c.args.bytes.now c.requires.binary c.in_ok-raw.raw c.in_ok-raw.ensures.exact added.closed _ _ added.adds added.writable)

pub returns-clause-only : goal.returns-clause-only
returns-clause-only c = λ closed r h.
    c.in_ok-add_raw.ensures.only closed r h.puts.id (component-added c.args.set.now.resolve c.args.bytes.now c.requires.binary c.in_ok-raw.raw c.in_ok-raw.ensures.exact closed r h)
