use Rattle.std.proofs.Common.{◌≡◌, ◌++◌, ◌∷◌, [], map}
use Rattle.std.proofs.lemmas.Result.{err_from_is_err_and}
use Rattle.std.proofs.lemmas.List.{map_push}
use Rattle.ctype_format.specs.File.{exported}
use Rattle.ctype_format.specs.View.{export_view}
use Rattle.ctype_bin.proofs.ReadsExactly.ItemLoops.{goes_on, ends, is_done}
use Rattle.ctype_bin.proofs.sections.exports_of.Goals as goal

pub returns-in_err-export : goal.returns-in_err-export
returns-in_err-export c =
    let p = err_from_is_err_and c.from_residual.result c.from_residual.ensures.1 in
    rw (p.1, p.2) (ends (exported c.args.types) c.in_err-export.field-0.0 (map export_view c.loop.exports.items) c.args.count c.loop.counter c.loop.rest.now _ c.loop-test.true c.in_err-export.ensures c.loop.invariant)

pub loop-preserved : goal.loop-preserved
loop-preserved c =
    let n = c.in_ok-export.export in
    let e : map export_view c.push.new.self.items ≡ map export_view c.loop.exports.items ++ export_view n ∷ [] = rw c.in_ok-push.ensures.items (map_push _ c.loop.exports.items n) in
    rw e (goes_on (exported c.args.types) (map export_view c.loop.exports.items) c.args.count c.loop.counter c.loop.rest.now (export_view n, c.in_ok-export.behind.now) _ c.loop-test.true c.in_ok-export.ensures c.loop.invariant)

pub returns : goal.returns
returns c = is_done (exported c.args.types) (map export_view c.loop.exports.items) c.args.count c.loop.counter c.loop.rest.now _ c.loop-test.false c.loop.invariant
