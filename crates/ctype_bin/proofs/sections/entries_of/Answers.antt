use Rattle.std.proofs.Common.{◌≡◌, ◌++◌, ◌∷◌, [], map}
use Rattle.std.proofs.lemmas.Result.{err_from_is_err_and}
use Rattle.std.proofs.lemmas.List.{map_push}
use Rattle.ctype_format.specs.File.{entry_of_type}
use Rattle.ctype_format.specs.View.{type_view}
use Rattle.ctype_bin.proofs.ReadsExactly.ItemLoopsWithState.{goes_on, ends, is_done}
use Rattle.ctype_bin.proofs.sections.entries_of.Goals as goal

pub returns-in_err-ty : goal.returns-in_err-ty
returns-in_err-ty c =
    let p = err_from_is_err_and c.from_residual.result c.from_residual.ensures.1 in
    rw (p.1, p.2) (ends entry_of_type c.in_err-ty.field-0.0 (map type_view c.loop.types.items) c.args.count c.loop.counter c.loop.scope c.loop.rest.now _ c.loop-test.true c.in_err-ty.ensures.reads c.loop.invariant.so_far)

pub loop-preserved : goal.loop-preserved
loop-preserved c =
    let d = c.in_ok-ty.ty in
    let e : map type_view c.push.new.self.items ≡ map type_view c.loop.types.items ++ type_view d ∷ [] = rw c.in_ok-push.ensures.items (map_push _ c.loop.types.items d) in
    record {
      within = c.in_ok-ty.ensures.within;
      so_far = rw e (goes_on entry_of_type (map type_view c.loop.types.items) c.args.count c.loop.counter c.loop.scope c.loop.rest.now ((type_view d, c.in_ok-ty.after), c.in_ok-ty.behind.now) _ c.loop-test.true c.in_ok-ty.ensures.reads c.loop.invariant.so_far);
    }

pub returns : goal.returns
returns c = is_done entry_of_type (map type_view c.loop.types.items) c.args.count c.loop.counter c.loop.scope c.loop.rest.now _ c.loop-test.false c.loop.invariant.so_far
