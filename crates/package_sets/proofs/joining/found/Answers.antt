use Rattle.std.proofs.Common.{inr, refl, sym, subst, ◌++◌, ◌∷◌, [], take, ◌+◌, ap, ◌∙◌, arith, List, ℕ}
use Rattle.package_form.proofs.AllAndContains.{all-at}
use Rattle.package_sets.specs.Asking.{AsksForOne}
use Rattle.package_sets.specs.Joining.{AreFound}
use Rattle.package_sets.proofs.GrowingLists.{item-get}
use Rattle.package_sets.proofs.FoundImports.ImportsAreFound.{found-more}
use Rattle.package_sets.proofs.joining.found.Goals as goal

pub returns-in-None-clause-err : goal.returns-in-None-clause-err
returns-in-None-clause-err c =
    inr (refl, λ places f. c.in-None.ensures _ (f.each c.loop-import.import-index c.import-item.result (item-get c.args.imports.now c.loop-import.import-index c.import-item.result (omega arith) c.import-item.is)))

pub loop-import-preserved : goal.loop-import-preserved
loop-import-preserved c =
    subst (λ (ps : List ℕ). AreFound c.args.set.now c.args.closed.now (take (c.loop-import.import-index + 1) c.args.imports.now) ps)
    (sym (c.in_ok-push-in-Some.ensures.items ∙ ap (λ n. c.loop-import.places.items ++ n ∷ []) c.in_ok-id_of-in-Some.ensures.ok))
    (found-more c.args.set.now c.args.closed.now c.args.imports.now c.loop-import.import-index c.import-item.result c.loop-import.places.items c.in-Some.place
    (item-get c.args.imports.now c.loop-import.import-index c.import-item.result (omega arith) c.import-item.is) c.loop-import.invariant c.in-Some.ensures)

pub found_at-requires : goal.found_at-requires
found_at-requires c =
    let is = c.args.imports.now in
    (c.in_ok-asked.asked, c.in_ok-there.ensures, all-at (AsksForOne c.args.set.now c.args.closed.now c.in_ok-asked.asked) is c.loop-import.import-index c.import-item.result c.in_ok-asked.ensures.each c.loop-import-test.true c.import-item.is)
