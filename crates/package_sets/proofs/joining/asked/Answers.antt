use Rattle.std.proofs.Common.{◌≡◌, ◌∙◌, ◌+◌, List, ℕ, [], ap, sym, subst, take, replicate, arith, length}
use Rattle.package_form.proofs.NamesMetOneByOne.{all-taken, take-more}
use Rattle.package_sets.specs.Asking.{AsksFor}
use Rattle.package_sets.proofs.FoundImports.AskedOneByOne.{asks-nothing}
use Rattle.tables.specs.declared.tables.Interface.{Interface}
use Rattle.package_sets.proofs.joining.asked.Goals as goal

pub loop-import-init : goal.loop-import-init
loop-import-init c = asks-nothing c.args.set.now c.args.closed.now c.in_ok-asked.asked (c.in_ok-asked.ensures ∙ ap (λ (n : ℕ). replicate n []) c.len.ensures)

pub loop-import-preserved : goal.loop-import-preserved
loop-import-preserved c =
    let is = c.args.imports.now in
    let k = c.loop-import.import-index in
    subst (λ (js : List Interface). AsksFor c.args.set.now c.args.closed.now js c.ask.new.asked) (sym (take-more is k c.import-item.result c.loop-import-test.true c.import-item.is))
    (c.in_ok-ask.ensures (take k is) c.loop-import.invariant)
