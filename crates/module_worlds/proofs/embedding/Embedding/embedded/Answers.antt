use Rattle.std.proofs.Common.{length, sym, ◌∙◌}
use Rattle.std.proofs.lemmas.Bool.{eqb-true}
use Rattle.core_modules.specs.Module.{module_view}
use Rattle.module_worlds.proofs.embedding.Embedding.embedded.Goals as goal

pub returns-then-branch-clause-fits : goal.returns-then-branch-clause-fits
returns-then-branch-clause-fits c =
    let none = eqb-true (length c.in_ok-misfits.misfits.items) 0 (rw c.as_slice.ensures.value at (sym c.is_empty.ensures ∙ c.if-not-is_empty.false)) in
    (module_view c.in_ok-module.module, c.in_ok-module.ensures, λ laid. c.in_ok-misfits.ensures laid none)

pub returns-clause-fits : goal.returns-clause-fits
returns-clause-fits c =
    let none = eqb-true (length c.in_ok-misfits.misfits.items) 0 (rw c.as_slice.ensures.value at (sym c.is_empty.ensures ∙ c.if-not-is_empty.false)) in
    (module_view c.in_ok-module.module, c.in_ok-module.ensures, λ laid. c.in_ok-misfits.ensures laid none)
