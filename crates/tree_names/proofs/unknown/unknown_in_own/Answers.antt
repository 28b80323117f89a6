use Rattle.std.proofs.Common.{inr, refl}
use Rattle.tree_scopes.specs.Sources.{declared_tree}
use Rattle.tree_names.proofs.unknown.unknown_in_own.Goals as goal

pub returns-else-has-clause-some : goal.returns-else-has-clause-some
returns-else-has-clause-some c =
    let d = c.in-Some.declared.now in
    inr (refl, (declared_tree d, c.in-Some.ensures.some.0, c.in-Some.ensures.some.1, λ h. let known = c.has.ensures.1 h in absurd (cc (known, c.if-has.false))))

pub returns-then-has-clause-none : goal.returns-then-has-clause-none
returns-then-has-clause-none c =
    let d = c.in-Some.declared.now in
    (declared_tree d, c.in-Some.ensures.some.0, c.in-Some.ensures.some.1, c.has.ensures.0 c.if-has.true)
