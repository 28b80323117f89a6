use Rattle.std.proofs.Common.{◌≡◌, true, ap, sym, subst, ◌∙◌}
use Rattle.tables.specs.Labelled.{labelled_type}
use Rattle.package_changes.specs.declared.verdicts.Role.TheVariants as role
use Rattle.package_changes.specs.Alike.{leaves}
use Rattle.package_changes.specs.Judging.{verdict_of}
use Rattle.package_changes.specs.Likeness.{likeness}
use Rattle.package_changes.specs.Verdicts.{alone, IsTypeVerdict}
use Rattle.package_changes.proofs.VerdictsAreExact.{verdict-exact}
use Rattle.package_changes.proofs.types.TypeComparison.verdict.Goals as goal

pub returns-clause-exact : goal.returns-clause-exact
returns-clause-exact c =
    let t = labelled_type c.args.self.now.comparer.old.table.now c.args.old in
    let u = labelled_type c.args.self.now.comparer.new.table.now c.args.new in
    let told : c.verdict_of.result ≡ verdict_of role.Called (likeness t u) (leaves true) =
    c.verdict_of.ensures ∙ ap (λ l. verdict_of role.Called l c.of_leaves.result) c.in_ok-likeness.ensures.ok ∙ ap (verdict_of role.Called (likeness t u)) c.of_leaves.ensures in
    subst (IsTypeVerdict t u) (sym told) (verdict-exact role.Called (alone t) (alone u))
