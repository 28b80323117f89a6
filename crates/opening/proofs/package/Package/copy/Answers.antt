use Rattle.std.proofs.Common.{rules, arith, length, ◌<◌, ◌≤◌, sym, subst}
use Rattle.std.proofs.Math.Logic.{∥∥₁_elim}
use Rattle.std.proofs.lemmas.Grind.{common_steps}
use Rattle.package_sets.specs.Tower.{IsInTower}
use Rattle.package_sets.proofs.SamePackagesAreOne.{same-tables}
use Rattle.tables.specs.declared.tables.Resolve.{Resolve}
use Rattle.opening.proofs.OpensBehindPackages.{same-laid-out}
use Rattle.opening.proofs.package.Package.copy.Goals as goal

pub invariant_of-result-clause-tower : goal.invariant_of-result-clause-tower
invariant_of-result-clause-tower c =
    let set = same-tables c.in_ok-resolve.resolve c.args.self.now.resolve c.in_ok-resolve.ensures in
    subst (λ (r : Resolve). ∥ IsInTower r ∥₁) (sym set) c.args.self.now.tower

pub invariant_of-result-clause-some : goal.invariant_of-result-clause-some
invariant_of-result-clause-some c =
    let set = same-tables c.in_ok-resolve.resolve c.args.self.now.resolve c.in_ok-resolve.ensures in
    subst (λ (r : Resolve). 0 < length r.packages) (sym set) c.args.self.now.some

pub invariant_of-result-clause-few : goal.invariant_of-result-clause-few
invariant_of-result-clause-few c =
    let set = same-tables c.in_ok-resolve.resolve c.args.self.now.resolve c.in_ok-resolve.ensures in
    subst (λ (r : Resolve). length r.packages ≤ 64) (sym set) c.args.self.now.few

pub unreachable-requires : goal.unreachable-requires
unreachable-requires c = ∥∥₁_elim c.args.self.now.within (λ x y. absurd x) (λ w.
    let e = same-laid-out c.in_ok-resolve.resolve c.args.self.now.resolve c.in_ok-resolve.ensures w c.in-Err-TooDeep.field-0 c.in-Err-TooDeep.ensures.err in
    first_of (cc, search rules, grind (arith, common_steps)))
