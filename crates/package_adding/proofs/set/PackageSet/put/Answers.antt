-- The set with a package more stays in the tower, and its packages have their tables.
use Rattle.std.proofs.Common.{subst}
use Rattle.tables.specs.declared.tables.Resolve.{Resolve}
use Rattle.package_sets.specs.Attached.{IsAttached}
use Rattle.package_adding.proofs.AddedTablesAreKept.{attached-few, stays-in-tower, has-table, keeps-tables}
use Rattle.package_adding.proofs.set.PackageSet.put.Goals as goal

pub invariant_of-self : goal.invariant_of-self
invariant_of-self c =
    let attached = subst (λ (s : Resolve). IsAttached s c.args.closed.now c.in-Ok.resolve c.in-Ok.id.0) c.replace-set.ensures.value c.in-Ok.ensures.ok in
    record { tower = stays-in-tower c.args.self.now.resolve c.args.closed.now c.in-Ok.resolve c.in-Ok.id.0 attached c.args.self.now.tower c.requires.form c.requires.distinct; few = attached-few c.args.self.now.resolve c.args.closed.now c.in-Ok.resolve c.in-Ok.id.0 attached }

pub returns-in-Ok-clause-again : goal.returns-in-Ok-clause-again
returns-in-Ok-clause-again c =
    let attached = subst (λ (s : Resolve). IsAttached s c.args.closed.now c.in-Ok.resolve c.in-Ok.id.0) c.replace-set.ensures.value c.in-Ok.ensures.ok in
    λ behind. has-table c.args.self.now.resolve c.args.closed.now c.in-Ok.resolve c.in-Ok.id.0 attached c.args.self.now.tower c.requires.form c.requires.distinct behind

pub returns-in-Ok-clause-earlier : goal.returns-in-Ok-clause-earlier
returns-in-Ok-clause-earlier c =
    let attached = subst (λ (s : Resolve). IsAttached s c.args.closed.now c.in-Ok.resolve c.in-Ok.id.0) c.replace-set.ensures.value c.in-Ok.ensures.ok in
    keeps-tables c.args.self.now.resolve c.args.closed.now c.in-Ok.resolve c.in-Ok.id.0 attached c.args.self.now.tower c.requires.form c.requires.distinct
