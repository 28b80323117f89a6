-- The set of the first package is in the tower, and the package has its table.
use Rattle.package_sets.specs.One.{StandsAlone}
use Rattle.package_adding.proofs.AddedTablesAreKept.{attached-few, stays-in-tower, has-table, keeps-tables}
use Rattle.package_adding.proofs.set.PackageSet.begin.Goals as goal

pub invariant_of-self : goal.invariant_of-self
invariant_of-self c =
    let there : StandsAlone c.args.self.now.resolve c.args.closed = c.attaches_alone.ensures c.args.self.now.resolve c.args.closed c.args.self.now.tower c.requires.first c.requires.form c.requires.alone in
    record { tower = stays-in-tower c.args.self.now.resolve c.args.closed c.args.closed 0 there.attached c.args.self.now.tower c.requires.form c.requires.distinct; few = attached-few c.args.self.now.resolve c.args.closed c.args.closed 0 there.attached }

pub returns-clause-ok : goal.returns-clause-ok
returns-clause-ok c = (c.attaches_alone.ensures c.args.self.now.resolve c.args.closed c.args.self.now.tower c.requires.first c.requires.form c.requires.alone).attached

pub returns-clause-behind : goal.returns-clause-behind
returns-clause-behind c = (c.attaches_alone.ensures c.args.self.now.resolve c.args.closed c.args.self.now.tower c.requires.first c.requires.form c.requires.alone).behind

pub returns-clause-again : goal.returns-clause-again
returns-clause-again c =
    let there : StandsAlone c.args.self.now.resolve c.args.closed = c.attaches_alone.ensures c.args.self.now.resolve c.args.closed c.args.self.now.tower c.requires.first c.requires.form c.requires.alone in
    has-table c.args.self.now.resolve c.args.closed c.args.closed 0 there.attached c.args.self.now.tower c.requires.form c.requires.distinct there.behind

pub returns-clause-earlier : goal.returns-clause-earlier
returns-clause-earlier c =
    let there : StandsAlone c.args.self.now.resolve c.args.closed = c.attaches_alone.ensures c.args.self.now.resolve c.args.closed c.args.self.now.tower c.requires.first c.requires.form c.requires.alone in
    keeps-tables c.args.self.now.resolve c.args.closed c.args.closed 0 there.attached c.args.self.now.tower c.requires.form c.requires.distinct
