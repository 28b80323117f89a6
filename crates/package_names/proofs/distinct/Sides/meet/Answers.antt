use Rattle.package_names.proofs.WorldItemNamesAreMet.{import-met, import-refused, export-met, export-refused}
use Rattle.package_names.proofs.distinct.Sides.meet.Goals as goal

pub returns-in-Import-clause-ok : goal.returns-in-Import-clause-ok
returns-in-Import-clause-ok c =
    rw c.in-Import.is (import-met c.meet.result c.args.self.now c.args.name c.meet.new.self (record { fresh = c.meet.ensures.new; ok = c.meet.ensures.ok; err = c.meet.ensures.err }))

pub returns-in-Import-clause-err : goal.returns-in-Import-clause-err
returns-in-Import-clause-err c =
    rw c.in-Import.is (import-refused c.meet.result c.args.self.now c.args.name c.meet.new.self (record { fresh = c.meet.ensures.new; ok = c.meet.ensures.ok; err = c.meet.ensures.err }))

pub returns-in-Export-clause-ok : goal.returns-in-Export-clause-ok
returns-in-Export-clause-ok c =
    let m = c.meet-in-Export in
    rw c.in-Export.is (export-met m.result c.args.self.now c.args.name m.new.self (record { fresh = m.ensures.new; ok = m.ensures.ok; err = m.ensures.err }))

pub returns-in-Export-clause-err : goal.returns-in-Export-clause-err
returns-in-Export-clause-err c =
    let m = c.meet-in-Export in
    rw c.in-Export.is (export-refused m.result c.args.self.now c.args.name m.new.self (record { fresh = m.ensures.new; ok = m.ensures.ok; err = m.ensures.err }))
