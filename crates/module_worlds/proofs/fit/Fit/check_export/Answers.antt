use Rattle.module_worlds.proofs.FunctionsInLayouts.{function-stands}
use Rattle.module_worlds.proofs.fit.Fit.check_export.Goals as goal

pub returns-then-not-has_function-clause-fits : goal.returns-then-not-has_function-clause-fits
returns-then-not-has_function-clause-fits c = λ laid none there.
    let yes = c.has_function.ensures.1 (function-stands c.args.self.now.tables.now c.args.self.now.layouts.now c.args.export.now.id laid there) in
    absurd (cc)
