use Rattle.std.proofs.Common.{subst}
use Rattle.std.specs.List.{All}
use Rattle.std.proofs.lemmas.List.{take_all}
use Rattle.std.proofs.lemmas.List.Elements.{All-more}
use Rattle.core_modules.specs.Module.{module_view}
use Rattle.module_worlds.specs.Fits.{ExportsAs, required_view}
use Rattle.module_worlds.specs.declared.required.Required.{Required}
use Rattle.module_worlds.proofs.fit.Fit.check_all.Goals as goal

pub loop-export-preserved : goal.loop-export-preserved
loop-export-preserved c =
    let P : Required → Type 0 = λ e. ExportsAs (module_view c.args.self.now.module.now) c.args.self.now.tables.now (required_view e) in
    record {
      before = λ none. c.loop-export.invariant.before (c.in_ok-check_export.ensures.before none);
      fits = λ laid none. All-more P c.args.exports.now c.loop-export.export-index c.export-item.result c.loop-export-test.true (c.loop-export.invariant.fits laid (c.in_ok-check_export.ensures.before none)) (subst P c.export-item.is (c.in_ok-check_export.ensures.fits laid none));
    }

pub returns-clause-fits : goal.returns-clause-fits
returns-clause-fits c = λ laid none.
    let P : Required → Type 0 = λ e. ExportsAs (module_view c.args.self.now.module.now) c.args.self.now.tables.now (required_view e) in
    subst (All P) (take_all c.loop-export.export-index c.args.exports.now c.loop-export-test.false) (c.loop-export.invariant.fits laid none)
