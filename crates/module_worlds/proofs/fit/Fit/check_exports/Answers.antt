use Rattle.std.proofs.Common.{List, ℕ, subst}
use Rattle.std.specs.List.{All}
use Rattle.std.proofs.lemmas.List.Elements.{All-map}
use Rattle.core_modules.specs.Module.{module_view}
use Rattle.tables.specs.declared.tables.FunctionId.{FunctionId}
use Rattle.module_worlds.specs.Fits.{ExportsAs, required_view}
use Rattle.module_worlds.proofs.fit.Fit.check_exports.Goals as goal

pub returns-clause-fits : goal.returns-clause-fits
returns-clause-fits c = λ laid none.
    let P : List ℕ × FunctionId → Type 0 = ExportsAs (module_view c.args.self.now.module.now) c.args.self.now.tables.now in
    let fit = rw c.as_slice.ensures.value at c.in_ok-check_all.ensures.fits in
    subst (All P) c.in_ok-exports.ensures (All-map P required_view c.in_ok-exports.exports.items (fit laid none))
