use Rattle.std.proofs.Common.{◌≡◌, length, take}
use Rattle.std.specs.List.{All}
use Rattle.layout.specs.Layout.{layouts_of}
use Rattle.core_modules.specs.Module.{module_view}
use Rattle.module_worlds.specs.Fits.{ExportsAs, required_view}
use Rattle.module_worlds.proofs.fit.Fit.check_all.Given as goal

abbrev pub invariant-loop-export : goal.invariant-loop-export
invariant-loop-export l = record {
  before : length l.findings.misfits.items ≡ 0 → length l.initial.findings.misfits.items ≡ 0;
  fits : l.self.layouts.now ≡ layouts_of l.self.tables.now → length l.findings.misfits.items ≡ 0 → All (λ e. ExportsAs (module_view l.self.module.now) l.self.tables.now (required_view e)) (take l.export-index l.exports);
}
