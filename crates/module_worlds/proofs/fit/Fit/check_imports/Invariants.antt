use Rattle.std.proofs.Common.{◌≡◌, length}
use Rattle.module_worlds.proofs.fit.Fit.check_imports.Given as goal

abbrev pub invariant-loop-import : goal.invariant-loop-import
invariant-loop-import l = length l.findings.misfits.items ≡ 0 → length l.initial.findings.misfits.items ≡ 0
