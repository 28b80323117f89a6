use Rattle.std.proofs.Common.{◌≡◌, ◌+◌, map, sum, take}
use Rattle.package_form.specs.Entries.{entries_of}
use Rattle.package_form.proofs.entries.passes_rows.Given as goal

abbrev pub invariant-loop-row : goal.invariant-loop-row
invariant-loop-row l = l.total ≡ l.before + sum (map entries_of (take l.row-index l.rows))
