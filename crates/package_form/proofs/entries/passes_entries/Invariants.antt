use Rattle.std.proofs.Common.{◌≡◌, ◌+◌, map, sum, take}
use Rattle.package_form.specs.Entries.{world_entries}
use Rattle.package_form.proofs.entries.passes_entries.Given as goal

abbrev pub invariant-loop-world : goal.invariant-loop-world
invariant-loop-world l = l.total ≡ 1 + l.interfaces + sum (map world_entries (take l.world-index l.worlds))
