use Rattle.std.proofs.Common.{◌+◌, ◌*◌}
use Rattle.package_changes.specs.Comparing.{AreRight, part_types, rank}
use Rattle.package_changes.proofs.PartsInTurn.{LeavesRest}
use Rattle.package_changes.proofs.Ranks.{part_rank}
use Rattle.package_changes.proofs.comparing.Comparer.+comparing.Given as goal

abbrev pub decreases-compare : goal.decreases-compare
decreases-compare l = 5 * rank l.old

abbrev pub decreases-compare_pair : goal.decreases-compare_pair
decreases-compare_pair l = 5 * l.pair.old + 4

abbrev pub decreases-compare_kinds : goal.decreases-compare_kinds
decreases-compare_kinds l = 5 * l.pair.old + 3

abbrev pub decreases-compare_parts : goal.decreases-compare_parts
decreases-compare_parts l = 5 * l._place + 2

abbrev pub decreases-compare_part : goal.decreases-compare_part
decreases-compare_part l = 5 * part_rank l.part + 1

abbrev pub invariant-compare_parts-loop-i : goal.invariant-compare_parts-loop-i
invariant-compare_parts-loop-i l = record {
  right : AreRight l.self.old.table.now l.self.new.table.now l.known;
  rest : LeavesRest l.all l.i (part_types l.self.old.table.now l.parts) (part_types l.self.new.table.now l.others);
}
