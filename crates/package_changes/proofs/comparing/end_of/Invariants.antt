use Rattle.std.proofs.Common.{◌≡◌, ◌≤◌}
use Rattle.tables.specs.Labelled.{labelled_type}
use Rattle.tables.specs.Standard.{IsTypeOf}
use Rattle.package_changes.specs.Comparing.{rank}
use Rattle.package_changes.proofs.comparing.end_of.Given as goal

abbrev pub invariant-loop-named : goal.invariant-loop-named
invariant-loop-named l = record {
  same : labelled_type l.table l.named ≡ labelled_type l.table l.fn.ty;
  typed : IsTypeOf l.table l.named;
  below : rank l.named ≤ rank l.fn.ty;
}

abbrev pub decreases-loop-named : goal.decreases-loop-named
decreases-loop-named l = rank l.named
