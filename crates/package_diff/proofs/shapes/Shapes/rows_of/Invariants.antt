use Rattle.package_diff.specs.Shapes.{Extends}
use Rattle.package_diff.proofs.NumbersStandForTypes.{RowsSoFar}
use Rattle.package_diff.proofs.shapes.Shapes.rows_of.Given as goal

abbrev pub invariant-loop-definition : goal.invariant-loop-definition
invariant-loop-definition l = record {
  extends : Extends l.initial.self.known.keys l.self.known.keys;
  rows : RowsSoFar l.self.known.keys l.table l.definition-index l.rows.items;
}
