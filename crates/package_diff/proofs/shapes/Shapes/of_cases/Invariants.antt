use Rattle.std.proofs.Common.{take, map}
use Rattle.std.specs.Option.{option_map}
use Rattle.tables.specs.Closed.{closed_val}
use Rattle.package_diff.specs.Shapes.{Extends, row_types}
use Rattle.package_diff.proofs.NumbersStandForTypes.{ArePartsOf}
use Rattle.package_diff.proofs.shapes.Shapes.of_cases.Given as goal

abbrev pub invariant-loop-ty : goal.invariant-loop-ty
invariant-loop-ty l = record {
  extends : Extends l.initial.self.known.keys l.self.known.keys;
  parts : ArePartsOf l.self.known.keys (map (option_map (closed_val (row_types l.initial.self.known.keys l.rows))) (take l.ty-index l.payloads)) l.cases.items;
}
