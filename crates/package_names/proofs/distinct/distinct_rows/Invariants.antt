use Rattle.std.proofs.Common.{map, flat_map, take, All}
use Rattle.package_form.specs.Scope.{AreDistinct}
use Rattle.package_form.specs.Distinct.{AreMet}
use Rattle.package_form.specs.Naming.{row_names, row_members}
use Rattle.package_names.proofs.distinct.distinct_rows.Given as goal

abbrev pub invariant-loop-row : goal.invariant-loop-row
invariant-loop-row l = record {
  names : AreMet (flat_map row_names (take l.row-index l.rows)) l.scope;
  parts : All AreDistinct (map row_members (take l.row-index l.rows));
}
