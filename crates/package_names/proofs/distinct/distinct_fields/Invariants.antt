use Rattle.std.proofs.Common.{map, take}
use Rattle.package_form.specs.Distinct.{AreMet}
use Rattle.package_form.specs.Naming.{field_name}
use Rattle.package_names.proofs.distinct.distinct_fields.Given as goal

abbrev pub invariant-loop-field : goal.invariant-loop-field
invariant-loop-field l = AreMet (map field_name (take l.field-index l.fields)) l.scope
