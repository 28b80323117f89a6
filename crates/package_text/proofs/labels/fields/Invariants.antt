use Rattle.std.proofs.Common.{map, take, All}
use Rattle.atoms.specs.Label.{IsLabel}
use Rattle.package_form.specs.Naming.{field_name}
use Rattle.package_text.proofs.labels.fields.Given as goal

abbrev pub invariant-loop-field : goal.invariant-loop-field
invariant-loop-field l = All IsLabel (map field_name (take l.field-index l.fields))
