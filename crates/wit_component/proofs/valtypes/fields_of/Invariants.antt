use Rattle.std.proofs.Common.{◌≡◌, map, take}
use Rattle.wit_component.specs.Rows.{field_of}
use Rattle.wit_component.proofs.valtypes.fields_of.Given as goal

abbrev pub invariant-loop-field : goal.invariant-loop-field
invariant-loop-field l = l.raw.items ≡ map (field_of l.indices) (take l.field-index l.fields)
