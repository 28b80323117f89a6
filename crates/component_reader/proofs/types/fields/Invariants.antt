use Rattle.std.proofs.Common.{◌≡◌, Some, take}
use Rattle.component_reader.specs.Types.{all_found, field_read}
use Rattle.component_reader.proofs.types.fields.Given as goal

abbrev pub invariant-loop-field : goal.invariant-loop-field
invariant-loop-field l = all_found (field_read l.rows) (take l.field-index l.raw) ≡ Some l.fields.items
