use Rattle.std.proofs.Common.{◌≡◌, ◌++◌, drop}
use Rattle.ctype_format.specs.Writing.{each, counted, field_bytes}
use Rattle.ctype_format.specs.Formed.{All, FormedField}
use Rattle.ctype_format.proofs.writing.put_fields.Given as goal

abbrev pub invariant-loop-field : goal.invariant-loop-field
invariant-loop-field l = (l.out.items ++ each field_bytes (drop l.field-index l.fields) ≡ l.fn.out.items ++ counted field_bytes l.fields) × (All FormedField (drop l.field-index l.fields) → All FormedField l.fields)
