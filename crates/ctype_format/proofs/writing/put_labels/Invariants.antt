use Rattle.std.proofs.Common.{◌≡◌, ◌++◌, drop}
use Rattle.ctype_format.specs.Writing.{each, counted, name_bytes}
use Rattle.ctype_format.specs.Formed.{All, FormedLabel}
use Rattle.ctype_format.proofs.writing.put_labels.Given as goal

abbrev pub invariant-loop-label : goal.invariant-loop-label
invariant-loop-label l = (l.out.items ++ each name_bytes (drop l.label-index l.labels) ≡ l.fn.out.items ++ counted name_bytes l.labels) × (All FormedLabel (drop l.label-index l.labels) → All FormedLabel l.labels)
