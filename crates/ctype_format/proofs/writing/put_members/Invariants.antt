use Rattle.std.proofs.Common.{◌≡◌, ◌++◌, drop}
use Rattle.ctype_format.specs.Writing.{each, counted, valtype_bytes}
use Rattle.ctype_format.specs.Formed.{All, FormedValType}
use Rattle.ctype_format.proofs.writing.put_members.Given as goal

abbrev pub invariant-loop-member : goal.invariant-loop-member
invariant-loop-member l = (l.out.items ++ each valtype_bytes (drop l.member-index l.members) ≡ l.fn.out.items ++ counted valtype_bytes l.members) × (All FormedValType (drop l.member-index l.members) → All FormedValType l.members)
