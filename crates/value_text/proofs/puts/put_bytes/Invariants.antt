use Rattle.std.proofs.Common.{◌≤◌, ◌∷◌, take}
use Rattle.json.specs.Print.{escape}
use Rattle.value_text.specs.Puts.{Puts}
use Rattle.value_text.proofs.puts.put_bytes.Given as goal

abbrev pub invariant-loop-byte : goal.invariant-loop-byte
invariant-loop-byte l = Puts (34 ∷ escape (take l.byte-index l.bytes)) l.fn.room l.fn.at l.room l.end × (l.end ≤ l.limit)
