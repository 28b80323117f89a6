use Rattle.std.proofs.Common.{◌≡◌, ◌≤◌, ◌-◌, drop}
use Rattle.ctype_format.specs.Bytes.{is_negative}
use Rattle.ctype_format.proofs.items.is_negative.Given as goal

abbrev pub invariant-loop-i : goal.invariant-loop-i
invariant-loop-i l = record {
  few : l.i ≤ 4;
  so_far : is_negative (4 - l.i) (drop l.i l.bytes) ≡ is_negative 4 l.bytes;
}
