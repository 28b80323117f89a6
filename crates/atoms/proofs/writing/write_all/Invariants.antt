use Rattle.std.proofs.Common.{◌≡◌, ◌≤◌, ◌-◌, false, length, take}
use Rattle.std.specs.Io.KnownBytes.{Appends}
use Rattle.atoms.proofs.writing.write_all.Given as goal

abbrev pub invariant-loop-start : goal.invariant-loop-start
invariant-loop-start g l = record {
  within : l.start ≤ length l.bytes;
  written : Appends (g.W.Sink.contents l.initial.writer) (g.W.Sink.contents l.writer) (take l.start l.bytes);
  works : g.W.Sink.has_failed l.writer ≡ false;
}

abbrev pub decreases-loop-start : goal.decreases-loop-start
decreases-loop-start g l = length l.bytes - l.start
