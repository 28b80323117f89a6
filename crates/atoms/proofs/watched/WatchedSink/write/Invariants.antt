use Rattle.std.proofs.Common.{◌≡◌, false}
use Rattle.std.specs.Io.KnownBytes.{Keeps}
use Rattle.atoms.proofs.watched.WatchedSink.write.Given as goal

abbrev pub invariant-loop : goal.invariant-loop
invariant-loop g l = record {
  kept : Keeps (g.T.Write.contents l.initial.self.inner) (g.T.Write.contents l.self.inner);
  works : l.self.failed ≡ false;
}
