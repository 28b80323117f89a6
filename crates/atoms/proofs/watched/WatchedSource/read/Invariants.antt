use Rattle.std.proofs.Common.{◌≡◌, false}
use Rattle.std.specs.Io.KnownBytes.{Keeps}
use Rattle.atoms.proofs.watched.WatchedSource.read.Given as goal

abbrev pub invariant-loop : goal.invariant-loop
invariant-loop g l = record {
  kept : Keeps (g.T.Read.remaining l.initial.self.inner) (g.T.Read.remaining l.self.inner);
  works : l.self.failed ≡ false;
}
