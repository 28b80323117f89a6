use Rattle.std.proofs.Common.{◌<◌, ℕ}
use Rattle.tree_scopes.specs.Tested.{IsFirstOfName}
use Rattle.tree_scopes.proofs.tested.names_differ.Given as goal

abbrev pub invariant-loop-place : goal.invariant-loop-place
invariant-loop-place l = (k : ℕ) → k < l.place → IsFirstOfName l.imports k
