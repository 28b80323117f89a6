use Rattle.tree_scopes.proofs.ImportScopes.{ScopesSoFar}
use Rattle.tree_scopes.proofs.imports.import_scopes.Given as goal

abbrev pub invariant-loop-place : goal.invariant-loop-place
invariant-loop-place l = ScopesSoFar l.imports l.place l.scopes.items
