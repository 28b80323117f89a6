use Rattle.std.proofs.Common.{◌≡◌, None, take}
use Rattle.tree_scopes.specs.Lent.{lent_names}
use Rattle.tree_meaning.specs.Resolves.{place_of}
use Rattle.tree_scopes.proofs.names.first_place.Given as goal

abbrev pub invariant-loop-place : goal.invariant-loop-place
invariant-loop-place l = place_of (lent_names (take l.place l.names)) l.name ≡ None
