use Rattle.std.proofs.Common.{◌≡◌, None, map, take}
use Rattle.tree_meaning.specs.Resolves.{place_of}
use Rattle.tree_scopes.specs.declared.declared.UsedType.{UsedType}
use Rattle.tree_scopes.proofs.declare.place_among_locals.Given as goal

abbrev pub invariant-loop-place : goal.invariant-loop-place
invariant-loop-place l = place_of (map (λ (u : UsedType). u.local.now) (take l.place l.uses)) l.name ≡ None
