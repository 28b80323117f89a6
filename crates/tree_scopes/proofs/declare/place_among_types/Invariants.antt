use Rattle.std.proofs.Common.{◌≡◌, None, map, take, Bor}
use Rattle.tree_meaning.specs.Resolves.{place_of}
use Rattle.wit_tokens.specs.declared.wit_syntax.ast.TypeDef.{TypeDef}
use Rattle.tree_scopes.proofs.declare.place_among_types.Given as goal

abbrev pub invariant-loop-place : goal.invariant-loop-place
invariant-loop-place l = place_of (map (λ (t : Bor TypeDef). t.now.name) (take l.place l.types)) l.name ≡ None
