use Rattle.std.proofs.Common.{◌≡◌, drop}
use Rattle.std.specs.Map.{lookup}
use Rattle.std.specs.Str.{bytes_eq}
use Rattle.tree_scopes.proofs.known.id_among.Given as goal

abbrev pub invariant-loop-other : goal.invariant-loop-other
invariant-loop-other l = lookup (λ s. bytes_eq l.name s.now) (drop l.other-index l.entries) ≡ lookup (λ s. bytes_eq l.name s.now) l.entries
