use Rattle.std.proofs.Common.{ℕ, Bor}
use Rattle.std.specs.Prelude.{All}
use Rattle.structure_comparison.specs.Types.{site_view, IsPair}
use Rattle.structure_comparison.proofs.types.are_unnamed.Given as goal

abbrev pub invariant-loop-row : goal.invariant-loop-row
invariant-loop-row l = All (λ (p : Bor ℕ × Bor ℕ). IsPair (site_view l.site) (p.0.now, p.1.now)) l.yielded
