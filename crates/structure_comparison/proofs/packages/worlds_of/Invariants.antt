use Rattle.std.proofs.Common.{◌≡◌, ◌++◌, ◌==◌, drop}
use Rattle.tables.specs.declared.tables.World.{World}
use Rattle.structure_comparison.specs.Packages.{places_where, worlds_of}
use Rattle.structure_comparison.proofs.packages.worlds_of.Given as goal

abbrev pub invariant-loop-place : goal.invariant-loop-place
invariant-loop-place l = l.places.items ++ places_where (λ (w : World). w.«package».0 == l.«package».0) l.place (drop l.place l.resolve.worlds) ≡ worlds_of l.resolve l.«package»
