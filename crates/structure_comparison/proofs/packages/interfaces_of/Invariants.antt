use Rattle.std.proofs.Common.{◌≡◌, ◌++◌, ◌==◌, drop}
use Rattle.tables.specs.declared.tables.Interface.{Interface}
use Rattle.structure_comparison.specs.Packages.{places_where, interfaces_of}
use Rattle.structure_comparison.proofs.packages.interfaces_of.Given as goal

abbrev pub invariant-loop-place : goal.invariant-loop-place
invariant-loop-place l = l.places.items ++ places_where (λ (i : Interface). i.«package».0 == l.«package».0) l.place (drop l.place l.resolve.interfaces) ≡ interfaces_of l.resolve l.«package»
