use Rattle.std.proofs.Common.{ℕ, ◌<◌, ◌≡◌, get_or}
use Rattle.tables.specs.Names.{world_name}
use Rattle.tables.specs.declared.tables.FunctionId.{FunctionId}
use Rattle.tables.specs.declared.tables.World.{World}
use Rattle.function_index.specs.Named.{IsNamedItem}
use Rattle.function_index.proofs.world_functions.find.world_function.Given as goal

abbrev pub invariant-loop-candidate : goal.invariant-loop-candidate
invariant-loop-candidate l = (k : ℕ) (w : World) (f : FunctionId) → k < l.candidate-index → get_or l.resolve.worlds k w ≡ w
    → l.world ≡ world_name l.resolve w → IsNamedItem l.resolve w.items l.side l.name f → ⊥
