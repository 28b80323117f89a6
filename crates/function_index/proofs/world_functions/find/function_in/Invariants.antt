use Rattle.std.proofs.Common.{ℕ, ◌<◌, ◌≡◌, get_or, Some}
use Rattle.tables.specs.Names.{function_name}
use Rattle.tables.specs.declared.tables.FunctionId.{FunctionId}
use Rattle.function_index.specs.Named.{function_item}
use Rattle.function_index.proofs.world_functions.find.function_in.Given as goal

abbrev pub invariant-loop-item : goal.invariant-loop-item
invariant-loop-item l = (k : ℕ) (f : FunctionId) → k < l.item-index → get_or l.items k (function_item l.side f) ≡ function_item l.side f
    → function_name l.resolve f ≡ Some l.name → ⊥
