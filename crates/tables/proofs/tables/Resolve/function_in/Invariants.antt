use Rattle.std.proofs.Common.{ℕ, ◌<◌, ◌≡◌, get_or, Some}
use Rattle.tables.specs.Names.{function_name}
use Rattle.tables.specs.declared.tables.FunctionId.{FunctionId}
use Rattle.tables.proofs.tables.Resolve.function_in.Given as goal

abbrev pub invariant-loop-func : goal.invariant-loop-func
invariant-loop-func l = (k : ℕ) (f : FunctionId) → k < l.func-index → get_or l.functions k f ≡ f → function_name l.self f ≡ Some l.name → ⊥
