use Rattle.std.proofs.Common.{ℕ, ◌<◌, ◌≡◌, get_or}
use Rattle.tables.specs.Names.{full_name, IsNamedIn}
use Rattle.tables.specs.declared.tables.FunctionId.{FunctionId}
use Rattle.tables.specs.declared.tables.Interface.{Interface}
use Rattle.tables.proofs.tables.Resolve.function.Given as goal

abbrev pub invariant-loop-interface : goal.invariant-loop-interface
invariant-loop-interface l = (k : ℕ) (i : Interface) (f : FunctionId) → k < l.interface-index → get_or l.self.interfaces k i ≡ i
    → l.iface ≡ full_name l.self i → IsNamedIn l.self i.functions l.name f → ⊥
