-- CanonicalABI.md, "canon lift" and "canon lower": functions that are called alike.
use Rattle.std.specs.Prelude.{◌≡◌, ℕ, Bool, true, false, List, codes}
use Rattle.canonical_abi.specs.Layout.{lifted_signature, lowered_signature}
use Rattle.tables.specs.Closed.{function_type, IsFunction}
use Rattle.tables.specs.declared.tables.FunctionId.{FunctionId}
use Rattle.tables.specs.declared.tables.Resolve.{Resolve}

-- both are functions of their tables, and their parameters and results are of the same closed types, which have no names and labels
abbrev pub AreCalledAlike : Resolve → FunctionId → Resolve → FunctionId → Type 0
AreCalledAlike r f s g = IsFunction r f × IsFunction s g × (function_type r f ≡ function_type s g)

-- the callee of one function exports the core function that the callee of the other one does, and the caller imports the same one
abbrev pub HaveSameSignatures : Resolve → FunctionId → Resolve → FunctionId → Type 0
HaveSameSignatures r f s g =
    (lifted_signature (function_type r f) ≡ lifted_signature (function_type s g))
    × (lowered_signature (function_type r f) ≡ lowered_signature (function_type s g))

-- whether a host that was built for the old package can call a function, in words
abbrev pub verdict : Bool → List ℕ
verdict true = codes "    a host built for the old package can call it\n"
verdict false = codes "    a host built for the old package can't call it\n"
