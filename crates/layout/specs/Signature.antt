-- CanonicalABI.md, "Flattening": core signatures by the kinds of the parameters and of the result.
use Rattle.std.specs.Prelude.{Bool, false, List, [], ◌∷◌, ◌++◌, length, nat_le, if◌then◌else◌}
use Rattle.canonical_abi.specs.Layout.{CoreSignature, max_flat_results}
use Rattle.canonical_abi.specs.declared.flat.CoreKind.{CoreKind}
use Rattle.canonical_abi.specs.declared.flat.CoreKind.TheVariants.{I32}
use Rattle.layout.specs.Kinds.{passed}
use Rattle.layout.specs.declared.kinds.Kinds.{Kinds}
use Rattle.layout.specs.declared.kinds.Kinds.TheVariants.{Flat, Spilled}

-- a result of these kinds goes flat: it has at most one
abbrev pub is_one : Kinds → Bool
is_one (Flat ks) = nat_le (length ks.items) max_flat_results
is_one Spilled = false

-- the core value types by which a result of these kinds is passed: its own, or an address, i32
abbrev pub single_result : Kinds → List CoreKind
single_result (Flat ks) = if nat_le (length ks.items) max_flat_results then ks.items else (I32 ∷ [])
single_result Spilled = I32 ∷ []

-- the core signature of the callee's function, by these kinds of its parameters and result
abbrev pub lifted_by : Kinds → Kinds → CoreSignature
lifted_by params results = record { params = passed params; results = single_result results }

-- the core signature of the caller's import, by these kinds of its parameters and result
abbrev pub lowered_by : Kinds → Kinds → CoreSignature
lowered_by params results =
    if is_one results then lifted_by params results else record { params = passed params ++ I32 ∷ []; results = [] }
