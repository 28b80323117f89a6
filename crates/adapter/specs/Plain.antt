-- Core values that cross as they are: each is the very one that carries the value that it stands for, so lifting and lowering give it again.
use Rattle.std.specs.Prelude.{◌≡◌, ℕ, ◌+◌, ◌-◌, ◌%◌, ◌^◌, ◌≤◌, min, true, List, [], ◌∷◌, length, take, drop, replicate}
use Rattle.canonical_abi.specs.Types.{Prim, ClosedType, prim_type, Fields, no_field, field, FunctionType, result_fields}
use Rattle.canonical_abi.specs.Values.{Value, HasPrimType}
use Rattle.canonical_abi.specs.Layout.{prim_kind, fits_flat, max_flat_results}
use Rattle.canonical_abi.specs.Lowering.{core_of, Lowers, FieldsLower}
use Rattle.canonical_abi.specs.Memory.{PrimIs}
use Rattle.canonical_abi.specs.Trace.{node}
use Rattle.canonical_abi.specs.Call.{KindsFit, argument_flats}
use Rattle.canonical_abi.specs.Reading.{number_of, flat_bits}
use Rattle.canonical_abi.specs.declared.flat.Flat.{Flat}

-- the core value is the one that carries the value of this primitive that it stands for
abbrev pub IsOwn : Prim → Flat → Type 0
IsOwn p f = (v : Value) × PrimIs p (number_of f % 2 ^ flat_bits p) v × HasPrimType v p × (f ≡ core_of (prim_kind p) v)

-- the type is a primitive, and the core value is the one that carries the value that it stands for
abbrev pub IsOwnOf : ClosedType → Flat → Type 0
IsOwnOf (prim_type p) f = IsOwn p f
IsOwnOf _ f = ⊥

-- each of these core values is the one that carries the value of its type, which is a primitive
abbrev pub AreOwn : Fields → List Flat → Type 0
AreOwn no_field [] = Unit {0}
AreOwn no_field (f ∷ fs) = ⊥
AreOwn (field t ts) [] = ⊥
AreOwn (field t ts) (f ∷ fs) = IsOwnOf t f × AreOwn ts fs

-- the core values of a call cross as they are: its result goes flat, it has at most 16, and each is its value's own
abbrev pub PassAsTheyAre : FunctionType → List Flat → Type 0
PassAsTheyAre f flats = (fits_flat max_flat_results (result_fields f.result) ≡ true) × (length flats ≤ 16) × AreOwn f.params flats

-- a call's core values are of its function's kinds, and these are the ones that carry its arguments, at most 16, each its value's own
abbrev pub ArePlainArguments : FunctionType → List Flat → List Flat → Type 0
ArePlainArguments f flats arguments = KindsFit f flats × (arguments ≡ argument_flats f flats) × (length arguments ≤ 16) × AreOwn f.params arguments

-- ---- core values of flags, of cases without a payload, and of records of these and of primitives

-- these core values carry a value of this type, by n nodes that are visited and nothing else: no block is asked for and no byte written
abbrev pub CarriesAlone : ClosedType → List Flat → ℕ → Type 0
CarriesAlone t flats n = (v : Value) × Lowers t v (replicate n node) flats

-- end to end these core values carry values of these types in the same way
abbrev pub CarryAlone : Fields → List Flat → ℕ → Type 0
CarryAlone ts flats n = (vs : List Value) × FieldsLower ts vs (replicate n node) flats

-- a count grew by n, as far as 64 bits count
abbrev pub GrewBy : ℕ → ℕ → ℕ → Type 0
GrewBy n old new = min new (2 ^ 64 - 1) ≡ min (old + n) (2 ^ 64 - 1)

-- the core values from one place up to another carry a value of this type alone, whose nodes were counted
abbrev pub CarriesBetween : ClosedType → List Flat → ℕ → ℕ → ℕ → ℕ → Type 0
CarriesBetween t flats from end old new = (from ≤ end) × (end ≤ length flats) × (n : ℕ) × CarriesAlone t (take (end - from) (drop from flats)) n × GrewBy n old new

-- the core values from one place up to another carry values of these types alone, whose nodes were counted
abbrev pub CarryBetween : Fields → List Flat → ℕ → ℕ → ℕ → ℕ → Type 0
CarryBetween ts flats from end old new = (from ≤ end) × (end ≤ length flats) × (n : ℕ) × CarryAlone ts (take (end - from) (drop from flats)) n × GrewBy n old new

-- a call's core values are of its function's kinds, and these, at most 16, carry its arguments alone, with c nodes
abbrev pub AreNestedArguments : FunctionType → List Flat → ℕ → List Flat → Type 0
AreNestedArguments f flats c arguments =
    KindsFit f flats × (arguments ≡ argument_flats f flats) × (length arguments ≤ 16) × (n : ℕ) × CarryAlone f.params arguments n × (c ≡ min n (2 ^ 64 - 1))
