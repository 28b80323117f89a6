-- The core values that carry values, behind those that were there before.
use Rattle.std.specs.Prelude.{◌≡◌, ℕ, List, [], ◌∷◌, ◌++◌}
use Rattle.canonical_abi.specs.Types.{ClosedType, Fields}
use Rattle.canonical_abi.specs.Values.{Value, HasPrimType}
use Rattle.canonical_abi.specs.Trace.{Event}
use Rattle.canonical_abi.specs.Lowering.{Lowers, FieldsLower, SpilledLower, PassesParams}
use Rattle.canonical_abi.specs.declared.flat.Flat.{Flat}
use Rattle.values.specs.Scalar.{prim_in, value_in, core_in}
use Rattle.values.specs.declared.scalar.Scalar.{Scalar}

-- the core values of one value are put after those that there were, by these events
abbrev pub LowersInto : ClosedType → Value → List Flat → List Flat → List Event → Type 0
LowersInto t v before after es = (flats : List Flat) × Lowers t v es flats × (after ≡ before ++ flats)

-- the core values of a record's fields are put after those that there were, by these events
abbrev pub FieldsLowerInto : Fields → List Value → List Flat → List Flat → List Event → Type 0
FieldsLowerInto ts vs before after es = (flats : List Flat) × FieldsLower ts vs es flats × (after ≡ before ++ flats)

-- the value is lowered by these events, whichever core values then carry it
abbrev pub LowersBy : ClosedType → Value → List Event → Type 0
LowersBy t v es = (flats : List Flat) × Lowers t v es flats

-- a record's fields are lowered by these events, whichever core values then carry them
abbrev pub FieldsLowerBy : Fields → List Value → List Event → Type 0
FieldsLowerBy ts vs es = (flats : List Flat) × FieldsLower ts vs es flats

-- parameters are passed by these events, whichever core values then carry them
abbrev pub PassesParamsBy : ℕ → Fields → List Value → List Event → Type 0
PassesParamsBy limit ts vs es = (flats : List Flat) × PassesParams limit ts vs es flats

-- parameters are spilled to a record by these events, whatever its address
abbrev pub SpilledLowerBy : Fields → List Value → List Event → Type 0
SpilledLowerBy ts vs es = (flats : List Flat) × SpilledLower ts vs es flats

-- the value is of a primitive type other than string, and the core value carries it
abbrev pub CarriesScalar : Value → Flat → Type 0
CarriesScalar v f = (s : Scalar) × HasPrimType v (prim_in s) × (v ≡ value_in s) × (f ≡ core_in s)

-- the values are of such types, and each core value carries one of them
abbrev pub CarryScalars : List Value → List Flat → Type 0
CarryScalars [] [] = Unit {0}
CarryScalars [] (f ∷ fs) = ⊥
CarryScalars (v ∷ vs) [] = ⊥
CarryScalars (v ∷ vs) (f ∷ fs) = CarriesScalar v f × CarryScalars vs fs
