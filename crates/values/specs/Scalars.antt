-- Lists of values of primitive types, and the core values that carry them: none of them needs memory.
use Rattle.std.specs.Prelude.{◌≡◌, ◌⊎◌, ℕ, ◌≤◌, ◌%◌, ◌^◌, true, List, [], ◌∷◌, map, length}
use Rattle.std.specs.List.{list_all}
use Rattle.canonical_abi.specs.Types.{Prim, boolean, ClosedType, Fields, fields_of}
use Rattle.canonical_abi.specs.Values.{Value, HaveTypes}
use Rattle.canonical_abi.specs.Layout.{prim_kind}
use Rattle.canonical_abi.specs.Reading.{kind_of, number_of, flat_bits}
use Rattle.canonical_abi.specs.Memory.{PrimFaulty}
use Rattle.canonical_abi.specs.Flat.{Denotes, DenotesFault}
use Rattle.canonical_abi.specs.declared.flat.Flat.{Flat}
use Rattle.canonical_abi.specs.declared.trap.TrapKind.{TrapKind}
use Rattle.tables.specs.Closed.{prim_of, closed_val, is_scalar_type}
use Rattle.tables.specs.declared.tables.ValType.{ValType}
use Rattle.tables.specs.declared.tables.ValType.TheVariants as val
use Rattle.values.specs.Scalar.{value_in, ScalarIs}
use Rattle.values.specs.declared.scalar.Scalar.{Scalar}

-- at most 16 types, each a primitive
pub record AreScalar (types : List ValType) : Type 0 where
  pub few : length types ≤ 16
  pub primitive : list_all is_scalar_type types ≡ true

-- the types as the fields of a record, over the closed types of a table
abbrev pub fields_in : List ClosedType → List ValType → Fields
fields_in rows types = fields_of (map (closed_val rows) types)

-- whatever the table and the memory, these core values denote these values, and no others
abbrev pub StandFor : List ValType → List Flat → List Value → Type 0
StandFor types flats vs =
    (rows : List ClosedType) (limit : ℕ) (m : List ℕ) → length types ≤ limit → Denotes limit (fields_in rows types) m flats vs

-- whatever the table and the memory, they denote none, and this is the first fault
abbrev pub FailAs : List ValType → List Flat → TrapKind → Type 0
FailAs types flats k =
    (rows : List ClosedType) (limit : ℕ) (m : List ℕ) → length types ≤ limit → DenotesFault limit (fields_in rows types) m flats k

-- the scalars are of these types, whatever the table
abbrev pub AreOfTypes : List ValType → List Scalar → Type 0
AreOfTypes types ss = (rows : List ClosedType) → HaveTypes (map value_in ss) (fields_in rows types)

-- the primitive that a scalar type is
abbrev pub prim_of_type : ValType → Prim
prim_of_type (val.Primitive p) = prim_of p
prim_of_type _ = boolean

-- the core values have the types' kinds
abbrev pub ScalarKindsFit : List ValType → List Flat → Type 0
ScalarKindsFit types flats = map kind_of flats ≡ map (λ t. prim_kind (prim_of_type t)) types

-- each core value stands for the scalar of its type
abbrev pub ScalarsStand : List ValType → List Flat → List Scalar → Type 0
ScalarsStand [] [] [] = Unit {0}
ScalarsStand (t ∷ types) (f ∷ flats) (s ∷ ss) = ScalarIs (prim_of_type t) (number_of f) s × ScalarsStand types flats ss
ScalarsStand _ _ _ = ⊥

-- the first that stands for none
abbrev pub FirstFault : List ValType → List Flat → TrapKind → Type 0
FirstFault (t ∷ types) (f ∷ flats) k =
    PrimFaulty (prim_of_type t) (number_of f % 2 ^ flat_bits (prim_of_type t)) k
    ⊎ ((s : Scalar) × ScalarIs (prim_of_type t) (number_of f) s × FirstFault types flats k)
FirstFault _ _ k = ⊥
