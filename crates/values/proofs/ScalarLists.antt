-- Lists of scalars: one more at the end, the first fault, and what the whole list says in the definitions' words.
use Rattle.std.proofs.Common.{◌≡◌, ◌+◌, ◌<◌, ◌≤◌, ◌%◌, ◌^◌, ℕ, zero, suc, true, List, [], ◌∷◌, ◌++◌, length, map, take, get_or, refl, sym, ap, ◌∙◌, arith, inl, inr, add-one}
use Rattle.std.proofs.lemmas.List.{length-map}
use Rattle.std.specs.List.{list_all}
use Rattle.std.proofs.lemmas.Bool.{le-leb}
use borrow.Author.Gap.{read_sfits}
use Rattle.canonical_abi.specs.Types.{Prim, boolean, unsigned, signed, scalar_value, IntWidth, int8, int16, int32, int64, width_of, bits, ClosedType}
use Rattle.canonical_abi.specs.Values.{Value, HasPrimType, HaveTypes}
use Rattle.canonical_abi.specs.Layout.{prim_kind, field_kinds, fits_flat, passed_kinds}
use Rattle.canonical_abi.specs.Reading.{kind_of, number_of, flat_bits, low_bits}
use Rattle.canonical_abi.specs.Memory.{PrimIs, PrimFaulty}
use Rattle.canonical_abi.specs.Flat.{FieldsLift, FieldsLiftFaulty}
use Rattle.canonical_abi.specs.declared.flat.CoreKind.{CoreKind}
use Rattle.canonical_abi.specs.declared.flat.Flat.{Flat}
use Rattle.canonical_abi.specs.declared.trap.TrapKind.{TrapKind}
use Rattle.canonical_abi.specs.declared.trap.TrapKind.TheVariants as trap
use Rattle.tables.specs.Closed.{prim_of, is_scalar_type}
use Rattle.tables.specs.declared.tables.ValType.{ValType}
use Rattle.tables.specs.declared.tables.ValType.TheVariants as val
use Rattle.values.specs.Scalar.{value_in, ScalarIs}
use Rattle.values.specs.Scalars.{AreScalar, fields_in, prim_of_type, ScalarKindsFit, ScalarsStand, FirstFault, StandFor, FailAs}
use Rattle.values.specs.declared.scalar.Scalar.{Scalar}

-- ---- a list from its front

abbrev kinds_in : List ValType → List CoreKind
kinds_in types = map (λ t. prim_kind (prim_of_type t)) types

-- as many core values as types
pub same_count : (types : List ValType) (flats : List Flat) → ScalarKindsFit types flats → length flats ≡ length types
same_count [] [] h = refl
same_count (t ∷ types) [] h = cc
same_count [] (f ∷ flats) h = cc
same_count (t ∷ types) (f ∷ flats) h =
    let tail : map kind_of flats ≡ kinds_in types = cc in
    ap suc (same_count types flats tail)

-- the core value at a place has its type's kind
pub kind_at : (i : ℕ) (types : List ValType) (flats : List Flat) (d : Flat) (e : ValType) → ScalarKindsFit types flats → i < length types → kind_of (get_or flats i d) ≡ prim_kind (prim_of_type (get_or types i e))
kind_at i [] flats d e h below = absurd (omega arith)
kind_at i (t ∷ types) [] d e h below = cc
kind_at zero (t ∷ types) (f ∷ flats) d e h below = cc
kind_at (suc i) (t ∷ types) (f ∷ flats) d e h below =
    let tail : map kind_of flats ≡ kinds_in types = cc in
    kind_at i types flats d e tail (omega arith)

-- one more stands for its value
pub stands_more : (i : ℕ) (types : List ValType) (flats : List Flat) (ss : List Scalar) (d : Flat) (e : ValType) (s : Scalar) → i < length flats → i < length types → ScalarsStand (take i types) (take i flats) ss → ScalarIs (prim_of_type (get_or types i e)) (number_of (get_or flats i d)) s → ScalarsStand (take (i + 1) types) (take (i + 1) flats) (ss ++ s ∷ [])
stands_more i [] flats ss d e s f t h is = absurd (omega arith)
stands_more i (y ∷ types) [] ss d e s f t h is = absurd (omega arith)
stands_more zero (y ∷ types) (x ∷ flats) [] d e s f t h is = (is, tt)
stands_more zero (y ∷ types) (x ∷ flats) (w ∷ ss) d e s f t h is = absurd h
stands_more (suc i) (y ∷ types) (x ∷ flats) [] d e s f t h is = absurd h
stands_more (suc i) (y ∷ types) (x ∷ flats) (w ∷ ss) d e s f t h is =
    rw add-one (h.0, rw add-one at (stands_more i types flats ss d e s (omega arith) (omega arith) h.1 is))

-- the first that stands for none
pub fault_at : (i : ℕ) (types : List ValType) (flats : List Flat) (ss : List Scalar) (d : Flat) (e : ValType) (k : TrapKind) → i < length flats → i < length types → ScalarsStand (take i types) (take i flats) ss → PrimFaulty (prim_of_type (get_or types i e)) (number_of (get_or flats i d) % 2 ^ flat_bits (prim_of_type (get_or types i e))) k → FirstFault types flats k
fault_at i [] flats ss d e k f t h is = absurd (omega arith)
fault_at i (y ∷ types) [] ss d e k f t h is = absurd (omega arith)
fault_at zero (y ∷ types) (x ∷ flats) ss d e k f t h is = inl is
fault_at (suc i) (y ∷ types) (x ∷ flats) [] d e k f t h is = absurd h
fault_at (suc i) (y ∷ types) (x ∷ flats) (w ∷ ss) d e k f t h is =
    inr (w, h.0, fault_at i types flats ss d e k (omega arith) (omega arith) h.1 is)

-- ---- the whole list

first_bits : (n : ℕ) (ns : List ℕ) (b : ℕ) → low_bits (n ∷ ns) 0 b ≡ n % 2 ^ b
unfolding low_bits
first_bits n ns b = refl

-- the kinds of scalar types are those of their fields
pub field_kinds-scalars : (rows : List ClosedType) (types : List ValType) → list_all is_scalar_type types ≡ true → field_kinds (fields_in rows types) ≡ kinds_in types
field_kinds-scalars rows [] h = refl
field_kinds-scalars rows (val.Primitive p ∷ types) h = ap (λ ks. prim_kind (prim_of_type (val.Primitive p)) ∷ ks) (field_kinds-scalars rows types h)
field_kinds-scalars rows (val.String ∷ types) h = cc
field_kinds-scalars rows (val.Id t ∷ types) h = cc

-- scalars stand for the values of the fields
pub stands_lift : (rows : List ClosedType) (m : List ℕ) (types : List ValType) (flats : List Flat) (ss : List Scalar) → list_all is_scalar_type types ≡ true → ScalarsStand types flats ss → FieldsLift (fields_in rows types) m (map number_of flats) (map value_in ss)
stands_lift rows m [] [] [] a h = refl
stands_lift rows m [] [] (s ∷ ss) a h = absurd h
stands_lift rows m [] (f ∷ flats) ss a h = absurd h
stands_lift rows m (t ∷ types) [] ss a h = absurd h
stands_lift rows m (t ∷ types) (f ∷ flats) [] a h = absurd h
stands_lift rows m (val.Primitive p ∷ types) (f ∷ flats) (s ∷ ss) a h =
    (value_in s, map value_in ss, refl, rw first_bits h.0.1, stands_lift rows m types flats ss a h.1)
stands_lift rows m (val.String ∷ types) (f ∷ flats) (s ∷ ss) a h = cc
stands_lift rows m (val.Id t ∷ types) (f ∷ flats) (s ∷ ss) a h = cc

-- the first fault is that of the fields
pub faults_lift : (rows : List ClosedType) (m : List ℕ) (types : List ValType) (flats : List Flat) (k : TrapKind) → list_all is_scalar_type types ≡ true → FirstFault types flats k → FieldsLiftFaulty (fields_in rows types) m (map number_of flats) k
faults_lift rows m [] flats k a h = absurd h
faults_lift rows m (t ∷ types) [] k a h = absurd h
faults_lift rows m (val.String ∷ types) (f ∷ flats) k a h = cc
faults_lift rows m (val.Id t ∷ types) (f ∷ flats) k a h = cc
faults_lift rows m (val.Primitive p ∷ types) (f ∷ flats) k a (inl h) = inl (rw first_bits h)
faults_lift rows m (val.Primitive p ∷ types) (f ∷ flats) k a (inr h) =
    inr (value_in h.0, rw first_bits h.1.1, faults_lift rows m types flats k a h.2)

-- as many fields as types, and they go flat where that many may
count_kinds : (rows : List ClosedType) (types : List ValType) → list_all is_scalar_type types ≡ true → length (field_kinds (fields_in rows types)) ≡ length types
count_kinds rows types a = ap length (field_kinds-scalars rows types a) ∙ length-map types _

pub scalars_fit : (rows : List ClosedType) (types : List ValType) (limit : ℕ) → list_all is_scalar_type types ≡ true → length types ≤ limit → fits_flat limit (fields_in rows types) ≡ true
scalars_fit rows types limit a few = le-leb _ limit (omega (arith, count_kinds rows types a))

pub passed_kinds-scalars : (rows : List ClosedType) (types : List ValType) (limit : ℕ) → list_all is_scalar_type types ≡ true → length types ≤ limit → passed_kinds limit (fields_in rows types) ≡ kinds_in types
passed_kinds-scalars rows types limit a few = rw (scalars_fit rows types limit a few) (field_kinds-scalars rows types a)

-- ---- the values have their types

small : (w : IntWidth) (n : ℕ) → n % 2 ^ bits w < 2 ^ bits w
small int8 n = omega arith
small int16 n = omega arith
small int32 n = omega arith
small int64 n = omega arith

-- what the low bits stand for is a value of the type
pub prim_typed : (p : Prim) (n : ℕ) (v : Value) → PrimIs p (n % 2 ^ flat_bits p) v → HasPrimType v p
prim_typed boolean n v h = (_, h)
prim_typed (unsigned w) n v h = (_, small w n, h)
prim_typed (signed w) n v h = (_, read_sfits (width_of w) (n % 2 ^ bits w), h)
prim_typed scalar_value n v h = (_, h.0, h.1)

-- scalars that stand for core values are of their types
pub stands_typed : (rows : List ClosedType) (types : List ValType) (flats : List Flat) (ss : List Scalar) → list_all is_scalar_type types ≡ true → ScalarsStand types flats ss → HaveTypes (map value_in ss) (fields_in rows types)
stands_typed rows [] [] [] a h = refl
stands_typed rows [] [] (s ∷ ss) a h = absurd h
stands_typed rows [] (f ∷ flats) ss a h = absurd h
stands_typed rows (t ∷ types) [] ss a h = absurd h
stands_typed rows (t ∷ types) (f ∷ flats) [] a h = absurd h
stands_typed rows (val.Primitive p ∷ types) (f ∷ flats) (s ∷ ss) a h =
    (value_in s, map value_in ss, refl, prim_typed (prim_of p) (number_of f) (value_in s) h.0.1, stands_typed rows types flats ss a h.1)
stands_typed rows (val.String ∷ types) (f ∷ flats) (s ∷ ss) a h = cc
stands_typed rows (val.Id t ∷ types) (f ∷ flats) (s ∷ ss) a h = cc

-- ---- what the whole list says

pub lifted_values : (types : List ValType) (flats : List Flat) (ss : List Scalar) → AreScalar types → ScalarKindsFit types flats → ScalarsStand types flats ss → StandFor types flats (map value_in ss)
lifted_values types flats ss scalar kinds h rows limit m few =
    (kinds ∙ sym (passed_kinds-scalars rows types limit scalar.primitive few), inl (scalars_fit rows types limit scalar.primitive few, stands_lift rows m types flats ss scalar.primitive h))

pub lifted_fault : (types : List ValType) (flats : List Flat) (k : TrapKind) → AreScalar types → ScalarKindsFit types flats → FirstFault types flats k → FailAs types flats k
lifted_fault types flats k scalar kinds h rows limit m few =
    inr (kinds ∙ sym (passed_kinds-scalars rows types limit scalar.primitive few), inl (scalars_fit rows types limit scalar.primitive few, faults_lift rows m types flats k scalar.primitive h))

pub other_kinds : (types : List ValType) (flats : List Flat) → AreScalar types → (ScalarKindsFit types flats → ⊥) → FailAs types flats trap.CoreSignature
other_kinds types flats scalar other rows limit m few =
    inl (λ kinds. other (kinds ∙ passed_kinds-scalars rows types limit scalar.primitive few), refl)
