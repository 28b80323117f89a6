-- Values of primitive types are carried by a core value each, and nothing is put into memory for them.
use Rattle.std.proofs.Common.{◌≡◌, inl, ◌+◌, ◌<◌, ◌≤◌, ℕ, zero, suc, List, [], ◌∷◌, ◌++◌, length, take, get_or, refl, sym, ap, ◌∙◌, subst, arith, add-one}
use Rattle.std.proofs.lemmas.Bool.{le-leb}
use Rattle.std.proofs.lemmas.List.{length-map}
use Rattle.std.specs.List.{AllByRecursion}
use Rattle.canonical_abi.specs.Types.{ClosedType, Fields, no_field, field}
use Rattle.canonical_abi.specs.Values.{Value, HasType, HaveTypes}
use Rattle.canonical_abi.specs.Layout.{field_kinds}
use Rattle.canonical_abi.specs.Reading.{kind_of}
use Rattle.canonical_abi.specs.Guest.{Memory, Allocation}
use Rattle.canonical_abi.specs.Trace.{Event, node, grants_of, AreGrantsWithin, TraceLeads}
use Rattle.canonical_abi.specs.Lowering.{Lowers, FieldsLower}
use Rattle.canonical_abi.specs.declared.flat.Flat.{Flat}
use Rattle.canonical_abi.proofs.FlatValues.LoweredValuesLift.{fields-lower-kinds}
use Rattle.values.proofs.ValuesOfTypesByShape.{type-of-scalar}
use Rattle.values.specs.Scalar.{prim_in}
use Rattle.lift_lower.specs.Crossing.{AreLowered}
use Rattle.lift_lower.specs.Lowered.{CarriesScalar, CarryScalars}

-- one more
pub carry-more : (i : ℕ) (vs : List Value) (fs : List Flat) (e : Value) (f : Flat) → i < length vs → CarryScalars (take i vs) fs → CarriesScalar (get_or vs i e) f
    → CarryScalars (take (i + 1) vs) (fs ++ f ∷ [])
carry-more i [] fs e f below h is = absurd (omega arith)
carry-more zero (v ∷ vs) [] e f below h is = (is, tt)
carry-more zero (v ∷ vs) (g ∷ fs) e f below h is = absurd h
carry-more (suc i) (v ∷ vs) [] e f below h is = absurd h
carry-more (suc i) (v ∷ vs) (g ∷ fs) e f below h is = rw add-one (h.0, rw add-one at (carry-more i vs fs e f (omega arith) h.1 is))

-- a node for each of them
abbrev pub only-nodes : List Flat → List Event
only-nodes [] = []
only-nodes (f ∷ fs) = node ∷ only-nodes fs

nodes-lead : (allocates : Allocation) (m : Memory) (flats : List Flat) → TraceLeads allocates m (only-nodes flats) m
nodes-lead allocates m [] = refl
nodes-lead allocates m (f ∷ fs) = (m, refl, nodes-lead allocates m fs)

no-grants : (flats : List Flat) → grants_of (only-nodes flats) ≡ []
no-grants [] = refl
no-grants (f ∷ fs) = no-grants fs

scalar-lowers : (t : ClosedType) (v : Value) (f : Flat) → HasType v t → CarriesScalar v f → Lowers t v (node ∷ []) (f ∷ [])
scalar-lowers t v f typed (s, own, is, carried) =
    subst (λ u. Lowers u v (node ∷ []) (f ∷ [])) (sym (type-of-scalar t v (prim_in s) own typed)) (own, refl, rw (carried, is) refl)

scalars-lower : (ts : Fields) (vs : List Value) (fs : List Flat) → HaveTypes vs ts → CarryScalars vs fs → FieldsLower ts vs (only-nodes fs) fs
scalars-lower no_field vs [] typed h = (typed, refl, refl)
scalars-lower no_field vs (f ∷ fs) typed h =
    let carried : CarryScalars [] (f ∷ fs) = subst (λ xs. CarryScalars xs (f ∷ fs)) typed h in
    absurd carried
scalars-lower (field t ts) vs [] (v, others, is, first, rest) h =
    let carried : CarryScalars (v ∷ others) [] = subst (λ xs. CarryScalars xs []) is h in
    absurd carried
scalars-lower (field t ts) vs (f ∷ fs) (v, others, is, first, rest) h =
    let carried : CarryScalars (v ∷ others) (f ∷ fs) = subst (λ xs. CarryScalars xs (f ∷ fs)) is h in
    (v, others, node ∷ [], only-nodes fs, f ∷ [], fs, is, refl, refl, scalar-lowers t v f first carried.0, scalars-lower ts others fs rest carried.1)

-- arguments that scalars carry are lowered, and the memory stays
pub scalars-are-lowered : (allocates : Allocation) (ts : Fields) (vs : List Value) (fs : List Flat) (m : Memory) → HaveTypes vs ts → CarryScalars vs fs → length fs ≤ 16 → AreLowered allocates ts vs m fs m
scalars-are-lowered allocates ts vs fs m typed h few =
    let lowers = scalars-lower ts vs fs typed h in
    let count : length fs ≡ length (field_kinds ts) = sym (length-map fs kind_of) ∙ ap length (fields-lower-kinds ts vs (only-nodes fs) fs lowers) in
    let none : AreGrantsWithin 16777216 (only-nodes fs) = subst (λ gs. AllByRecursion (λ g. g.size ≤ 16777216) gs) (sym (no-grants fs)) tt in
    (only-nodes fs, inl (le-leb (length (field_kinds ts)) 16 (omega (arith, few, count)), lowers), none, nodes-lead allocates m fs)
