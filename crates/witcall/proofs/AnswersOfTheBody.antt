-- What the program's own body answers, and why it stops.
use Rattle.std.proofs.Common.{◌≡◌, ◌≤◌, ℕ, List, [], ◌∷◌, map, Option, Some, None, subst, arith}
use Rattle.std.specs.Prelude.{option_to_list, MatchOption, IfSome}
use Rattle.canonical_abi.specs.Types.{ClosedType, Fields, record_type}
use Rattle.canonical_abi.specs.Values.{Value}
use Rattle.canonical_abi.specs.Layout.{max_flat_params, size}
use Rattle.canonical_abi.specs.Flat.{Denotes, DenotesFault}
use Rattle.canonical_abi.specs.Guest.{Memory}
use Rattle.canonical_abi.specs.declared.flat.Flat.{Flat}
use Rattle.canonical_abi.specs.declared.trap.TrapKind.{TrapKind}
use Rattle.tables.specs.Closed.{closed_type}
use Rattle.tables.specs.Standard.{IsTypeOf}
use Rattle.tables.specs.declared.tables.Resolve.{Resolve}
use Rattle.tables.specs.declared.tables.ValType.{ValType}
use Rattle.memory.specs.Space.{SpaceAllocates}
use Rattle.values.specs.Members.{fields_of_types}
use Rattle.lift_lower.specs.Crossing.{AnswerFails}
use Rattle.values.specs.Val.{value_of}
use Rattle.values.specs.declared.val.Val.{Val}
use Rattle.values.specs.Scalars.{AreScalar, fields_in, StandFor, FailAs}
use Rattle.lift_lower.proofs.OneFieldRecords.{alone-size}

-- what an option lends as a slice
pub lent : {A : Type 0} (o : Option A) (xs : List A) → MatchOption o (xs ≡ []) (λ t. xs ≡ t ∷ []) → xs ≡ option_to_list o
lent None xs h = h
lent (Some t) xs h = h

-- ---- the arguments

pub arguments-denoted : (rows : List ClosedType) (params : List ValType) (ts : Fields) (m : List ℕ) (flats : List Flat) (vs : List Value)
    → AreScalar params → fields_in rows params ≡ ts → StandFor params flats vs → Denotes max_flat_params ts m flats vs
arguments-denoted rows params ts m flats vs scalar are stand = subst (λ us. Denotes max_flat_params us m flats vs) are (stand rows max_flat_params m scalar.few)

pub arguments-faulty : (rows : List ClosedType) (params : List ValType) (ts : Fields) (m : List ℕ) (flats : List Flat) (k : TrapKind)
    → AreScalar params → fields_in rows params ≡ ts → FailAs params flats k → DenotesFault max_flat_params ts m flats k
arguments-faulty rows params ts m flats k scalar are fail = subst (λ us. DenotesFault max_flat_params us m flats k) are (fail rows max_flat_params m scalar.few)

-- ---- what it answers

pub no-room : (q : Resolve) (types : List ValType) (ts : Fields) (vs ws : List Val) (k : TrapKind) (old new : Memory) → fields_of_types q types ≡ ts → vs ≡ ws
    → AnswerFails SpaceAllocates (fields_of_types q types) (map value_of vs) old k new → (kind : TrapKind) × AnswerFails SpaceAllocates ts (map value_of ws) old kind new
no-room q types ts vs ws k old new e v h =
    (k, subst (λ us. AnswerFails SpaceAllocates ts (map value_of us) old k new) v (subst (λ us. AnswerFails SpaceAllocates us (map value_of vs) old k new) e h))

pub result-small : (r : Resolve) (o : Option ValType) → ((t : ValType) → IsTypeOf r t → size (closed_type r t) ≤ 16777216) → IfSome o (IsTypeOf r)
    → size (record_type (fields_of_types r (option_to_list o))) ≤ 16777216
result-small r None small known = omega arith
result-small r (Some t) small known = omega (arith, alone-size (closed_type r t), small t known)
