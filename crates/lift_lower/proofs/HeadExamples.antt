-- Worked examples: the heads of nodes, and their faults.
use Rattle.std.proofs.Common.{◌≡◌, inl, inr, true, [], ◌∷◌, replicate, refl, arith}
use Rattle.canonical_abi.specs.Types.{boolean, unsigned, scalar_value, int32, prim_type, string_type, list_type, record_type, variant_type, flags_type, no_field, no_case, plain_case}
use Rattle.canonical_abi.specs.Reading.{number_at, low_bits}
use Rattle.canonical_abi.specs.Trace.{write}
use Rattle.canonical_abi.specs.declared.trap.TrapKind.TheVariants as trap
use Rattle.lift_lower.specs.Heads.{HeadHolds, HeadFaulty, HeadLifts, head_writes}
use Rattle.values.specs.declared.scalar.Scalar.TheVariants as scalar
use Rattle.lift_lower.specs.declared.heads.Head.TheVariants as head

surrogate : HeadFaulty (prim_type scalar_value) (0 ∷ 0xD8 ∷ 0 ∷ 0 ∷ []) 0 trap.Char
unfolding number_at
surrogate = (refl, refl)

-- a bool of any byte but zero is true, and is written as 1
bool-two : HeadHolds (prim_type boolean) (2 ∷ []) 0 (head.Scalar (scalar.Bool true))
unfolding number_at
bool-two = (scalar.Bool true, refl, refl, refl)

bool-written : head_writes (head.Scalar (scalar.Bool true)) (prim_type boolean) 0 ≡ write 0 (1 ∷ []) ∷ []
bool-written = refl

case-3-of-3 : HeadFaulty (variant_type (plain_case (plain_case (plain_case no_case)))) (3 ∷ []) 0 trap.Case
unfolding number_at
case-3-of-3 = (omega arith, refl)

case-2-of-3 : HeadHolds (variant_type (plain_case (plain_case (plain_case no_case)))) (2 ∷ []) 0 (head.Case 2)
unfolding number_at
case-2-of-3 = (omega arith, refl)

-- an empty list has its block tested too
list-at-36-of-32 : HeadFaulty (list_type (prim_type (unsigned int32))) (36 ∷ 0 ∷ 0 ∷ 0 ∷ 0 ∷ 0 ∷ 0 ∷ 0 ∷ replicate 24 0) 0 trap.Bounds
unfolding number_at
list-at-36-of-32 = inr (refl, omega arith, refl)

list-at-2 : HeadFaulty (list_type (prim_type (unsigned int32))) (2 ∷ 0 ∷ 0 ∷ 0 ∷ 0 ∷ 0 ∷ 0 ∷ 0 ∷ []) 0 trap.Align
unfolding number_at
list-at-2 = inl ((λ e. cc), refl)

-- a text of one byte that is no UTF-8 has a head
text-of-ff : HeadHolds string_type (8 ∷ 0 ∷ 0 ∷ 0 ∷ 1 ∷ 0 ∷ 0 ∷ 0 ∷ 0xFF ∷ []) 0 (head.Block 8 1)
unfolding number_at
text-of-ff = (refl, (refl, omega arith))

flags-255-of-3 : HeadLifts (flags_type 3) [] (255 ∷ []) (head.Flags 7)
unfolding low_bits
flags-255-of-3 = refl

record-writes-nothing : head_writes head.Nothing (record_type no_field) 0 ≡ []
record-writes-nothing = refl
