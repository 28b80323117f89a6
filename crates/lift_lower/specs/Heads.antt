-- CanonicalABI.md, "Loading", "Storing" and "Flat Lifting", of one node: what it has of its own, without the nodes below it.
use Rattle.std.specs.Prelude.{◌≡◌, ◌⊎◌, ℕ, ◌+◌, ◌*◌, ◌%◌, ◌^◌, ◌<◌, ◌≤◌, List, [], ◌∷◌}
use Rattle.std.specs.Int.{Width, w8, w32, to_le_bytes}
use Rattle.canonical_abi.specs.Types.{Prim, ClosedType, prim_type, string_type, list_type, record_type, variant_type, flags_type, Fields, Cases, case_count}
use Rattle.canonical_abi.specs.Layout.{align, size, prim_width, flags_size, discriminant_size}
use Rattle.canonical_abi.specs.Memory.{PrimIs, PrimFaulty, BlockHolds, BlockFaulty}
use Rattle.canonical_abi.specs.Reading.{number_at, byte_width, case_number, low_bits, flat_bits}
use Rattle.canonical_abi.specs.Storing.{pointer_pair, number_in}
use Rattle.canonical_abi.specs.Trace.{Event, write}
use Rattle.canonical_abi.specs.declared.trap.TrapKind.{TrapKind}
use Rattle.canonical_abi.specs.declared.trap.TrapKind.TheVariants as trap
use Rattle.values.specs.Scalar.{prim_in, value_in}
use Rattle.values.specs.declared.scalar.Scalar.{Scalar}
use Rattle.lift_lower.specs.declared.heads.Head.{Head}
use Rattle.lift_lower.specs.declared.heads.Head.TheVariants as head

-- ---- heads by their numbers

-- the number is one of a value of this primitive, and the head is that scalar
abbrev pub ScalarHead : Prim → ℕ → Head → Type 0
ScalarHead p n h = (s : Scalar) × (h ≡ head.Scalar s) × (prim_in s ≡ p) × PrimIs p n (value_in s)

-- the head is n items at an address, of this alignment and size, in an aligned block inside the memory m
abbrev pub BlockHead : List ℕ → ℕ → ℕ → ℕ → ℕ → Head → Type 0
BlockHead m alignment step at n h = (h ≡ head.Block at n) × BlockHolds m at alignment (n * step)

-- the number is one of these cases, and it is the head
abbrev pub CaseHead : Cases → ℕ → Head → Type 0
CaseHead cs i h = (i < case_count cs) × (h ≡ head.Case i)

-- the number is not one of these cases (K2)
abbrev pub CaseHeadFaulty : Cases → ℕ → TrapKind → Type 0
CaseHeadFaulty cs i k = (case_count cs ≤ i) × (k ≡ trap.Case)

-- ---- in memory

-- the node at a is of this type, and has this head
abbrev pub HeadHolds : ClosedType → List ℕ → ℕ → Head → Type 0
HeadHolds (prim_type p) m a h = ScalarHead p (number_at m a (prim_width p)) h
HeadHolds string_type m a h = BlockHead m 1 1 (number_at m a w32) (number_at m (a + 4) w32) h
HeadHolds (list_type t) m a h = BlockHead m (align t) (size t) (number_at m a w32) (number_at m (a + 4) w32) h
HeadHolds (record_type fs) m a h = h ≡ head.Nothing
HeadHolds (variant_type cs) m a h = CaseHead cs (case_number cs m a) h
HeadHolds (flags_type n) m a h = h ≡ head.Flags (number_at m a (byte_width (flags_size n)) % 2 ^ n)

-- the node's own fault; a text's bytes are no part of its head
abbrev pub HeadFaulty : ClosedType → List ℕ → ℕ → TrapKind → Type 0
HeadFaulty (prim_type p) m a k = PrimFaulty p (number_at m a (prim_width p)) k
HeadFaulty string_type m a k = BlockFaulty m (number_at m a w32) 1 (number_at m (a + 4) w32 * 1) k
HeadFaulty (list_type t) m a k = BlockFaulty m (number_at m a w32) (align t) (number_at m (a + 4) w32 * size t) k
HeadFaulty (record_type fs) m a k = ⊥
HeadFaulty (variant_type cs) m a k = CaseHeadFaulty cs (case_number cs m a) k
HeadFaulty (flags_type n) m a k = ⊥

-- ---- in flat values, as numbers

-- the first flat values are a node of this type, and have this head
abbrev pub HeadLifts : ClosedType → List ℕ → List ℕ → Head → Type 0
HeadLifts (prim_type p) m fs h = ScalarHead p (low_bits fs 0 (flat_bits p)) h
HeadLifts string_type m fs h = BlockHead m 1 1 (low_bits fs 0 32) (low_bits fs 1 32) h
HeadLifts (list_type t) m fs h = BlockHead m (align t) (size t) (low_bits fs 0 32) (low_bits fs 1 32) h
HeadLifts (record_type ts) m fs h = h ≡ head.Nothing
HeadLifts (variant_type cs) m fs h = CaseHead cs (low_bits fs 0 32) h
HeadLifts (flags_type n) m fs h = h ≡ head.Flags (low_bits fs 0 n)

-- the own fault of the node in these flat values; a text's bytes are no part of its head
abbrev pub HeadLiftFaulty : ClosedType → List ℕ → List ℕ → TrapKind → Type 0
HeadLiftFaulty (prim_type p) m fs k = PrimFaulty p (low_bits fs 0 (flat_bits p)) k
HeadLiftFaulty string_type m fs k = BlockFaulty m (low_bits fs 0 32) 1 (low_bits fs 1 32 * 1) k
HeadLiftFaulty (list_type t) m fs k = BlockFaulty m (low_bits fs 0 32) (align t) (low_bits fs 1 32 * size t) k
HeadLiftFaulty (record_type ts) m fs k = ⊥
HeadLiftFaulty (variant_type cs) m fs k = CaseHeadFaulty cs (low_bits fs 0 32) k
HeadLiftFaulty (flags_type n) m fs k = ⊥

-- how many flat values the head of a node of this type takes
abbrev pub head_flats : ClosedType → ℕ
head_flats (prim_type p) = 1
head_flats string_type = 2
head_flats (list_type t) = 2
head_flats (record_type ts) = 0
head_flats (variant_type cs) = 1
head_flats (flags_type n) = 1

-- ---- written

-- a node of this type may have this head
abbrev pub IsHeadOf : ClosedType → Head → Type 0
IsHeadOf t (head.Scalar s) = t ≡ prim_type (prim_in s)
IsHeadOf t (head.Block at n) = (t ≡ string_type) ⊎ ((u : ClosedType) × (t ≡ list_type u))
IsHeadOf t (head.Case i) = (cs : Cases) × (t ≡ variant_type cs) × (i < case_count cs)
IsHeadOf t (head.Flags labels) = (n : ℕ) × (t ≡ flags_type n) × (labels < 2 ^ n)
IsHeadOf t head.Nothing = (fs : Fields) × (t ≡ record_type fs)

-- the width of the number of a variant's case, or of flags; one byte for other types
abbrev pub number_width : ClosedType → Width
number_width (variant_type cs) = byte_width (discriminant_size (case_count cs))
number_width (flags_type n) = byte_width (flags_size n)
number_width _ = w8

-- the writes that put a head of this type at a
abbrev pub head_writes : Head → ClosedType → ℕ → List Event
head_writes (head.Scalar s) t a = write a (to_le_bytes (prim_width (prim_in s)) (number_in (prim_width (prim_in s)) (value_in s))) ∷ []
head_writes (head.Block at n) t a = write a (pointer_pair at n) ∷ []
head_writes (head.Case i) t a = write a (to_le_bytes (number_width t) i) ∷ []
head_writes (head.Flags labels) t a = write a (to_le_bytes (number_width t) labels) ∷ []
head_writes head.Nothing t a = []
