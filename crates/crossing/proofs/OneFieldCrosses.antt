-- A record of one field crosses as its field does, and so does one type by itself.
use Rattle.std.proofs.Common.{◌≡◌, ℕ, ◌+◌, ◌^◌, ◌<◌, ◌≤◌, List, [], ◌∷◌, length, get_or, Result, Ok, Err, refl, arith}
use Rattle.std.specs.Int.{next_multiple_of}
use Rattle.canonical_abi.specs.Guest.{Memory, Allocation}
use Rattle.canonical_abi.specs.Laws.{ReadsExactly}
use Rattle.canonical_abi.specs.Layout.{size, align}
use Rattle.canonical_abi.specs.Types.{ClosedType, Fields, field, no_field, record_type}
use Rattle.values.specs.Bytes.{AreBytes}
use Rattle.tables.specs.Closed.{closed_type}
use Rattle.tables.specs.declared.tables.Resolve.{Resolve}
use Rattle.tables.specs.declared.tables.ValType.{ValType}
use Rattle.values.specs.Members.{fields_of_types}
use Rattle.lift_lower.proofs.OneFieldRecords.{first-place, alone-size}
use Rattle.crossing.specs.Outcome.{Walks, FieldsWalk, Ends}
use Rattle.crossing.specs.declared.stopped.Stopped.{Stopped}
use Rattle.crossing.proofs.OneNodeOfAWay.{field-next, field-stopped, fields-done}
use Rattle.crossing.proofs.PartsOfWaysInOrder.{begun}

module _ (allocates : Allocation) (t : ClosedType) (m : List ℕ) (a at : ℕ) (bytes : AreBytes m) (short : length m < 2 ^ 32) (exactly : ReadsExactly) where
  abbrev only : Fields
  only = field t no_field

  at-place : (p : ℕ) → p ≡ 0 → (old : Memory) (n : ℕ) (r : Result (Unit {0}) Stopped) (new : Memory) (c : ℕ) → Ends allocates (Walks t m a at) old n r new c → Ends allocates (Walks t m (a + p) (at + p)) old n r new c
  at-place p none old n r new c u =
      let from : a + p ≡ a = omega (arith, none) in
      let to : at + p ≡ at = omega (arith, none) in
      rw (from, to) u

  pub one-field-ends : (old : Memory) (n : ℕ) (r : Result (Unit {0}) Stopped) (new : Memory) (c : ℕ) → Ends allocates (Walks t m a at) old n r new c → Ends allocates (FieldsWalk only m a at 0) old n r new c
  one-field-ends old n (Ok _) new c u =
      fields-done allocates only m a at 1 (next_multiple_of 0 (align t) + size t) refl old new n c
      (field-next allocates only m a at 0 0 t refl old old new n n c (begun allocates (FieldsWalk only m a at 0) old n) (at-place (next_multiple_of 0 (align t)) (first-place t) old n (Ok tt) new c u))
  one-field-ends old n (Err s) new c u =
      field-stopped allocates only m a at 0 0 t refl bytes short exactly old old s new n n c (begun allocates (FieldsWalk only m a at 0) old n) (at-place (next_multiple_of 0 (align t)) (first-place t) old n (Err s) new c u)

-- ---- one type

pub one-type-size : (r : Resolve) (types : List ValType) (d : ValType) → 1 ≤ length types → length types < 2 → size (closed_type r (get_or types 0 d)) ≡ size (record_type (fields_of_types r types))
one-type-size r [] d some few = absurd (omega arith)
one-type-size r (t ∷ []) d some few = let h = alone-size (closed_type r t) in omega (arith, h)
one-type-size r (t ∷ u ∷ types) d some few = absurd (omega arith)

pub one-type-ends : (allocates : Allocation) (r : Resolve) (types : List ValType) (d : ValType) (m : List ℕ) (a at : ℕ) → AreBytes m → length m < 2 ^ 32 → ReadsExactly → 1 ≤ length types → length types < 2
    → (old : Memory) (n : ℕ) (e : Result (Unit {0}) Stopped) (new : Memory) (c : ℕ) → Ends allocates (Walks (closed_type r (get_or types 0 d)) m a at) old n e new c
    → Ends allocates (FieldsWalk (fields_of_types r types) m a at 0) old n e new c
one-type-ends allocates r [] d m a at bytes short exactly some few old n e new c u = absurd (omega arith)
one-type-ends allocates r (t ∷ []) d m a at bytes short exactly some few old n e new c u = one-field-ends allocates (closed_type r t) m a at bytes short exactly old n e new c u
one-type-ends allocates r (t ∷ v ∷ types) d m a at bytes short exactly some few old n e new c u = absurd (omega arith)
