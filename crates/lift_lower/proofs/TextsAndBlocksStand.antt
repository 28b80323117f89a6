-- When a text is read, and when a block stands.
use Rattle.std.proofs.Common.{◌≡◌, inl, inr, ℕ, ◌+◌, ◌%◌, ◌≤◌, List, length, Ok, Err, refl, sym, ap}
use Rattle.std.proofs.lemmas.Bool.{le-leb, lt-leb, ne_eqb}
use Rattle.canonical_abi.specs.Memory.{TextHolds, TextFaulty, BlockFaulty}
use Rattle.canonical_abi.specs.Reading.{text_at, block_at}
use Rattle.canonical_abi.specs.Values.{Value}
use Rattle.canonical_abi.specs.declared.trap.TrapKind.{TrapKind}

pub text-stands : (m : List ℕ) (a n : ℕ) (v : Value) → TextHolds m a n v → text_at m a n ≡ Ok v
text-stands m a n v h = rw (le-leb (a + n) (length m) h.0, h.1) (ap Ok (sym h.2))

pub text-fault : (m : List ℕ) (a n : ℕ) (k : TrapKind) → TextFaulty m a n k → text_at m a n ≡ Err k
text-fault m a n k (inl h) = rw (lt-leb (a + n) (length m) h.0) (ap Err (sym h.1))
text-fault m a n k (inr h) = rw (le-leb (a + n) (length m) h.0, h.1) (ap Err (sym h.2))

pub block-stands : (m : List ℕ) (a al n : ℕ) → a % al ≡ 0 → a + n ≤ length m → block_at m a al n ≡ Ok a
block-stands m a al n h i = rw (h, le-leb (a + n) (length m) i) refl

pub block-fault : (m : List ℕ) (a al n : ℕ) (k : TrapKind) → BlockFaulty m a al n k → block_at m a al n ≡ Err k
block-fault m a al n k (inl h) = rw (ne_eqb (a % al) 0 h.0) (ap Err (sym h.1))
block-fault m a al n k (inr h) = rw (h.0, lt-leb (a + n) (length m) h.1) (ap Err (sym h.2))
