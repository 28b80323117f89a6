-- A block whose size is a number of 32 bits is refused by its allocator alone.
use Rattle.std.proofs.Common.{inl, inr, ℕ, ◌^◌, ◌<◌, arith}
use Rattle.canonical_abi.specs.Guest.{Memory, Allocation}
use Rattle.canonical_abi.specs.Trace.{RequestFails, RequestEnds}
use Rattle.canonical_abi.specs.declared.trap.TrapKind.{TrapKind}

pub request-fails : (allocates : Allocation) (old : Memory) (align size : ℕ) (k : TrapKind) (new : Memory) → size < 2 ^ 32 → RequestEnds 4294967295 allocates old align size k new → RequestFails allocates old align size k new
request-fails allocates old align size k new few (inl h) = absurd (omega (arith, h.0, few))
request-fails allocates old align size k new few (inr h) = h.1
