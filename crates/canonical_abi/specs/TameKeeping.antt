-- CanonicalABI.md, "Storing": a value that was placed over a tame guest is held, in live addresses.
use Rattle.std.specs.Prelude.{◌≡◌, ℕ, ◌<◌, ◌^◌, false, Ok, Err, length}
use Rattle.canonical_abi.specs.Types.{ClosedType, IsStandard}
use Rattle.canonical_abi.specs.Values.{Value}
use Rattle.canonical_abi.specs.Memory.{HoldsInBlock}
use Rattle.canonical_abi.specs.Guest.{Memory, Allocation}
use Rattle.canonical_abi.specs.Footprint.{Reads}
use Rattle.canonical_abi.specs.Session.{Held, PlacesValue}
use Rattle.canonical_abi.specs.Keeping.{IsLive}
use Rattle.canonical_abi.specs.Tame.{LeavesLive}
use Rattle.canonical_abi.specs.declared.trap.Fault.{Fault}

-- a value that was placed is held, its footprint is live and was not before, and no live byte is changed
pub record IsPlacedLive (t : ClosedType) (a : ℕ) (v : Value) (old new : Memory) : Type 0 where
  pub holds : HoldsInBlock t new.bytes a v
  pub live : IsLive (Reads t new.bytes a) new
  pub was_free : (x : ℕ) → Reads t new.bytes a x → old.live x ≡ false
  pub kept : LeavesLive 0 0 old new

-- of an allocator: a value that it placed is held, and a placing that failed changed no live byte
pub record PlacedIsHeldLive (allocates : Allocation) : Type 0 where
  pub placed : (t : ClosedType) (v : Value) (old new : Memory) (held : Held) → IsStandard t → length new.bytes < 2 ^ 32
      → PlacesValue allocates t v old (Ok held) new → IsPlacedLive t held.at v old new
  pub failed : (t : ClosedType) (v : Value) (old new : Memory) (fault : Fault) → PlacesValue allocates t v old (Err fault) new → LeavesLive 0 0 old new
