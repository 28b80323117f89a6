-- An allocator that takes blocks, in units of eight bytes, from the front of the first hole that has them, and takes them back.
use Rattle.std.specs.Prelude.{◌≡◌, ◌⊎◌, ◌+◌, ◌*◌, ◌/◌, ◌%◌, ◌<◌, ◌≤◌, ◌&&◌, ◌||◌, not, ℕ, suc, Bool, true, false, [], ◌∷◌, Option, Some, None, length, nat_lt, nat_le}
use Rattle.canonical_abi.specs.Guest.{Memory, IsWithin, rounded_to_eight}
use Rattle.memory.specs.Growth.{grown, IsLeastGrowth, HasNoGrowth}

-- how many of the bytes are handed out at all: whole units of eight
abbrev pub usable : Memory → ℕ
usable m = length m.bytes / 8 * 8

-- a hole: a longest run of usable addresses that are not live
pub record IsHole (m : Memory) (start end : ℕ) : Type 0 where
  pub some : start < end
  pub inside : end ≤ usable m
  pub free : (a : ℕ) → start ≤ a → a < end → m.live a ≡ false
  pub begins : (a : ℕ) → suc a ≡ start → m.live a ≡ true
  pub ends : end < usable m → m.live end ≡ true

-- an address lies in the block of a size at an address
abbrev pub is_address_within : ℕ → ℕ → ℕ → Bool
is_address_within a at size = nat_le at a && nat_lt a (at + size)

-- the block is live from now on, and nothing else changes
pub record TakesBlock (old : Memory) (at size : ℕ) (new : Memory) : Type 0 where
  pub same_bytes : new.bytes ≡ old.bytes
  pub same_state : new.state ≡ old.state
  pub live : (a : ℕ) → new.live a ≡ (old.live a || is_address_within a at size)

-- the block is not live from now on, and nothing else changes
pub record Frees (old : Memory) (at size : ℕ) (new : Memory) : Type 0 where
  pub same_bytes : new.bytes ≡ old.bytes
  pub same_state : new.state ≡ old.state
  pub live : (a : ℕ) → new.live a ≡ (old.live a && not (is_address_within a at size))

-- the first hole that has so many bytes
pub record IsFirstWith (m : Memory) (size start end : ℕ) : Type 0 where
  pub hole : IsHole m start end
  pub unit : start % 8 ≡ 0
  pub enough : start + size ≤ end
  pub first : (s e : ℕ) → IsHole m s e → s < start → e < s + size

-- with so many pages more, a hole has so many bytes
abbrev pub HasRoomGrown : Memory → ℕ → ℕ → Type 0
HasRoomGrown m size pages = (start end : ℕ) × IsHole (grown m pages) start end × (start + size ≤ end)

-- the front of the first hole that has the block, once the memory has grown until one has it; none only where it can't. No byte is asked for at address 0, and takes nothing
abbrev pub FirstFitAllocates : Memory → ℕ → ℕ → Option ℕ → Memory → Type 0
FirstFitAllocates old align size (Some at) new =
    ((size ≡ 0) × (at ≡ 0) × (new ≡ old))
    ⊎ ((0 < size) × (max pages end : ℕ) × (old.state ≡ max ∷ []) × (max ≤ 16777216) × IsLeastGrowth (length old.bytes) max (HasRoomGrown old (rounded_to_eight size)) pages
    × IsFirstWith (grown old pages) (rounded_to_eight size) at end × TakesBlock (grown old pages) at (rounded_to_eight size) new)
FirstFitAllocates old align size None new =
    (0 < size) × (max : ℕ) × (old.state ≡ max ∷ []) × HasNoGrowth (length old.bytes) max (HasRoomGrown old (rounded_to_eight size)) × (new ≡ old)

-- the block begins at a unit, is usable, and meets no hole
pub record CanBeFreed (m : Memory) (at size : ℕ) : Type 0 where
  pub unit : at % 8 ≡ 0
  pub inside : at + size ≤ usable m
  pub apart : (s e : ℕ) → IsHole m s e → (a : ℕ) → s ≤ a → a < e → IsWithin a at size → ⊥

-- a block that can be freed is taken back, and no other
abbrev pub FirstFitReleases : Memory → ℕ → ℕ → Bool → Memory → Type 0
FirstFitReleases old at size true new = CanBeFreed old at (rounded_to_eight size) × Frees old at (rounded_to_eight size) new
FirstFitReleases old at size false new = (CanBeFreed old at (rounded_to_eight size) → ⊥) × (new ≡ old)
