-- An allocator that keeps its notes in the memory itself, as those of C programs do: before each block a header with its size, and a list of the free
-- blocks that goes through them. (CanonicalABI.md has no such section: it leaves open how `realloc` finds a block.)
use Rattle.std.specs.Prelude.{◌≡◌, ◌⊎◌, ◌+◌, ◌-◌, ◌*◌, ◌/◌, ◌%◌, ◌<◌, ◌≤◌, ℕ, zero, suc, Bool, true, false, List, [], ◌∷◌, Option, Some, None, length, max, replicate, ◌&&◌, nat_le}
use Rattle.std.specs.Int.{w32, to_le_bytes}
use Rattle.canonical_abi.specs.Guest.{Memory, Allocation, Release, IsWithin, overwrite, with_bytes, rounded_to_eight}
use Rattle.canonical_abi.specs.Reading.{number_at}
use Rattle.memory.specs.FirstFit.{TakesBlock, Frees}
use Rattle.memory.specs.Growth.{ArePages, GrowsTo}
use Rattle.memory.specs.Refusals.{RefusesLength}
use Rattle.memory.specs.Units.{is_unit_live}
use Rattle.memory.specs.declared.error.MemoryError.{MemoryError}
use Rattle.memory.specs.declared.error.MemoryError.TheVariants.{BadPages}

-- a memory with headers: live is what was granted and not taken back; of the notes nothing ever is
abbrev pub headers : List ℕ → List Bool → ℕ → Memory
headers bytes units most = record { bytes = bytes; live = λ a. nat_le 16 a && is_unit_live units a; state = most ∷ [] }

-- ---- the notes

-- the number of four bytes at an address
abbrev pub word : Memory → ℕ → ℕ
word m at = number_at m.bytes at w32

-- the memory with such a number at an address
abbrev pub with_word : Memory → ℕ → ℕ → Memory
with_word m at n = with_bytes m (overwrite m.bytes at (to_le_bytes w32 n))

-- where a refusal notes its error
abbrev pub error_note : ℕ
error_note = 4

-- where the address of the first free block is; 0 is the address of none
abbrev pub first_link : ℕ
first_link = 8

-- where the address is from which on nothing was granted
abbrev pub top_note : ℕ
top_note = 12

-- that address; 16 at least, since the notes are before it
abbrev pub top : Memory → ℕ
top m = max (word m top_note) 16

-- the notes are inside, and none of their addresses is live
pub record HasNotes (m : Memory) : Type 0 where
  pub inside : 24 ≤ length m.bytes
  pub free : (a : ℕ) → a < 16 → m.live a ≡ false

-- ---- free blocks

-- the block is of whole units behind the notes and a header, inside, and no address of it and of its header is live
pub record IsFree (m : Memory) (at size : ℕ) : Type 0 where
  pub unit : at % 8 ≡ 0
  pub behind : 24 ≤ at
  pub inside : at + size ≤ length m.bytes
  pub free : (a : ℕ) → at ≤ a + 8 → a < at + size → m.live a ≡ false

-- a free block has so many bytes, by its header too
pub record HasRoom (m : Memory) (at size : ℕ) : Type 0 where
  pub told : size ≤ word m (at - 8)
  pub block : IsFree m at size

-- of the free blocks that the links lead to, one after the other, the first whose header says so many bytes is behind the link `found`, and has them;
-- it is reached from the one at `link` in at most so many steps
abbrev pub Leads : Memory → ℕ → ℕ → ℕ → ℕ → Type 0
Leads m size zero link found = ⊥
Leads m size (suc steps) link found =
    IsFree m (word m link) 8 × ((HasRoom m (word m link) size × (found ≡ link)) ⊎ ((word m (word m link - 8) < size) × Leads m size steps (word m link) found))

-- as many steps as there are units
abbrev pub LeadsTo : Memory → ℕ → ℕ → Type 0
LeadsTo m size found = Leads m size (length m.bytes / 8) first_link found

-- no block of the list has so many bytes
abbrev pub LeadsNowhere : Memory → ℕ → Type 0
LeadsNowhere m size = (found : ℕ) → LeadsTo m size found → ⊥

-- ---- grants

-- the first free block with so many bytes is granted: the link to it is from now on to the one after it
pub record TakesListed (old : Memory) (size at : ℕ) (new : Memory) : Type 0 where
  pub link : ℕ
  pub leads : LeadsTo old size link
  pub there : at ≡ word old link
  pub takes : TakesBlock (with_word old link (word old at)) at size new

-- from the top on is room for a header and so many bytes: whole units that are not live, and no more than the most bytes
pub record HasTop (m : Memory) (most size : ℕ) : Type 0 where
  pub unit : top m % 8 ≡ 0
  pub within : top m + 8 + size ≤ most
  pub free : (a : ℕ) → top m ≤ a → a < top m + 8 + size → m.live a ≡ false

-- the block behind a header at the top is granted, once the memory has grown to its end
pub record TakesTop (old : Memory) (size at : ℕ) (new : Memory) : Type 0 where
  pub most : ℕ
  pub state : old.state ≡ most ∷ []
  pub few : most ≤ 16777216
  pub room : HasTop old most size
  pub bytes : List ℕ
  pub grown : GrowsTo old.bytes most (top old + 8 + size) bytes
  pub there : at ≡ top old + 8
  pub takes : TakesBlock (with_word (with_word (with_bytes old bytes) (top old) size) top_note (at + size)) at size new

-- the first free block with so many bytes, or one at the top. A refusal notes its error: 48, by which WASI says that there is no memory. No byte is asked
-- for at address 0, and takes nothing
abbrev pub HeadersAllocates : Memory → ℕ → ℕ → Option ℕ → Memory → Type 0
HeadersAllocates old align size (Some at) new =
    ((size ≡ 0) × (at ≡ 0) × (new ≡ old))
    ⊎ ((0 < size) × HasNotes old
    × (TakesListed old (rounded_to_eight size) at new ⊎ (LeadsNowhere old (rounded_to_eight size) × TakesTop old (rounded_to_eight size) at new)))
HeadersAllocates old align size None new =
    (0 < size) × HasNotes old × LeadsNowhere old (rounded_to_eight size) × ((most : ℕ) → old.state ≡ most ∷ [] → HasTop old most (rounded_to_eight size) → ⊥)
    × (new ≡ with_word old error_note 48)

-- ---- releases

-- the block is of whole units behind the notes and a header, inside, and live; its header has at least its size
pub record HasBlock (m : Memory) (at size : ℕ) : Type 0 where
  pub unit : at % 8 ≡ 0
  pub behind : 24 ≤ at
  pub inside : at + size ≤ length m.bytes
  pub told : size ≤ word m (at - 8)
  pub live : (a : ℕ) → IsWithin a at size → m.live a ≡ true

-- a block is taken back, and is the first of the list: its first bytes are the link to the one that was first before. No byte is always taken back
abbrev pub HeadersReleases : Memory → ℕ → ℕ → Bool → Memory → Type 0
HeadersReleases old at size true new =
    ((size ≡ 0) × (new ≡ old))
    ⊎ ((0 < size) × HasNotes old × HasBlock old at (rounded_to_eight size)
    × Frees (with_word (with_word old at (word old first_link)) first_link at) at (rounded_to_eight size) new)
HeadersReleases old at size false new = (0 < size) × (HasBlock old at (rounded_to_eight size) → ⊥) × (new ≡ old)

-- ---- the memory at first

-- there are so many zeros, of which none is live, and room for so many
pub record IsFresh (len most : ℕ) (m : Memory) : Type 0 where
  pub zeros : m.bytes ≡ replicate len 0
  pub none : (a : ℕ) → m.live a ≡ false
  pub state : m.state ≡ most ∷ []

-- both lengths are whole pages, and there is a page for the notes
abbrev pub HasPage : ℕ → ℕ → Type 0
HasPage len most = (0 < len) × ArePages len most

-- why there is no such memory
abbrev pub RefusesHeaders : ℕ → ℕ → MemoryError → Type 0
RefusesHeaders len most e = ((e ≡ BadPages) × ¬ HasPage len most) ⊎ (HasPage len most × RefusesLength most e)
