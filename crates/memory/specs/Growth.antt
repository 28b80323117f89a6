-- How a memory grows: by whole pages of zeros, to no more bytes than was said when it was made.
use Rattle.std.specs.Prelude.{◌≡◌, ◌+◌, ◌*◌, ◌%◌, ◌<◌, ◌≤◌, ℕ, List, [], ◌∷◌, ◌++◌, length, replicate}
use Rattle.canonical_abi.specs.Guest.{Memory, with_bytes}

-- the bytes with so many pages of 65,536 zeros behind them
abbrev pub with_pages : List ℕ → ℕ → List ℕ
with_pages bytes pages = bytes ++ replicate (pages * 65536) 0

-- the memory with so many pages of zeros added
abbrev pub grown : Memory → ℕ → Memory
grown memory pages = with_bytes memory (with_pages memory.bytes pages)

-- a length and a greatest length are whole pages, and the first is not above the second
abbrev pub ArePages : ℕ → ℕ → Type 0
ArePages len max = (len % 65536 ≡ 0) × (max % 65536 ≡ 0) × (len ≤ max)

-- the least number of pages that is enough, with which `len` bytes become no more than `max`
pub record IsLeastGrowth (len max : ℕ) (IsEnough : ℕ → Type 0) (pages : ℕ) : Type 0 where
  pub within : len + pages * 65536 ≤ max
  pub enough : IsEnough pages
  pub least : (fewer : ℕ) → fewer < pages → IsEnough fewer → ⊥

-- no number of pages is enough with which `len` bytes become no more than `max`
abbrev pub HasNoGrowth : ℕ → ℕ → (ℕ → Type 0) → Type 0
HasNoGrowth len max IsEnough = (pages : ℕ) → len + pages * 65536 ≤ max → IsEnough pages → ⊥

-- with so many pages more, `len` bytes become `end` or more
abbrev pub ReachesEnd : ℕ → ℕ → ℕ → Type 0
ReachesEnd len end pages = end ≤ len + pages * 65536

-- the bytes grow by the least number of pages with which they come to `end`
abbrev pub GrowsTo : List ℕ → ℕ → ℕ → List ℕ → Type 0
GrowsTo old max end new = (pages : ℕ) × IsLeastGrowth (length old) max (ReachesEnd (length old) end) pages × (new ≡ with_pages old pages)

-- the most bytes are given when a memory is made, and its state begins with them
abbrev pub most_bytes : List ℕ → List ℕ
most_bytes [] = []
most_bytes (max ∷ state) = max ∷ []
