-- An allocator of a host's own memory: the blocks that the host has granted before are handed out in turn.
use Rattle.std.specs.Prelude.{◌≡◌, ℕ, Bool, true, false, not, ◌||◌, List, [], ◌∷◌, Option, Some, None, length}
use Rattle.canonical_abi.specs.Guest.{Memory}
use Rattle.memory.specs.Blocks.{is_in_block, are_good}
use Rattle.memory.specs.declared.block.Block.{Block}

-- the address is in one of these blocks
abbrev pub is_kept : List Block → ℕ → Bool
is_kept [] a = false
is_kept (b ∷ bs) a = is_in_block b a || is_kept bs a

-- the alignment, size and address of each block, in order
abbrev pub numbers : List Block → List ℕ
numbers [] = []
numbers (b ∷ bs) = b.align ∷ (b.size ∷ (b.at ∷ numbers bs))

-- live is what lies in none of the blocks that are still to be handed out; the state begins with the name of the bytes
abbrev pub lent : ℕ → List ℕ → List Block → Memory
lent name bytes bs = record { bytes = bytes; live = λ a. not (is_kept bs a); state = name ∷ numbers bs }

-- the next lent block of the memory has this alignment and size
pub record IsNextBlock (memory : Memory) (align size name : ℕ) (b : Block) (bs : List Block) : Type 0 where
  pub memory_is : memory ≡ lent name memory.bytes (b ∷ bs)
  pub same_align : b.align ≡ align
  pub same_size : b.size ≡ size

-- the next lent block is granted if it has the alignment and size asked for, and otherwise the request is refused
abbrev pub LentAllocates : Memory → ℕ → ℕ → Option ℕ → Memory → Type 0
LentAllocates old align size (Some at) new =
    (name : ℕ) × (b : Block) × (bs : List Block) × IsNextBlock old align size name b bs × (are_good (length old.bytes) (b ∷ bs) ≡ true)
    × (b.at ≡ at) × (new ≡ lent name old.bytes bs)
LentAllocates old align size None new = ((name : ℕ) (b : Block) (bs : List Block) → IsNextBlock old align size name b bs → ⊥) × (new ≡ old)

-- an allocator of lent blocks takes no block back
abbrev pub LentReleases : Memory → ℕ → ℕ → Bool → Memory → Type 0
LentReleases old at size true new = ⊥
LentReleases old at size false new = new ≡ old
