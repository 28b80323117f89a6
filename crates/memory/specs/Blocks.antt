-- Blocks of a host's own memory, as its allocator has granted them: which can be handed out.
use Rattle.std.specs.Prelude.{◌+◌, ◌%◌, ℕ, Bool, true, ◌&&◌, ◌||◌, nat_lt, nat_le, ◌==◌, List, [], ◌∷◌, if◌then◌else◌}
use Rattle.std.specs.List.{list_all}
use Rattle.std.specs.List.Sorted.{IsPermutation, IsNonDecreasingBy}
use Rattle.memory.specs.declared.block.Block.{Block}

-- the address is in the block
abbrev pub is_in_block : Block → ℕ → Bool
is_in_block b a = nat_le b.at a && nat_lt a (b.at + b.size)

-- two blocks have no address in common
unfoldable pub is_apart : Block → Block → Bool
is_apart b c = b.size == 0 || (c.size == 0 || (nat_le (b.at + b.size) c.at || nat_le (c.at + c.size) b.at))

-- no two of these blocks have an address in common
abbrev pub are_blocks_apart : List Block → Bool
are_blocks_apart [] = true
are_blocks_apart (b ∷ bs) = list_all (is_apart b) bs && are_blocks_apart bs

-- the block has one of the alignments of the Canonical ABI: 1, 2, 4 or 8 bytes
abbrev pub has_alignment : Block → Bool
has_alignment b = b.align == 1 || (b.align == 2 || (b.align == 4 || b.align == 8))

-- the block has an alignment, is at a multiple of it, and ends inside a memory of this length
unfoldable pub is_block_placed : ℕ → Block → Bool
is_block_placed len b = has_alignment b && (b.at % b.align == 0 && nat_le (b.at + b.size) len)

-- all blocks are aligned and inside a memory of this length, and no two have an address in common
abbrev pub are_good : ℕ → List Block → Bool
are_good len bs = list_all (is_block_placed len) bs && are_blocks_apart bs

-- the blocks can be handed out of a memory of this length, below 2^32, and none has an address of the lent place
abbrev pub can_lend : ℕ → Block → List Block → Bool
can_lend len place bs = nat_lt len 4294967296 && (are_good len bs && list_all (is_apart place) bs)

-- each block that is not empty begins at `end` or above, and after the end of those before it
abbrev pub rise : ℕ → List Block → Bool
rise end [] = true
rise end (b ∷ bs) = if b.size == 0 then rise end bs else nat_le end b.at && rise (b.at + b.size) bs

-- `sorted` has just the blocks of `bs`, in order of their addresses
abbrev pub IsRisingByAddress : List Block → List Block → Type 0
IsRisingByAddress bs sorted = IsPermutation bs sorted × IsNonDecreasingBy (λ b. b.at) sorted
