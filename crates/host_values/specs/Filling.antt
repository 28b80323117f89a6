-- CanonicalABI.md, "Flat Lowering" and "Storing", over a memory of a host's own, with the blocks that its allocator has granted before: typed
-- values are put there.
use Rattle.std.specs.Prelude.{◌≡◌, ◌<◌, ◌≤◌, ℕ, List, [], ◌∷◌, false, true, length, Result, Ok, Err, MatchResult}
use Rattle.canonical_abi.specs.Guest.{Memory}
use Rattle.canonical_abi.specs.Types.{Fields}
use Rattle.canonical_abi.specs.Values as Semantic
use Rattle.canonical_abi.specs.declared.flat.Flat.{Flat}
use Rattle.canonical_abi.specs.declared.trap.Fault.{Fault}
use Rattle.lift_lower.specs.Crossing.{AreLowered, LowerFails}
use Rattle.memory.specs.Blocks.{can_lend, rise}
use Rattle.memory.specs.Lent.{lent, LentAllocates}
use Rattle.memory.specs.declared.block.Block.{Block}
use Rattle.host_calls.specs.Calling.{HasRoom, TellsFlats, no_block}
use Rattle.host_calls.specs.Halves.{IsBrokenOff}
use Rattle.host_calls.specs.declared.error.CallError.{CallError}
use Rattle.host_calls.specs.declared.error.CallError.TheVariants as error
use Rattle.host_calls.specs.declared.half_error.HalfError.{HalfError}
use Rattle.host_calls.specs.declared.half_error.HalfError.TheVariants as half
use Rattle.host_calls.specs.declared.value.Value.{Value}

-- values of these types are put into a memory of this name that is lent with these blocks, of which some are left, and these core values
-- carry them
abbrev pub FillsLent : ℕ → Fields → List Semantic.Value → List ℕ → List Block → List Flat → List ℕ → Type 0
FillsLent name ts vs old blocks flats new = (rest : List Block) × AreLowered LentAllocates ts vs (lent name old blocks) flats (lent name new rest)

-- why values of these types are not put there, and the bytes that the memory has then
abbrev pub FillOfLentFails : ℕ → Fields → List Semantic.Value → List ℕ → List Block → HalfError → List ℕ → Type 0
FillOfLentFails name ts vs old blocks e new =
    IsBrokenOff blocks (λ fault rest. LowerFails LentAllocates ts vs (lent name old blocks) fault (lent name new rest)) e

-- there is room for the core values of every function, and the blocks can be handed out
abbrev pub CanFill : List ℕ → List Block → List Value → Type 0
CanFill old blocks handed = HasRoom handed × (can_lend (length old) no_block blocks ≡ true)

-- Why values of these types were not put into the memory, and what it has then. The room is tested first, then the blocks: each reason tells
-- that the tests before it were passed.
abbrev pub FillRefuses : Fields → List Semantic.Value → List ℕ → List Block → List Value → CallError → List ℕ → Type 0
FillRefuses ts vs old blocks handed (error.Fault fault) new = CanFill old blocks handed × ((name : ℕ) × FillOfLentFails name ts vs old blocks (half.Fault fault) new)
FillRefuses ts vs old blocks handed (error.OtherBlock index) new =
    CanFill old blocks handed × ((name : ℕ) × FillOfLentFails name ts vs old blocks (half.OtherBlock index) new)
FillRefuses ts vs old blocks handed (error.NoRoom count) new = (count ≡ 17) × (length handed < 17) × (new ≡ old)
FillRefuses ts vs old blocks handed error.BadBlock new = HasRoom handed × (can_lend (length old) no_block blocks ≡ false) × (new ≡ old)
FillRefuses ts vs old blocks handed error.NoMemory new = HasRoom handed × (new ≡ old)
FillRefuses ts vs old blocks handed _ new = ⊥

-- what is told of values of these types that are to be put into a memory, and what the memory and the array of core values have then
abbrev pub FillDone : Fields → List Semantic.Value → List ℕ → List Block → List Value → Result ℕ CallError → List ℕ → List Value → Type 0
FillDone ts vs old blocks handed done new handed' = MatchResult done
    (λ count. CanFill old blocks handed × ((given : List Flat) × TellsFlats handed handed' count given × ((name : ℕ) × FillsLent name ts vs old blocks given new)))
    (λ e. FillRefuses ts vs old blocks handed e new × (handed' ≡ handed))
