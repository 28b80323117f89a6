-- CanonicalABI.md, "canon lift" and "canon lower": the halves of a call between memories of a host's own, with the blocks that its allocators
-- have granted before.
use Rattle.std.specs.Prelude.{◌≡◌, ◌+◌, ◌<◌, ℕ, List, [], drop, length}
use Rattle.canonical_abi.specs.Types.{FunctionType}
use Rattle.canonical_abi.specs.Halves.{HasEntered, EntryFails, HasReturned}
use Rattle.canonical_abi.specs.declared.flat.Flat.{Flat}
use Rattle.canonical_abi.specs.declared.trap.Fault.{Fault}
use Rattle.canonical_abi.specs.declared.trap.Fault.TheVariants.{Trap}
use Rattle.canonical_abi.specs.declared.trap.Step.{Step}
use Rattle.canonical_abi.specs.declared.trap.TrapKind.TheVariants.{Full}
use Rattle.adapter.specs.Leaving.{LeaveFails}
use Rattle.memory.specs.Lent.{lent, LentAllocates}
use Rattle.memory.specs.declared.block.Block.{Block}
use Rattle.host_calls.specs.declared.half_error.HalfError.{HalfError}
use Rattle.host_calls.specs.declared.half_error.HalfError.TheVariants as error

-- K6, an allocator that refuses
abbrev pub full_in : Step → Fault
full_in s = Trap (record { kind = Full; step = s })

-- what is told of a fault that leaves so many of these blocks: of K6 the index of the first that is left
abbrev pub IsHalfError : ℕ → ℕ → Fault → HalfError → Type 0
IsHalfError blocks left fault (error.OtherBlock index) = (index + left ≡ blocks) × (index < blocks) × ((s : Step) × (fault ≡ full_in s))
IsHalfError blocks left fault (error.Fault told) = (told ≡ fault) × ((s : Step) → fault ≡ full_in s → left ≡ 0)

-- why a half is broken off, by a fault that leaves the rest of the blocks: the first of these is refused, so that it has another size
-- or alignment than the one that is asked for; or there is another fault; or there are too few blocks
abbrev pub IsBrokenOff : List Block → (Fault → List Block → Type 0) → HalfError → Type 0
IsBrokenOff blocks Fails (error.OtherBlock index) = (index < length blocks) × ((s : Step) × Fails (full_in s) (drop index blocks))
IsBrokenOff blocks Fails (error.Fault fault) = (rest : List Block) × Fails fault rest × ((s : Step) → fault ≡ full_in s → rest ≡ [])

-- the arguments are put from a memory of the bytes m into one of this name that is lent with these blocks, of which some are left
abbrev pub EntersLent : ℕ → FunctionType → List Flat → List ℕ → List ℕ → List Block → List Flat → List ℕ → Type 0
EntersLent name f flats m old blocks handed new =
    (count : ℕ) × (rest : List Block) × HasEntered LentAllocates f flats m (lent name old blocks) handed (lent name new rest) count

-- why the arguments are not put into a memory that is lent with these blocks, and the bytes that it has then
abbrev pub EntryOfLentFails : ℕ → FunctionType → List Flat → List ℕ → List ℕ → List Block → HalfError → List ℕ → Type 0
EntryOfLentFails name f flats m old blocks e new =
    (count : ℕ) × IsBrokenOff blocks (λ fault rest. EntryFails LentAllocates f flats m (lent name old blocks) fault (lent name new rest) count) e

-- the core function's answer is put from the bytes m into a memory of this name that is lent with these blocks
abbrev pub ReturnsLent : ℕ → FunctionType → List Flat → List ℕ → List Flat → List ℕ → List Block → List Flat → List ℕ → Type 0
ReturnsLent name f flats m answer old blocks given new =
    (count : ℕ) × (rest : List Block) × HasReturned LentAllocates f flats m answer (lent name old blocks) given (lent name new rest) count

-- why the answer is not put into a memory that is lent with these blocks, and the bytes that it has then
abbrev pub ReturnOfLentFails : ℕ → FunctionType → List Flat → List ℕ → List Flat → List ℕ → List Block → HalfError → List ℕ → Type 0
ReturnOfLentFails name f flats m answer old blocks e new =
    (count : ℕ) × IsBrokenOff blocks (λ fault rest. LeaveFails LentAllocates f flats m answer (lent name old blocks) fault (lent name new rest) count) e
