-- A call in halves over two arrays of bytes, by a host that runs the core function itself: what is known of each step, and what the call promises.
use Rattle.std.specs.Prelude.{◌≡◌, ◌⊎◌, ◌<◌, ℕ, List, [], drop, length, Option, Result, Ok, Err, MatchResult}
use Rattle.arrayvec.specs.ArrayVec.{ArrayVec}
use Rattle.adapter.specs.declared.asking.request.Request.{Request}
use Rattle.canonical_abi.specs.Call.{Parties, PostRun, Run, CallState}
use Rattle.canonical_abi.specs.Guest.{Memory, with_bytes}
use Rattle.canonical_abi.specs.Halves.{source, as_state, CallsInHalves, HalvesKeep}
use Rattle.canonical_abi.specs.Types.{FunctionType}
use Rattle.canonical_abi.specs.declared.flat.Flat.{Flat}
use Rattle.canonical_abi.specs.declared.trap.Fault.{Fault}
use Rattle.canonical_abi.specs.declared.trap.Step.{Step}
use Rattle.host_calls.specs.Calling.{KeepsArea}
use Rattle.host_calls.specs.Halves.{full_in, EntersLent, EntryOfLentFails, ReturnsLent, ReturnOfLentFails}
use Rattle.host_calls.specs.declared.half_error.HalfError.{HalfError}
use Rattle.host_calls.specs.declared.half_error.HalfError.TheVariants as half
use Rattle.memory.specs.Lent.{lent, LentAllocates}
use Rattle.memory.specs.declared.block.Block.{Block}

-- ---- the steps

-- the core function made this run over the bytes of a memory, whatever is live there, and keeps nothing but in the memory
abbrev pub RunsOnBytes : Run → List ℕ → List Flat → List ℕ → Option (List Flat) → Type 0
RunsOnBytes runs old arguments new answer = (memory : Memory) → runs [] (with_bytes memory old) arguments [] (with_bytes memory new) answer

-- the post-return made this run over the bytes of a memory, whatever is live there, and keeps nothing but in it
abbrev pub PostsOnBytes : PostRun → List ℕ → List Flat → List ℕ → Option (Unit {0}) → Type 0
PostsOnBytes posts old answer new done = (memory : Memory) → posts [] (with_bytes memory old) answer [] (with_bytes memory new) done

-- the request that a block was granted for
abbrev pub request_of : Block → Request
request_of b = record { align = b.align; size = b.size }

-- the allocator of a memory ran in it: it writes its next free address to the first four bytes, and changes no other
abbrev pub HasGranted : List ℕ → List ℕ → Type 0
HasGranted old new = (length new ≡ length old) × (drop 4 new ≡ drop 4 old)

-- the callee's allocator granted some blocks, and the arguments were put into them, or this half was broken off
abbrev pub EntersCall : FunctionType → List Flat → List ℕ → List ℕ → Result (ArrayVec Flat) HalfError → List ℕ → Type 0
EntersCall f flats caller callee result new =
    (granted : List ℕ) × (blocks : List Block) × HasGranted callee granted × MatchResult result
    (λ handed. (name : ℕ) × EntersLent name f flats caller granted blocks handed.items new)
    (λ error. (name : ℕ) × EntryOfLentFails name f flats caller granted blocks error new)

-- the caller's allocator granted some blocks, of which none meets the return area, and the answer was put into them, or this half was broken off
abbrev pub LeavesCall : FunctionType → List Flat → List ℕ → List Flat → List ℕ → Result (ArrayVec Flat) HalfError → List ℕ → Type 0
LeavesCall f flats callee answer caller result new =
    (granted : List ℕ) × (blocks : List Block) × HasGranted caller granted × KeepsArea f flats granted blocks × MatchResult result
    (λ given. (name : ℕ) × ReturnsLent name f flats callee answer granted blocks given.items new)
    (λ error. (name : ℕ) × ReturnOfLentFails name f flats callee answer granted blocks error new)

-- ---- the call

-- who takes part: two allocators that hand out what was granted before, and the core function with its post-return
abbrev pub hosting : Run → PostRun → Parties
hosting runs posts = record { caller_allocates = LentAllocates; callee_allocates = LentAllocates; runs = runs; posts = posts }

-- the block of this index is the first that is left in a memory
abbrev pub IsFirstLeft : List Block → ℕ → Memory → Type 0
IsFirstLeft blocks index memory = (index < length blocks) × ((name : ℕ) × (memory ≡ lent name memory.bytes (drop index blocks)))

-- a call that ended so, between memories with these blocks, is told the host so: a block of another size or alignment than was asked for is a
-- request that was refused
abbrev pub IsToldAs : List Block → List Block → Result (List Flat) Fault → CallState → Result (ArrayVec Flat) HalfError → Type 0
IsToldAs there back ended new (Ok given) = ended ≡ Ok given.items
IsToldAs there back ended new (Err (half.Fault fault)) = ended ≡ Err fault
IsToldAs there back ended new (Err (half.OtherBlock index)) =
    (IsFirstLeft there index new.callee ⊎ IsFirstLeft back index new.caller) × ((step : Step) × (ended ≡ Err (full_in step)))

-- The steps of the host were a call in halves (`CallsInHalves`), from the callee as its allocator left it for the first half, and from the caller as its
-- own left it for the second, each lent with the blocks that were granted. So the call keeps the promise (`HalvesKeep`).
pub record MakesCall (runs : Run) (posts : PostRun) (f : FunctionType) (flats : List Flat) (caller callee : List ℕ) (result : Result (ArrayVec Flat) HalfError) (caller' callee' : List ℕ) : Type 0 where
  pub name : ℕ
  pub entering : List ℕ
  pub there : List Block
  pub callee_granted : HasGranted callee entering
  pub other : ℕ
  pub between : List ℕ
  pub back : List Block
  pub caller_granted : HasGranted caller between
  -- how the call ended, as the host is told, and both memories then
  pub ended : Result (List Flat) Fault
  pub new : CallState
  pub told : IsToldAs there back ended new result
  pub caller_is : caller' ≡ new.caller.bytes
  pub callee_is : callee' ≡ new.callee.bytes
  -- by ways of so many nodes
  pub nodes_there : ℕ
  pub nodes_back : ℕ
  pub calls : CallsInHalves (hosting runs posts) f flats (as_state (source caller) (lent name entering there) []) (lent other between back) ended nodes_there nodes_back new
  pub promise : HalvesKeep (hosting runs posts) f flats (as_state (source caller) (lent name entering there) []) (lent other between back) ended new
