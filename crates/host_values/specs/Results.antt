-- CanonicalABI.md, "canon lower" (`lower_flat_values` of the result): the result of a function that a host serves, put into the memory of the guest
-- that called it, with the blocks that the guest's allocator has granted before.
use Rattle.std.specs.Prelude.{◌≡◌, ◌⊎◌, ◌<◌, ℕ, true, false, List, map, length, Result, MatchResult}
use Rattle.canonical_abi.specs.Call.{AreaStands, AreaFaulty, area_of}
use Rattle.canonical_abi.specs.Guest.{Memory, Allocation}
use Rattle.canonical_abi.specs.Layout.{max_flat_results}
use Rattle.canonical_abi.specs.Lowering.{PassesResult}
use Rattle.canonical_abi.specs.Session.{AreWithinLimit, TypedTraceBreaks}
use Rattle.canonical_abi.specs.Trace.{Event, TraceLeads}
use Rattle.canonical_abi.specs.Types.{Fields, FunctionType, result_fields}
use Rattle.canonical_abi.specs.Values as Semantic
use Rattle.canonical_abi.specs.declared.flat.Flat.{Flat}
use Rattle.canonical_abi.specs.declared.trap.Fault.{Fault}
use Rattle.canonical_abi.specs.declared.trap.Fault.TheVariants.{Trap, NoMemory}
use Rattle.canonical_abi.specs.declared.trap.Step.TheVariants.{LiftArgs, Place}
use Rattle.memory.specs.Blocks.{can_lend, rise}
use Rattle.memory.specs.Lent.{lent, LentAllocates}
use Rattle.memory.specs.declared.block.Block.{Block}
use Rattle.host_calls.specs.Calling.{ArgumentsFit, AreTooMany, AreOtherKinds, HasRoom, KeepsArea, TellsFlats, area_block}
use Rattle.host_calls.specs.Halves.{IsBrokenOff}
use Rattle.host_calls.specs.Values.{flat_of}
use Rattle.host_calls.specs.declared.error.CallError.{CallError}
use Rattle.host_calls.specs.declared.error.CallError.TheVariants as error
use Rattle.host_calls.specs.declared.half_error.HalfError.{HalfError}
use Rattle.host_calls.specs.declared.half_error.HalfError.TheVariants as half
use Rattle.host_calls.specs.declared.value.Value.{Value}

-- ---- over a guest

-- the result stands in the guest's memory: these core values carry it, or it stands in the return area, which was tested
abbrev pub IsAnswered : Allocation → Fields → ℕ → List Semantic.Value → Memory → List Flat → Memory → Type 0
IsAnswered allocates ts area vs old given new =
    AreaStands max_flat_results ts area old.bytes
    × (es : List Event) × PassesResult max_flat_results ts area vs es given × AreWithinLimit es × TraceLeads allocates old es new

-- the return area is at fault, and nothing was done; or it stands, and a request failed. Both are found in `place`.
abbrev pub AnswerFails : Allocation → Fields → ℕ → List Semantic.Value → Memory → Fault → Memory → Type 0
AnswerFails allocates ts area vs old (Trap t) new =
    (t.step ≡ Place)
    × ((AreaFaulty max_flat_results ts area old.bytes t.kind × (new ≡ old))
    ⊎ (AreaStands max_flat_results ts area old.bytes
    × (es : List Event) × (given : List Flat) × PassesResult max_flat_results ts area vs es given × TypedTraceBreaks allocates old es t.kind new))
AnswerFails allocates ts area vs old NoMemory new = ⊥

-- ---- over a memory that is lent

-- the result is put into a memory of this name that is lent with these blocks, of which some are left
abbrev pub AnswersLent : ℕ → Fields → ℕ → List Semantic.Value → List ℕ → List Block → List Flat → List ℕ → Type 0
AnswersLent name ts area vs old blocks given new = (rest : List Block) × IsAnswered LentAllocates ts area vs (lent name old blocks) given (lent name new rest)

-- why the result is not put there, and the bytes that the memory has then
abbrev pub AnswerOfLentFails : ℕ → Fields → ℕ → List Semantic.Value → List ℕ → List Block → HalfError → List ℕ → Type 0
AnswerOfLentFails name ts area vs old blocks e new =
    IsBrokenOff blocks (λ fault rest. AnswerFails LentAllocates ts area vs (lent name old blocks) fault (lent name new rest)) e

-- ---- with core values in arrays

-- the result of a call with these core values is put there
abbrev pub AnswersCall : FunctionType → List Value → List Semantic.Value → List ℕ → List Block → List Flat → List ℕ → Type 0
AnswersCall f flats vs old blocks given new =
    (name : ℕ) × AnswersLent name (result_fields f.result) (area_of f (map flat_of flats)) vs old blocks given new

-- why it is not put there
abbrev pub AnswerOfCallFails : FunctionType → List Value → List Semantic.Value → List ℕ → List Block → HalfError → List ℕ → Type 0
AnswerOfCallFails f flats vs old blocks e new =
    (name : ℕ) × AnswerOfLentFails name (result_fields f.result) (area_of f (map flat_of flats)) vs old blocks e new

-- all tests that come before a byte is written are passed but that of the return area's place; the return area is live
abbrev pub CanAnswer : FunctionType → List Value → List ℕ → List Block → List Value → Type 0
CanAnswer f flats old blocks back =
    ArgumentsFit f flats back × (can_lend (length old) (area_block f (map flat_of flats)) blocks ≡ true) × KeepsArea f (map flat_of flats) old blocks

-- Why the result was not put into the memory, and what it has then. The room is tested first, then the core values of the call, and then the blocks:
-- each reason tells that the tests before it were passed.
abbrev pub AnswerRefuses : FunctionType → List Value → List Semantic.Value → List ℕ → List Block → List Value → CallError → List ℕ → Type 0
AnswerRefuses f flats vs old blocks back (error.Fault fault) new =
    (HasRoom back × (AreTooMany flats LiftArgs (error.Fault fault) ⊎ AreOtherKinds f (map flat_of flats) LiftArgs (error.Fault fault)) × (new ≡ old))
    ⊎ (CanAnswer f flats old blocks back × AnswerOfCallFails f flats vs old blocks (half.Fault fault) new)
AnswerRefuses f flats vs old blocks back (error.OtherBlock index) new =
    CanAnswer f flats old blocks back × AnswerOfCallFails f flats vs old blocks (half.OtherBlock index) new
AnswerRefuses f flats vs old blocks back (error.NoRoom count) new = (count ≡ 17) × (length back < 17) × (new ≡ old)
AnswerRefuses f flats vs old blocks back error.BadBlock new =
    ArgumentsFit f flats back × (can_lend (length old) (area_block f (map flat_of flats)) blocks ≡ false) × (new ≡ old)
AnswerRefuses f flats vs old blocks back error.NoMemory new = ArgumentsFit f flats back × (rise 0 blocks ≡ false) × (new ≡ old)
AnswerRefuses f flats vs old blocks back _ new = ⊥

-- what is told of a result that is to be put into a guest's memory, and what the memory and the array of core values have then
abbrev pub AnswerDone : FunctionType → List Value → List Semantic.Value → List ℕ → List Block → List Value → Result ℕ CallError → List ℕ → List Value → Type 0
AnswerDone f flats vs old blocks back done new back' = MatchResult done
    (λ count. CanAnswer f flats old blocks back × ((given : List Flat) × TellsFlats back back' count given × AnswersCall f flats vs old blocks given new))
    (λ e. AnswerRefuses f flats vs old blocks back e new × (back' ≡ back))
