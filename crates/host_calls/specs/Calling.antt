-- CanonicalABI.md, "canon lift" and "canon lower": what is told of a half of a call between memories of a host's own, and why it is not.
use Rattle.std.specs.Prelude.{◌≡◌, ◌⊎◌, ◌<◌, ◌≤◌, ℕ, true, false, List, map, drop, length, Result, MatchResult}
use Rattle.canonical_abi.specs.Call.{KindsFit, area_of}
use Rattle.canonical_abi.specs.Headline.{AreArguments, IsArgumentFault, IsLentLive, area_size}
use Rattle.canonical_abi.specs.Flat.{Denotes, DenotesFault}
use Rattle.canonical_abi.specs.Requests.{params_requests, fields_requests}
use Rattle.adapter.specs.Ahead.{arguments_asked, result_asked}
use Rattle.adapter.specs.Asking.{IsToldAhead, total}
use Rattle.canonical_abi.specs.Values as Semantic
use Rattle.adapter.specs.declared.asking.request.Request.{Request}
use Rattle.canonical_abi.specs.Halves.{source}
use Rattle.canonical_abi.specs.Layout.{max_flat_params, max_flat_results, lifted_signature}
use Rattle.canonical_abi.specs.Reading.{kind_of}
use Rattle.canonical_abi.specs.Types.{FunctionType, result_fields}
use Rattle.canonical_abi.specs.declared.flat.Flat.{Flat}
use Rattle.canonical_abi.specs.declared.trap.Fault.TheVariants.{Trap}
use Rattle.canonical_abi.specs.declared.trap.Step.{Step}
use Rattle.canonical_abi.specs.declared.trap.Step.TheVariants.{LiftArgs, LiftResult, LowerResult}
use Rattle.canonical_abi.specs.declared.trap.TrapKind.TheVariants.{CoreSignature}
use Rattle.adapter.specs.Asked.{IsTrapIn}
use Rattle.host_calls.specs.Halves.{EntersLent, EntryOfLentFails, ReturnsLent, ReturnOfLentFails}
use Rattle.host_calls.specs.Values.{flat_of, HoldsFlats}
use Rattle.host_calls.specs.declared.half_error.HalfError.{HalfError}
use Rattle.host_calls.specs.declared.half_error.HalfError.TheVariants as half
use Rattle.host_calls.specs.declared.value.Value.{Value}
use Rattle.memory.specs.Blocks.{can_lend, rise}
use Rattle.memory.specs.Lent.{lent}
use Rattle.memory.specs.declared.block.Block.{Block}
use Rattle.host_calls.specs.declared.error.CallError.{CallError}
use Rattle.host_calls.specs.declared.error.CallError.TheVariants as error

-- an array tells these flat values at its front, whose number is the count, and what stands behind them is as it was
pub record TellsFlats (old new : List Value) (count : ℕ) (flats : List Flat) : Type 0 where
  pub told : HoldsFlats new flats
  pub counted : count ≡ length flats
  pub rest : drop (length flats) new ≡ drop (length flats) old

-- more core values than any core function takes
abbrev pub AreTooMany : List Value → Step → CallError → Type 0
AreTooMany values step e = (17 < length values) × (e ≡ error.Fault (Trap (record { kind = CoreSignature; step = step })))

-- the core values of an answer are those of the core function, by their number and kinds
abbrev pub AnswerFits : FunctionType → List Flat → Type 0
AnswerFits f answer = map kind_of answer ≡ (lifted_signature f).results

-- core values of another number or of other kinds than the function has
abbrev pub AreOtherKinds : FunctionType → List Flat → Step → CallError → Type 0
AreOtherKinds f flats step e = (KindsFit f flats → ⊥) × (e ≡ error.Fault (Trap (record { kind = CoreSignature; step = step })))

-- core values of an answer of another number or of other kinds than the core function's
abbrev pub IsOtherAnswer : FunctionType → List Flat → CallError → Type 0
IsOtherAnswer f answer e = (AnswerFits f answer → ⊥) × (e ≡ error.Fault (Trap (record { kind = CoreSignature; step = LiftResult })))

-- why a half was broken off
abbrev pub of_half : HalfError → CallError
of_half (half.OtherBlock index) = error.OtherBlock index
of_half (half.Fault fault) = error.Fault fault

-- these blocks can't be handed out of a memory of this length beside a place, or the memory that is read is too long
abbrev pub IsBadBlock : List ℕ → List ℕ → Block → List Block → Type 0
IsBadBlock source target place blocks = (4294967296 ≤ length source) ⊎ (can_lend (length target) place blocks ≡ false)

-- the blocks can be handed out beside this place, and the memory that is read is short enough
abbrev pub AreGoodBlocks : List ℕ → List ℕ → Block → List Block → Type 0
AreGoodBlocks source target place blocks = (length source < 4294967296) × (can_lend (length target) place blocks ≡ true)

-- no place that is lent besides the blocks: a block of no bytes
abbrev pub no_block : Block
no_block = record { align = 1; size = 0; at = 0 }

-- the return area of a call, as a block
abbrev pub area_block : FunctionType → List Flat → Block
area_block f flats = record { align = 1; size = area_size f; at = area_of f flats }

-- where the flat values are those of the signature, the return area is live in the memory that is lent with these blocks
abbrev pub KeepsArea : FunctionType → List Flat → List ℕ → List Block → Type 0
KeepsArea f flats caller blocks = (name : ℕ) → KindsFit f flats → IsLentLive (lent name caller blocks) (area_of f flats) (area_size f)

-- an array has room for the flat values of every function
abbrev pub HasRoom : List Value → Type 0
HasRoom values = 17 ≤ length values

-- there is room, and the core values of the call are those of the function
abbrev pub ArgumentsFit : FunctionType → List Value → List Value → Type 0
ArgumentsFit f flats handed = HasRoom handed × KindsFit f (map flat_of flats)

-- the array is long enough, and the core values of the call and of the answer are those of the function
abbrev pub BothFit : FunctionType → List Value → List Value → List Value → Type 0
BothFit f flats answer back = HasRoom back × KindsFit f (map flat_of flats) × AnswerFits f (map flat_of answer)

-- all tests of the first half that come before a byte is written are passed
abbrev pub ArgumentsCanEnter : FunctionType → List Value → List ℕ → List ℕ → List Block → List Value → Type 0
ArgumentsCanEnter f flats caller old blocks handed = ArgumentsFit f flats handed × AreGoodBlocks caller old no_block blocks

-- all tests of the second half that come before a byte is written are passed, and the return area is live
abbrev pub AnswerCanReturn : FunctionType → List Value → List ℕ → List Value → List ℕ → List Block → List Value → Type 0
AnswerCanReturn f flats callee answer old blocks back =
    BothFit f flats answer back × AreGoodBlocks callee old (area_block f (map flat_of flats)) blocks × KeepsArea f (map flat_of flats) old blocks

-- Why the arguments did not enter, and what the callee has then. The room is tested first, then the number and kinds of the values, then the
-- blocks, and then the values themselves: each reason tells that the tests before it were passed.
abbrev pub EnterRefuses : FunctionType → List Value → List ℕ → List ℕ → List Block → List Value → CallError → List ℕ → Type 0
EnterRefuses f flats caller old blocks handed (error.Fault fault) new =
    (HasRoom handed × (AreTooMany flats LiftArgs (error.Fault fault) ⊎ AreOtherKinds f (map flat_of flats) LiftArgs (error.Fault fault)) × (new ≡ old))
    ⊎ (ArgumentsCanEnter f flats caller old blocks handed × ((name : ℕ) × EntryOfLentFails name f (map flat_of flats) caller old blocks (half.Fault fault) new))
EnterRefuses f flats caller old blocks handed (error.OtherBlock index) new =
    ArgumentsCanEnter f flats caller old blocks handed × ((name : ℕ) × EntryOfLentFails name f (map flat_of flats) caller old blocks (half.OtherBlock index) new)
EnterRefuses f flats caller old blocks handed (error.NoRoom count) new = (count ≡ 17) × (length handed < 17) × (new ≡ old)
EnterRefuses f flats caller old blocks handed error.BadBlock new = ArgumentsFit f flats handed × IsBadBlock caller old no_block blocks × (new ≡ old)
EnterRefuses f flats caller old blocks handed error.NoMemory new = ArgumentsFit f flats handed × (rise 0 blocks ≡ false) × (new ≡ old)
EnterRefuses f flats caller old blocks handed _ new = ⊥

-- why the answer did not return, and what the caller has then, in the same order: the kinds of the answer come behind those of the call
abbrev pub LeaveRefuses : FunctionType → List Value → List ℕ → List Value → List ℕ → List Block → List Value → CallError → List ℕ → Type 0
LeaveRefuses f flats callee answer old blocks back (error.Fault fault) new =
    (HasRoom back × (AreTooMany flats LowerResult (error.Fault fault) ⊎ AreOtherKinds f (map flat_of flats) LowerResult (error.Fault fault)) × (new ≡ old))
    ⊎ ((ArgumentsFit f flats back × (AreTooMany answer LiftResult (error.Fault fault) ⊎ IsOtherAnswer f (map flat_of answer) (error.Fault fault)) × (new ≡ old))
    ⊎ (AnswerCanReturn f flats callee answer old blocks back
    × ((name : ℕ) × ReturnOfLentFails name f (map flat_of flats) callee (map flat_of answer) old blocks (half.Fault fault) new)))
LeaveRefuses f flats callee answer old blocks back (error.OtherBlock index) new =
    AnswerCanReturn f flats callee answer old blocks back
    × ((name : ℕ) × ReturnOfLentFails name f (map flat_of flats) callee (map flat_of answer) old blocks (half.OtherBlock index) new)
LeaveRefuses f flats callee answer old blocks back (error.NoRoom count) new = (count ≡ 17) × (length back < 17) × (new ≡ old)
LeaveRefuses f flats callee answer old blocks back error.BadBlock new = BothFit f flats answer back × IsBadBlock callee old (area_block f (map flat_of flats)) blocks × (new ≡ old)
LeaveRefuses f flats callee answer old blocks back error.NoMemory new = BothFit f flats answer back × (rise 0 blocks ≡ false) × (new ≡ old)
LeaveRefuses f flats callee answer old blocks back _ new = ⊥

-- what the first half answers, and what the callee and the array of values have then
abbrev pub EnterDone : FunctionType → List Value → List ℕ → List ℕ → List Block → List Value → Result ℕ CallError → List ℕ → List Value → Type 0
EnterDone f flats caller old blocks handed done new handed' = MatchResult done
    (λ count. ArgumentsCanEnter f flats caller old blocks handed
    × ((given : List Flat) × TellsFlats handed handed' count given × ((name : ℕ) × EntersLent name f (map flat_of flats) caller old blocks given new)))
    (λ e. EnterRefuses f flats caller old blocks handed e new × (handed' ≡ handed))

-- what the second half answers, and what the caller and the array of values have then
abbrev pub LeaveDone : FunctionType → List Value → List ℕ → List Value → List ℕ → List Block → List Value → Result ℕ CallError → List ℕ → List Value → Type 0
LeaveDone f flats callee answer old blocks back done new back' = MatchResult done
    (λ count. AnswerCanReturn f flats callee answer old blocks back
    × ((given : List Flat) × TellsFlats back back' count given
    × ((name : ℕ) × ReturnsLent name f (map flat_of flats) callee (map flat_of answer) old blocks given new)))
    (λ e. LeaveRefuses f flats callee answer old blocks back e new × (back' ≡ back))

-- the core values of a call are those of the function, and the memory that they are read from is short enough
abbrev pub ArgumentsCanBeRead : FunctionType → List Value → List ℕ → Type 0
ArgumentsCanBeRead f flats caller = KindsFit f (map flat_of flats) × (length caller < 4294967296)

-- the answer's core values are those of the core function, and the memory that they are read from is short enough
abbrev pub AnswerCanBeRead : FunctionType → List Value → List ℕ → Type 0
AnswerCanBeRead f answer callee = AnswerFits f (map flat_of answer) × (length callee < 4294967296)

-- Why the requests of the arguments are not told: the number and kinds of the values come first, then the length of the memory, and then the first
-- fault. The limit is told exactly if the blocks that are asked for before a fault have more bytes, with that of a text which is at fault.
abbrev pub EnterAsksNot : FunctionType → List Value → List ℕ → ℕ → CallError → Type 0
EnterAsksNot f flats caller limit (error.Fault fault) =
    (AreTooMany flats LiftArgs (error.Fault fault) ⊎ AreOtherKinds f (map flat_of flats) LiftArgs (error.Fault fault))
    ⊎ (ArgumentsCanBeRead f flats caller × IsTrapIn LiftArgs (IsArgumentFault f (map flat_of flats) (source caller)) fault
    × (total (arguments_asked f (map flat_of flats) caller) ≤ limit))
EnterAsksNot f flats caller limit error.BadBlock = KindsFit f (map flat_of flats) × (4294967296 ≤ length caller)
EnterAsksNot f flats caller limit error.AboveLimit =
    ArgumentsCanBeRead f flats caller
    × ((vs : List Semantic.Value) → AreArguments f (map flat_of flats) (source caller) vs → limit < total (params_requests max_flat_params f.params vs))
    × (limit < total (arguments_asked f (map flat_of flats) caller))
EnterAsksNot f flats caller limit _ = ⊥

-- why the answer's requests are not given: its number and kinds come first, then the length of the memory, and then the first fault or the limit, as
-- above
abbrev pub LeaveAsksNot : FunctionType → List Value → List ℕ → ℕ → CallError → Type 0
LeaveAsksNot f answer callee limit (error.Fault fault) =
    (AreTooMany answer LiftResult (error.Fault fault) ⊎ IsOtherAnswer f (map flat_of answer) (error.Fault fault))
    ⊎ (AnswerCanBeRead f answer callee × IsTrapIn LiftResult (DenotesFault max_flat_results (result_fields f.result) callee (map flat_of answer)) fault
    × (total (result_asked (result_fields f.result) callee (map flat_of answer)) ≤ limit))
LeaveAsksNot f answer callee limit error.BadBlock = AnswerFits f (map flat_of answer) × (4294967296 ≤ length callee)
LeaveAsksNot f answer callee limit error.AboveLimit =
    AnswerCanBeRead f answer callee
    × ((vs : List Semantic.Value) → Denotes max_flat_results (result_fields f.result) callee (map flat_of answer) vs → limit < total (fields_requests (result_fields f.result) vs))
    × (limit < total (result_asked (result_fields f.result) callee (map flat_of answer)))
LeaveAsksNot f answer callee limit _ = ⊥

-- what a host gets of the arguments' requests: their number, and as many as fit at the front of its array, whose rest
-- stays; or an error, after which the array may have changed
abbrev pub EnterAsks : FunctionType → List Value → List ℕ → ℕ → List Request → Result ℕ CallError → List Request → Type 0
EnterAsks f flats caller limit old done new = MatchResult done
    (λ count. ArgumentsCanBeRead f flats caller
    × IsToldAhead (AreArguments f (map flat_of flats) (source caller)) (params_requests max_flat_params f.params) limit old new count)
    (EnterAsksNot f flats caller limit)

-- what a host gets of the answer's requests: their number, and as many as fit at the front of its array, whose rest
-- stays; or an error, after which the array may have changed
abbrev pub LeaveAsks : FunctionType → List Value → List ℕ → ℕ → List Request → Result ℕ CallError → List Request → Type 0
LeaveAsks f answer callee limit old done new = MatchResult done
    (λ count. AnswerCanBeRead f answer callee
    × IsToldAhead (Denotes max_flat_results (result_fields f.result) callee (map flat_of answer)) (fields_requests (result_fields f.result)) limit old new count)
    (LeaveAsksNot f answer callee limit)
