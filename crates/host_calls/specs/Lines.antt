-- The lines of an error and of a status, as the program prints them.
use Rattle.std.specs.Prelude.{◌==◌, ◌++◌, ◌-◌, ℕ, List, [], ◌∷◌, Option, Some, None, Result, Ok, Err, codes, decimal, slice_get, if◌then◌else◌}
use Rattle.canonical_abi.specs.Words.{trap_words, fault_words}
use Rattle.canonical_abi.specs.declared.trap.Step.{Step}
use Rattle.canonical_abi.specs.declared.trap.Step.TheVariants.{Place, Take, LiftArgs, LowerArgs, Body, LiftResult, LowerResult, Post}
use Rattle.canonical_abi.specs.declared.trap.TrapKind.{TrapKind}
use Rattle.canonical_abi.specs.declared.trap.TrapKind.TheVariants as kind
use Rattle.host_calls.specs.Status.{told}
use Rattle.host_calls.specs.declared.error.CallError.{CallError}
use Rattle.host_calls.specs.declared.error.CallError.TheVariants as error
use Rattle.host_calls.specs.declared.status.Status.{Status}

-- an error, by its number and its words
abbrev pub error_words : CallError → List ℕ
error_words error.NoFunction = codes "error 63 no function"
error_words error.NoMemory = codes "error 66 no memory"
error_words error.NotOpen = codes "error 70 not open"
error_words (error.NoRoom count) = codes "error 71 no room for " ++ decimal count
error_words error.BadBlock = codes "error 72 bad block"
error_words (error.OtherBlock index) = codes "error 73 other block " ++ decimal index
error_words error.BadLengths = codes "error 74 bad lengths"
error_words error.NotThere = codes "error 75 not there"
error_words error.LongBinary = codes "error 17 limit"
error_words error.LongText = codes "error 36 limit"
error_words error.AboveLimit = codes "error 76 above the limit"
error_words error.BadJson = codes "error 61 bad JSON"
error_words error.NotThisType = codes "error 62 not this type"
error_words (error.Fault fault) = fault_words fault

-- the kinds of traps in the order of their numbers, from 1
abbrev pub kinds_in_order : List TrapKind
kinds_in_order = kind.Char ∷ kind.Case ∷ kind.Align ∷ kind.Bounds ∷ kind.Utf8 ∷ kind.Full ∷ kind.Body ∷ kind.CoreSignature ∷ []

-- the kind of this number
abbrev pub numbered_kind : ℕ → Option TrapKind
numbered_kind number = if number == 0 then None else slice_get kinds_in_order (number - 1)

-- the steps in the order of their numbers, from 0
abbrev pub steps_in_order : List Step
steps_in_order = Place ∷ Take ∷ LiftArgs ∷ LowerArgs ∷ Body ∷ LiftResult ∷ LowerResult ∷ Post ∷ []

-- the step of this number
abbrev pub numbered_step : ℕ → Option Step
numbered_step number = slice_get steps_in_order number

-- the refusal of this number, with what it counts; none where that tells too little
abbrev pub numbered_error : ℕ → ℕ → Option CallError
numbered_error number count =
    if number == 63 then Some error.NoFunction else (if number == 70 then Some error.NotOpen else (if number == 71 then Some (error.NoRoom count) else (
    if number == 72 then Some error.BadBlock else (if number == 73 then Some (error.OtherBlock count) else (if number == 74 then Some error.BadLengths else (
    if number == 75 then Some error.NotThere else (if number == 76 then Some error.AboveLimit else (if number == 61 then Some error.BadJson else (
    if number == 62 then Some error.NotThisType else None)))))))))

-- the line of a refusal, of which a number may be all that is known
abbrev pub refusal_words : ℕ → Option CallError → List ℕ
refusal_words number (Some e) = error_words e
refusal_words number None = codes "error " ++ decimal number

-- the line of a trap of this kind in this step, or nothing if the kind or the step is unknown
abbrev pub trapped_words : Option TrapKind → Option Step → List ℕ
trapped_words (Some k) (Some s) = trap_words (record { kind = k; step = s })
trapped_words _ _ = []

-- the line of a status: none where the call was done
abbrev pub status_words : Status → List ℕ
status_words s =
    if s.code == 0 then [] else (if s.code == 1 then refusal_words s.number (numbered_error s.number s.count) else (
    if s.code == 2 then trapped_words (numbered_kind s.number) (numbered_step s.step) else codes "error " ++ decimal s.number ++ codes " no memory"))

-- the line of what a call came to, in which a count has at most 32 bits, and a package that is too long is told by its number
abbrev pub line_of : Result ℕ CallError → List ℕ
line_of (Ok count) = []
line_of (Err (error.NoRoom count)) = error_words (error.NoRoom (told count))
line_of (Err (error.OtherBlock index)) = error_words (error.OtherBlock (told index))
line_of (Err error.LongBinary) = codes "error 17"
line_of (Err error.LongText) = codes "error 36"
line_of (Err e) = error_words e
