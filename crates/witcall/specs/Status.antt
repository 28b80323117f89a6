-- Refusals: what a fault becomes, the exit status, and the numbers (docs/ERRORS.md).
use Rattle.std.specs.Prelude.{ℕ}
use Rattle.error_numbers.specs.Numbers.{trap_number}
use Rattle.memory.specs.declared.error.MemoryError.{MemoryError}
use Rattle.memory.specs.declared.error.MemoryError.TheVariants as memory_error
use Rattle.opening.specs.Numbers.{binary_number, open_number, text_number}
use Rattle.package_values.specs.Numbers.{json_number}
use Rattle.witcall.specs.declared.refused.Refused.{Refused}
use Rattle.witcall.specs.declared.refused.Refused.TheVariants as refused
use Rattle.witcall.specs.declared.refused.Refused.TheVariants.{Words, Trap, NoMemory}
use Rattle.canonical_abi.specs.declared.trap.Fault.{Fault}
use Rattle.canonical_abi.specs.declared.trap.Fault.TheVariants as fault
use Rattle.words.specs.declared.parsing.WordsError.TheVariants as words_error
use Rattle.words.specs.declared.parsing.WordsError.TheVariants.{Usage}

-- 2 for wrong words, 3 for a trap, 1 for any other refusal
abbrev pub exit_status : Refused → ℕ
exit_status (Words Usage) = 2
exit_status (Trap trap) = 3
exit_status _ = 1

-- a fault of the call as a refusal
abbrev pub refusal_of : Fault → Refused
refusal_of (fault.Trap t) = Trap t
refusal_of fault.NoMemory = NoMemory

-- the numbers of why no memory was made
abbrev pub memory_number : MemoryError → ℕ
memory_number memory_error.MemoryLimit = 53
memory_number memory_error.NoMemory = 54
memory_number memory_error.BadPages = 55

-- the number of a refusal's line, of a trap that of its kind; the usage line has none
abbrev pub refused_number : Refused → ℕ
refused_number (Words Usage) = 0
refused_number (Words words_error.NoMemory) = 66
refused_number refused.File = 64
refused_number (refused.Open e) = open_number e
refused_number (refused.Binary e) = binary_number e
refused_number (refused.Text e) = text_number e
refused_number refused.NoFunction = 63
refused_number (refused.Json e) = json_number e
refused_number (refused.Memory e) = memory_number e
refused_number (Trap t) = trap_number t
refused_number refused.Write = 65
refused_number NoMemory = 66
