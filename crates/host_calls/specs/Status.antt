-- What the header says of a status.
use Rattle.std.specs.Prelude.{ℕ, min, Result, Ok, Err}
use Rattle.canonical_abi.specs.declared.trap.Fault.TheVariants.{Trap, NoMemory}
use Rattle.error_numbers.specs.Numbers.{kind_number, step_number}
use Rattle.host_calls.specs.declared.error.CallError.{CallError}
use Rattle.host_calls.specs.declared.error.CallError.TheVariants as error
use Rattle.host_calls.specs.declared.status.Status.{Status}

-- a count, as far as 32 bits go
abbrev pub told : ℕ → ℕ
told count = min count 4294967295

-- the status of a call that is refused with this error, with what the error counts
abbrev pub refused : ℕ → ℕ → Status
refused number count = record { code = 1; number = number; step = 0; count = count }

-- the library had no memory, by the number of where it was out of it
abbrev pub out_of_memory : ℕ → Status
out_of_memory number = record { code = 3; number = number; step = 0; count = 0 }

-- the status of a call that is out of memory (66)
abbrev pub no_memory : Status
no_memory = out_of_memory 66

-- the status of a call: done with a count, refused with an error's number, trapped, or out of memory
abbrev pub status_of : Result ℕ CallError → Status
status_of (Ok count) = record { code = 0; number = 0; step = 0; count = told count }
status_of (Err error.NoFunction) = refused 63 0
status_of (Err error.NotOpen) = refused 70 0
status_of (Err (error.NoRoom count)) = refused 71 (told count)
status_of (Err error.BadBlock) = refused 72 0
status_of (Err (error.OtherBlock index)) = refused 73 (told index)
status_of (Err error.BadLengths) = refused 74 0
status_of (Err error.NotThere) = refused 75 0
status_of (Err error.LongBinary) = refused 17 0
status_of (Err error.LongText) = refused 36 0
status_of (Err error.AboveLimit) = refused 76 0
status_of (Err error.BadJson) = refused 61 0
status_of (Err error.NotThisType) = refused 62 0
status_of (Err error.NoMemory) = no_memory
status_of (Err (error.Fault NoMemory)) = no_memory
status_of (Err (error.Fault (Trap t))) = record { code = 2; number = kind_number t.kind; step = step_number t.step; count = 0 }
