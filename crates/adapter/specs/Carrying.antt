-- A call's answer as a list of flat values.
use Rattle.std.specs.Prelude.{List, Result, Ok, Err}
use Rattle.arrayvec.specs.ArrayVec.{ArrayVec}
use Rattle.canonical_abi.specs.declared.flat.Flat.{Flat}
use Rattle.canonical_abi.specs.declared.trap.Fault.{Fault}

-- a call's answer, with the flat values as a list
abbrev pub listed_answer : Result (ArrayVec Flat) Fault → Result (List Flat) Fault
listed_answer (Ok flats) = Ok flats.items
listed_answer (Err fault) = Err fault
