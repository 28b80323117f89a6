use Rattle.std.proofs.Common.{◌++◌, List, take}
use Rattle.function_index.specs.Index.{Candidate, IsIndexOver, under}
use Rattle.function_index.proofs.index.FunctionIndex.put_rows.Given as goal

abbrev pub invariant-loop-row : goal.invariant-loop-row
invariant-loop-row l = (cs : List Candidate) → IsIndexOver l.table cs l.initial.self → IsIndexOver l.table (cs ++ under l.interface (take l.row-index l.rows)) l.self
