use Rattle.std.proofs.Common.{take}
use Rattle.function_index.specs.Index.{IsIndexOver, candidates}
use Rattle.function_index.proofs.index.FunctionIndex.of.Given as goal

abbrev pub invariant-loop-interface : goal.invariant-loop-interface
invariant-loop-interface l = IsIndexOver l.table (candidates l.table (take l.interface-index l.table.interfaces)) l.index
