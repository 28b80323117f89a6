use Rattle.std.proofs.Common.{◌≡◌, List, ◌++◌, length}
use Rattle.canonical_abi.specs.Types.{record_fields}
use Rattle.tables.specs.Closed.{closed_type}
use Rattle.values.proofs.FieldsFromAPlace.{fields_from, fields_end}
use Rattle.crossing.specs.Steps.{AreSteps}
use Rattle.crossing.specs.declared.records.Step.{Step}
use Rattle.crossing.proofs.walk.Walk.list_of.Given as goal

abbrev pub invariant-loop-index : goal.invariant-loop-index
invariant-loop-index l =
    let fs = record_fields (closed_type l.self.types.now l.fn.ty) in
    ((ss : List Step) → AreSteps (fields_from l.index fs) l.end ss → AreSteps fs 0 (l.steps.items ++ ss))
    × (length l.steps.items ≡ l.index) × (fields_end l.end (fields_from l.index fs) ≡ fields_end 0 fs)
