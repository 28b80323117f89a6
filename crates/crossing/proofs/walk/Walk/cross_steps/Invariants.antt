use Rattle.std.proofs.Common.{◌≡◌, ℕ, drop}
use Rattle.canonical_abi.specs.Types.{record_fields}
use Rattle.tables.specs.Closed.{closed_type}
use Rattle.values.proofs.FieldsFromAPlace.{fields_from, fields_end}
use Rattle.crossing.specs.Outcome.{FieldsWalk}
use Rattle.crossing.specs.Steps.{AreSteps}
use Rattle.crossing.proofs.PartsOfWaysInOrder.{IsBegun}
use Rattle.crossing.proofs.walk.Walk.cross_steps.Given as goal

abbrev pub invariant-loop-step : goal.invariant-loop-step
invariant-loop-step g l =
    let fs = record_fields (closed_type l.self.types.now l.steps.ty) in
    let m = l.self.source.now in
    (end : ℕ) × IsBegun g.G.Guest.allocates (FieldsWalk fs m l.at.from l.at.to 0) (FieldsWalk (fields_from l.step-index fs) m l.at.from l.at.to end)
    (g.G.Guest.memory l.initial.guest) l.initial.nodes (g.G.Guest.memory l.guest) l.nodes
    × (fields_end end (fields_from l.step-index fs) ≡ fields_end 0 fs) × AreSteps (fields_from l.step-index fs) end (drop l.step-index l.list)
