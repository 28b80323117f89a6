use Rattle.std.proofs.Common.{◌≡◌, ◌+◌, ◌++◌, length, map, take}
use Rattle.layout.specs.Parts.{payloads}
use Rattle.layout.specs.Rows.{choices_at, AreJoined}
use Rattle.layout.specs.Work.{saturated}
use Rattle.layout.proofs.rows.joined_payloads.Given as goal

abbrev pub invariant-loop-case : goal.invariant-loop-case
invariant-loop-case g l = record {
  so_far : AreJoined (payloads (choices_at l.rows g.C.Choice.payload_of (take l.case-index l.cases))) l.joined;
  payloads_are : l.all_payloads.items ≡ l.initial.all_payloads.items ++ map g.C.Choice.payload_of (take l.case-index l.cases);
  steps_are : l.steps.count ≡ saturated (l.initial.steps.count + length (payloads (choices_at l.rows g.C.Choice.payload_of (take l.case-index l.cases))));
}
