use Rattle.std.proofs.Common.{drop}
use Rattle.placement.specs.Waiting.{IsSettled, KeepsPlaced}
use Rattle.placement.proofs.queue.Queue.settle_all.Given as goal

abbrev pub invariant-loop-node : goal.invariant-loop-node
invariant-loop-node l = record {
  settled : IsSettled l.self (drop l.node-index l.nodes);
  kept : KeepsPlaced l.initial.self l.self;
}
