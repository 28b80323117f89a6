use Rattle.placement.proofs.NodesAreSettled.{AllPending}
use Rattle.placement.proofs.queue.Queue.new.Given as goal

abbrev pub invariant-loop-node : goal.invariant-loop-node
invariant-loop-node l = AllPending l.node l.nodes.items l.waiting.items
