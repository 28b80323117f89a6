use Rattle.std.proofs.Common.{◌+◌, drop, refl, sym, ◌∙◌}
use Rattle.std.proofs.lemmas.List.{drop_more}
use Rattle.placement.proofs.queue.Queue.settle_all.Goals as goal

pub loop-node-init : goal.loop-node-init
loop-node-init c = record { settled = c.requires; kept = record { uses = refl; placed = refl } }

pub settle-requires : goal.settle-requires
settle-requires c = (
  drop (c.loop-node.node-index + 1) c.args.nodes.now,
  rw (sym (drop_more c.args.nodes.now c.loop-node.node-index 0 c.loop-node-test.true)) c.loop-node.invariant.settled,
)

pub loop-node-preserved : goal.loop-node-preserved
loop-node-preserved c = record {
  settled = c.in_ok-settle.ensures.ok (drop (c.loop-node.node-index + 1) c.args.nodes.now)
      (rw (sym (drop_more c.args.nodes.now c.loop-node.node-index 0 c.loop-node-test.true)) c.loop-node.invariant.settled);
  kept = record {
    uses = c.in_ok-settle.ensures.kept.uses ∙ c.loop-node.invariant.kept.uses;
    placed = c.in_ok-settle.ensures.kept.placed ∙ c.loop-node.invariant.kept.placed;
  };
}
