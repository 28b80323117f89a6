use Rattle.std.proofs.Common.{arith}
use Rattle.crossing.proofs.OneNodeOfAWay.{at-node}
use Rattle.crossing.proofs.records.cross_leaf.Goals as goal

pub returns-in-Scalar : goal.returns-in-Scalar
returns-in-Scalar g c =
    rw c.in-Scalar.is (at-node g.G.Guest.allocates _ (g.G.Guest.memory c.args.guest.now) c.cross_primitive.result (g.G.Guest.memory c.cross_primitive.new.guest) c.args.nodes.now c.saturating_add.result c.saturating_add.result
    (omega (arith, c.saturating_add.ensures)) (c.cross_primitive.ensures c.saturating_add.result))

pub returns-in-Flags : goal.returns-in-Flags
returns-in-Flags g c =
    rw c.in-Flags.is (at-node g.G.Guest.allocates _ (g.G.Guest.memory c.args.guest.now) c.cross_flags.result (g.G.Guest.memory c.cross_flags.new.guest) c.args.nodes.now c.saturating_add.result c.saturating_add.result
    (omega (arith, c.saturating_add.ensures)) (c.cross_flags.ensures c.saturating_add.result))

pub returns-in-Text : goal.returns-in-Text
returns-in-Text g c =
    rw c.in-Text.is (at-node g.G.Guest.allocates _ (g.G.Guest.memory c.args.guest.now) c.cross_text.result (g.G.Guest.memory c.cross_text.new.guest) c.args.nodes.now c.saturating_add.result c.saturating_add.result
    (omega (arith, c.saturating_add.ensures)) (c.cross_text.ensures c.saturating_add.result))

pub returns-in-Numbers : goal.returns-in-Numbers
returns-in-Numbers g c =
    rw c.in-Numbers.is (at-node g.G.Guest.allocates _ (g.G.Guest.memory c.args.guest.now) c.cross_list.result (g.G.Guest.memory c.cross_list.new.guest) c.args.nodes.now c.saturating_add.result c.cross_list.new.nodes
    (omega (arith, c.saturating_add.ensures)) c.cross_list.ensures)
