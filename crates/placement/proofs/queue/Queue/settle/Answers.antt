use Rattle.std.proofs.Common.{◌≡◌, ◌<◌, ◌∷◌, [], length, slice_index_or, sym, ◌∙◌, arith}
use Rattle.std.proofs.lemmas.List.{get_or_default}
use Rattle.placement.proofs.NodesAreSettled.{pending_in_range, use_in_range, settled_ready, settled_waiting}
use Rattle.placement.proofs.queue.Queue.settle.Goals as goal

pub offset_bounds-uses-node : goal.offset_bounds-uses-node
offset_bounds-uses-node c =
    let settled = rw (sym c.self.view_is) at c.requires.1 in
    omega (arith, pending_in_range _ c.args.node c.requires.0 settled, c.self.told)

pub bounds-uses-node : goal.bounds-uses-node
bounds-uses-node c =
    let settled = rw (sym c.self.view_is) at c.requires.1 in
    pending_in_range _ c.args.node c.requires.0 settled

pub index_mut-requires : goal.index_mut-requires
index_mut-requires c =
    let settled = rw (sym c.self.view_is) at c.requires.1 in
    omega (arith, pending_in_range _ c.args.node c.requires.0 settled, settled.met_count)

pub index_mut-requires-in-Some : goal.index_mut-requires-in-Some
index_mut-requires-in-Some c =
    let settled = rw (sym c.self.view_is) at c.requires.1 in
    let in_range = pending_in_range _ c.args.node c.requires.0 settled in
    let used : c.as_slice-used.result.now ≡ slice_index_or c.self.inside.uses.now c.args.node [] = c.as_slice-used.ensures ∙ c.index-uses-node.is ∙ get_or_default c.self.inside.uses.now c.args.node _ [] (pending_in_range _ c.args.node _ settled) in
    let place : c.in-Some.place < length (slice_index_or c.self.inside.uses.now c.args.node []) = rw used at c.in-Some.ensures.some.0 in
    rw used (omega (arith, use_in_range _ (c.args.node ∷ c.requires.0) c.args.node c.in-Some.place settled in_range place, settled.waiting_count))

pub returns-in_ok-insert-in-None-clause-ok : goal.returns-in_ok-insert-in-None-clause-ok
returns-in_ok-insert-in-None-clause-ok c = λ rest s.
    let settled = rw (sym c.self.view_is) at s in
    let used : c.as_slice-used.result.now ≡ slice_index_or c.self.inside.uses.now c.args.node [] = c.as_slice-used.ensures ∙ c.index-uses-node.is ∙ get_or_default c.self.inside.uses.now c.args.node _ [] (pending_in_range _ c.args.node _ settled) in
    let met : c.index.result.now ≡ slice_index_or c.self.inside.met.items c.args.node 0
    = c.index.ensures ∙ get_or_default c.self.inside.met.items c.args.node _ 0 (omega (arith, pending_in_range _ c.args.node rest settled, settled.met_count)) in
    rw (c.in_ok-insert-in-None.ensures.keys) (settled_ready _ c.args.node rest settled (rw (used, c.deref.ensures.value, met) at c.in-None.ensures.none))

pub returns-in_ok-push-in-Some-clause-ok : goal.returns-in_ok-push-in-Some-clause-ok
returns-in_ok-push-in-Some-clause-ok c = λ rest s.
    let settled = rw (sym c.self.view_is) at s in
    let used : c.as_slice-used.result.now ≡ slice_index_or c.self.inside.uses.now c.args.node [] = c.as_slice-used.ensures ∙ c.index-uses-node.is ∙ get_or_default c.self.inside.uses.now c.args.node _ [] (pending_in_range _ c.args.node _ settled) in
    let met : c.index.result.now ≡ slice_index_or c.self.inside.met.items c.args.node 0
    = c.index.ensures ∙ get_or_default c.self.inside.met.items c.args.node _ 0 (omega (arith, pending_in_range _ c.args.node rest settled, settled.met_count)) in
    let found = rw (used, c.deref.ensures.value, met) at c.in-Some.ensures.some in
    let in_range = use_in_range _ (c.args.node ∷ rest) c.args.node c.in-Some.place settled (pending_in_range _ c.args.node rest settled) found.0 in
    let waited : c.index_mut-in-Some.result.now ≡ slice_index_or c.self.inside.waiting.items (slice_index_or c.as_slice-used.result.now c.in-Some.place 0) []
    = c.index_mut-in-Some.ensures.value ∙ get_or_default c.self.inside.waiting.items _ _ [] (rw used (omega (arith, in_range, settled.waiting_count))) in
    rw (c.in_ok-push-in-Some.ensures.ok, waited, used) (settled_waiting _ c.args.node c.in-Some.place rest settled found.0 found.1 found.2)
