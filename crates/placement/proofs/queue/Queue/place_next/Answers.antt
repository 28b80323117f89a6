use Rattle.std.proofs.Common.{◌≡◌, [], slice_index_or, refl, sym, ◌∙◌, arith}
use Rattle.std.proofs.lemmas.List.{get_or_default}
use Rattle.placement.proofs.NodesAreSettled.{least_is_next, placed_first}
use Rattle.placement.proofs.queue.Queue.place_next.Goals as goal

pub index_mut-requires : goal.index_mut-requires
index_mut-requires c =
    let settled = rw (sym c.self.view_is) at c.requires in
    let next = least_is_next _ c.in_ok-node.node _ settled c.in_ok-node.ensures.removal c.in_ok-node.ensures.all_above in
    omega (arith, next.in_range, settled.placed_count)

pub returns-clause-some : goal.returns-clause-some
returns-clause-some c =
    let settled = rw (sym c.self.view_is) at c.requires in
    let next = least_is_next _ c.in_ok-node.node _ settled c.in_ok-node.ensures.removal c.in_ok-node.ensures.all_above in
    let taken : c.replace-waiting.result ≡ slice_index_or c.self.inside.waiting.items c.in_ok-node.node []
    = c.replace-waiting.ensures.value ∙ c.index_mut-2.ensures.value
    ∙ get_or_default c.self.inside.waiting.items c.in_ok-node.node _ [] (omega (arith, next.in_range, settled.waiting_count)) in
    let none : c.replace-waiting.new.dest ≡ [] = c.replace-waiting.ensures.after ∙ c.new-2.ensures ∙ c.new.ensures.items in
    rw (sym c.self.view_is, taken, none) (record {
      next = next;
      settled = placed_first _ c.in_ok-node.node _ settled c.in_ok-node.ensures.removal c.in_ok-node.ensures.all_above;
      uses = refl;
      placed = refl;
    })
