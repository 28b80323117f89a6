-- A copy has the same blocks, and a sort puts them into their order.
use Rattle.std.proofs.Common.{rules, subst}
use Rattle.std.specs.List.Sorted.{IsPermutation}
use Rattle.std.proofs.lemmas.List.Sorted.{IsNonDecreasingBy-from_sort_by_key}
use Rattle.memory.proofs.block.by_address.Goals as goal

pub returns : goal.returns
returns c =
    let copied = c.in_ok-sorted.ensures.items_if_clones_equal (λ x y is. search rules) in (
      subst (λ xs. IsPermutation xs c.sort_unstable_by_key.new.self.items) copied c.sort_unstable_by_key.ensures.permutation,
      IsNonDecreasingBy-from_sort_by_key (λ b. b.at) _ c.sort_unstable_by_key.ensures.sorted (λ a r q k. search rules),
    )
