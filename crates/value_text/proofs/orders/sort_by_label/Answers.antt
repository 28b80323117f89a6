use Rattle.std.proofs.Common.{rules, is_lt, nat_cmp}
use Rattle.std.specs.Cmp.Lexicographic.{slice_cmp, nat_list_cmp_total}
use Rattle.std.proofs.lemmas.Fn.{always_returns_same}
use Rattle.std.proofs.lemmas.List.Sorted.{ranks_by}
use Rattle.value_text.specs.Orders.{label_at}
use Rattle.value_text.proofs.orders.sort_by_label.Goals as goal

pub returns-clause-sorted : goal.returns-clause-sorted
returns-clause-sorted c =
    let fs = c.args.fields.now in
    c.sort_unstable_by.ensures.sorted (λ i j. is_lt (slice_cmp nat_cmp (label_at fs i) (label_at fs j))) (ranks_by nat_list_cmp_total (label_at fs))
    (always_returns_same _ _ _ (λ a r f k. search rules))
