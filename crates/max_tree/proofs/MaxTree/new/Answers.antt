use Rattle.std.proofs.Common.{◌*◌, ◌^◌, ◌%◌, refl}
use Rattle.max_tree.proofs.MaximaTellTheRow.{all_zeros}
use Rattle.max_tree.proofs.MaxTree.new.Goals as goal

pub returns : goal.returns
returns c = all_zeros c.args.depth (1 * 2 ^ c.args.depth % 18446744073709551616) c.in_ok-tree.tree.items c.requires refl (c.in_ok-tree.ensures.items_if_clones_equal (λ y e. e))
