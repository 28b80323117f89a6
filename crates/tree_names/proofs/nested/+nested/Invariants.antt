use Rattle.std.proofs.Common.{◌≡◌, true, nat_le, map, take}
use Rattle.wit_tokens.specs.Syntax.{depth_all, tys_of}
use Rattle.wit_tokens.specs.View.{ty_view}
use Rattle.tree_names.proofs.nested.+nested.Given as goal

abbrev pub invariant-are_within-loop-ty : goal.invariant-are_within-loop-ty
invariant-are_within-loop-ty l = nat_le (depth_all (tys_of (map ty_view (take l.ty-index l.ty-items)))) l.limit ≡ true
