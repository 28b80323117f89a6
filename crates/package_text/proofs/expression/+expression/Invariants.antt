use Rattle.std.proofs.Common.{◌≡◌, ◌+◌, ◌*◌, map, take}
use Rattle.wit_tokens.specs.View.{ty_view}
use Rattle.package_text.specs.Tree.{own_trees}
use Rattle.package_text.specs.Pieces.{type_by}
use Rattle.package_text.proofs.expression.+expression.Given as goal

abbrev pub decreases-expression : goal.decreases-expression
decreases-expression l = 4 * l._place

abbrev pub decreases-reference : goal.decreases-reference
decreases-reference l = 4 * l.id.0 + 3

abbrev pub decreases-inner : goal.decreases-inner
decreases-inner l = 4 * l.place + 2

abbrev pub decreases-maybe_expression : goal.decreases-maybe_expression
decreases-maybe_expression l = 4 * l.place + 1

abbrev pub decreases-expressions : goal.decreases-expressions
decreases-expressions l = 4 * l.place + 1

abbrev pub invariant-expressions-loop-ty : goal.invariant-expressions-loop-ty
invariant-expressions-loop-ty l = map ty_view l.expressions.items ≡ map (type_by (own_trees l.resolve)) (take l.ty-index l.types)
