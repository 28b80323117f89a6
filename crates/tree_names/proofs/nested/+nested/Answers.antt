use Rattle.std.proofs.Common.{nat_le, List, map, ap, sym, ◌∙◌, arith}
use Rattle.wit_tokens.specs.Syntax.{depth_all, tys_of}
use Rattle.wit_tokens.specs.View.{ty_view}
use Rattle.wit_tokens.specs.declared.wit_syntax.ast.TypeExpression.{TypeExpression}
use Rattle.tree_names.proofs.NestingDepths.{deeper-at, within-more}
use Rattle.tree_names.proofs.nested.+nested.Goals as goal

pub are_within-returns-then-not-is_within : goal.are_within-returns-then-not-is_within
are_within-returns-then-not-is_within t c =
    let h = deeper-at c.deref-ty-items.result.now c.loop-ty.ty-index c.ty-item.result c.args.limit (omega arith) c.ty-item.is (sym c.is_within.ensures ∙ c.if-not-is_within.true) in
    sym (ap (λ (xs : List TypeExpression). nat_le (depth_all (tys_of (map ty_view xs))) c.args.limit) (sym c.deref-ty-items.ensures.value) ∙ h)

pub are_within-loop-ty-preserved : goal.are_within-loop-ty-preserved
are_within-loop-ty-preserved t c =
    within-more c.deref-ty-items.result.now c.loop-ty.ty-index c.ty-item.result c.args.limit (omega arith) c.ty-item.is c.loop-ty.invariant (sym c.is_within.ensures ∙ c.if-not-is_within.false)
