use Rattle.std.proofs.Common.{refl, subst}
use Rattle.std.specs.List.{All}
use Rattle.std.proofs.lemmas.List.{take_all}
use Rattle.std.proofs.lemmas.List.Elements.{All-more}
use Rattle.witcall.specs.Steps.{IsStep}
use Rattle.witcall.proofs.steps.takes_steps.Goals as goal

pub loop-step-preserved : goal.loop-step-preserved
loop-step-preserved c =
    let r = c.args.«package».now.resolve in
    let here = subst (IsStep r) c.step-item.is (c.if-not-takes_step.ensures.0 refl) in
    All-more (IsStep r) c.args.steps.now c.loop-step.step-index c.step-item.result c.loop-step-test.true c.loop-step.invariant here

pub returns : goal.returns
returns c =
    let r = c.args.«package».now.resolve in
    let whole = take_all c.loop-step.step-index c.args.steps.now c.loop-step-test.false in
    (λ _. subst (All (IsStep r)) whole c.loop-step.invariant, λ _. refl)
