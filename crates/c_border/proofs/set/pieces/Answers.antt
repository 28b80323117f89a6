use Rattle.std.proofs.Common.{rules, [], ◌∷◌, refl, inr, ap, ◌∙◌}
use Rattle.std.proofs.lemmas.List.{map-append}
use Rattle.c_border.proofs.InputsStandInOrder.{too-long, too-many, one-more}
use Rattle.opening.specs.Sets.{all_bytes}
use Rattle.c_border.proofs.set.pieces.Goals as goal

pub returns-in_default-clause-err : goal.returns-in_default-clause-err
returns-in_default-clause-err c = inr (
  refl,
  too-long c.args.bytes.now c.args.lengths.now c.loop-length.length-index (all_bytes c.loop-length.inputs.items) c.loop-length.rest.now
      c.loop-length.invariant.0 c.loop-length.invariant.1 c.loop-length-test.true (c.in_default.ensures).cases,
)

pub loop-length-preserved : goal.loop-length-preserved
loop-length-preserved c = one-more c.args.bytes.now c.args.lengths.now c.loop-length.length-index (all_bytes c.loop-length.inputs.items) (all_bytes c.push.new.self.items)
    c.loop-length.rest.now c.in-Some.input.now c.in-Some.others.now
    (ap all_bytes (c.in_default-push.ensures).items ∙ map-append (λ b. b.now) c.loop-length.inputs.items (c.in-Some.input ∷ []))
    c.loop-length.invariant.0 c.loop-length.invariant.1 c.loop-length-test.true (c.in-Some.ensures).cases.3 (c.in-Some.ensures).cases.1 (c.in-Some.ensures).cases.2

pub returns-then-not-is_empty-clause-err : goal.returns-then-not-is_empty-clause-err
returns-then-not-is_empty-clause-err c = inr (
  refl,
  too-many c.args.bytes.now c.args.lengths.now c.loop-length.length-index (all_bytes c.loop-length.inputs.items) c.loop-length.rest.now
      c.loop-length.invariant.0 c.loop-length.invariant.1 c.loop-length-test.false (search rules),
)
