use Rattle.std.proofs.Common.{◌≡◌, Bool, true, false, refl, inr}
use Rattle.wit_component.proofs.to_component.to_written.Goals as goal

no-form : (b : Bool) → b ≡ false → b ≡ true → ⊥
no-form b h q = absurd (cc)

pub returns-then-not-branch-clause-err : goal.returns-then-not-branch-clause-err
returns-then-not-branch-clause-err c =
    inr (refl, λ form. no-form _ c.if-not-branch.true (c.in_ok-is_in_form.ensures.1 form))
