use Rattle.std.proofs.Math.Logic.{∥∥₁_map}
use Rattle.checked_packages.proofs.checking.is_in_form.Goals as goal

pub returns-clause-form : goal.returns-clause-form
returns-clause-form c = ∥∥₁_map c.requires (λ w. w.form)

pub returns-clause-distinct : goal.returns-clause-distinct
returns-clause-distinct c = ∥∥₁_map c.requires (λ w. w.distinct)
