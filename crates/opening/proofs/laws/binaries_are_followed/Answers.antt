use Rattle.std.proofs.Math.Logic.{∥∥₁_map}
use Rattle.wit_component.proofs.CandidateIsThePackage.{reads-as}
use Rattle.opening.proofs.laws.binaries_are_followed.Goals as goal

pub returns : goal.returns
returns c = λ bytes closed h.
    ∥∥₁_map h.component.stands (λ s. record { raw = h.raw; spelt = h.spelt; read = reads-as h.raw closed s h.component.distinct })
