use Rattle.values.specs.Scalar.{prim_in, value_in}
use Rattle.values.proofs.ValuesOfTypesByShape.{not-scalar}
use Rattle.values.proofs.typing.scalar_is_of.Goals as goal

pub returns-in_default : goal.returns-in_default
returns-in_default c = λ rows t shaped.
    (λ no. cc, λ typed. absurd (not-scalar rows t c.args.shape (value_in c.args.scalar) (prim_in c.args.scalar) shaped c.requires c.in_default.not-Primitive typed))
