-- The package has no function of a number that is none in its types.
use Rattle.std.proofs.Common.{refl, sym, subst}
use Rattle.std.specs.Option.{option_map}
use Rattle.tables.specs.Closed.{IsFunction}
use Rattle.c_border.specs.Functions.{numbered, HasNoFunction}
use Rattle.c_border.proofs.functions.function.Goals as goal

pub returns-in-Err-clause-err : goal.returns-in-Err-clause-err
returns-in-Err-clause-err c =
    let no = c.in-Err.ensures.none in
    subst (λ o. HasNoFunction (option_map (λ p. p.now) o) c.args.number c.in-Err.error) (sym c.in-Some.is)
    (no.0, λ h. no.1 (numbered c.args.number) refl (subst (λ r. IsFunction r (numbered c.args.number)) (sym c.types.ensures.types) h))
