-- The bytes of the document stand in the array.
use Rattle.std.proofs.Common.{inl, subst, sym}
use Rattle.std.specs.Option.{option_map}
use Rattle.c_border.specs.Written.{Describes}
use Rattle.c_border.proofs.writing.describe.Goals as goal

pub returns-in-Ok : goal.returns-in-Ok
returns-in-Ok c =
    subst (λ o. Describes (option_map (λ p. p.now) o) c.args.out.now c.tell_bytes.result c.tell_bytes.new.out) (sym c.in-Some.is) (inl (c.as_bytes.result.now, c.tell_bytes.ensures))
