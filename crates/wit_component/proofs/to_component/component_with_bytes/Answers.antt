use Rattle.std.proofs.Common.{sym, subst}
use Rattle.ctype_bin.specs.Accepted.{IsAccepted}
use Rattle.wit_component.proofs.AcceptedComponents.WholeComponents.{accepted}
use Rattle.wit_component.proofs.to_component.component_with_bytes.Goals as goal

pub with_bytes-requires : goal.with_bytes-requires
with_bytes-requires c = subst IsAccepted (sym c.in_ok-types.ensures.file) (accepted c.args.resolve.now c.requires)
