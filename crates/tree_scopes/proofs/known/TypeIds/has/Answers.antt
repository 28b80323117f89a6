use Rattle.std.proofs.Common.{refl}
use Rattle.package_form.specs.Scoped.{NameEntry}
use Rattle.package_form.proofs.AllAndContains.{contains-map}
use Rattle.tree_scopes.proofs.known.TypeIds.has.Goals as goal

pub returns-in-Some : goal.returns-in-Some
returns-in-Some c = (λ e. contains-map (λ (e : NameEntry). e.name) c.args.self.now _ c.in-Some.ensures.some, λ h. refl)

pub returns-in-None : goal.returns-in-None
returns-in-None c = (λ e. absurd (cc), λ h. absurd (c.in-None.ensures.none h))
