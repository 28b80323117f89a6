-- A name that stands twice in a scope of a package refuses the component that stands for it.
use Rattle.std.proofs.Math.Logic.{∥∥₁_map}
use Rattle.tables.specs.declared.error.ResolveError.{ResolveError}
use Rattle.tables.specs.declared.error.ResolveError.TheVariants as error
use Rattle.tables.specs.declared.tables.Resolve.{Resolve}
use Rattle.ctype_bin.specs.declared.component.RawComponent.{RawComponent}
use Rattle.package_form.specs.Distinct.{RefusesScopes}
use Rattle.package_form.specs.Naming.{package_scopes}
use Rattle.wit_component.specs.ToComponent.{ComponentStands}
use Rattle.wit_component.specs.FromComponent.{ClosedComponentRefuses}

pub refuses-package : (raw : RawComponent) (r : Resolve) (e : ResolveError) → ∥ ComponentStands raw r ∥₁ → RefusesScopes (package_scopes r) e → ClosedComponentRefuses raw e
refuses-package raw r (error.Duplicate n) s h = ∥∥₁_map s (λ stands. (r, stands, h))
refuses-package raw r error.NoMemory s h = tt
refuses-package raw r _ s h = absurd h
