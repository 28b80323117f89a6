-- The set is the one that its table is.
use Rattle.std.proofs.Common.{subst, IfOk}
use Rattle.package_sets.specs.Restricted.{IsRestricted}
use Rattle.tables.specs.declared.tables.Resolve.{Resolve}
use Rattle.wit_component.specs.ToComponent.{ComponentStands}
use Rattle.package_adding.proofs.set.PackageSet.to_raw.Goals as goal

pub returns : goal.returns
returns c = record {
  ok = subst (λ (s : Resolve). IfOk c.to_raw.result (λ raw. (r : Resolve) × IsRestricted s c.args.id.0 r × ComponentStands raw r)) c.resolve.ensures c.to_raw.ensures.ok;
}
