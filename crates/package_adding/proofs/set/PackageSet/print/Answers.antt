-- The set is the one that its table is.
use Rattle.std.proofs.Common.{◌≡◌, ◌++◌, subst}
use Rattle.std.specs.Prelude.{OnOk, string_bytes}
use Rattle.package_sets.specs.Restricted.{IsRestricted}
use Rattle.package_text.specs.Text.{text_of}
use Rattle.tables.specs.declared.tables.Resolve.{Resolve}
use Rattle.package_adding.proofs.set.PackageSet.print.Goals as goal

pub returns-clause-ok : goal.returns-clause-ok
returns-clause-ok c =
    subst (λ (s : Resolve). OnOk c.print.result ((r : Resolve) × IsRestricted s c.args.id.0 r × (string_bytes c.print.new.out ≡ string_bytes c.args.out.now ++ text_of r)))
    c.resolve.ensures c.print.ensures.ok
