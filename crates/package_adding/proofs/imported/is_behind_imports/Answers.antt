use Rattle.std.proofs.Common.{List, Bool, subst}
use Rattle.package_sets.specs.Imports.{IsImportsOf}
use Rattle.package_adding.proofs.OwnPartNamesOfSet.{decides-behind}
use Rattle.package_adding.proofs.imported.is_behind_imports.Goals as goal

pub returns : goal.returns
returns c =
    let set = c.args.set.now in
    let named = c.in_ok-named.named in
    let table = c.in_ok-table.table in
    let packages = subst (λ (bs : List Bool). IsImportsOf set bs c.deref-2.result.now table) c.deref.ensures.value c.in_ok-table.ensures in
    let are = subst (λ (bs : List Bool). IsImportsOf set named.packages.items bs table) c.deref-2.ensures.value packages in
    decides-behind set c.args.closed.now table named.packages.items named.interfaces.items c.in_ok-named.ensures are c.has_import_table.result c.has_import_table.ensures
