use Rattle.std.proofs.Common.{List, All, Contains, map, flat_map, sym, subst, arith}
use Rattle.wit_tokens.specs.View.{item_view}
use Rattle.wit_tokens.specs.declared.wit_syntax.ast.Item.{Item}
use Rattle.tree_meaning.specs.Declarations.{file_entry_packages}
use Rattle.tree_meaning.specs.Knowing.{RefusesPackage}
use Rattle.tables.specs.PackageNames.{PackageParts}
use Rattle.tables.specs.declared.error.ResolveError.TheVariants as error
use Rattle.package_form.proofs.NamesMetOneByOne.{all-taken}
use Rattle.tree_meaning.proofs.NamesFoundInLists.{if-none}
use Rattle.tree_meaning.proofs.PathNames.{all-more, lacking-more}
use Rattle.tree_names.proofs.packages.known_packages.Goals as goal

pub returns-in-Some-clause-err : goal.returns-in-Some-clause-err
returns-in-Some-clause-err c =
    let ps = flat_map file_entry_packages (map item_view c.args.items.now) in
    let first = lacking-more c.args.packages.now file_entry_packages item_view c.args.items.now c.loop-item.item-index c.item-item.result _ (omega arith) c.item-item.is c.loop-item.invariant c.in-Some.ensures.some in
    subst (λ (p : PackageParts). RefusesPackage c.args.packages.now ps (error.NoPackage p)) (sym c.in_ok-package_name.ensures) first

pub loop-item-preserved : goal.loop-item-preserved
loop-item-preserved c =
    let here = if-none c.lacking_in_entry.result _ (λ n e. c.in_default.not-Some n e) c.lacking_in_entry.ensures.none in
    all-more (Contains c.args.packages.now) file_entry_packages item_view c.args.items.now c.loop-item.item-index c.item-item.result (omega arith) c.item-item.is c.loop-item.invariant here

pub returns-clause-ok : goal.returns-clause-ok
returns-clause-ok c =
    all-taken (λ (xs : List Item). All (Contains c.args.packages.now) (flat_map file_entry_packages (map item_view xs))) c.args.items.now c.loop-item.item-index (omega arith) c.loop-item.invariant
