use Rattle.std.proofs.Common.{◌≡◌, ◌<◌, ◌∙◌, List, length, get_or, ap, sym, arith}
use Rattle.std.proofs.lemmas.List.{get_or_default}
use Rattle.tables.specs.PackageNames.{PackageParts}
use Rattle.tables.specs.declared.tables.Resolve.{Resolve}
use Rattle.tree_meaning.specs.Imports.{nameless}
use Rattle.tree_meaning.proofs.ImportsFoundByName.{import-within}
use Rattle.tree_scopes.proofs.ImportTests.{asked, some-decides, none-decides}
use Rattle.tree_scopes.proofs.tested.is_first.Goals as goal

pub bounds-as_slice-interface : goal.bounds-as_slice-interface
bounds-as_slice-interface c =
    let r = c.args.table.now in
    let within = import-within r c.args.place c.args.interface.now c.requires.below c.requires.there in
    omega (arith, within, ap length (c.as_slice.ensures ∙ ap (λ (x : Resolve). x.packages) c.table.ensures))

pub returns-in-Some : goal.returns-in-Some
returns-in-Some c =
    let r = c.args.table.now in
    let i = c.args.interface.now in
    let at = i.«package».0 in
    let listed : c.as_slice.result.now ≡ r.packages = c.as_slice.ensures ∙ ap (λ (x : Resolve). x.packages) c.table.ensures in
    let within : at < length c.as_slice.result.now = omega (arith, import-within r c.args.place i c.requires.below c.requires.there, ap length listed) in
    let of = c.of.ensures ∙ c.index-as_slice-interface.is ∙ get_or_default c.as_slice.result.now at c.index-as_slice-interface.result nameless within ∙ ap (λ (ps : List PackageParts). get_or ps at nameless) listed in
    let same = asked r c.args.place i _ c.requires.below c.requires.there of in
    some-decides _ c.in-Some.first c.args.place (sym same ∙ sym c.place.ensures ∙ c.in-Some.is)

pub returns-in-None : goal.returns-in-None
returns-in-None c =
    let r = c.args.table.now in
    let i = c.args.interface.now in
    let at = i.«package».0 in
    let listed : c.as_slice.result.now ≡ r.packages = c.as_slice.ensures ∙ ap (λ (x : Resolve). x.packages) c.table.ensures in
    let within : at < length c.as_slice.result.now = omega (arith, import-within r c.args.place i c.requires.below c.requires.there, ap length listed) in
    let of = c.of.ensures ∙ c.index-as_slice-interface.is ∙ get_or_default c.as_slice.result.now at c.index-as_slice-interface.result nameless within ∙ ap (λ (ps : List PackageParts). get_or ps at nameless) listed in
    let same = asked r c.args.place i _ c.requires.below c.requires.there of in
    none-decides _ c.args.place (sym same ∙ sym c.place.ensures ∙ c.in-None.is)
