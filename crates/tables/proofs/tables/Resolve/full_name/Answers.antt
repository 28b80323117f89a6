use Rattle.std.proofs.Common.{◌≡◌, List, ℕ, [], length, get_or, IfOk, ap, sym, subst, ◌∙◌}
use Rattle.std.proofs.lemmas.List.{get_or-map}
use Rattle.tables.proofs.NamesEarlierTypes.{grouped-at}
use Rattle.tables.specs.PackageNames.{own_name}
use Rattle.tables.specs.Names.{full_name, full_name_in}
use Rattle.tables.specs.Package.{interface_names}
use Rattle.tables.specs.declared.tables.Interface.{Interface}
use Rattle.tables.proofs.tables.Resolve.full_name.Goals as goal

pub package_of-requires : goal.package_of-requires
package_of-requires c =
    let r = c.args.self.now in
    let i = c.index-as_slice-id.result in
    let same = c.as_slice.ensures in
    grouped-at (length r.packages) 0 r.interfaces c.args.id.0 i r.grouped c.requires
    (ap (λ (is : List Interface). get_or is c.args.id.0 i) (sym same) ∙ sym c.index-as_slice-id.is)

pub returns : goal.returns
returns c =
    let r = c.args.self.now in
    let i = c.index-as_slice-id.result in
    let at : get_or r.interfaces c.args.id.0 i ≡ i = ap (λ (is : List Interface). get_or is c.args.id.0 i) (sym c.as_slice.ensures) ∙ sym c.index-as_slice-id.is in
    let named : get_or (interface_names r) c.args.id.0 [] ≡ full_name r i = get_or-map (full_name r) r.interfaces c.args.id.0 i [] c.requires ∙ ap (full_name r) at in
    let told : full_name r i ≡ own_name c.package_of.result.now i.name = ap (λ p. full_name_in p i.name) c.package_of.ensures in
    subst (λ (wanted : List ℕ). IfOk c.full_name.result (λ n. n ≡ wanted)) (sym (named ∙ told)) c.full_name.ensures
