use Rattle.std.proofs.Common.{◌≡◌, ◌<◌, IsTrue, true, ◌&&◌, ℕ, zero, suc, List, [], ◌∷◌, ◌++◌, length, map, get_or, sym, ap, subst, ◌∙◌, arith}
use Rattle.std.specs.List.{filter, list_all}
use Rattle.std.proofs.lemmas.Bool.{and_parts}
use Rattle.std.proofs.lemmas.List.{get_or_default}
use Rattle.atoms.specs.FullName.{is_package_label, is_version_or_none}
use Rattle.wit_tokens.specs.Syntax.{FileEntry}
use Rattle.wit_tokens.specs.View.{item_view}
use Rattle.wit_tokens.specs.declared.wit_syntax.ast.Item.{Item}
use Rattle.tables.specs.PackageNames.{PackageParts}
use Rattle.package_form.specs.Closed.{own_package}
use Rattle.package_form.specs.Form.{is_package_name}
use Rattle.package_form.specs.Reached.{is_interface_of}
use Rattle.package_form.proofs.FullNamesStandForInterfaces.{some-package}
use Rattle.tree_meaning.specs.Imports.{nameless}
use Rattle.wit_text.proofs.HasFullNames.{version-kept}
use Rattle.package_text.specs.Tree.{interface_entry, world_written, interfaces_of_package, own_parts}
use Rattle.package_text.proofs.file.tree.Goals as goal

own-parts : (ps qs : List PackageParts) (k : ℕ) (p : PackageParts) → qs ≡ ps → k ≡ own_package qs → k < length qs → p ≡ get_or qs k p → own_parts ps ≡ p
own-parts ps qs k p e o l is =
    ap (λ (xs : List PackageParts). get_or xs (own_package xs) nameless) (sym e) ∙ (ap (λ n. get_or qs n nameless) (sym o) ∙ (get_or_default qs k nameless p l ∙ sym is))

named : (ps : List PackageParts) (k : ℕ) (p : PackageParts) → list_all is_package_name ps ≡ true → k < length ps → p ≡ get_or ps k p → is_package_name p ≡ true
named [] k p h l is = absurd (omega (arith, l))
named (q ∷ ps) zero p h l is = subst (λ (x : PackageParts). is_package_name x ≡ true) (sym is) (and_parts (is_package_name q) (list_all is_package_name ps) h).0
named (q ∷ ps) (suc k) p h l is = named ps k p (and_parts (is_package_name q) (list_all is_package_name ps) h).1 (omega (arith, l)) is

pub bounds-packages-own : goal.bounds-packages-own
bounds-packages-own c =
    let some = some-package c.args.resolve.now c.requires.closed in omega (arith, some, c.own_package-own.ensures, ap length c.as_slice-packages.ensures)

pub returns : goal.returns
returns c =
    let r = c.args.resolve.now in
    let own = c.own_package-own.ensures ∙ ap own_package c.as_slice-packages.ensures in
    let some = some-package r c.requires.closed in
    let within : c.own_package-own.result < length c.as_slice-packages.result.now = omega (arith, some, c.own_package-own.ensures, ap length c.as_slice-packages.ensures) in
    let p = own-parts r.packages c.as_slice-packages.result.now c.own_package-own.result c.index-packages-own.result c.as_slice-packages.ensures c.own_package-own.ensures within c.index-packages-own.is in
    let first : map item_view c.push_interfaces.new.items.items ≡ map (interface_entry r) (interfaces_of_package r) =
    c.in_ok-push_interfaces.ensures
    ∙ (ap (λ (xs : List Item). map item_view xs ++ map (interface_entry r) (filter (is_interface_of c.own_package-own.result) r.interfaces)) c.new-items.ensures.items
    ∙ ap (λ n. map (interface_entry r) (filter (is_interface_of n) r.interfaces)) own) in
    let entries : map item_view c.push_worlds.new.items.items ≡ map (interface_entry r) (interfaces_of_package r) ++ map (world_written r) r.worlds =
    c.in_ok-push_worlds.ensures ∙ ap (λ (es : List FileEntry). es ++ map (world_written r) r.worlds) first in
    let namespace = c.in_ok-package.ensures.namespace ∙ sym (ap (λ (q : PackageParts). q.namespace) p) in
    let name = c.in_ok-package.ensures.name ∙ sym (ap (λ (q : PackageParts). q.name) p) in
    let version = c.in_ok-package.ensures.version ∙ sym (ap (λ (q : PackageParts). q.version) p) in
    λ j. record { namespace = namespace j; name = name j; version = version j; entries = entries j }

pub invariant_of-result : goal.invariant_of-result
invariant_of-result c =
    let some = some-package c.args.resolve.now c.requires.closed in
    let within : c.own_package-own.result < length c.as_slice-packages.result.now = omega (arith, some, c.own_package-own.ensures, ap length c.as_slice-packages.ensures) in
    let names = subst (λ (ps : List PackageParts). list_all is_package_name ps ≡ true) (sym c.as_slice-packages.ensures) c.requires.names in
    let p = c.index-packages-own.result in
    let full = named c.as_slice-packages.result.now c.own_package-own.result p names within c.index-packages-own.is in
    let front = and_parts (is_package_label p.namespace) (is_package_label p.name && is_version_or_none p.version) full in
    let back = and_parts (is_package_label p.name) (is_version_or_none p.version) front.1 in
    let told = c.in_ok-package.ensures in
    record {
      namespace_is = subst (λ t. IsTrue (is_package_label t)) (sym told.namespace) front.0;
      name_is = subst (λ t. IsTrue (is_package_label t)) (sym told.name) back.0;
      version_is = version-kept c.in_ok-package.«package».version (subst (λ v. IsTrue (is_version_or_none v)) (sym told.version) back.1);
    }
