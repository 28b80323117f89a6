use Rattle.std.proofs.Common.{◌≡◌, Some, None, slice_get, refl, ap, sym, ◌∙◌}
use Rattle.std.specs.Option.{option_map}
use Rattle.tables.specs.Names.{function_name}
use Rattle.tables.specs.PackageNames.{own_name}
use Rattle.tables.specs.declared.tables.Function.{Function}
use Rattle.package_changes.specs.Pairs.{last_package, AreVersions, new_name}
use Rattle.package_changes.proofs.PartnersByNames.{are-versions, no-interface, no-world, in-interface, in-world}
use Rattle.package_changes.proofs.judging.Pairs.partner.Goals as goal

pub returns-in_ok-full_name-in-Some-interface_at-clause-pair : goal.returns-in_ok-full_name-in-Some-interface_at-clause-pair
returns-in_ok-full_name-in-Some-interface_at-clause-pair c =
    let r = c.args.self.now.old.now in
    let s = c.args.self.now.new.now in
    let versions : AreVersions (last_package r) (last_package s) =
    are-versions r s c.in-Some.was.now c.in-Some-last_package.is'.now c.in-Some.ensures c.in-Some-last_package.ensures (c.if-not-are_versions.ensures.named.0 refl) in
    let named : function_name r c.args.place.function ≡ Some c.as_str-name.result.now =
    ap (option_map (λ (f : Function). f.name)) c.signature.ensures ∙ ap (λ n. Some n) (sym c.as_str-name.ensures.is) in
    let get : slice_get r.interfaces c.in-Interface.i ≡ Some c.in-Some-interface_at.interface.now = c.in-Some-interface_at.ensures in
    let own : c.as_str.result.now ≡ own_name c.in-Some-last_package.is'.now c.in-Some-interface_at.interface.now.name = cc (c.as_str.ensures, c.in_ok-full_name-in-Some-interface_at.ensures) in
    in-interface r s c.args.place versions c.as_str-name.result.now named c.in-Interface.i c.in-Some-interface_at.interface.now c.as_str.result.now c.function.result c.in-Interface.is get
    (own ∙ sym (ap (λ o. new_name o c.in-Some-interface_at.interface.now.name) c.in-Some-last_package.ensures)) (c.function.ensures.found s c.requires) (c.function.ensures.none s c.requires)

pub returns-in-None-clause-pair : goal.returns-in-None-clause-pair
returns-in-None-clause-pair c =
    let r = c.args.self.now.old.now in
    let s = c.args.self.now.new.now in
    let versions : AreVersions (last_package r) (last_package s) =
    are-versions r s c.in-Some.was.now c.in-Some-last_package.is'.now c.in-Some.ensures c.in-Some-last_package.ensures (c.if-not-are_versions.ensures.named.0 refl) in
    let named : function_name r c.args.place.function ≡ Some c.as_str-name.result.now =
    ap (option_map (λ (f : Function). f.name)) c.signature.ensures ∙ ap (λ n. Some n) (sym c.as_str-name.ensures.is) in
    let none : slice_get r.interfaces c.in-Interface.i ≡ None = c.in-None.ensures in
    no-interface r s c.args.place versions c.as_str-name.result.now named c.in-Interface.i c.in-Interface.is none

pub returns-in_ok-full_name-in-Some-world_at-clause-pair : goal.returns-in_ok-full_name-in-Some-world_at-clause-pair
returns-in_ok-full_name-in-Some-world_at-clause-pair c =
    let r = c.args.self.now.old.now in
    let s = c.args.self.now.new.now in
    let versions : AreVersions (last_package r) (last_package s) =
    are-versions r s c.in-Some.was.now c.in-Some-last_package.is'.now c.in-Some.ensures c.in-Some-last_package.ensures (c.if-not-are_versions.ensures.named.0 refl) in
    let named : function_name r c.args.place.function ≡ Some c.as_str-name.result.now =
    ap (option_map (λ (f : Function). f.name)) c.signature.ensures ∙ ap (λ n. Some n) (sym c.as_str-name.ensures.is) in
    let get : slice_get r.worlds c.in-World.i ≡ Some c.in-Some-world_at.world.now = c.in-Some-world_at.ensures in
    let own : c.as_str-in-Some-world_at.result.now ≡ own_name c.in-Some-last_package.is'.now c.in-Some-world_at.world.now.name = cc (c.as_str-in-Some-world_at.ensures, c.in_ok-full_name-in-Some-world_at.ensures) in
    in-world r s c.args.place versions c.as_str-name.result.now named c.in-World.i c.in-World.side c.in-Some-world_at.world.now c.as_str-in-Some-world_at.result.now c.world_function.result c.in-World.is get
    (own ∙ sym (ap (λ o. new_name o c.in-Some-world_at.world.now.name) c.in-Some-last_package.ensures)) c.world_function.ensures.found c.world_function.ensures.none

pub returns-in-None-world_at-clause-pair : goal.returns-in-None-world_at-clause-pair
returns-in-None-world_at-clause-pair c =
    let r = c.args.self.now.old.now in
    let s = c.args.self.now.new.now in
    let versions : AreVersions (last_package r) (last_package s) =
    are-versions r s c.in-Some.was.now c.in-Some-last_package.is'.now c.in-Some.ensures c.in-Some-last_package.ensures (c.if-not-are_versions.ensures.named.0 refl) in
    let named : function_name r c.args.place.function ≡ Some c.as_str-name.result.now =
    ap (option_map (λ (f : Function). f.name)) c.signature.ensures ∙ ap (λ n. Some n) (sym c.as_str-name.ensures.is) in
    let none : slice_get r.worlds c.in-World.i ≡ None = c.in-None-world_at.ensures in
    no-world r s c.args.place versions c.as_str-name.result.now named c.in-World.i c.in-World.side c.in-World.is none
