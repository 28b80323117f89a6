use Rattle.std.proofs.Common.{◌∙◌, ℕ, List, Some, Option, ap, sym, cond, arith, None}
use Rattle.std.proofs.lemmas.Option.{slice_get-get_or}
use Rattle.std.specs.List.{position}
use Rattle.std.specs.Option.{option_or}
use Rattle.std.specs.Str.{bytes_eq}
use Rattle.tables.specs.PackageNames.{PackageParts}
use Rattle.package_form.specs.Closed.{is_same_package}
use Rattle.package_names.specs.Indexed.{placed}
use Rattle.package_names.proofs.InterfacesIndexedByName.{put-one, has-first}
use Rattle.package_names.proofs.indexed.put_interface.Goals as goal

pub returns-in_ok-put-clause-put : goal.returns-in_ok-put-clause-put
returns-in_ok-put-clause-put c = λ q n.
    let ps = c.args.packages.now in
    let p = c.index-packages-interface.result in
    let i = c.args.interface.now in
    let names = c.args.names.now.items in
    let k = c.in-Some.first in
    let old = c.index_mut-places.result.now in
    let of = slice_get-get_or ps i.«package».0 p c.requires.within ∙ ap (λ (x : PackageParts). Some x) (sym c.index-packages-interface.is) in
    let first = ap (λ (r : PackageParts). position (is_same_package r) ps) (sym c.of-key.ensures) ∙ sym c.package_place.ensures ∙ c.in-Some.is in
    let here = slice_get-get_or names k old (omega (arith, (Rattle.std.proofs.lemmas.List.Quantifiers.position-Some (is_same_package p) ps k p first).0, c.requires.count)) ∙ ap (λ (x : List (List ℕ × ℕ)). Some x) (sym c.index_mut-places.ensures.value) in
    put-one ps p i of names k c.args.place c.put.new.self first c.requires.count
    (λ m. c.in_ok-put.ensures m ∙ ap (λ (o : Option (List (List ℕ × ℕ))). option_or (placed o m) (cond (bytes_eq m i.name) (Some c.args.place) None)) (sym here)) q n

pub returns-in_default-clause-put : goal.returns-in_default-clause-put
returns-in_default-clause-put c =
    let ps = c.args.packages.now in
    let p = c.index-packages-interface.result in
    let i = c.args.interface.now in
    let of = slice_get-get_or ps i.«package».0 p c.requires.within ∙ ap (λ (x : PackageParts). Some x) (sym c.index-packages-interface.is) in
    let none = ap (λ (r : PackageParts). position (is_same_package r) ps) (sym c.of-key.ensures) ∙ sym c.package_place.ensures ∙ c.in_default.is in
    absurd (has-first ps p i of none c.requires.within)
