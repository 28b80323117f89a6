use Rattle.std.proofs.Common.{◌≡◌, ◌∙◌, ap, sym, subst, List, ℕ, Some, slice_get}
use Rattle.std.specs.List.{position}
use Rattle.tables.specs.PackageNames.{PackageParts}
use Rattle.package_form.specs.Closed.{is_same_package}
use Rattle.package_names.specs.Indexed.{interface_place, placed_at}
use Rattle.package_sets.proofs.FoundImports.AskedOneByOne.{place-among-all}
use Rattle.package_sets.proofs.FoundImports.ImportsAreFound.{IsFoundAt, place-first}
use Rattle.package_sets.proofs.GrowingLists.{item-get}
use Rattle.package_sets.proofs.joining.found_at.Goals as goal

pub returns : goal.returns
returns c =
    let set = c.args.set.now in
    let closed = c.args.closed.now in
    let i = c.args.import.now in
    let p = c.in_ok-package.package.now in
    let at = c.in_ok-package.ensures.lookup in
    let asked = c.requires.0 in
    let of : slice_get closed.packages i.«package».0 ≡ Some p =
    ap (λ (ps : List PackageParts). slice_get ps i.«package».0) (sym c.as_slice.ensures) ∙ item-get c.as_slice.result.now i.«package».0 p at.3.0 at.1 in
    let found : c.place.result ≡ interface_place set p i.name =
    c.place.ensures
    ∙ ap (λ (r : PackageParts). placed_at c.args.places.now (position (is_same_package r) c.as_slice-2.result.now) i.name) c.of.ensures
    ∙ ap (λ (ps : List PackageParts). placed_at c.args.places.now (position (is_same_package p) ps) i.name) c.as_slice-2.ensures
    ∙ c.requires.1.each p i.name
    ∙ place-among-all set closed asked i p of c.requires.2 in
    subst (IsFoundAt set closed i) (sym found) (place-first set closed i p of)
