use Rattle.std.proofs.Common.{◌≡◌, ◌∙◌, ◌&&◌, ◌||◌, List, Option, None, Some, slice_get, ap, sym, arith}
use Rattle.std.specs.Str.{bytes_eq}
use Rattle.std.proofs.lemmas.Option.{slice_get_past}
use Rattle.package_form.specs.Closed.{is_same_package}
use Rattle.package_names.specs.Indexed.{key_parts}
use Rattle.package_sets.specs.Joining.{are_same_packages}
use Rattle.package_sets.proofs.GrowingLists.{item-get}
use Rattle.tables.specs.PackageNames.{PackageParts}
use Rattle.package_adding.specs.ImportNames.{import_names}
use Rattle.package_adding.specs.Asked.{nothing, also}
use Rattle.package_adding.proofs.NamesAskedOfSets.{asked-as, asked-none, asked-one, on-both}
use Rattle.package_adding.proofs.imported.ask_import.Goals as goal

pub returns-in-Some : goal.returns-in-Some
returns-in-Some c = on-both c.ask.result _ _ _ (λ count each names asks.
    let set = c.args.set.now in
    let closed = c.args.closed.now in
    let x = c.args.import.now in
    let p = c.in-Some.«package».now in
    let at = c.in-Some.ensures.lookup in
    let of : slice_get closed.packages x.«package».0 ≡ Some p =
    ap (λ (ps : List PackageParts). slice_get ps x.«package».0) (sym c.as_slice-packages.ensures) ∙ item-get c.as_slice-packages.result.now x.«package».0 p at.3.0 at.1 in
    let more = asked-one set names (key_parts c.of.result) x.name c.args.asked.now c.ask.new.self count
    (λ k q m l e. each k q m l (ap (λ (ps : List PackageParts). slice_get ps k) c.as_slice.ensures ∙ e)) asks in
    asked-as set (also names (λ q i. is_same_package q (key_parts c.of.result) && bytes_eq i x.name)) (also names (import_names closed x)) c.ask.new.self
    (λ q i. ap (λ (r : PackageParts). names q i || (is_same_package q r && bytes_eq i x.name)) c.of.ensures
    ∙ ap (λ (o : Option PackageParts). names q i || (are_same_packages (Some q) o && bytes_eq i x.name)) (sym of))
    more)
    c.ask.ensures.count c.ask.ensures.each

pub returns-in-None : goal.returns-in-None
returns-in-None c = λ names asks.
    let closed = c.args.closed.now in
    let x = c.args.import.now in
    let none : slice_get closed.packages x.«package».0 ≡ None =
    ap (λ (ps : List PackageParts). slice_get ps x.«package».0) (sym c.as_slice-packages.ensures) ∙ slice_get_past c.as_slice-packages.result.now x.«package».0 (omega (arith, c.in-None.ensures.lookup)) in
    asked-as c.args.set.now (also names nothing) (also names (import_names closed x)) c.args.asked.now
    (λ q i. ap (λ (o : Option PackageParts). names q i || (are_same_packages (Some q) o && bytes_eq i x.name)) (sym none)) (asked-none c.args.set.now names c.args.asked.now asks)
