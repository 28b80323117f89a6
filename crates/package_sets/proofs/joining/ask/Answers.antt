use Rattle.std.proofs.Common.{◌≡◌, ◌∙◌, ◌<◌, ◌&&◌, ◌||◌, List, ℕ, Some, None, slice_get, ap, sym, arith, length}
use Rattle.std.specs.Str.{bytes_eq}
use Rattle.std.proofs.lemmas.Option.{slice_get_past}
use Rattle.package_form.specs.Closed.{is_same_package}
use Rattle.package_names.specs.Asked.{is_asked}
use Rattle.package_sets.proofs.FoundImports.AskedOneByOne.{asks-more, asks-none}
use Rattle.package_sets.proofs.GrowingLists.{item-get}
use Rattle.tables.specs.PackageNames.{PackageParts}
use Rattle.package_sets.proofs.joining.ask.Goals as goal

pub returns-in_ok-ask : goal.returns-in_ok-ask
returns-in_ok-ask c = λ is asks.
    let set = c.args.set.now in
    let closed = c.args.closed.now in
    let i = c.args.import.now in
    let p = c.in-Some.«package».now in
    let at = c.in-Some.ensures.lookup in
    let of : slice_get closed.packages i.«package».0 ≡ Some p =
    ap (λ (ps : List PackageParts). slice_get ps i.«package».0) (sym c.as_slice.ensures) ∙ item-get c.as_slice.result.now i.«package».0 p at.3.0 at.1 in
    asks-more set closed i c.args.asked.now is asks p c.ask.new.self of c.in_ok-ask.ensures.count
    (λ k q n l e.
    c.in_ok-ask.ensures.each k q n l (ap (λ (ps : List PackageParts). slice_get ps k) c.as_slice-in-Some.ensures ∙ e)
    ∙ ap (λ (r : PackageParts). is_asked c.args.asked.now k n || (is_same_package r q && bytes_eq n i.name)) c.of.ensures)

pub returns-in_default : goal.returns-in_default
returns-in_default c = λ is asks.
    let closed = c.args.closed.now in
    let i = c.args.import.now in
    let none : slice_get closed.packages i.«package».0 ≡ None =
    ap (λ (ps : List PackageParts). slice_get ps i.«package».0) (sym c.as_slice.ensures) ∙ slice_get_past c.as_slice.result.now i.«package».0 (omega (arith, c.in_default.ensures.lookup)) in
    asks-none c.args.set.now closed i c.args.asked.now is asks none
