use Rattle.std.proofs.Common.{◌≡◌, ◌+◌, ℕ, List, [], ◌∷◌, ◌++◌, length, take, subst, sym, arith, Bor}
use Rattle.std.proofs.lemmas.List.{length-map, length-take}
use Rattle.tree_scopes.specs.Lent.{lent_names, lent_name}
use Rattle.tree_meaning.specs.Knowing.{TellsPlaces}
use Rattle.package_form.proofs.AllAndContains.{map-more}
use Rattle.package_form.proofs.NamesMetOneByOne.{all-taken}
use Rattle.tree_scopes.proofs.PlacesOfNamesByMap.{tells-none}
use Rattle.tree_scopes.proofs.names.table_of.Goals as goal

pub loop-place-init : goal.loop-place-init
loop-place-init c = tells-none (λ s. s.now) c.in_ok-places.places.entries c.in_ok-places.ensures.empty

pub loop-place-preserved : goal.loop-place-preserved
loop-place-preserved c =
    let names = c.args.names.now in
    let k = c.loop-place.place in
    let x = c.index-names-place.result in
    let so_far = lent_names (take k names) in
    let more : lent_names (take (k + 1) names) ≡ so_far ++ x.now ∷ [] = map-more lent_name names k x (omega arith) c.index-names-place.is in
    let at : length so_far ≡ k = omega (arith, length-map (take k names) lent_name, length-take k names) in
    subst (TellsPlaces (λ s. s.now) c.put_place.new.places.entries) (sym more) (c.in_ok-put_place.ensures so_far at c.loop-place.invariant)

pub returns : goal.returns
returns c =
    let P : List (Bor (List ℕ)) → Type 0 = λ ns. TellsPlaces (λ s. s.now) c.loop-place.places.entries (lent_names ns) in
    all-taken P c.args.names.now c.loop-place.place (omega arith) c.loop-place.invariant
