use Rattle.std.proofs.Common.{◌≡◌, ◌∙◌, List, ℕ, None, true, false, take, ap, sym, arith, Bor}
use Rattle.std.specs.Str.{bytes_eq}
use Rattle.tree_scopes.specs.Lent.{lent_names, lent_name}
use Rattle.tree_meaning.specs.Resolves.{place_of}
use Rattle.package_form.proofs.AllAndContains.{map-more}
use Rattle.package_form.proofs.NamesMetOneByOne.{all-taken}
use Rattle.tree_scopes.proofs.PlacesOfNamesByMap.{not-yet, first-found}
use Rattle.tree_scopes.proofs.names.first_place.Goals as goal

pub loop-place-preserved : goal.loop-place-preserved
loop-place-preserved c =
    let names = c.args.names.now in
    let k = c.loop-place.place in
    let x = c.index-names-place.result in
    let n = c.args.name.now in
    let other : bytes_eq x.now n ≡ false = (let e = rw (c.as_bytes.ensures.is, c.as_bytes-in-loop-place.ensures.is) at c.eq.ensures in sym e ∙ c.if-eq.false) in
    ap (λ (ns : List (List ℕ)). place_of ns n) (map-more lent_name names k x (omega arith) c.index-names-place.is)
    ∙ not-yet (lent_names (take k names)) x.now n c.loop-place.invariant other

pub returns-then-eq : goal.returns-then-eq
returns-then-eq c =
    let x = c.index-names-place.result in
    let n = c.args.name.now in
    let same : bytes_eq x.now n ≡ true = (let e = rw (c.as_bytes.ensures.is, c.as_bytes-in-loop-place.ensures.is) at c.eq.ensures in sym e ∙ c.if-eq.true) in
    sym (first-found lent_name c.args.names.now n c.loop-place.place x (omega arith) c.index-names-place.is c.loop-place.invariant same)

pub returns : goal.returns
returns c =
    sym (all-taken (λ (ns : List (Bor (List ℕ))). place_of (lent_names ns) c.args.name.now ≡ None) c.args.names.now c.loop-place.place (omega arith) c.loop-place.invariant)
