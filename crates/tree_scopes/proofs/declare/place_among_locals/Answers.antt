use Rattle.std.proofs.Common.{◌≡◌, ◌∙◌, List, ℕ, None, true, false, map, take, ap, sym, arith}
use Rattle.std.specs.Str.{bytes_eq}
use Rattle.tree_scopes.specs.declared.declared.UsedType.{UsedType}
use Rattle.tree_meaning.specs.Resolves.{place_of}
use Rattle.package_form.proofs.AllAndContains.{map-more}
use Rattle.package_form.proofs.NamesMetOneByOne.{all-taken}
use Rattle.tree_scopes.proofs.PlacesOfNamesByMap.{not-yet, first-found}
use Rattle.tree_scopes.proofs.declare.place_among_locals.Goals as goal

pub loop-place-preserved : goal.loop-place-preserved
loop-place-preserved c =
    let name_of = λ (u : UsedType). u.local.now in
    let items = c.args.uses.now in
    let k = c.loop-place.place in
    let x = c.index-uses-place.result in
    let n = c.args.name.now in
    let other : bytes_eq (name_of x) n ≡ false = (let e = rw (c.as_bytes.ensures.is, c.as_bytes-in-loop-place.ensures.is) at c.eq.ensures in sym e ∙ c.if-eq.false) in
    ap (λ (ns : List (List ℕ)). place_of ns n) (map-more name_of items k x (omega arith) c.index-uses-place.is)
    ∙ not-yet (map name_of (take k items)) (name_of x) n c.loop-place.invariant other

pub returns-then-eq : goal.returns-then-eq
returns-then-eq c =
    let name_of = λ (u : UsedType). u.local.now in
    let x = c.index-uses-place.result in
    let n = c.args.name.now in
    let same : bytes_eq (name_of x) n ≡ true = (let e = rw (c.as_bytes.ensures.is, c.as_bytes-in-loop-place.ensures.is) at c.eq.ensures in sym e ∙ c.if-eq.true) in
    sym (first-found name_of c.args.uses.now n c.loop-place.place x (omega arith) c.index-uses-place.is c.loop-place.invariant same)

pub returns : goal.returns
returns c =
    sym (all-taken (λ (xs : List UsedType). place_of (map (λ (u : UsedType). u.local.now) xs) c.args.name.now ≡ None) c.args.uses.now c.loop-place.place (omega arith) c.loop-place.invariant)
