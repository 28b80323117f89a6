use Rattle.std.proofs.Common.{◌≡◌, ◌∙◌, List, ℕ, None, true, false, map, take, ap, sym, arith, Bor}
use Rattle.std.specs.Str.{bytes_eq}
use Rattle.wit_tokens.specs.declared.wit_syntax.ast.TypeDef.{TypeDef}
use Rattle.tree_meaning.specs.Resolves.{place_of}
use Rattle.package_form.proofs.AllAndContains.{map-more}
use Rattle.package_form.proofs.NamesMetOneByOne.{all-taken}
use Rattle.tree_scopes.proofs.PlacesOfNamesByMap.{not-yet, first-found}
use Rattle.tree_scopes.proofs.declare.place_among_types.Goals as goal

pub loop-place-preserved : goal.loop-place-preserved
loop-place-preserved c =
    let name_of = λ (t : Bor TypeDef). t.now.name in
    let items = c.args.types.now in
    let k = c.loop-place.place in
    let x = c.index-types-place.result in
    let n = c.args.name.now in
    let other : bytes_eq (name_of x) n ≡ false = (let e = rw (c.as_bytes.ensures.is, c.as_bytes-in-loop-place.ensures.is) at c.eq.ensures in sym e ∙ c.if-eq.false) in
    ap (λ (ns : List (List ℕ)). place_of ns n) (map-more name_of items k x (omega arith) c.index-types-place.is)
    ∙ not-yet (map name_of (take k items)) (name_of x) n c.loop-place.invariant other

pub returns-then-eq : goal.returns-then-eq
returns-then-eq c =
    let name_of = λ (t : Bor TypeDef). t.now.name in
    let x = c.index-types-place.result in
    let n = c.args.name.now in
    let same : bytes_eq (name_of x) n ≡ true = (let e = rw (c.as_bytes.ensures.is, c.as_bytes-in-loop-place.ensures.is) at c.eq.ensures in sym e ∙ c.if-eq.true) in
    sym (first-found name_of c.args.types.now n c.loop-place.place x (omega arith) c.index-types-place.is c.loop-place.invariant same)

pub returns : goal.returns
returns c =
    sym (all-taken (λ (xs : List (Bor TypeDef)). place_of (map (λ (t : Bor TypeDef). t.now.name) xs) c.args.name.now ≡ None) c.args.types.now c.loop-place.place (omega arith) c.loop-place.invariant)
