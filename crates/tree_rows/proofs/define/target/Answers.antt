use Rattle.std.proofs.Common.{◌≡◌, Option, Some, slice_index_or, ap, sym, ◌∙◌, arith}
use Rattle.std.proofs.lemmas.List.Elements.{All-contains, All-get_or}
use Rattle.std.proofs.lemmas.Option.{same_Some}
use Rattle.tree_scopes.specs.KnownScopes.{IsScope, scope_name}
use Rattle.tree_meaning.specs.Building.{IsEntry, label_at}
use Rattle.tree_scopes.specs.declared.known.KnownTypes.{KnownTypes}
use Rattle.tree_rows.proofs.define.target.Goals as goal

-- the place that is found is that of the used interface
here : {A : Type 0} (o : Option A) (a b : A) → o ≡ Some a → o ≡ Some b → a ≡ b
here o a b e f = same_Some a b (sym e ∙ f)

pub bounds-scopes-place : goal.bounds-scopes-place
bounds-scopes-place c =
    let at = here _ c.requires.known.place c.in-Some.place c.requires.known.found (sym c.in_ok-place.ensures.ok ∙ c.in-Some.is) in
    omega (arith, at, c.requires.known.within)

pub offset_bounds-scopes-place : goal.offset_bounds-scopes-place
offset_bounds-scopes-place c =
    let at = here _ c.requires.known.place c.in-Some.place c.requires.known.found (sym c.in_ok-place.ensures.ok ∙ c.in-Some.is) in
    omega (arith, at, c.requires.known.within)

pub get-requires : goal.get-requires
get-requires c =
    let s : KnownTypes = c.index-scopes-place.result in
    let at = here _ c.requires.known.place c.in-Some.place c.requires.known.found (sym c.in_ok-place.ensures.ok ∙ c.in-Some.is) in
    rw at at c.requires.known.has s

pub unreachable-requires : goal.unreachable-requires
unreachable-requires c = absurd (cc (c.requires.known.found, c.in_ok-place.ensures.ok, c.in-None.is))

pub returns : goal.returns
returns c =
    let t = c.args.builder.now in
    let j = c.in-Some.place in
    let s : KnownTypes = c.index-scopes-place.result in
    let at = here _ c.requires.known.place j c.requires.known.found (sym c.in_ok-place.ensures.ok ∙ c.in-Some.is) in
    let within = rw at at c.requires.known.within in
    let named : scope_name t (slice_index_or c.args.scopes.now j s) ≡ label_at t j = ap (label_at t) (c.requires.placed j s within) in
    let scope = All-get_or (IsScope t) c.args.scopes.now j s within c.requires.scoped in
    let entry = All-contains (IsEntry t (scope_name t (slice_index_or c.args.scopes.now j s))) _ _ scope.each c.get.ensures in
    let name = rw at at c.requires.known.named in
    rw (named, name) at entry.stands
