use Rattle.std.proofs.Common.{List, ℕ, map, ap, sym, ◌∙◌}
use Rattle.std.proofs.lemmas.Simd.{map-map}
use Rattle.tree_meaning.specs.Declarations.{use_local}
use Rattle.tree_meaning.specs.Resolves.{place_of}
use Rattle.tree_scopes.specs.Lent.{used_item_of}
use Rattle.tree_scopes.proofs.PlacesOfNamesByMap.{front-tells}
use Rattle.tree_scopes.proofs.declared.Declarations.local_place.Goals as goal

pub returns-in-len1-up : goal.returns-in-len1-up
returns-in-len1-up c =
    let names = map use_local (map used_item_of c.args.self.now.uses.items) in
    c.place_in.ensures
    ∙ front-tells (λ m. m.entries) (λ s. s.now) c.as_slice.result.now c.places-item.result names c.args.name.now (rw (← c.as_slice.ensures.value) at c.args.self.now.used) c.in-len1-up.len_at_least c.places-item.is

pub returns-in-empty : goal.returns-in-empty
returns-in-empty c =
    let n = c.args.name.now in
    let found = rw c.deref.ensures.value at c.place_among_locals.ensures in
    found ∙ ap (λ (ns : List (List ℕ)). place_of ns n) (sym (map-map use_local used_item_of c.args.self.now.uses.items))
