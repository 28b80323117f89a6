use Rattle.std.proofs.Common.{List, ℕ, map, ap, sym, ◌∙◌}
use Rattle.std.proofs.lemmas.Simd.{map-map}
use Rattle.tree_meaning.specs.Declarations.{type_name}
use Rattle.tree_meaning.specs.Resolves.{place_of}
use Rattle.tree_scopes.specs.Lent.{declared_type}
use Rattle.tree_scopes.proofs.PlacesOfNamesByMap.{front-tells}
use Rattle.tree_scopes.proofs.declared.Declarations.type_place.Goals as goal

pub returns-in-len1-up : goal.returns-in-len1-up
returns-in-len1-up c =
    let names = map type_name (map declared_type c.args.self.now.types.items) in
    c.place_in.ensures
    ∙ front-tells (λ m. m.entries) (λ s. s.now) c.as_slice.result.now c.places-item.result names c.args.name.now (rw (← c.as_slice.ensures.value) at c.args.self.now.named) c.in-len1-up.len_at_least c.places-item.is

pub returns-in-empty : goal.returns-in-empty
returns-in-empty c =
    let n = c.args.name.now in
    let found = rw c.deref.ensures.value at c.place_among_types.ensures in
    found ∙ ap (λ (ns : List (List ℕ)). place_of ns n) (sym (map-map type_name declared_type c.args.self.now.types.items))
