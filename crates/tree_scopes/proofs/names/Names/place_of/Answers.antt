use Rattle.std.proofs.Common.{List, ℕ, ap, ◌∙◌}
use Rattle.tree_meaning.specs.Resolves.{place_of}
use Rattle.tree_scopes.specs.Lent.{lent_names}
use Rattle.tree_scopes.proofs.PlacesOfNamesByMap.{front-tells}
use Rattle.tree_scopes.proofs.names.Names.place_of.Goals as goal

pub returns-in-len1-up : goal.returns-in-len1-up
returns-in-len1-up c =
    let n = c.args.name.now in
    let told = front-tells (λ m. m.entries) (λ s. s.now) c.as_slice.result.now c.places-item.result (lent_names c.self.inside.names.items) n (rw (← c.as_slice.ensures.value) at c.self.invariant) c.in-len1-up.len_at_least c.places-item.is in
    c.place_in.ensures ∙ told ∙ ap (λ (ns : List (List ℕ)). place_of ns n) c.self.view_is
