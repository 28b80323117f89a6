use Rattle.std.proofs.Common.{◌∙◌, ◌∷◌, [], map, ap, refl}
use Rattle.std.proofs.lemmas.List.{map-append}
use Rattle.package_form.specs.Scoped.{mapped_entry}
use Rattle.tree_scopes.specs.Lent.{lent_name}
use Rattle.tree_scopes.proofs.known.TypeIds.push.Goals as goal

pub returns : goal.returns
returns c =
    ap (map (mapped_entry lent_name)) c.in_ok-push.ensures.items
    ∙ map-append (mapped_entry lent_name) c.self.inside.entries.items ((c.as_str-name.result, c.args.id) ∷ [])
    ∙ rw (c.self.view_is, c.as_str-name.ensures.is) refl
