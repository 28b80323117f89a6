use Rattle.std.proofs.Common.{◌∙◌, ap}
use Rattle.std.specs.Map.{lookup}
use Rattle.std.specs.Str.{bytes_eq}
use Rattle.tree_scopes.specs.Lent.{lent_name}
use Rattle.tree_scopes.proofs.PlacesOfNamesByMap.{found-among, found-nowhere}
use Rattle.tree_scopes.proofs.known.TypeIds.find.Goals as goal

pub returns-in-None-clause-none : goal.returns-in-None-clause-none
returns-in-None-clause-none c =
    let n = c.args.name.now in
    found-nowhere lent_name c.self.inside.entries.items c.args.self.now c.self.view_is n c.id_among.result
    (c.id_among.ensures ∙ ap (lookup (λ s. bytes_eq n s.now)) c.deref.ensures.value)

pub returns-in-None-clause-some : goal.returns-in-None-clause-some
returns-in-None-clause-some c =
    let n = c.args.name.now in
    found-among lent_name c.self.inside.entries.items c.args.self.now c.self.view_is n c.id_among.result
    (c.id_among.ensures ∙ ap (lookup (λ s. bytes_eq n s.now)) c.deref.ensures.value)
