use Rattle.std.proofs.Common.{◌∙◌, sym, ap}
use Rattle.std.specs.Str.{bytes_eq}
use Rattle.tree_scopes.specs.Lent.{lent_name}
use Rattle.tree_scopes.proofs.PlacesOfNamesByMap.{entry-at}
use Rattle.tree_scopes.proofs.known.id_at.Goals as goal

pub returns-then-eq : goal.returns-then-eq
returns-then-eq c =
    let e = c.in_ok-entry.entry.now in
    let at = c.in_ok-entry.ensures.lookup in
    entry-at lent_name c.args.entries.now c.args.name.now c.args.place e at.3.0 (at.1)
    (ap (bytes_eq c.args.name.now) (sym c.as_bytes-2.ensures.value) ∙ ap (λ z. bytes_eq z c.as_bytes-2.result.now) (sym c.as_bytes.ensures.is) ∙ sym c.eq.ensures ∙ c.if-eq.true)
