use Rattle.std.proofs.Common.{◌≡◌, List, [], ◌∷◌, ◌++◌, length, map, refl, ap, sym, ◌∙◌, ℕ, arith}
use Rattle.std.proofs.lemmas.List.{length-map}
use Rattle.canonical_abi.specs.Layout.{places_from}
use Rattle.layout.specs.Rows.{rows_at, extents}
use Rattle.layout.specs.Standing.{Parts}
use Rattle.layout.specs.Standing as parts
use Rattle.layout.specs.declared.parts.Head.TheVariants as head
use Rattle.layout.proofs.HeadsStandAsParts.{record-put}
use Rattle.layout.proofs.LaidSoFar.{record-laid}
use Rattle.layout.proofs.parts.PartsTable.lay_members.Goals as goal

pub returns-clause-parts : goal.returns-clause-parts
returns-clause-parts g c =
    let ty = g.M.Member.type_of in
    let members = c.args.members.now in
    let places = places_from 0 (extents (rows_at c.args.rows.now.items ty members)) in
    let heads = c.self.inside.heads.items in
    let fields = c.self.inside.fields.items in
    let at : c.len-first.result ≡ length fields = omega (arith, c.len-first.ensures) in
    let put : c.push.new.self.items ≡ heads ++ head.Record (length fields) (length members) ∷ [] =
    c.in_ok-push.ensures.items ∙ ap (λ (n : ℕ). heads ++ head.Record n (length members) ∷ []) at in
    record-put fields c.self.inside.payloads.items heads c.push.new.self.items c.self.invariant c.record_row.new.fields.items (map ty members) places
    (length members) (sym (length-map members ty)) c.in_ok-record_row.ensures.fields put
    ∙ ap (λ (ps : List Parts). ps ++ parts.Record (map ty members) places ∷ []) c.self.view_is
    ∙ ap (λ (p : Parts). c.args.self.now ++ p ∷ []) (record-laid c.args.rows.now.items ty members (map ty members) places refl refl)
