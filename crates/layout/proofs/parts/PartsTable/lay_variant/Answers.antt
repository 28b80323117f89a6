use Rattle.std.proofs.Common.{◌≡◌, List, [], ◌∷◌, ◌++◌, length, map, refl, ap, sym, ◌∙◌, ℕ, arith}
use Rattle.std.proofs.lemmas.List.{length-map}
use Rattle.layout.specs.Standing.{Parts}
use Rattle.layout.specs.Standing as parts
use Rattle.layout.specs.declared.parts.Head.TheVariants as head
use Rattle.layout.proofs.HeadsStandAsParts.{variant-put, variant-within}
use Rattle.layout.proofs.LaidSoFar.{variant-laid}
use Rattle.layout.proofs.parts.PartsTable.lay_variant.Goals as goal

pub invariant_of-self-2 : goal.invariant_of-self-2
invariant_of-self-2 g c =
    let pay = g.C.Choice.payload_of in
    let cases = c.args.cases.now in
    let place = c.in_ok-payload.payload in
    let heads = c.self.inside.heads.items in
    let payloads = c.self.inside.payloads.items in
    let at : c.len-first.result ≡ length payloads = omega (arith, c.len-first.ensures) in
    let put : c.push.new.self.items ≡ heads ++ head.Variant place (length payloads) (length cases) ∷ [] =
    c.in_ok-push.ensures.items ∙ ap (λ (n : ℕ). heads ++ head.Variant place n (length cases) ∷ []) at in
    variant-within c.self.inside.fields.items payloads heads c.push.new.self.items c.self.invariant c.variant_row.new.all_payloads.items (map pay cases) place
    (length cases) (sym (length-map cases pay)) c.in_ok-payload.ensures.payloads put

pub returns-clause-parts : goal.returns-clause-parts
returns-clause-parts g c =
    let pay = g.C.Choice.payload_of in
    let cases = c.args.cases.now in
    let place = c.in_ok-payload.payload in
    let heads = c.self.inside.heads.items in
    let payloads = c.self.inside.payloads.items in
    let at : c.len-first.result ≡ length payloads = omega (arith, c.len-first.ensures) in
    let put : c.push.new.self.items ≡ heads ++ head.Variant place (length payloads) (length cases) ∷ [] =
    c.in_ok-push.ensures.items ∙ ap (λ (n : ℕ). heads ++ head.Variant place n (length cases) ∷ []) at in
    variant-put c.self.inside.fields.items payloads heads c.push.new.self.items c.self.invariant c.variant_row.new.all_payloads.items (map pay cases) place
    (length cases) (sym (length-map cases pay)) c.in_ok-payload.ensures.payloads put
    ∙ ap (λ (ps : List Parts). ps ++ parts.Variant place (map pay cases) ∷ []) c.self.view_is
    ∙ ap (λ (p : Parts). c.args.self.now ++ p ∷ []) (variant-laid c.args.rows.now.items pay cases (map pay cases) place refl c.in_ok-payload.ensures.place)
