use Rattle.std.proofs.Common.{◌≡◌, ◌+◌, ◌++◌, ◌∷◌, [], List, ℕ, take, sym, subst, arith, All, Bor}
use Rattle.atoms.specs.Label.{IsLabel}
use Rattle.tree_scopes.specs.Lent.{lent_names, lent_name}
use Rattle.package_form.proofs.AllAndContains.{map-more, all-none, all-cons, all-append}
use Rattle.package_form.proofs.NamesMetOneByOne.{all-taken}
use Rattle.tree_scopes.proofs.names.are_labels.Goals as goal

pub loop-name-init : goal.loop-name-init
loop-name-init c = all-none IsLabel

pub loop-name-preserved : goal.loop-name-preserved
loop-name-preserved c =
    let names = c.args.names.now in
    let k = c.loop-name.name-index in
    let x = c.name-item.result.now in
    let more : lent_names (take (k + 1) names) ≡ lent_names (take k names) ++ x ∷ [] = map-more lent_name names k c.name-item.result (omega arith) c.name-item.is in
    subst (All IsLabel) (sym more) (all-append IsLabel (lent_names (take k names)) (x ∷ []) c.loop-name.invariant (all-cons IsLabel x [] c.as_bytes.ensures.label (all-none IsLabel)))

pub returns : goal.returns
returns c = all-taken (λ (ns : List (Bor (List ℕ))). All IsLabel (lent_names ns)) c.args.names.now c.loop-name.name-index (omega arith) c.loop-name.invariant
