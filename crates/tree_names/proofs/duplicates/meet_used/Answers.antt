use Rattle.std.proofs.Common.{◌≡◌, ◌+◌, ◌++◌, ◌∷◌, ◌∙◌, List, ℕ, [], map, take, ap, subst, sym, arith, append_assoc}
use Rattle.std.proofs.lemmas.Result.{err_from_is_err_and}
use Rattle.wit_tokens.specs.View.{used_view}
use Rattle.tree_meaning.specs.Declarations.{local_name}
use Rattle.package_form.specs.Distinct.{AreMet}
use Rattle.package_form.proofs.AllAndContains.{map_map-more}
use Rattle.package_form.proofs.NamesMetOneByOne.{met-push, names-split, refuses-within}
use Rattle.tree_names.proofs.duplicates.meet_used.Goals as goal

pub returns-in_err-meet-clause-err : goal.returns-in_err-meet-clause-err
returns-in_err-meet-clause-err c =
    let p = err_from_is_err_and c.from_residual.result c.from_residual.ensures.1 in
    let x = c.name-item.result in
    let r = names-split local_name used_view c.args.names.now c.loop-name.name-index x (omega arith) c.name-item.is in
    let cause = rw c.local_name.ensures at c.in_err-meet.ensures.err in
    rw (p.1, p.2) (λ ns h. refuses-within ns _ (local_name (used_view x)) r.0 _ c.loop-name.scope c.in_err-meet.field-0.0 r.1 (c.loop-name.invariant ns h) cause)

pub loop-name-preserved : goal.loop-name-preserved
loop-name-preserved c = λ ns h.
    let x = c.name-item.result in
    let k = c.loop-name.name-index in
    let names = c.args.names.now in
    let n = local_name (used_view x) in
    let front = map local_name (map used_view (take k names)) in
    let is_new = rw c.local_name.ensures at c.in_ok-meet.ensures.new in
    let is_met = rw c.local_name.ensures at c.in_ok-meet.ensures.ok in
    let all : (ns ++ front) ++ n ∷ [] ≡ ns ++ map local_name (map used_view (take (k + 1) names)) =
    append_assoc ns front (n ∷ []) ∙ ap (λ (zs : List (List ℕ)). ns ++ zs) (sym (map_map-more local_name used_view names k x (omega arith) c.name-item.is)) in
    subst (λ (zs : List (List ℕ)). AreMet zs c.meet.new.self) all (met-push (ns ++ front) n c.loop-name.scope c.meet.new.self (c.loop-name.invariant ns h) is_new is_met)
