use Rattle.std.proofs.Common.{◌++◌, ◌-◌, ◌∷◌, [], ap, sym, ◌∙◌, append_assoc}
use Rattle.package_sets.proofs.GrowingLists.{places-more}
use Rattle.std.specs.List.{range_with_len}
use Rattle.package_sets.proofs.joining.push_places.Goals as goal

pub loop-place-preserved : goal.loop-place-preserved
loop-place-preserved c =
    let first = c.args.first in
    let place = c.loop-place.place in
    c.in_ok-push.ensures.items
    ∙ (ap (λ x. c.loop-place.places.items ++ x ∷ []) c.in_ok-id_of.ensures.ok
    ∙ (ap (λ xs. xs ++ place ∷ []) c.loop-place.invariant
    ∙ (append_assoc c.args.places.now.items (range_with_len first (place - first)) (place ∷ [])
    ∙ ap (λ ys. c.args.places.now.items ++ ys) (sym (places-more first place c.loop-place.auto.place)))))
