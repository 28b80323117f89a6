use Rattle.std.proofs.Common.{◌≡◌, Bool, true, false, not, ◌&&◌, [], get_or, sym, ap, ◌∙◌}
use Rattle.std.specs.List.{list_all}
use Rattle.std.proofs.lemmas.List.{get_or_default}
use Rattle.checked_packages.specs.Arranged.{is_marked_package}
use Rattle.checked_packages.proofs.package_order.order.is_ready.Goals as goal

both : (b x y : Bool) → not b ≡ true → x ≡ y → x ≡ (not b && y)
both true x y h e = absurd (cc)
both false x y h e = e

pub returns-then-not-is_marked : goal.returns-then-not-is_marked
returns-then-not-is_marked c =
    let uses = c.args.uses.now in
    let used : c.as_slice-used.result.now ≡ get_or uses c.args.place [] =
    c.as_slice-used.ensures ∙ c.index-uses-place.is ∙ get_or_default uses c.args.place c.index-uses-place.result [] c.requires in
    both (is_marked_package c.args.placed.now c.args.place) c.all_marked.result (list_all (is_marked_package c.args.placed.now) (get_or uses c.args.place []))
    (ap not (sym c.is_marked.ensures ∙ c.if-not-is_marked.true)) (c.all_marked.ensures ∙ ap (list_all (is_marked_package c.args.placed.now)) used)
