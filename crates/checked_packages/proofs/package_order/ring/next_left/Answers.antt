use Rattle.std.proofs.Common.{◌≡◌, ◌<◌, ℕ, Bool, true, false, not, [], get_or, length, ap, subst, ◌∙◌, arith}
use Rattle.std.proofs.lemmas.List.{get_or_default}
use Rattle.checked_packages.specs.Arranged.{is_marked_package}
use Rattle.checked_packages.proofs.package_order.ring.next_left.Goals as goal

not_both : (b : Bool) → b ≡ true → not b ≡ true → ⊥
not_both true h g = absurd (cc)
not_both false h g = absurd (cc)

pub unreachable-requires : goal.unreachable-requires
unreachable-requires c =
    let uses = c.args.uses.now in
    let found = c.requires.cycle.closed c.args.place c.requires.place c.requires.left in
    let used : c.as_slice-used.result.now ≡ get_or uses c.args.place [] =
    c.as_slice-used.ensures ∙ c.index-uses-place.is ∙ get_or_default uses c.args.place c.index-uses-place.result [] c.requires.place in
    let there : get_or c.as_slice-used.result.now found.1.0 0 ≡ found.0 =
    ap (λ xs. get_or xs found.1.0 0) used ∙ get_or_default (get_or uses c.args.place []) found.1.0 0 found.0 found.1.1 ∙ found.1.2 in
    let inside : found.1.0 < c.loop-other.other-index = omega (arith, ap length used, found.1.1, c.loop-other-test.false) in
    let P : ℕ → Type 0 = λ v. is_marked_package c.args.placed.now v ≡ true in
    not_both (is_marked_package c.args.placed.now found.0) (subst P there (c.loop-other.invariant found.1.0 inside)) found.3
