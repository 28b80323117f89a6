use Rattle.std.proofs.Common.{◌≡◌, ◌++◌, ◌∷◌, [], ℕ, List, drop, sym, ap, subst, ◌∙◌, arith}
use Rattle.std.proofs.lemmas.Result.{IfOk-weaker}
use Rattle.checked_packages.specs.Arranged.{IsRing}
use Rattle.checked_packages.proofs.package_order.WalksEndInRings.{no_tour, tour_more, ring_at, tour_is_short}
use Rattle.checked_packages.proofs.package_order.ring.ring_of.Goals as goal

pub loop-alloc-init : goal.loop-alloc-init
loop-alloc-init c = record {
  tour = rw c.new-path.ensures.items (no_tour c.args.uses.now c.first_left-place.result c.first_left-place.ensures.within);
  left = c.first_left-place.ensures.left;
}

pub returns-in-Some : goal.returns-in-Some
returns-in-Some c =
    let uses = c.args.uses.now in
    let start = c.in-Some.start in
    let whole : c.as_slice-in-Some.result.now ≡ c.loop-alloc.path.items ++ c.loop-alloc.place ∷ [] = c.as_slice-in-Some.ensures.value ∙ c.in_ok-push.ensures.items in
    let found = rw (c.as_slice.ensures.value, c.in_ok-push.ensures.items) at c.in-Some.ensures.some in
    let ring = ring_at uses c.loop-alloc.path.items c.loop-alloc.place c.next_left-place.result start c.loop-alloc.invariant.tour c.next_left-place.ensures.used found.0 found.1 in
    let P : List ℕ → Type 0 = λ v. IsRing uses v in
    IfOk-weaker c.rest.result (λ v. v ≡ drop start c.as_slice-in-Some.result.now) P (λ v e. subst P (sym (e ∙ ap (drop start) whole)) ring) c.rest.ensures

pub loop-alloc-preserved : goal.loop-alloc-preserved
loop-alloc-preserved c =
    let new = rw (c.as_slice.ensures.value, c.in_ok-push.ensures.items) at c.in_default.ensures.none in
    record {
      tour = rw c.in_ok-push.ensures.items (tour_more c.args.uses.now c.loop-alloc.path.items c.loop-alloc.place c.next_left-place.result c.loop-alloc.invariant.tour
          c.next_left-place.ensures.used c.next_left-place.ensures.within new);
      left = c.next_left-place.ensures.left;
    }

pub unreachable-requires : goal.unreachable-requires
unreachable-requires c =
    omega (arith, tour_is_short c.args.uses.now c.loop-alloc.path.items c.loop-alloc.place c.loop-alloc.invariant.tour, c.len.ensures)
