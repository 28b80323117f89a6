-- The set of packages is made package by package, and is the only one.
use Rattle.std.proofs.Common.{◌<◌, ℕ, List, length, take, get_or, subst, sym, arith}
use Rattle.std.specs.Borrow.{Bor}
use Rattle.std.proofs.lemmas.List.{take_all}
use Rattle.std.proofs.lemmas.Option.{slice_get-get_or}
use Rattle.std.proofs.lemmas.Result.{err_from_is_err_and}
use Rattle.opening.specs.Sets.{all_bytes, IsSetOf}
use Rattle.opening.proofs.SetsAreOne.{IsOneSet, none-made, one-more, next-added, input-next, inputs-parted}
use Rattle.opening.proofs.set.set_of.Goals as goal

pub loop-bytes-init : goal.loop-bytes-init
loop-bytes-init c = none-made c.new-set.result.resolve c.new-set.ensures

pub loop-bytes-preserved : goal.loop-bytes-preserved
loop-bytes-preserved c =
    let xs = c.args.inputs.now in
    let k = c.loop-bytes.bytes-index in
    let l : k < length xs = omega arith in
    let next = input-next xs k (get_or xs k _) (slice_get-get_or xs k _ l) in
    subst (λ (ys : List (List ℕ)). IsOneSet ys c.add_member.new.set.resolve) (sym next)
    (one-more (all_bytes (take k xs)) c.loop-bytes.set.resolve _ c.loop-bytes.invariant c.in_ok-add_member.ensures.ok.0 c.add_member.new.set.resolve c.in_ok-add_member.ensures.ok.1 c.in_ok-add_member.ensures.only)

pub returns-in_err-add_member-clause-err : goal.returns-in_err-add_member-clause-err
returns-in_err-add_member-clause-err c =
    let p = err_from_is_err_and c.from_residual.result c.from_residual.ensures.1 in
    let xs = c.args.inputs.now in
    let k = c.loop-bytes.bytes-index in
    let l : k < length xs = omega arith in
    let parts = inputs-parted xs k (get_or xs k _) (slice_get-get_or xs k _ l) in
    rw (p.1, p.2) (record {
      earlier = all_bytes (take k xs);
      bytes = _;
      rest = parts.0;
      inputs_are = parts.1;
      set = c.loop-bytes.set.resolve;
      made = c.loop-bytes.invariant.made;
      refuses = c.in_err-add_member.ensures.err;
    })

pub returns-in_err-add_member-clause-only : goal.returns-in_err-add_member-clause-only
returns-in_err-add_member-clause-only c = λ r h.
    let p = err_from_is_err_and c.from_residual.result c.from_residual.ensures.1 in
    let xs = c.args.inputs.now in
    let k = c.loop-bytes.bytes-index in
    let l : k < length xs = omega arith in
    let parts = inputs-parted xs k (get_or xs k _) (slice_get-get_or xs k _ l) in
    let next = next-added (all_bytes (take k xs)) c.loop-bytes.set.resolve _ c.loop-bytes.invariant parts.0 r (subst (λ (ys : List (List ℕ)). IsSetOf ys r) parts.1 h) in
    rw (p.1, p.2) (c.in_err-add_member.ensures.only next.0 next.1 next.2)

pub returns-clause-ok : goal.returns-clause-ok
returns-clause-ok c =
    subst (λ (ys : List (Bor (List ℕ))). IsSetOf (all_bytes ys) c.loop-bytes.set.resolve) (take_all c.loop-bytes.bytes-index c.args.inputs.now c.loop-bytes-test.false) c.loop-bytes.invariant.made

pub returns-clause-only : goal.returns-clause-only
returns-clause-only c = λ r h.
    c.loop-bytes.invariant.one r (subst (λ (ys : List (Bor (List ℕ))). IsSetOf (all_bytes ys) r) (sym (take_all c.loop-bytes.bytes-index c.args.inputs.now c.loop-bytes-test.false)) h)
