use Rattle.std.proofs.Common.{◌≡◌, ◌+◌, ◌*◌, ◌<◌, ◌≤◌, map, take, length, get_or, refl, sym, ap, ◌∙◌, subst, arith}
use Rattle.std.proofs.lemmas.List.{length-map, get_or-map, take_all}
use Rattle.std.specs.Int.{byte_len, to_le_bytes}
use Rattle.canonical_abi.specs.Guest.{overwrite}
use Rattle.canonical_abi.specs.Layout.{prim_width}
use Rattle.canonical_abi.specs.Storing.{number_in}
use Rattle.canonical_abi.specs.Types.{prim_type}
use Rattle.canonical_abi.specs.Values.{HasType}
use Rattle.canonical_abi.proofs.Traces.BytesWrittenOver.{length-overwrite, length-le_bytes}
use Rattle.tables.specs.Closed.{prim_of}
use Rattle.values.specs.Scalar.{prim_in, value_in}
use Rattle.values.specs.Val.{value_of}
use Rattle.values.proofs.ValuesOfTypesByShape.{all-at, type-of-scalar}
use Rattle.lift_lower.specs.ScalarLists.{bytes_of_scalars}
use Rattle.lift_lower.proofs.ScalarListBytes.{fill-more, same-prim}
use Rattle.lift_lower.proofs.StoredFromParts.{item-inside}
use Rattle.lift_lower.proofs.scalar_lists.fill_each.Goals as goal

pub loop-index-init : goal.loop-index-init
loop-index-init c = (refl, let e : 0 * c.scalar_bytes-step.result ≡ 0 = omega arith in ap (λ n. take n c.args.buffer.now) e)

pub unreachable-requires : goal.unreachable-requires
unreachable-requires c =
    let p = prim_of c.args.primitive in
    let vs = map value_of c.args.items.now in
    let i = c.loop-index.index in
    let v = c.index-items-index.result in
    let own : get_or vs i (value_of v) ≡ value_of v = get_or-map value_of c.args.items.now i v (value_of v) c.loop-index-test.true ∙ ap value_of (sym c.index-items-index.is) in
    let below : i < length vs = omega (arith, length-map c.args.items.now value_of, c.loop-index-test.true) in
    let typed = subst (λ u. HasType u (prim_type p)) own (all-at (λ u. HasType u (prim_type p)) vs i (value_of v) below c.requires.typed) in
    let none = c.in_default.ensures.found p typed in
    cc

pub put_scalar-requires : goal.put_scalar-requires
put_scalar-requires c =
    let p = prim_of c.args.primitive in
    let vs = map value_of c.args.items.now in
    let i = c.loop-index.index in
    let v = c.index-items-index.result in
    let s = c.in-Some.scalar in
    let own : get_or vs i (value_of v) ≡ value_of v = get_or-map value_of c.args.items.now i v (value_of v) c.loop-index-test.true ∙ ap value_of (sym c.index-items-index.is) in
    let below : i < length vs = omega (arith, length-map c.args.items.now value_of, c.loop-index-test.true) in
    let typed = subst (λ u. HasType u (prim_type p)) (own ∙ sym c.in-Some.ensures.value) (all-at (λ u. HasType u (prim_type p)) vs i (value_of v) below c.requires.typed) in
    let same : p ≡ prim_in s = same-prim p (prim_in s) (type-of-scalar (prim_type p) (value_in s) (prim_in s) c.in-Some.ensures.typed typed) in
    let place : i * c.scalar_bytes-step.result ≡ i * byte_len (prim_width p) = ap (λ n. i * n) c.scalar_bytes-step.ensures.value in
    let inside = item-inside 0 (length c.args.items.now) i (byte_len (prim_width p)) (length c.args.buffer.now) c.loop-index-test.true (omega (arith, c.requires.room)) in
    record { typed = sym same; room = omega (arith, place, inside, c.loop-index.invariant.0) }

pub loop-index-preserved : goal.loop-index-preserved
loop-index-preserved c =
    let w = prim_width (prim_of c.args.primitive) in
    let vs = map value_of c.args.items.now in
    let i = c.loop-index.index in
    let v = c.index-items-index.result in
    let step = c.scalar_bytes-step.result in
    let buffer = c.loop-index.buffer in
    let own : get_or vs i (value_of v) ≡ value_of v = get_or-map value_of c.args.items.now i v (value_of v) c.loop-index-test.true ∙ ap value_of (sym c.index-items-index.is) in
    let below : i < length vs = omega (arith, length-map c.args.items.now value_of, c.loop-index-test.true) in
    let written : c.put_scalar.new.buffer ≡ overwrite buffer (i * step) (to_le_bytes w (number_in w (value_of v))) =
    c.put_scalar.ensures ∙ ap (λ u. overwrite buffer (i * step) (to_le_bytes w (number_in w u))) c.in-Some.ensures.value in
    let place : i * step ≡ i * byte_len w = ap (λ n. i * n) c.scalar_bytes-step.ensures.value in
    let inside = item-inside 0 (length c.args.items.now) i (byte_len w) (length c.args.buffer.now) c.loop-index-test.true (omega (arith, c.requires.room)) in
    let fits : i * step + byte_len w ≤ length buffer = omega (arith, place, inside, c.loop-index.invariant.0) in
    rw written (
      length-overwrite buffer (i * step) (to_le_bytes w (number_in w (value_of v))) (omega (arith, fits, length-le_bytes w (number_in w (value_of v)))) ∙ c.loop-index.invariant.0,
      fill-more w i step buffer vs (value_of v) c.scalar_bytes-step.ensures.value below own fits c.loop-index.invariant.1,
    )

pub returns-clause-filled : goal.returns-clause-filled
returns-clause-filled c =
    let w = prim_width (prim_of c.args.primitive) in
    let vs = map value_of c.args.items.now in
    let i = c.loop-index.index in
    let last : i ≡ length c.args.items.now = omega arith in
    let whole : i * c.scalar_bytes-step.result ≡ length c.args.items.now * byte_len w = ap (λ n. n * c.scalar_bytes-step.result) last ∙ ap (λ n. length c.args.items.now * n) c.scalar_bytes-step.ensures.value in
    let count : length vs ≡ length c.args.items.now = length-map c.args.items.now value_of in
    ap (λ n. take n c.loop-index.buffer) (sym whole) ∙ c.loop-index.invariant.1 ∙ ap (bytes_of_scalars w) (take_all i vs (omega (arith, last, count)))
