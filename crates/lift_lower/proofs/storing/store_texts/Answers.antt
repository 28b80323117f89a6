use Rattle.std.proofs.Common.{◌<◌, length, map, refl, sym, ap, ◌∙◌, subst, arith}
use Rattle.std.proofs.lemmas.List.{length-map, get_or-map, drop_all}
use Rattle.std.proofs.lemmas.Result.{err_from_is_err_and}
use Rattle.canonical_abi.specs.Types.{string_type}
use Rattle.canonical_abi.specs.Values.{HasType}
use Rattle.canonical_abi.specs.Storing.{EachStores, Stores}
use Rattle.values.specs.Val.{value_of}
use Rattle.values.proofs.ValuesOfTypesByShape.{all-at}
use Rattle.lift_lower.proofs.ScriptPartsInOrder.{begun, begun-as, begun-done}
use Rattle.lift_lower.proofs.StoredFromParts.{ItemsFrom, items-first, items-none, item-done, item-ended}
use Rattle.lift_lower.proofs.storing.store_texts.Goals as goal

pub loop-index-init : goal.loop-index-init
loop-index-init g c =
    let vs = map value_of c.args.items.now in
    let m = g.G.Guest.memory c.args.guest.now in
    let S = EachStores (Stores string_type) 8 c.args.start vs in
    begun-as c.args.limit g.G.Guest.allocates S S (ItemsFrom string_type c.args.start vs 0) m m (items-first string_type c.args.start vs) (begun c.args.limit g.G.Guest.allocates S m)

pub returns-in_err-store_text-clause-fault : goal.returns-in_err-store_text-clause-fault
returns-in_err-store_text-clause-fault g c =
    let vs = map value_of c.args.items.now in
    let i = c.loop-index.index in
    let v = c.index-items-index.result in
    let here = get_or-map value_of c.args.items.now i v (value_of v) c.loop-index-test.true ∙ ap value_of (sym c.index-items-index.is) in
    let below : i < length vs = omega (arith, length-map c.args.items.now value_of, c.loop-index-test.true) in
    let p = err_from_is_err_and c.from_residual.result c.from_residual.ensures.1 in
    rw (p.1, p.2) (item-ended c.args.limit g.G.Guest.allocates string_type c.args.start vs i (value_of v) 8 below here refl
    (g.G.Guest.memory c.args.guest.now) (g.G.Guest.memory c.loop-index.guest) c.in_err-store_text.field-0.0 (g.G.Guest.memory c.store_text.new.guest) c.requires.typed c.loop-index.invariant
    (rw (← c.text_of-text.ensures) c.in_err-store_text.ensures.fault))

pub loop-index-preserved : goal.loop-index-preserved
loop-index-preserved g c =
    let vs = map value_of c.args.items.now in
    let i = c.loop-index.index in
    let v = c.index-items-index.result in
    let here = get_or-map value_of c.args.items.now i v (value_of v) c.loop-index-test.true ∙ ap value_of (sym c.index-items-index.is) in
    let below : i < length vs = omega (arith, length-map c.args.items.now value_of, c.loop-index-test.true) in
    item-done c.args.limit g.G.Guest.allocates string_type c.args.start vs i (value_of v) 8 below here refl
    (g.G.Guest.memory c.args.guest.now) (g.G.Guest.memory c.loop-index.guest) (g.G.Guest.memory c.store_text.new.guest) c.loop-index.invariant
    (rw (← c.text_of-text.ensures) c.in_ok-store_text.ensures.ok)

pub returns-clause-ok : goal.returns-clause-ok
returns-clause-ok g c =
    let vs = map value_of c.args.items.now in
    let i = c.loop-index.index in
    let n = length-map c.args.items.now value_of in
    begun-done c.args.limit g.G.Guest.allocates (EachStores (Stores string_type) 8 c.args.start vs) (ItemsFrom string_type c.args.start vs i) (g.G.Guest.memory c.args.guest.now) (g.G.Guest.memory c.loop-index.guest) c.loop-index.invariant
    (items-none string_type c.args.start vs i (drop_all i vs (omega (arith, n, c.loop-index-test.false))))

pub text_of-text-requires : goal.text_of-text-requires
text_of-text-requires g c =
    let vs = map value_of c.args.items.now in
    let i = c.loop-index.index in
    let v = c.index-items-index.result in
    let here = get_or-map value_of c.args.items.now i v (value_of v) c.loop-index-test.true ∙ ap value_of (sym c.index-items-index.is) in
    let below : i < length vs = omega (arith, length-map c.args.items.now value_of, c.loop-index-test.true) in
    subst (λ u. HasType u string_type) here (all-at (λ u. HasType u string_type) vs i (value_of v) below c.requires.typed)
