use Rattle.std.proofs.Common.{◌≡◌, ◌<◌, length, map, get_or, sym, ap, ◌∙◌, subst, refl, arith}
use Rattle.std.specs.Prelude.{IsTrue, false}
use Rattle.std.proofs.Math.ListN.{get_or-map}
use Rattle.std.proofs.lemmas.List.{length-map}
use Rattle.canonical_abi.specs.Values.{HasType}
use Rattle.tables.specs.Closed.{closed_types, closed_val}
use Rattle.tables.specs.declared.tables.Primitive.TheVariants as primitive
use Rattle.tables.specs.declared.tables.ValType.TheVariants as val
use Rattle.values.specs.Val.{value_of}
use Rattle.witcall.proofs.TypedLists.{rests_more, have_length, have_at}
use Rattle.witcall.proofs.typing.have_types.Goals as goal

no_false : {A : Type 0} → IsTrue false → A
no_false h = cc

pub returns-then-values-types : goal.returns-then-values-types
returns-then-values-types c = (
  no_false,
  λ h.
      absurd (c.if-values-types.true (sym (length-map c.args.values.now value_of) ∙ have_length (closed_types c.args.resolve.now) _ _ h)),
)

pub returns-then-not-has_type : goal.returns-then-not-has_type
returns-then-not-has_type c = (
  no_false,
  λ h.
      let rows = closed_types c.args.resolve.now in
      let below : c.loop-i.i < length c.args.types.now = omega (arith, c.if-values-types.false, c.loop-i-test.true) in
      let v = c.index-values-i.result in
      let is : value_of v ≡ get_or (map value_of c.args.values.now) c.loop-i.i (value_of v) =
      ap value_of c.index-values-i.is ∙ sym (get_or-map value_of c.args.values.now c.loop-i.i v) in
      let t = val.Primitive primitive.Bool in
      let typed = have_at rows c.args.types.now _ c.loop-i.i t (value_of v) h below in
      c.if-not-has_type.ensures.1 (subst (λ x. HasType x (closed_val rows (get_or c.args.types.now c.loop-i.i t))) (sym is) typed),
)

pub loop-i-preserved : goal.loop-i-preserved
loop-i-preserved c =
    let rows = closed_types c.args.resolve.now in
    let many = length-map c.args.values.now value_of in
    let below : c.loop-i.i < length c.args.types.now = omega (arith, c.if-values-types.false, c.loop-i-test.true) in
    let inside : c.loop-i.i < length (map value_of c.args.values.now) = omega (arith, many, c.loop-i-test.true) in
    let v = c.index-values-i.result in
    let is : value_of v ≡ get_or (map value_of c.args.values.now) c.loop-i.i (value_of v) =
    ap value_of c.index-values-i.is ∙ sym (get_or-map value_of c.args.values.now c.loop-i.i v) in
    rests_more rows _ _ _ (val.Primitive primitive.Bool) (value_of v) below inside is (c.if-not-has_type.ensures.0 refl) c.loop-i.invariant
