use Rattle.std.proofs.Common.{◌≡◌, sym, ◌∙◌, subst, arith}
use Rattle.canonical_abi.specs.Types.{record_fields}
use Rattle.tables.specs.Closed.{closed_type}
use Rattle.values.proofs.FieldsFromAPlace.{nth_field-some}
use Rattle.values.proofs.TypesExtents.{member-depth}
use Rattle.adapter.specs.Asking.{AsksNothing}
use Rattle.adapter.proofs.asking.RequestsOfParts.{flags-ask-nothing, record-asks-nothing, nothing-more, nothing-all}
use Rattle.adapter.proofs.asking.walk.+nothing.Goals as goal

pub asks_nothing-returns-in-Primitive : goal.asks_nothing-returns-in-Primitive
asks_nothing-returns-in-Primitive t c = rw c.in-Primitive.ensures.shape.0 c.is_plain.ensures

pub asks_nothing-returns-in-Flags : goal.asks_nothing-returns-in-Flags
asks_nothing-returns-in-Flags t c = rw c.in-Flags.ensures.shape.0 (λ _. flags-ask-nothing c.in-Flags.field-0)

pub fields_ask_nothing-unreachable-requires : goal.fields_ask_nothing-unreachable-requires
fields_ask_nothing-unreachable-requires t c =
    nth_field-some (record_fields (closed_type c.args.table.now c.args.ty)) c.loop-index.index (omega (arith, c.requires.counted)) (sym c.in_default.ensures.found)

pub fields_ask_nothing-loop-index-init : goal.fields_ask_nothing-loop-index-init
fields_ask_nothing-loop-index-init t c = λ h. h

pub fields_ask_nothing-asks_nothing-requires : goal.fields_ask_nothing-asks_nothing-requires
fields_ask_nothing-asks_nothing-requires t c =
    let fs = record_fields (closed_type c.args.table.now c.args.ty) in
    let u = closed_type c.args.table.now c.in-Some.member in
    (omega (arith, member-depth fs c.loop-index.index u (sym c.in-Some.ensures.found), c.decreases), c.in-Some.ensures.inside)

pub fields_ask_nothing-loop-index-preserved : goal.fields_ask_nothing-loop-index-preserved
fields_ask_nothing-loop-index-preserved t c = λ h.
    nothing-more (record_fields (closed_type c.args.table.now c.args.ty)) c.loop-index.index (closed_type c.args.table.now c.in-Some.member) (sym c.in-Some.ensures.found)
    (c.asks_nothing.ensures c.if-not-asks_nothing.false) c.loop-index.invariant h

pub fields_ask_nothing-returns : goal.fields_ask_nothing-returns
fields_ask_nothing-returns t c = λ _.
    let fs = record_fields (closed_type c.args.table.now c.args.ty) in
    let all : c.args.fields ≡ c.loop-index.index = omega arith in
    subst AsksNothing c.requires.record (record-asks-nothing fs (nothing-all fs c.loop-index.index (c.requires.counted ∙ all) c.loop-index.invariant))
