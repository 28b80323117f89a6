use Rattle.std.proofs.Common.{◌≡◌, IfSome, sym, ap, ◌∙◌, subst, arith}
use Rattle.canonical_abi.specs.Types.{ClosedType, record_type, record_fields}
use Rattle.tables.specs.Closed.{closed_type}
use Rattle.values.proofs.FieldsFromAPlace.{nth_field-some}
use Rattle.values.proofs.TypesExtents.{member-depth}
use Rattle.adapter.specs.Plain.{CarriesBetween}
use Rattle.adapter.proofs.NestedValuesCrossAsTheyAre.{one-between, if-record, begun-next, begun-done}
use Rattle.adapter.proofs.nested.Carried.+nested.Goals as goal

pub end_of-returns-in-Record : goal.end_of-returns-in-Record
end_of-returns-in-Record t c =
    let T = closed_type c.args.self.now.types.now c.args.ty in
    let shaped = c.in-Record.ensures.shape.0 in
    let only : record_type (record_fields T) ≡ T = ap (λ x. record_type (record_fields x)) shaped.1 ∙ sym shaped.1 in
    let P : ClosedType → Type 0 = λ x. IfSome c.end_of_fields.result (λ end. CarriesBetween x c.args.self.now.flats.now c.args.from end c.args.nodes.now c.end_of_fields.new.nodes) in
    subst P only (if-record (record_fields T) c.args.self.now.flats.now c.args.from c.args.nodes.now c.saturating_add.result c.end_of_fields.new.nodes c.end_of_fields.result (omega (arith, c.saturating_add.ensures)) c.end_of_fields.ensures)

pub end_of-returns-then-is_own_node : goal.end_of-returns-then-is_own_node
end_of-returns-then-is_own_node t c =
    one-between (closed_type c.args.self.now.types.now c.args.ty) c.args.self.now.flats.now c.args.from _ c.args.nodes.now c.saturating_add.result c.if-from-self.true (c.is_own_node.ensures c.if-is_own_node.true) (omega (arith, c.saturating_add.ensures))

pub end_of_fields-unreachable-requires : goal.end_of_fields-unreachable-requires
end_of_fields-unreachable-requires t c =
    nth_field-some (record_fields (closed_type c.args.self.now.types.now c.args.ty)) c.loop-index.index (omega (arith, c.requires.counted, c.loop-index-test.true)) (sym c.in_default.ensures.found)

pub end_of_fields-end_of-requires : goal.end_of_fields-end_of-requires
end_of_fields-end_of-requires t c =
    let fs = record_fields (closed_type c.args.self.now.types.now c.args.ty) in
    let u = closed_type c.args.self.now.types.now c.in-Some.member in
    (omega (arith, member-depth fs c.loop-index.index u (sym c.in-Some.ensures.found), c.decreases), (c.in-Some.ensures.inside, c.loop-index.invariant.1))

pub end_of_fields-loop-index-preserved : goal.end_of_fields-loop-index-preserved
end_of_fields-loop-index-preserved t c =
    let fs = record_fields (closed_type c.args.self.now.types.now c.args.ty) in
    let u = closed_type c.args.self.now.types.now c.in-Some.member in
    begun-next fs c.args.self.now.flats.now c.loop-index.index u c.args.from c.loop-index.end c.in_ok-end.end c.args.nodes.now c.loop-index.nodes c.end_of.new.nodes (sym c.in-Some.ensures.found) c.loop-index.invariant c.in_ok-end.ensures

pub end_of_fields-returns : goal.end_of_fields-returns
end_of_fields-returns t c =
    begun-done (record_fields (closed_type c.args.self.now.types.now c.args.ty)) c.args.self.now.flats.now c.loop-index.index c.args.from c.loop-index.end c.args.nodes.now c.loop-index.nodes (omega (arith, c.requires.counted, c.loop-index-test.false)) c.loop-index.invariant
