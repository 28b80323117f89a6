use Rattle.std.proofs.Common.{map, ◌∙◌, arith}
use Rattle.std.proofs.lemmas.List.{length-map}
use Rattle.tables.specs.Closed.{closed_type}
use Rattle.values.specs.Members.{fields_of_types}
use Rattle.values.proofs.FieldsFromAPlace.{count-types}
use Rattle.crossing.proofs.ParametersInOrder.{parameter-inside, parameter-field}
use Rattle.adapter.proofs.NestedValuesCrossAsTheyAre.{begun, begun-next, begun-done}
use Rattle.adapter.proofs.nested.Carried.end_of_parameters.Goals as goal

pub loop-index-init : goal.loop-index-init
loop-index-init c =
    begun (fields_of_types c.args.self.now.types.now (map (λ p. p.ty) c.args.params.now)) c.args.self.now.flats.now 0 c.args.nodes.now (omega arith)

pub end_of-requires-clause-inside : goal.end_of-requires-clause-inside
end_of-requires-clause-inside c =
    rw (← c.index-params-index.is) (parameter-inside c.args.self.now.types.now c.args.params.now c.loop-index.index c.index-params-index.result c.loop-index-test.true c.index-params-index.is c.requires)

pub end_of-requires-clause-front : goal.end_of-requires-clause-front
end_of-requires-clause-front c = c.loop-index.invariant.1

pub loop-index-preserved : goal.loop-index-preserved
loop-index-preserved c =
    let r = c.args.self.now.types.now in
    let params = c.args.params.now in
    let p = c.index-params-index.result in
    let here = rw (← c.index-params-index.is) at c.in_ok-end.ensures in
    begun-next (fields_of_types r (map (λ p. p.ty) params)) c.args.self.now.flats.now c.loop-index.index (closed_type r p.ty) 0 c.loop-index.end c.in_ok-end.end c.args.nodes.now c.loop-index.nodes c.end_of.new.nodes
    (parameter-field r params c.loop-index.index p c.loop-index-test.true c.index-params-index.is) c.loop-index.invariant here

pub returns : goal.returns
returns c =
    let r = c.args.self.now.types.now in
    let types = map (λ p. p.ty) c.args.params.now in
    let count = count-types r types ∙ length-map c.args.params.now (λ p. p.ty) in
    begun-done (fields_of_types r types) c.args.self.now.flats.now c.loop-index.index 0 c.loop-index.end c.args.nodes.now c.loop-index.nodes (omega (arith, count, c.loop-index-test.false)) c.loop-index.invariant
