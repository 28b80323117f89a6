use Rattle.std.proofs.Common.{◌≡◌, ◌+◌, [], length, map, ap, ◌∙◌, arith, rules}
use Rattle.std.proofs.lemmas.List.{length-append, length-map}
use Rattle.std.proofs.lemmas.Result.{err_from_is_err_and}
use Rattle.canonical_abi.specs.Layout.{flat_kinds}
use Rattle.canonical_abi.specs.Reading.{number_of}
use Rattle.tables.specs.Closed.{closed_type}
use Rattle.values.specs.Members.{fields_of_types}
use Rattle.lift_lower.proofs.LiftingStepByStep.{kinds-next, rest-numbers, rest-length}
use Rattle.lift_lower.proofs.LoweredFromParts.{lowers-length}
use Rattle.values.proofs.FieldsFromAPlace.{count-types}
use Rattle.crossing.proofs.ParametersInOrder.{parameter-inside, parameter-field}
use Rattle.crossing.proofs.ScriptsOfFlatValues.{carrying-begun, carrying-next, carrying-stopped, carrying-done}
use Rattle.crossing.proofs.walk.Walk.carry_parameters.Goals as goal

pub loop-index-init : goal.loop-index-init
loop-index-init g c =
    let fs = fields_of_types c.args.self.now.types.now (map (λ p. p.ty) c.args.params.now) in
    let ns = map number_of c.args.flats.now in
    rw c.requires.empty (carrying-begun g.G.Guest.allocates fs c.args.self.now.source.now ns [] (g.G.Guest.memory c.args.guest.now) c.args.nodes.now, omega (arith, c.requires.carried), omega (arith, c.requires.room))

pub carry_member-requires : goal.carry_member-requires
carry_member-requires g c =
    let r = c.args.self.now.types.now in
    let params = c.args.params.now in
    let fs = fields_of_types r (map (λ p. p.ty) params) in
    let i = c.loop-index.index in
    let p = c.index-params-index.result in
    let u = closed_type r p.ty in
    let found = parameter-field r params i p c.loop-index-test.true c.index-params-index.is in
    let kinds = kinds-next fs i u found in
    let rest = rest-length c.args.flats.now (length c.loop-index.out.items) in
    rw (← c.index-params-index.is, c.len.ensures.value) (search rules, (parameter-inside r params i p c.loop-index-test.true c.index-params-index.is c.requires.inside, (c.requires.short, (omega (arith, kinds, rest, c.loop-index.invariant.1), (omega (arith, rest, c.requires.few), (c.requires.capacity, omega (arith, kinds, c.loop-index.invariant.2)))))))

pub returns-in_err-carry_member : goal.returns-in_err-carry_member
returns-in_err-carry_member g c =
    let A = g.G.Guest.allocates in
    let r = c.args.self.now.types.now in
    let params = c.args.params.now in
    let fs = fields_of_types r (map (λ p. p.ty) params) in
    let i = c.loop-index.index in
    let p = c.index-params-index.result in
    let u = closed_type r p.ty in
    let used = length c.loop-index.out.items in
    let found = parameter-field r params i p c.loop-index-test.true c.index-params-index.is in
    let here = rw (← c.index-params-index.is, c.len.ensures.value, rest-numbers c.args.flats.now used) at c.in_err-carry_member.ensures in
    let q = err_from_is_err_and c.from_residual.result c.from_residual.ensures.1 in
    rw (q.1, q.2) (carrying-stopped A fs c.args.self.now.source.now (map number_of c.args.flats.now) [] i used u found c.loop-index.out.items c.are_bytes.ensures c.requires.short
    (g.G.Guest.memory c.args.guest.now) (g.G.Guest.memory c.loop-index.guest) c.in_err-carry_member.field-0.0 (g.G.Guest.memory c.carry_member.new.guest) c.args.nodes.now c.loop-index.nodes c.carry_member.new.nodes c.loop-index.invariant.0 here)

pub loop-index-preserved : goal.loop-index-preserved
loop-index-preserved g c =
    let A = g.G.Guest.allocates in
    let r = c.args.self.now.types.now in
    let params = c.args.params.now in
    let fs = fields_of_types r (map (λ p. p.ty) params) in
    let i = c.loop-index.index in
    let p = c.index-params-index.result in
    let u = closed_type r p.ty in
    let used = length c.loop-index.out.items in
    let more = c.carry_member.new.out.items in
    let found = parameter-field r params i p c.loop-index-test.true c.index-params-index.is in
    let here = rw (← c.index-params-index.is, c.len.ensures.value, rest-numbers c.args.flats.now used) at c.in_ok-carry_member.ensures in
    let s = here.scripted in
    let long : length more ≡ used + length s.1 = ap length s.4 ∙ length-append c.loop-index.out.items s.1 in
    let own = lowers-length u s.0 here.events s.1 s.3 in
    let kinds = kinds-next fs i u found in
    let at : length more ≡ used + length (flat_kinds u) = omega (arith, long, own) in
    rw at (
      carrying-next A fs c.args.self.now.source.now (map number_of c.args.flats.now) [] i used u found c.loop-index.out.items more
          (g.G.Guest.memory c.args.guest.now) (g.G.Guest.memory c.loop-index.guest) (g.G.Guest.memory c.carry_member.new.guest) c.args.nodes.now c.loop-index.nodes c.carry_member.new.nodes c.loop-index.invariant.0 here,
      omega (arith, kinds, c.loop-index.invariant.1),
      omega (arith, kinds, c.loop-index.invariant.2),
    )

pub returns : goal.returns
returns g c =
    let r = c.args.self.now.types.now in
    let types = map (λ p. p.ty) c.args.params.now in
    let fs = fields_of_types r types in
    let ns = map number_of c.args.flats.now in
    carrying-done g.G.Guest.allocates fs c.args.self.now.source.now ns [] c.loop-index.index (length c.loop-index.out.items) c.loop-index.out.items
    (omega (arith, count-types r types, length-map c.args.params.now (λ p. p.ty), c.loop-index-test.false, c.loop-index.auto.index-end))
    (g.G.Guest.memory c.args.guest.now) (g.G.Guest.memory c.loop-index.guest) c.args.nodes.now c.loop-index.nodes c.loop-index.invariant.0
