use Rattle.std.proofs.Common.{map}
use Rattle.std.proofs.lemmas.Result.{IfOk-weaker, IfErr-weaker}
use Rattle.values.specs.Scalar.{value_in}
use Rattle.values.specs.Scalars.{ScalarsStand, FirstFault, StandFor, FailAs, AreOfTypes}
use Rattle.values.proofs.ScalarLists.{lifted_values, lifted_fault, other_kinds, stands_typed}
use Rattle.values.proofs.scalars.lift_scalars.Goals as goal

pub returns-then-not-kinds_fit-clause-fault : goal.returns-then-not-kinds_fit-clause-fault
returns-then-not-kinds_fit-clause-fault c =
    other_kinds c.args.types.now c.args.flats.now c.requires (λ kinds. let fits = c.kinds_fit.ensures.1 kinds in cc)

pub returns-clause-values : goal.returns-clause-values
returns-clause-values c =
    let types = c.args.types.now in
    let flats = c.args.flats.now in
    let kinds = c.kinds_fit.ensures.0 c.if-not-kinds_fit.false in
    IfOk-weaker c.lift_each.result (λ ss. ScalarsStand types flats ss.items) (λ ss. StandFor types flats (map value_in ss.items))
    (λ ss h. lifted_values types flats ss.items c.requires kinds h) c.lift_each.ensures.values

pub returns-clause-typed : goal.returns-clause-typed
returns-clause-typed c =
    let types = c.args.types.now in
    let flats = c.args.flats.now in
    IfOk-weaker c.lift_each.result (λ ss. ScalarsStand types flats ss.items) (λ ss. AreOfTypes types ss.items)
    (λ ss h rows. stands_typed rows types flats ss.items c.requires.primitive h) c.lift_each.ensures.values

pub returns-clause-fault : goal.returns-clause-fault
returns-clause-fault c =
    let types = c.args.types.now in
    let flats = c.args.flats.now in
    let kinds = c.kinds_fit.ensures.0 c.if-not-kinds_fit.false in
    IfErr-weaker c.lift_each.result (FirstFault types flats) (FailAs types flats)
    (λ k h. lifted_fault types flats k c.requires kinds h) c.lift_each.ensures.fault
