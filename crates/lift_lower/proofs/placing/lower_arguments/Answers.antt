use Rattle.std.proofs.Common.{map, sym, ap, subst, arith}
use Rattle.canonical_abi.specs.Types.{record_fields, AreStandardFields}
use Rattle.canonical_abi.specs.Values.{HaveTypes}
use Rattle.tables.proofs.HasStandardTypes.{function-standard}
use Rattle.values.specs.Val.{value_of}
use Rattle.values.proofs.FieldsFromAPlace.{closed-row}
use Rattle.lift_lower.proofs.CallerSideOfTypedCalls.{is-record, passes-few, is-lowered, lower-fails}
use Rattle.lift_lower.proofs.ScalarsLowered.{scalars-are-lowered}
use Rattle.lift_lower.proofs.placing.lower_arguments.Goals as goal

pub lower_record-requires-clause-record : goal.lower_record-requires-clause-record
lower_record-requires-clause-record g c = is-record _ _ (closed-row c.args.table.now c.args.func c.requires.function)

pub lower_record-requires-clause-standard : goal.lower_record-requires-clause-standard
lower_record-requires-clause-standard g c =
    let own = ap record_fields (closed-row c.args.table.now c.args.func c.requires.function) in
    subst AreStandardFields (sym own) (function-standard c.args.table.now c.args.func c.requires.function).params

pub lower_record-requires-clause-typed : goal.lower_record-requires-clause-typed
lower_record-requires-clause-typed g c =
    let own = ap record_fields (closed-row c.args.table.now c.args.func c.requires.function) in
    subst (HaveTypes (map value_of c.args.values.now)) (sym own) c.requires.typed

pub returns-in-Ok-clause-flats : goal.returns-in-Ok-clause-flats
returns-in-Ok-clause-flats g c =
    let own = ap record_fields (closed-row c.args.table.now c.args.func c.requires.function) in
    is-lowered g.G.Guest.allocates _ _ own (map value_of c.args.values.now) (g.G.Guest.memory c.args.guest.now) (g.G.Guest.memory c.lower_record.new.guest) c.lower_record.new.flats.items c.in-Ok.ensures.ok

pub returns-in-Ok-clause-few : goal.returns-in-Ok-clause-few
returns-in-Ok-clause-few g c =
    let d = c.in-Ok.ensures.ok in
    passes-few 16 _ (map value_of c.args.values.now) d.events c.lower_record.new.flats.items (omega arith) d.scripted

pub returns-in-Err-clause-fault : goal.returns-in-Err-clause-fault
returns-in-Err-clause-fault g c =
    let own = ap record_fields (closed-row c.args.table.now c.args.func c.requires.function) in
    lower-fails g.G.Guest.allocates _ _ own (map value_of c.args.values.now) (g.G.Guest.memory c.args.guest.now) (g.G.Guest.memory c.lower_record.new.guest) c.in-Err.kind c.place_fault.result c.place_fault.ensures c.in-Err.ensures.fault

pub returns-then-lower_scalars-clause-flats : goal.returns-then-lower_scalars-clause-flats
returns-then-lower_scalars-clause-flats g c =
    scalars-are-lowered g.G.Guest.allocates _ (map value_of c.args.values.now) c.lower_scalars.new.flats.items (g.G.Guest.memory c.args.guest.now) c.requires.typed (c.lower_scalars.ensures.carried c.if-lower_scalars.true) (c.lower_scalars.ensures.few c.if-lower_scalars.true)
