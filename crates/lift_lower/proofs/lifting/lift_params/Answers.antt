use Rattle.std.proofs.Common.{map, ℕ, ◌<◌, ◌^◌, length, get_or}
use Rattle.canonical_abi.specs.Layout.{max_flat_params}
use Rattle.canonical_abi.proofs.ReadValues.ReadsExactly.{denoting-tells}
use Rattle.values.specs.Members.{fields_of_types}
use Rattle.values.specs.Val.{value_of}
use Rattle.lift_lower.proofs.DenotingWholeLists.{lift-fails}
use Rattle.lift_lower.proofs.lifting.lift_params.Goals as goal
use Rattle.lift_lower.proofs.HeldValuesAreTyped.{denotes-typed}

pub returns-in-Ok-clause-values : goal.returns-in-Ok-clause-values
returns-in-Ok-clause-values g c =
    let m = (g.G.Guest.memory c.args.guest.now).bytes in
    (denoting-tells max_flat_params (fields_of_types c.args.table.now c.args.types.now) m c.args.flats.now).ok (map value_of c.in-Ok.values.items) (rw c.bytes.ensures at c.in-Ok.ensures.value)

pub returns-in-Err-clause-fault : goal.returns-in-Err-clause-fault
returns-in-Err-clause-fault g c =
    let m = (g.G.Guest.memory c.args.guest.now).bytes in
    lift-fails (fields_of_types c.args.table.now c.args.types.now) m c.args.flats.now c.in-Err.no_value c.at.result c.at.ensures (rw c.bytes.ensures at c.in-Err.ensures.value)

pub returns-in-Ok-clause-typed : goal.returns-in-Ok-clause-typed
returns-in-Ok-clause-typed g c =
    let m = (g.G.Guest.memory c.args.guest.now).bytes in
    let ts = fields_of_types c.args.table.now c.args.types.now in
    let bytes : (i : ℕ) → get_or m i 0 < 256 = rw (← c.bytes.ensures) c.lift_values.ensures.bytes in
    let short : length m < 2 ^ 32 = rw (← c.len-len.ensures) c.len-len.type_inv in
    denotes-typed m bytes short max_flat_params ts c.args.flats.now (map value_of c.in-Ok.values.items) (returns-in-Ok-clause-values g c)
