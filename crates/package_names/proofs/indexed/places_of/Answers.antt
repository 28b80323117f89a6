use Rattle.std.proofs.Common.{◌<◌, ◌∙◌, List, length, get_or, ap, arith}
use Rattle.tables.specs.declared.tables.Interface.{Interface}
use Rattle.package_names.proofs.InterfacesIndexedByName.{one-more-indexed, within-packages}
use Rattle.package_names.proofs.indexed.places_of.Goals as goal

pub put_interface-requires-clause-within : goal.put_interface-requires-clause-within
put_interface-requires-clause-within c =
    let r = c.args.table.now in
    let x = c.index-interfaces-place.result in
    let k = c.loop-place.place in
    let same = c.as_slice-interfaces.ensures in
    let l : k < length r.interfaces = omega (arith, ap length same) in
    let within = within-packages r k x l (c.index-interfaces-place.is ∙ ap (λ (is : List Interface). get_or is k x) same) in
    omega (arith, within, ap length c.as_slice-packages.ensures)

pub loop-place-preserved : goal.loop-place-preserved
loop-place-preserved c =
    one-more-indexed c.as_slice-packages.result.now c.as_slice-interfaces.result.now c.loop-place.place c.index-interfaces-place.result c.loop-place.names.items c.put_interface.new.names.items
    c.loop-place-test.true c.index-interfaces-place.is c.loop-place.invariant c.in_ok-put_interface.ensures.count c.in_ok-put_interface.ensures.put
