use Rattle.std.proofs.Common.{List, length, drop, get_or, ap, sym, ◌∙◌, arith}
use Rattle.tables.proofs.NamesEarlierTypes.{grouped-at}
use Rattle.tables.specs.declared.tables.Interface.{Interface}
use Rattle.wit_component.proofs.WorldItemsStandInOrder.{parted-within}
use Rattle.wit_component.proofs.component.interfaces_declared.Goals as goal

pub interface_declarations-requires-clause-placed : goal.interface_declarations-requires-clause-placed
interface_declarations-requires-clause-placed c =
    let r = c.args.resolve.now in
    let i = c.interface-item.result in
    let same = c.as_slice-interface-items.ensures in
    grouped-at (length r.packages) 0 r.interfaces c.loop-interface.interface-index i r.grouped
    (omega (arith, c.loop-interface-test.true, ap length same))
    (ap (λ (is : List Interface). get_or is c.loop-interface.interface-index i) (sym same) ∙ sym c.interface-item.is)

pub returns-clause-few : goal.returns-clause-few
returns-clause-few c =
    let r = c.args.resolve.now in
    let inv = c.loop-interface.invariant in
    let within = parted-within (length r.definitions) c.loop-interface.start (drop c.loop-interface.interface-index r.interfaces) r.worlds inv.parted in
    omega (arith, within, inv.types, c.requires.rows, c.requires.interfaces, c.loop-interface.auto.interface-index-end, ap length c.as_slice-interface-items.ensures)
