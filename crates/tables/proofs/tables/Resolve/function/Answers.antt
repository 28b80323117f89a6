use Rattle.std.proofs.Common.{List, length, get_or, ap, sym, ◌∙◌, arith}
use Rattle.tables.proofs.NamesEarlierTypes.{grouped-at}
use Rattle.tables.specs.declared.tables.Interface.{Interface}
use Rattle.tables.proofs.tables.Resolve.function.Goals as goal

pub is_full_name-requires : goal.is_full_name-requires
is_full_name-requires c =
    let r = c.args.self.now in
    let i = c.interface-item.result in
    let same = c.as_slice-interface-items.ensures in
    grouped-at (length r.packages) 0 r.interfaces c.loop-interface.interface-index i r.grouped
    (omega (arith, c.loop-interface-test.true, ap length same))
    (ap (λ (is : List Interface). get_or is c.loop-interface.interface-index i) (sym same) ∙ sym c.interface-item.is)
