use Rattle.std.proofs.Common.{◌≡◌, List, length, get_or, ap, sym, ◌∙◌, arith}
use Rattle.tables.specs.declared.tables.Interface.{Interface}
use Rattle.tables.proofs.NamesEarlierTypes.{grouped-at}
use Rattle.overview.proofs.layouts.laid_out.Goals as goal

pub full_name-requires : goal.full_name-requires
full_name-requires c =
    let r = c.args.resolve.now in
    let k = c.loop-interface.interface-index in
    let i = c.interface-item.result in
    let same = c.as_slice-interface-items.ensures in
    let long : length c.as_slice-interface-items.result.now ≡ length r.interfaces = ap (λ (is : List Interface). length is) same in
    grouped-at (length r.packages) 0 r.interfaces k i r.grouped (omega arith) (ap (λ (is : List Interface). get_or is k i) (sym same) ∙ sym c.interface-item.is)
