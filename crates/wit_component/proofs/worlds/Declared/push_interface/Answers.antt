use Rattle.std.proofs.Common.{List, length, get_or, ap, sym, ◌∙◌}
use Rattle.tables.proofs.NamesEarlierTypes.{grouped-at}
use Rattle.tables.specs.declared.tables.Interface.{Interface}
use Rattle.wit_component.proofs.worlds.Declared.push_interface.Goals as goal

pub full_name-requires-clause-placed : goal.full_name-requires-clause-placed
full_name-requires-clause-placed c =
    let r = c.args.resolve.now in
    let i = c.index-as_slice-id.result in
    grouped-at (length r.packages) 0 r.interfaces c.args.id.0 i r.grouped c.requires.there
    (ap (λ (is : List Interface). get_or is c.args.id.0 i) (sym c.as_slice.ensures) ∙ sym c.index-as_slice-id.is)
