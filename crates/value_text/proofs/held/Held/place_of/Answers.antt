use Rattle.std.proofs.Common.{sym, ◌∙◌}
use Rattle.canonical_abi.specs.Types.{record_fields}
use Rattle.tables.specs.Closed.{closed_type}
use Rattle.tables.specs.declared.tables.ValType.TheVariants as val
use Rattle.value_text.proofs.HeldInTurn.{places-there}
use Rattle.value_text.proofs.held.Held.place_of.Goals as goal

pub unreachable-requires : goal.unreachable-requires
unreachable-requires c =
    let r = c.args.self.now.types.now in
    places-there (record_fields (closed_type r (val.Id c.args.id))) 0 c.args.index c.requires.field (sym (c.field_offset.ensures r c.layouts.ensures) ∙ c.in-None.is)
