use Rattle.std.proofs.Common.{sym, ◌∙◌, arith}
use Rattle.tables.proofs.NamesEarlierTypes.{names-more, names-never}
use Rattle.table_building.proofs.parts.name_earlier_types.Goals as goal

pub loop-place-preserved : goal.loop-place-preserved
loop-place-preserved c =
    names-more c.args.definitions.now c.loop-place.place c.index-definitions-place.result (omega arith) c.index-definitions-place.is c.loop-place.invariant
    (sym c.is_definition_earlier.ensures ∙ c.if-not-is_definition_earlier.false)

pub returns-then-not-is_definition_earlier : goal.returns-then-not-is_definition_earlier
returns-then-not-is_definition_earlier c =
    sym (names-never c.args.definitions.now c.loop-place.place c.index-definitions-place.result (omega arith) c.index-definitions-place.is
    (sym c.is_definition_earlier.ensures ∙ c.if-not-is_definition_earlier.true))
