use Rattle.std.proofs.Common.{map, take}
use Rattle.serde_json.specs.View.{view}
use Rattle.tables.specs.Labelled.{labelled_members, labelled_types}
use Rattle.value_json.specs.Json.{MembersJson}
use Rattle.values.specs.Val.{value_of}
use Rattle.c_border.proofs.argument_texts.items_of.Given as goal

abbrev pub invariant-loop-i : goal.invariant-loop-i
invariant-loop-i l = MembersJson (labelled_members (labelled_types l.resolve) (take l.i l.types)) (map value_of (take l.i l.values)) (map view l.items.items)
