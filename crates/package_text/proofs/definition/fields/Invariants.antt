use Rattle.std.proofs.Common.{◌≡◌, map, take}
use Rattle.wit_tokens.specs.View.{field_view}
use Rattle.package_text.specs.Tree.{own_trees}
use Rattle.package_text.specs.Pieces.{field_by}
use Rattle.package_text.proofs.definition.fields.Given as goal

abbrev pub invariant-loop-field : goal.invariant-loop-field
invariant-loop-field l = map field_view l.members.items ≡ map (field_by (own_trees l.resolve)) (take l.field-index l.fields)
