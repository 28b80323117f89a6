use Rattle.std.proofs.Common.{◌≡◌, true, map, take}
use Rattle.std.specs.List.{list_all}
use Rattle.wit_tokens.specs.View.{field_view}
use Rattle.tree_meaning.specs.Resolves.{member_fits}
use Rattle.tree_names.proofs.nested.are_fields_nested.Given as goal

abbrev pub invariant-loop-field : goal.invariant-loop-field
invariant-loop-field l = list_all member_fits (map field_view (take l.field-index l.fields)) ≡ true
