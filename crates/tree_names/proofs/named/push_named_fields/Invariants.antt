use Rattle.std.proofs.Common.{◌≡◌, ◌++◌, map, flat_map, take}
use Rattle.wit_tokens.specs.View.{field_view}
use Rattle.tree_meaning.specs.Declarations.{named_member}
use Rattle.tree_scopes.specs.Lent.{lent_names}
use Rattle.tree_names.proofs.named.push_named_fields.Given as goal

abbrev pub invariant-loop-field : goal.invariant-loop-field
invariant-loop-field l = lent_names l.names.items ≡ lent_names l.initial.names.items ++ flat_map named_member (map field_view (take l.field-index l.fields))
