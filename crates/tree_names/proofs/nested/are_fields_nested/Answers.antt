use Rattle.std.proofs.Common.{sym, ◌∙◌, arith}
use Rattle.wit_tokens.specs.View.{field_view}
use Rattle.tree_meaning.specs.Resolves.{member_fits}
use Rattle.tree_names.proofs.NestingDepths.{all_false-at}
use Rattle.tree_names.proofs.nested.are_fields_nested.Goals as goal

pub returns-then-not-is_within : goal.returns-then-not-is_within
returns-then-not-is_within c =
    sym (all_false-at member_fits field_view c.args.fields.now c.loop-field.field-index c.field-item.result (omega arith) c.field-item.is (sym c.is_within.ensures ∙ c.if-not-is_within.true))
