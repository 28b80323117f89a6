use Rattle.std.proofs.Common.{sym, ◌∙◌}
use Rattle.value_text.proofs.OrdersSorted.{label-there, label-past}
use Rattle.value_text.proofs.orders.label_at.Goals as goal

pub returns-in-Some : goal.returns-in-Some
returns-in-Some c =
    c.as_str.ensures.is
    ∙ sym (label-there c.args.fields.now c.args.index c.in-Some.field.now c.in-Some.ensures.lookup.3.0 c.in-Some.ensures.lookup.1)

pub returns-in-None : goal.returns-in-None
returns-in-None c = sym (label-past c.args.fields.now c.args.index c.in-None.ensures.lookup.3)
