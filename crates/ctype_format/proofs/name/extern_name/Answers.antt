use Rattle.std.proofs.Common.{sym, ◌∙◌}
use Rattle.ctype_format.proofs.FullNamesAreTested.{extern_full, extern_none}
use Rattle.ctype_format.proofs.name.extern_name.Goals as goal

pub returns-in-Ok : goal.returns-in-Ok
returns-in-Ok c = rw (extern_full c.args.text.now (sym c.is_label.ensures ∙ c.if-is_label.false) c.in-Ok.ensures.cases.1) (rw c.in-Ok.ensures.cases.0 at c.full_name.ensures)

pub returns-in-Err : goal.returns-in-Err
returns-in-Err c = extern_none c.args.text.now (sym c.is_label.ensures ∙ c.if-is_label.false) c.in-Err.ensures.cases.0
