use Rattle.wit_hints.proofs.source_lines.BeforeAndAfterLineEnds.{back_part, whole_back}
use Rattle.wit_hints.proofs.source_lines.place.last_line.Goals as goal

pub returns-in-Some : goal.returns-in-Some
returns-in-Some c = back_part c.args.text.now c.in-Some.field-0-0.now c.in-Some.line.now c.in-Some.ensures.cases

pub returns-in-None : goal.returns-in-None
returns-in-None c = whole_back c.args.text.now c.in-None.ensures.cases
