use Rattle.wit_hints.proofs.source_lines.BeforeAndAfterLineEnds.{front_part, whole_front}
use Rattle.wit_hints.proofs.source_lines.place.first_line.Goals as goal

pub returns-in-Some : goal.returns-in-Some
returns-in-Some c = front_part c.args.text.now (c.in-Some.line, c.in-Some.field-0-1) c.in-Some.ensures.cases

pub returns-in-None : goal.returns-in-None
returns-in-None c = whole_front c.args.text.now c.in-None.ensures.cases
