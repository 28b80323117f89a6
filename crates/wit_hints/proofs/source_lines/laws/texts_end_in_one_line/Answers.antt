use Rattle.wit_hints.proofs.source_lines.EndsInOneLine.{one_line}
use Rattle.wit_hints.proofs.source_lines.laws.texts_end_in_one_line.Goals as goal

pub returns : goal.returns
returns c = one_line
