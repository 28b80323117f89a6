use Rattle.opening.proofs.WrittenOpensAgain.{opens-written, opens-printed}
use Rattle.opening.proofs.laws.written_opens_again.Goals as goal

pub returns-clause-binary : goal.returns-clause-binary
returns-clause-binary c = λ earlier last bytes r h. opens-written earlier last bytes r h

pub returns-clause-text : goal.returns-clause-text
returns-clause-text c = λ earlier last bytes r h. opens-printed earlier last bytes r h c.text_is_of_closed_package.ensures c.types_nest_as_in_a_text.ensures
