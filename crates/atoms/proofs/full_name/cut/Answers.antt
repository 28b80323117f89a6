use Rattle.std.proofs.lemmas.Str.Pattern.{split_parts}
use Rattle.atoms.proofs.FullNamesHaveOneReading.{of_some, of_none}
use Rattle.atoms.proofs.full_name.cut.Goals as goal

pub returns-clause-some : goal.returns-clause-some
returns-clause-some c = of_some _ _ c.split_once.result (split_parts c.args.mark c.args.text.now c.split_once.result c.split_once.ensures.cases c.requires)

pub returns-clause-none : goal.returns-clause-none
returns-clause-none c = of_none _ _ c.split_once.result (split_parts c.args.mark c.args.text.now c.split_once.result c.split_once.ensures.cases c.requires)
