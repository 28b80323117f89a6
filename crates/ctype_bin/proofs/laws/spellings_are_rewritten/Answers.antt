use Rattle.ctype_bin.proofs.RewrittenIsSpelt.Declarations.{written-type}
use Rattle.ctype_bin.proofs.RewrittenIsSpelt.Files.{file_rewritten}
use Rattle.ctype_bin.proofs.laws.spellings_are_rewritten.Goals as goal

pub returns-clause-types : goal.returns-clause-types
returns-clause-types c = written-type

pub returns-clause-files : goal.returns-clause-files
returns-clause-files c = file_rewritten
