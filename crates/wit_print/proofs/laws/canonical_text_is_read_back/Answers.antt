use Rattle.wit_print.proofs.FilesAreReadBack.{is-read-back}
use Rattle.wit_print.proofs.laws.canonical_text_is_read_back.Goals as goal

pub returns : goal.returns
returns c = is-read-back
