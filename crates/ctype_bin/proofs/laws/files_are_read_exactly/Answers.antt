use Rattle.ctype_bin.proofs.ReadsExactly.Files.{exact-file}
use Rattle.ctype_bin.proofs.laws.files_are_read_exactly.Goals as goal

pub returns : goal.returns
returns c = exact-file
