use Rattle.wit_text.proofs.HasFullNames.{full-names}
use Rattle.wit_text.proofs.laws.texts_have_full_names.Goals as goal

pub returns : goal.returns
returns c = full-names
