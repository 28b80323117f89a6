use Rattle.package_text.proofs.PrintableTrees.NestsAsText.{tree-fits}
use Rattle.package_text.proofs.laws.types_nest_as_in_a_text.Goals as goal

pub returns : goal.returns
returns c = λ r form shallow. tree-fits r form.postfix shallow
