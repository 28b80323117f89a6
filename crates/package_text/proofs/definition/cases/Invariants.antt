use Rattle.std.proofs.Common.{◌≡◌, map, take}
use Rattle.wit_tokens.specs.View.{case_view}
use Rattle.package_text.specs.Tree.{own_trees}
use Rattle.package_text.specs.Pieces.{case_by}
use Rattle.package_text.proofs.definition.cases.Given as goal

abbrev pub invariant-loop-choice : goal.invariant-loop-choice
invariant-loop-choice l = map case_view l.cases.items ≡ map (case_by (own_trees l.resolve)) (take l.choice-index l.choices)
