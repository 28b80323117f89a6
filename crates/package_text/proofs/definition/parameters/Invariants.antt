use Rattle.std.proofs.Common.{◌≡◌, map, take}
use Rattle.wit_tokens.specs.View.{field_view}
use Rattle.package_text.specs.Tree.{own_trees}
use Rattle.package_text.specs.Pieces.{parameter_by}
use Rattle.package_text.proofs.definition.parameters.Given as goal

abbrev pub invariant-loop-parameter : goal.invariant-loop-parameter
invariant-loop-parameter l = map field_view l.members.items ≡ map (parameter_by (own_trees l.resolve)) (take l.parameter-index l.parameters)
