use Rattle.std.proofs.Common.{flat_map, take, All}
use Rattle.atoms.specs.Label.{IsLabel}
use Rattle.package_text.specs.Writable.{row_labels}
use Rattle.package_text.proofs.labels.rows.Given as goal

abbrev pub invariant-loop-definition : goal.invariant-loop-definition
invariant-loop-definition l = All IsLabel (flat_map row_labels (take l.definition-index l.rows))
