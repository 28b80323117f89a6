use Rattle.std.proofs.Common.{◌≡◌, take, map}
use Rattle.package_changes.proofs.type_nodes.field_labels.Given as goal

abbrev pub invariant-loop-field : goal.invariant-loop-field
invariant-loop-field l = l.copies.items ≡ map (λ f. f.name) (take l.field-index l.fields)
