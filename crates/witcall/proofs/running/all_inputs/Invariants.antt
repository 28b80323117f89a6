use Rattle.std.proofs.Common.{◌≡◌, take}
use Rattle.opening.specs.Sets.{all_bytes}
use Rattle.witcall.specs.Running.{all_items}
use Rattle.witcall.proofs.running.all_inputs.Given as goal

abbrev pub invariant-loop-bytes : goal.invariant-loop-bytes
invariant-loop-bytes l = all_bytes l.inputs.items ≡ all_items (take l.bytes-index l.earlier)
