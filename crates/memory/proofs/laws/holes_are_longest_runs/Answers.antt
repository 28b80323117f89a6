use Rattle.std.proofs.Common.{◌≡◌, ◌*◌, ◌/◌, length}
use Rattle.memory.specs.HolesView.{listed_holes}
use Rattle.memory.proofs.FirstFitSteps.{listed_are_holes}
use Rattle.memory.proofs.laws.holes_are_longest_runs.Goals as goal

pub returns : goal.returns
returns c =
    let s = c.args._memory.now in
    let whole : s.holes.limit ≡ length s.pages.bytes.items / 8 * 8 = s.usable in
    listed_are_holes s.pages.bytes.items s.pages.max s.holes.limit (listed_holes s.holes) whole s.holes.apart
