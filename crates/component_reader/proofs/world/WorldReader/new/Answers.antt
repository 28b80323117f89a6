use Rattle.std.proofs.Common.{None}
use Rattle.component_reader.proofs.world.WorldReader.new.Goals as goal

pub returns : goal.returns
returns c = λ rows j. record { inside = c.new.ensures rows j; items = c.new-2.ensures.items j; interface = None }
