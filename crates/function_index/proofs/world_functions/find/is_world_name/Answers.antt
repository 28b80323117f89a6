use Rattle.std.proofs.Common.{rules, ◌≡◌, ◌≤◌, length, ap}
use Rattle.std.proofs.lemmas.Option.{slice_get_past}
use Rattle.tables.specs.Names.{full_name_in, world_name}
use Rattle.function_index.proofs.world_functions.find.is_world_name.Goals as goal

pub returns-in-None : goal.returns-in-None
returns-in-None c =
    let r = c.args.resolve.now in
    let w = c.args.world.now in
    let beyond : length r.packages ≤ w.«package».0 = search rules in
    let named : world_name r w ≡ w.name = ap (λ p. full_name_in p w.name) (slice_get_past r.packages w.«package».0 beyond) in
    rw named (search rules)
