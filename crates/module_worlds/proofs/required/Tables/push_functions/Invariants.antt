use Rattle.std.proofs.Common.{◌≡◌, ◌++◌, map, flat_map, take}
use Rattle.module_worlds.specs.Fits.{named_function, required_view}
use Rattle.module_worlds.proofs.required.Tables.push_functions.Given as goal

abbrev pub invariant-loop-id : goal.invariant-loop-id
invariant-loop-id l = map required_view l.required.items ≡ map required_view l.initial.required.items ++ flat_map (named_function l.self.resolve.now l.front) (take l.id-index l.ids)
