use Rattle.std.proofs.Common.{Bool, List, ℕ, map, take}
use Rattle.tables.specs.PackageNames.{PackageParts}
use Rattle.wit_tokens.specs.View.{world_entry_view}
use Rattle.package_adding.specs.Named.{world_entry_names, any_names}
use Rattle.package_adding.specs.Asked.{also, AreAsked}
use Rattle.package_adding.proofs.named.ask_world_items.Given as goal

abbrev pub invariant-loop-item : goal.invariant-loop-item
invariant-loop-item l = (names : PackageParts → List ℕ → Bool) → AreAsked l.set names l.initial.asked → AreAsked l.set (also names (any_names world_entry_names (map world_entry_view (take l.item-index l.items)))) l.asked
