use Rattle.std.proofs.Common.{Bool, List, ℕ, map, take}
use Rattle.tables.specs.PackageNames.{PackageParts}
use Rattle.wit_tokens.specs.View.{item_view}
use Rattle.package_adding.specs.Named.{file_entry_names, any_names}
use Rattle.package_adding.specs.Asked.{also, AreAsked}
use Rattle.package_adding.proofs.named.ask_entries.Given as goal

abbrev pub invariant-loop-item : goal.invariant-loop-item
invariant-loop-item l = (names : PackageParts → List ℕ → Bool) → AreAsked l.set names l.initial.asked → AreAsked l.set (also names (any_names file_entry_names (map item_view (take l.item-index l.items)))) l.asked
