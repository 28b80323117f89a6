use Rattle.std.proofs.Common.{◌≡◌, ◌++◌, map, flat_map, take}
use Rattle.wit_tokens.specs.View.{entry_view}
use Rattle.package_text.specs.Tree.{written_at}
use Rattle.package_text.proofs.entry.push_types.Given as goal

abbrev pub invariant-loop-id : goal.invariant-loop-id
invariant-loop-id l = map entry_view l.items.items ≡ map entry_view l.initial.items.items ++ flat_map (λ i. written_at l.resolve i.0) (take l.id-index l.ids)
