use Rattle.std.proofs.Common.{◌≡◌, ℕ, List, take}
use Rattle.std.specs.List.{list_any}
use Rattle.std.specs.Str.{bytes_eq}
use Rattle.package_names.specs.Asked.{lent_labels}
use Rattle.package_names.proofs.asked.table_of.Given as goal

abbrev pub invariant-loop-name : goal.invariant-loop-name
invariant-loop-name l = (n : List ℕ) → list_any (λ s. bytes_eq n s.now) l.table.keys ≡ list_any (bytes_eq n) (lent_labels (take l.name-index l.names))
