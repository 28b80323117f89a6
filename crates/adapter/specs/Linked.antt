-- What contracts see of a link.
use Rattle.std.specs.Prelude.{◌≡◌, ℕ}
use Rattle.canonical_abi.specs.Call.{Ways}
use Rattle.canonical_abi.specs.Halves.{counted_nodes}
use Rattle.layout.specs.Layout.{LayoutTable}
use Rattle.tables.specs.declared.tables.Resolve.{Resolve}

-- the package whose functions are called, its layouts, and the nodes of the last call's two ways
pub record Linked : Type 0 where
  pub resolve : Resolve
  pub layouts : LayoutTable
  pub there : ℕ
  pub back : ℕ

-- these are the nodes of these two ways
abbrev pub TellsNodes : Ways → Linked → Type 0
TellsNodes ways link = (link.there ≡ counted_nodes ways.there) × (link.back ≡ counted_nodes ways.back)
