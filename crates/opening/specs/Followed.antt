-- What a binary is read as: Binary.md, "Type Definitions", "Import and Export Definitions".
use Rattle.std.specs.Prelude.{◌≡◌, ℕ, List, Ok}
use Rattle.component_reader.specs.Component.{candidate_of, Makes}
use Rattle.ctype_bin.specs.FileView.{raw_component_view}
use Rattle.ctype_bin.specs.declared.component.RawComponent.{RawComponent}
use Rattle.ctype_format.specs.File.{decoded}
use Rattle.tables.specs.declared.tables.Resolve.{Resolve}

-- the bytes spell a component that is read as this table: each index is followed to the declaration that took it, and each declaration to the name of
-- its export
pub record IsFollowed (bytes : List ℕ) (closed : Resolve) : Type 0 where
  pub raw : RawComponent
  pub spelt : decoded bytes ≡ Ok (raw_component_view raw)
  pub read : Makes (candidate_of (raw_component_view raw)) (Ok closed)
