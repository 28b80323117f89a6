-- What encoding appends.
use Rattle.std.specs.Prelude.{◌≡◌, ◌≤◌, ℕ, List, ◌++◌, length, Ok}
use Rattle.ctype_format.specs.Raw.{BinaryFile}
use Rattle.ctype_format.specs.File.{component_file, decoded, max_length}

-- the new bytes are the old ones, and then bytes that spell the component, and that decode to it if they are not too
-- many
pub record AppendsSpelling (old new : List ℕ) (f : BinaryFile) : Type 0 where
  pub bytes : List ℕ
  pub appended : new ≡ old ++ bytes
  pub spelt : component_file.spells bytes f
  pub decodes : length bytes ≤ max_length → decoded bytes ≡ Ok f
