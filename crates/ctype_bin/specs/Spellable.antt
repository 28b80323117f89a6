-- What bytes can spell.
use Rattle.std.specs.Prelude.{ℕ, List}
use Rattle.ctype_format.specs.Raw.{BinaryFile}
use Rattle.ctype_format.specs.File.{component_file}

-- some bytes spell the component, within the limits
abbrev pub IsSpellable : BinaryFile → Type 0
IsSpellable f = (bytes : List ℕ) × component_file.spells bytes f
