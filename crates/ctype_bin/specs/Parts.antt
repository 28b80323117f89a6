-- What can be wrong with the parts of a component.
use Rattle.std.specs.Prelude.{◌≡◌, ℕ, Err}
use Rattle.ctype_format.specs.declared.error.Fault.{Fault}
use Rattle.ctype_format.specs.declared.error.Fault.TheVariants.{UnknownOpcode, BadIndex, EmptyType, Limit}
use Rattle.ctype_format.specs.declared.error.Stuck.TheVariants.{At}
use Rattle.ctype_format.specs.declared.error.BinError.{BinError}
use Rattle.ctype_format.specs.declared.error.BinError.TheVariants as errors
use Rattle.ctype_format.specs.Raw.{BinaryFile}
use Rattle.ctype_format.specs.File.{component_file}
use Rattle.ctype_format.specs.Writing.{file_bytes}
use Rattle.ctype_bin.specs.Spellable.{IsSpellable}

-- a fault that parts can have: an import in an instance type, whose byte is 3, an index, a count of 0, or a limit
abbrev pub IsOfParts : Fault → Type 0
IsOfParts (UnknownOpcode b) = b ≡ 3
IsOfParts BadIndex = Unit {0}
IsOfParts EmptyType = Unit {0}
IsOfParts Limit = Unit {0}
IsOfParts _ = ⊥

-- No bytes spell the component, and the fault is the first in what would be written of it.
pub record IsWrong (f : BinaryFile) (fault : Fault) : Type 0 where
  pub unspellable : IsSpellable f → ⊥
  pub left : ℕ
  pub read : component_file.read (file_bytes f) ≡ Err (At fault left)
  pub first : component_file.fails (file_bytes f) (At fault left)
  pub kind : IsOfParts fault

-- Why parts are refused: the fault has place 0.
abbrev pub ComponentRefuses : BinaryFile → BinError → Type 0
ComponentRefuses f (errors.At fault place) = (place ≡ 0) × IsWrong f fault
ComponentRefuses f (errors.Read place) = ⊥
ComponentRefuses f errors.NoMemory = Unit {0}
