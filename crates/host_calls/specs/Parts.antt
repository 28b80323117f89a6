-- CanonicalABI.md, "Alignment" and "Element Size": how parameters lie side by side, as the fields of a record.
use Rattle.std.specs.Prelude.{◌≡◌, ◌<◌, ℕ, List, map, take, drop, length, Result, MatchResult}
use Rattle.canonical_abi.specs.Types.{Fields}
use Rattle.canonical_abi.specs.Layout.{Extent, field_extents, field_places}
use Rattle.host_calls.specs.declared.error.CallError.{CallError}
use Rattle.host_calls.specs.declared.error.CallError.TheVariants as error
use Rattle.host_calls.specs.declared.parts.Part.{Part}

-- the size and alignment of a parameter, without its offset
abbrev pub extent_of_part : Part → Extent
extent_of_part p = record { size = p.size; align = p.align }

-- an array tells these fields at its front, whose number is the count, and what stands behind them is as it was
pub record TellsParts (old new : List Part) (count : ℕ) (fs : Fields) : Type 0 where
  pub counted : count ≡ length (field_extents fs)
  pub extents : map extent_of_part (take count new) ≡ field_extents fs
  pub places : map (λ p. p.offset) (take count new) ≡ field_places fs
  pub rest : drop count new ≡ drop count old

-- the fields are at the front of the array, or it is too short (71 no room) and as it was
abbrev pub PartsDone : Fields → List Part → Result ℕ CallError → List Part → Type 0
PartsDone fs old done new = MatchResult done
    (λ count. TellsParts old new count fs)
    (λ e. (e ≡ error.NoRoom (length (field_extents fs))) × (length old < length (field_extents fs)) × (new ≡ old))
