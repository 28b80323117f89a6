-- Flat kinds as a layout table keeps them: a count, and a number whose bit i says whether kind i is i64.
use Rattle.std.specs.Prelude.{ℕ, zero, suc, ◌/◌, ◌%◌, List, [], ◌∷◌, nat_le, if◌then◌else◌}
use Rattle.canonical_abi.specs.Layout.{max_flat_params}
use Rattle.canonical_abi.specs.declared.flat.CoreKind.{CoreKind}
use Rattle.canonical_abi.specs.declared.flat.CoreKind.TheVariants.{I32, I64}
use Rattle.layout.specs.declared.kinds.Kinds.{Kinds}
use Rattle.layout.specs.declared.kinds.Kinds.TheVariants.{Flat, Spilled}

-- the kind that the lowest bit tells
abbrev pub lowest_kind : ℕ → CoreKind
lowest_kind wide = kind_of_bit (wide % 2)
  where
    kind_of_bit : ℕ → CoreKind
    kind_of_bit zero = I32
    kind_of_bit (suc n) = I64

-- so many kinds, told by the bits from the lowest on
abbrev pub kinds_by_bits : ℕ → ℕ → List CoreKind
kinds_by_bits zero wide = []
kinds_by_bits (suc n) wide = lowest_kind wide ∷ kinds_by_bits n (wide / 2)

-- so many kinds, told by bits, or that they spill, if they are more than sixteen
abbrev pub kinds_packed : ℕ → ℕ → Kinds
kinds_packed count wide = if nat_le count max_flat_params then Flat (record { items = kinds_by_bits count wide }) else Spilled
