-- CanonicalABI.md, "Flattening": lists of flat kinds that are cut where they are longer than sixteen.
use Rattle.std.specs.Prelude.{ℕ, List, [], ◌∷◌, ◌++◌, length, if◌then◌else◌, nat_le, Option, None, Some}
use Rattle.canonical_abi.specs.Layout.{join, max_flat_params}
use Rattle.canonical_abi.specs.declared.flat.CoreKind.{CoreKind}
use Rattle.canonical_abi.specs.declared.flat.CoreKind.TheVariants.{I32}
use Rattle.layout.specs.declared.kinds.Kinds.{Kinds}
use Rattle.layout.specs.declared.kinds.Kinds.TheVariants.{Flat, Spilled}

-- these kinds, or that they spill to memory, if they are more than sixteen
abbrev pub kinds_of : List CoreKind → Kinds
kinds_of ks = if nat_le (length ks) max_flat_params then Flat (record { items = ks }) else Spilled

-- the core value types by which values of these kinds are passed: an address, i32, if they spill
abbrev pub passed : Kinds → List CoreKind
passed (Flat ks) = ks.items
passed Spilled = I32 ∷ []

-- how many kinds there are, or none if they spill
abbrev pub count_of : Kinds → Option ℕ
count_of (Flat ks) = Some (length ks.items)
count_of Spilled = None

-- the kinds of two values one after the other, spilled if they are more than sixteen
abbrev pub append_kinds : Kinds → Kinds → Kinds
append_kinds (Flat js) (Flat ks) = kinds_of (js.items ++ ks.items)
append_kinds (Flat js) Spilled = Spilled
append_kinds Spilled ks = Spilled

-- the kinds of two payloads joined index by index, spilled if they are more than sixteen
abbrev pub join_kinds : Kinds → Kinds → Kinds
join_kinds (Flat js) (Flat ks) = kinds_of (join js.items ks.items)
join_kinds (Flat js) Spilled = Spilled
join_kinds Spilled ks = Spilled
