-- The rows of an interface or of a world: they stand together, and begin where those of the one before it end, worlds behind all interfaces.
use Rattle.std.specs.Prelude.{ℕ, ◌+◌, ◌-◌, Bool, ◌&&◌, ◌==◌, nat_le, List, [], ◌∷◌, take, drop}
use Rattle.tables.specs.declared.tables.TypeId.{TypeId}
use Rattle.tables.specs.declared.tables.FunctionId.{FunctionId}
use Rattle.tables.specs.declared.tables.Definition.{Definition}
use Rattle.tables.specs.declared.tables.Interface.{Interface}
use Rattle.tables.specs.declared.tables.WorldItemKind.{WorldItemKind}
use Rattle.tables.specs.declared.tables.WorldItemKind.TheVariants as item
use Rattle.tables.specs.declared.tables.WorldItem.{WorldItem}
use Rattle.tables.specs.declared.tables.World.{World}

-- the place after the last of these types, or start if there is none
abbrev pub behind_types : ℕ → List TypeId → ℕ
behind_types start [] = start
behind_types start (t ∷ ts) = behind_types (t.0 + 1) ts

-- the place after the last of these functions, or start if there is none
abbrev pub behind_functions : ℕ → List FunctionId → ℕ
behind_functions start [] = start
behind_functions start (f ∷ fs) = behind_functions (f.0 + 1) fs

-- the place behind an interface's last row, where its rows begin at start: uses, then types, then functions
abbrev pub end_of : ℕ → Interface → ℕ
end_of start i = behind_functions (behind_types (behind_types start i.uses) i.types) i.functions

-- an interface's rows, which begin at start: named ones and those without names that they are made of
abbrev pub rows_of : List Definition → ℕ → Interface → List Definition
rows_of rows start i = take (end_of start i - start) (drop start rows)

-- the place after the last row of these interfaces, whose rows begin at start
abbrev pub interfaces_end : ℕ → List Interface → ℕ
interfaces_end start [] = start
interfaces_end start (i ∷ is) = interfaces_end (end_of start i) is

-- the place after a world's item if it is a function, or start if it is an interface
abbrev pub behind_item : ℕ → WorldItemKind → ℕ
behind_item start (item.Interface i) = start
behind_item start (item.Function f) = f.0 + 1

-- the place after the last function among these items of a world, or start if there is none
abbrev pub behind_items : ℕ → List WorldItem → ℕ
behind_items start [] = start
behind_items start (i ∷ is) = behind_items (behind_item start i.kind) is

-- the place behind a world's last row, where its rows begin at start: its functions, each behind the rows without names that it is made of
abbrev pub world_end : ℕ → World → ℕ
world_end start w = behind_items start w.items

-- a world's rows, which begin at start: its functions, and the rows without names that they are made of
abbrev pub world_rows : List Definition → ℕ → World → List Definition
world_rows rows start w = take (world_end start w - start) (drop start rows)

-- each world's rows stand behind those of the world before it, and no other row is there
abbrev pub are_worlds_parted : ℕ → ℕ → List World → Bool
are_worlds_parted count start [] = start == count
are_worlds_parted count start (w ∷ ws) =
    nat_le start (world_end start w) && (nat_le (world_end start w) count && are_worlds_parted count (world_end start w) ws)

-- each interface's rows stand behind those of the interface before it, then the worlds', and no other row is there
abbrev pub is_parted : ℕ → ℕ → List Interface → List World → Bool
is_parted count start [] ws = are_worlds_parted count start ws
is_parted count start (i ∷ is) ws = nat_le start (end_of start i) && (nat_le (end_of start i) count && is_parted count (end_of start i) is ws)
