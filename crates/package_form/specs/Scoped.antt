-- What the names of a scope stand for.
use Rattle.std.specs.Prelude.{ℕ, List}
use Rattle.tables.specs.declared.tables.TypeId.{TypeId}

-- a name, and the type that it stands for
pub record NameEntry : Type 0 where
  pub name : List ℕ
  pub id : TypeId

-- the name and type of an entry of a map, whose keys have these bytes
abbrev pub mapped_entry : {V : Type 0} → (V → List ℕ) → V × TypeId → NameEntry
mapped_entry items e = record { name = items e.0; id = e.1 }
