-- How the marks of what is reached are found: what a step marks besides.
use Rattle.std.specs.Prelude.{◌≡◌, ℕ, ◌+◌, ◌<◌, ◌⊎◌, Bool, true, false, List, [], ◌∷◌, length, slice_get, slice_index_or, Option, None, Some, Contains}
use Rattle.set_rows.specs.Owners.{owners}
use Rattle.set_rows.specs.Reaches.{Marks, is_marked, named_owners, Start, Reaches}
use Rattle.tables.specs.declared.tables.Owner.{Owner}
use Rattle.tables.specs.declared.tables.Definition.{Definition}
use Rattle.tables.specs.declared.tables.Resolve.{Resolve}

-- how many of these are without a mark
abbrev pub unmarked_in : List Bool → ℕ
unmarked_in [] = 0
unmarked_in (true ∷ bs) = unmarked_in bs
unmarked_in (false ∷ bs) = 1 + unmarked_in bs

-- how many interfaces and worlds are without a mark
abbrev pub unmarked : Marks → ℕ
unmarked m = unmarked_in m.interfaces + unmarked_in m.worlds

-- the new marks are the old ones, and those of these owners
pub record AddsMarks (added : List (Option Owner)) (old new : Marks) : Type 0 where
  pub count : length new.interfaces ≡ length old.interfaces
  pub keeps : (o : Option Owner) → is_marked old o ≡ true → is_marked new o ≡ true
  pub only : (o : Option Owner) → is_marked new o ≡ true → (is_marked old o ≡ true) ⊎ Contains added o
  pub all : (o : Option Owner) → Contains added o → is_marked new o ≡ true

-- `grew` says whether the new marks are more than the old
pub record TellsGrowth (old new : Marks) (grew : Bool) : Type 0 where
  pub fewer : grew ≡ true → unmarked new < unmarked old
  pub same : grew ≡ false → new ≡ old

-- what a row of this owner names is marked besides, where the owner is marked
pub record AddsRow (os : List (Option Owner)) (own : Option Owner) (d : Definition) (old new : Marks) (grew : Bool) : Type 0 where
  pub count : length new.interfaces ≡ length old.interfaces
  pub keeps : (o : Option Owner) → is_marked old o ≡ true → is_marked new o ≡ true
  pub only : (o : Option Owner) → is_marked new o ≡ true → (is_marked old o ≡ true) ⊎ ((is_marked old own ≡ true) × Contains (named_owners os d) o)
  pub all : is_marked old own ≡ true → (o : Option Owner) → Contains (named_owners os d) o → is_marked new o ≡ true
  pub tells : TellsGrowth old new grew

-- only what is reached from the start is marked
abbrev pub AreSound : Resolve → Start → Marks → Type 0
AreSound set from m = (o : Option Owner) → is_marked m o ≡ true → Reaches set from o

-- the row at place k names nothing that isn't marked, where it is marked
abbrev pub IsFixedAt : Resolve → Marks → ℕ → Type 0
IsFixedAt set m k = (d : Definition) (o : Option Owner) → slice_get set.definitions k ≡ Some d
    → is_marked m (slice_index_or (owners set.definitions) k None) ≡ true → Contains (named_owners (owners set.definitions) d) o → is_marked m o ≡ true

-- what rows name is marked besides, of each that is marked itself; where nothing was new, no row names more
pub record Passes (set : Resolve) (old new : Marks) (grew : Bool) : Type 0 where
  pub count : length new.interfaces ≡ length old.interfaces
  pub keeps : (o : Option Owner) → is_marked old o ≡ true → is_marked new o ≡ true
  pub sound : (from : Start) → AreSound set from old → AreSound set from new
  pub fewer : grew ≡ true → unmarked new < unmarked old
  pub fixed : grew ≡ false → (k : ℕ) → IsFixedAt set new k

-- all that rows name is marked besides, of what is marked itself
pub record AreGrown (set : Resolve) (old new : Marks) : Type 0 where
  pub count : length new.interfaces ≡ length old.interfaces
  pub keeps : (o : Option Owner) → is_marked old o ≡ true → is_marked new o ≡ true
  pub sound : (from : Start) → AreSound set from old → AreSound set from new
  pub fixed : (k : ℕ) → IsFixedAt set new k
