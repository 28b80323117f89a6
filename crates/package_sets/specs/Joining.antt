-- Where what a closed table has stands in a set with its package: its imports where the set has them, its own behind all of the set.
use Rattle.std.specs.Prelude.{◌≡◌, ◌<◌, ◌+◌, ◌-◌, ◌&&◌, ℕ, Bool, true, false, List, [], ◌∷◌, ◌++◌, take, drop, length, slice_get, slice_index_or, Option, None, Some, if◌then◌else◌}
use Rattle.std.specs.Str.{bytes_eq}
use Rattle.package_form.specs.Ends.{end_of}
use Rattle.package_form.specs.Closed.{own_package, is_same_package}
use Rattle.set_rows.specs.Moved.{Renaming, put_row, put_types, put_functions}
use Rattle.tables.specs.PackageNames.{PackageParts}
use Rattle.tables.specs.declared.tables.Interface.{Interface}
use Rattle.tables.specs.declared.tables.Definition.{Definition}
use Rattle.tables.specs.declared.tables.Resolve.{Resolve}
use Rattle.package_form.specs.Reached.{is_interface_of}
use Rattle.std.specs.List.{range_with_len}

-- ---- imports

-- how many interfaces are before the first of package `own`
abbrev pub before_own : ℕ → List Interface → ℕ
before_own own [] = 0
before_own own (i ∷ is) = if is_interface_of own i then 0 else 1 + before_own own is

-- how many interfaces a closed table has before those of its own package
abbrev pub import_count : Resolve → ℕ
import_count closed = before_own (own_package closed.packages) closed.interfaces

-- the interfaces of other packages in a closed table, which come first
abbrev pub imports : Resolve → List Interface
imports closed = take (import_count closed) closed.interfaces

-- the interfaces of its own package in a closed table
abbrev pub own_interfaces : Resolve → List Interface
own_interfaces closed = drop (import_count closed) closed.interfaces

-- ---- an import in a set

-- there are both packages, and they have the same full name
abbrev pub are_same_packages : Option PackageParts → Option PackageParts → Bool
are_same_packages (Some p) (Some q) = is_same_package p q
are_same_packages _ _ = false

-- interface x of the set has the name of interface i of the closed table, in a package of the same name
abbrev pub has_name_of : Resolve → Resolve → Interface → Interface → Bool
has_name_of set closed i x = are_same_packages (slice_get closed.packages i.«package».0) (slice_get set.packages x.«package».0) && bytes_eq i.name x.name

-- the first element with the property is at place k
pub record IsFirst {A : Type 0} (has : A → Bool) (xs : List A) (k : ℕ) : Type 0 where
  pub one : A
  pub stands : slice_get xs k ≡ Some one
  pub holds : has one ≡ true
  pub before : (j : ℕ) (x : A) → j < k → slice_get xs j ≡ Some x → has x ≡ false

-- each of these interfaces of the closed table is in the set, at the place in the list; the first of its name counts
pub record AreFound (set closed : Resolve) (is : List Interface) (places : List ℕ) : Type 0 where
  pub count : length places ≡ length is
  pub each : (k : ℕ) (i : Interface) → slice_get is k ≡ Some i → IsFirst (has_name_of set closed i) set.interfaces (slice_index_or places k 0)

-- the place after an interface's last row, or 0 without interface and of one without rows
abbrev pub end_in : Option Interface → ℕ
end_in None = 0
end_in (Some x) = end_of 0 x

-- The places of the rows of these interfaces, which begin at start in the closed table: as many rows as end where those of the set's interface end.
abbrev pub row_places : Resolve → ℕ → List Interface → List ℕ → List ℕ
row_places set start [] js = []
row_places set start (i ∷ is) [] = []
row_places set start (i ∷ is) (j ∷ js) =
    range_with_len (end_in (slice_get set.interfaces j) - (end_of start i - start)) (end_of start i - start) ++ row_places set (end_of start i) is js

-- the places in the set of all rows of the closed table's imports
abbrev pub import_rows : Resolve → Resolve → List ℕ → List ℕ
import_rows set closed js = row_places set 0 (imports closed) js

-- the places of a whole list, whose first elements have these places, and the others stand behind so many
abbrev pub all_places : List ℕ → ℕ → ℕ → List ℕ
all_places front behind count = front ++ range_with_len behind (count - length front)

-- the new place of what is at place k, or 0 if it has none
abbrev pub place_in : List ℕ → ℕ → ℕ
place_in places k = slice_index_or places k 0

-- the new places of all that the closed table has, if its imports are at these places of the set
abbrev pub joined : Resolve → Resolve → List ℕ → Renaming
joined set closed js = record {
  packages = λ k. length set.packages;
  interfaces = place_in (all_places js (length set.interfaces) (length closed.interfaces));
  worlds = place_in (all_places [] (length set.worlds) (length closed.worlds));
  rows = place_in (all_places (import_rows set closed js) (length set.definitions) (length closed.definitions));
  keeps = λ k. true;
}

-- these rows of the closed table are in the set, at their new places and with new indices
abbrev pub AreRowsThere : Resolve → Renaming → List Definition → Type 0
AreRowsThere set to ds = (k : ℕ) (d : Definition) → slice_get ds k ≡ Some d → slice_get set.definitions (to.rows k) ≡ Some (put_row to d)

-- x has the uses, types and functions of i, by their places in the set
pub record HasIds (to : Renaming) (i x : Interface) : Type 0 where
  pub uses : x.uses ≡ put_types to i.uses
  pub types : x.types ≡ put_types to i.types
  pub functions : x.functions ≡ put_functions to i.functions

-- the interface at this place of the set has the used names, types and functions of this one, at their new places
abbrev pub HasIdsAt : Resolve → Renaming → Interface → ℕ → Type 0
HasIdsAt set to i place = (x : Interface) × (slice_get set.interfaces place ≡ Some x) × HasIds to i x

-- each of these interfaces is in the set with its uses, types and functions, at its place
abbrev pub AreIdsThere : Resolve → Renaming → List Interface → Type 0
AreIdsThere set to is = (k : ℕ) (i : Interface) → slice_get is k ≡ Some i → HasIdsAt set to i (to.interfaces k)

-- The imports of the closed table are interfaces of the set, row for row.
pub record HasImports (set closed : Resolve) : Type 0 where
  pub places : List ℕ
  pub found : AreFound set closed (imports closed) places
  pub rows : AreRowsThere set (joined set closed places) (take (length (import_rows set closed places)) closed.definitions)
  pub ids : AreIdsThere set (joined set closed places) (imports closed)
