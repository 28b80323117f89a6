-- Interfaces that are asked for: a list of names for each package of a table.
use Rattle.std.specs.Prelude.{◌≡◌, ◌&&◌, ℕ, Bool, List, [], map, length, nat_lt, slice_index_or}
use Rattle.std.specs.Borrow.{Bor}
use Rattle.std.specs.List.{list_any, position}
use Rattle.std.specs.Str.{bytes_eq}
use Rattle.tables.specs.PackageNames.{PackageParts}
use Rattle.tables.specs.declared.tables.Interface.{Interface}
use Rattle.tables.specs.declared.tables.Resolve.{Resolve}
use Rattle.package_form.specs.Closed.{is_same_package}
use Rattle.package_names.specs.Indexed.{is_interface_named, placed_at}

-- the bytes of a name that is lent
abbrev pub lent_label : Bor (List ℕ) → List ℕ
lent_label b = b.now

-- the bytes of names that are lent, in order
abbrev pub lent_labels : List (Bor (List ℕ)) → List (List ℕ)
lent_labels ns = map lent_label ns

-- there is at least one name
abbrev pub has_names : List (List ℕ) → Bool
has_names ns = nat_lt 0 (length ns)

-- the interface of this name is asked of the package at this place
abbrev pub is_asked : List (List (List ℕ)) → ℕ → List ℕ → Bool
is_asked asked k n = list_any (bytes_eq n) (slice_index_or asked k [])

-- the interface is asked of its own package
abbrev pub is_asked_of : List (List (List ℕ)) → Interface → Bool
is_asked_of asked i = is_asked asked i.«package».0 i.name

-- the interface has this name, in a package of this name, and is asked for
abbrev pub is_asked_interface : List PackageParts → List (List (List ℕ)) → PackageParts → List ℕ → Interface → Bool
is_asked_interface ps asked q n i = is_interface_named ps q n i && is_asked_of asked i

-- `names` has, for each package, the names and places of its interfaces that are asked for
pub record IsIndexOfAsked (ps : List PackageParts) (is : List Interface) (asked : List (List (List ℕ))) (names : List (List (List ℕ × ℕ))) : Type 0 where
  pub count : length names ≡ length ps
  pub each : (q : PackageParts) (n : List ℕ) → placed_at names (position (is_same_package q) ps) n ≡ position (is_asked_interface ps asked q n) is
