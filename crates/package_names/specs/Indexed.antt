-- Interfaces that are looked for by their package and their name.
use Rattle.std.specs.Prelude.{◌≡◌, ◌&&◌, ℕ, Bool, false, List, length, Option, None, Some, slice_get}
use Rattle.std.specs.List.{position}
use Rattle.std.specs.declared.alloc.Global.{Global}
use Rattle.std.specs.declared.string.String.{String}
use Rattle.std.specs.Map.{lookup}
use Rattle.std.specs.Option.{option_map}
use Rattle.std.specs.Str.{bytes_eq}
use Rattle.std.specs.String.{string_bytes}
use Rattle.tables.specs.PackageNames.{PackageParts}
use Rattle.tables.specs.declared.tables.Interface.{Interface}
use Rattle.tables.specs.declared.tables.Resolve.{Resolve}
use Rattle.package_form.specs.Closed.{is_same_package}
use Rattle.package_names.specs.declared.indexed.PackageKey.{PackageKey}

-- the full name of a package, from its parts that are lent
abbrev pub key_parts : PackageKey → PackageParts
key_parts k = record { namespace = k.namespace.now; name = k.name.now; version = option_map string_bytes k.version.now }

-- there is a package, and it has this full name
abbrev pub is_package_named : PackageParts → Option PackageParts → Bool
is_package_named q None = false
is_package_named q (Some p) = is_same_package q p

-- the interface has this name, in a package of this name
abbrev pub is_interface_named : List PackageParts → PackageParts → List ℕ → Interface → Bool
is_interface_named ps q n i = is_package_named q (slice_get ps i.«package».0) && bytes_eq n i.name

-- the place of the first interface of this name in a package of this name
abbrev pub interface_place : Resolve → PackageParts → List ℕ → Option ℕ
interface_place r q n = position (is_interface_named r.packages q n) r.interfaces

-- ---- places by the first package of a name, and a name

-- a name with its place, as a map keeps them
abbrev pub place_entry : String Global × ℕ → List ℕ × ℕ
place_entry e = (string_bytes e.0, e.1)

-- the place under this name in the names of one package, or none
abbrev pub placed : Option (List (List ℕ × ℕ)) → List ℕ → Option ℕ
placed None n = None
placed (Some places) n = lookup (bytes_eq n) places

-- the place under a name in the package at this index, or none without such a package
abbrev pub placed_at : List (List (List ℕ × ℕ)) → Option ℕ → List ℕ → Option ℕ
placed_at names None n = None
placed_at names (Some k) n = placed (slice_get names k) n

-- `names` has, for each package, the names and places of its interfaces
pub record IsIndex (ps : List PackageParts) (is : List Interface) (names : List (List (List ℕ × ℕ))) : Type 0 where
  pub count : length names ≡ length ps
  pub each : (q : PackageParts) (n : List ℕ) → placed_at names (position (is_same_package q) ps) n ≡ position (is_interface_named ps q n) is
