-- Closed tables: one package, the own one, behind the interfaces of other packages that it reaches, its imports.
use Rattle.std.specs.Prelude.{◌≡◌, ◌==◌, ◌||◌, ◌&&◌, ◌+◌, ◌-◌, ℕ, nat_le, Bool, true, false, not, List, [], ◌∷◌, length, Option, None, Some}
use Rattle.std.specs.List.{list_all, list_any}
use Rattle.std.specs.Str.{bytes_eq}
use Rattle.tables.specs.PackageNames.{PackageParts}
use Rattle.tables.specs.declared.tables.Interface.{Interface}
use Rattle.tables.specs.declared.tables.World.{World}
use Rattle.tables.specs.declared.tables.Definition.{Definition}
use Rattle.tables.specs.declared.tables.Resolve.{Resolve}
use Rattle.package_form.specs.Reached.{reached, is_interface_of, are_reached}

-- the index of a closed table's own package: the last
abbrev pub own_package : List PackageParts → ℕ
own_package ps = length ps - 1

-- the world is of package k
abbrev pub is_world_of : ℕ → World → Bool
is_world_of k w = w.«package».0 == k

-- the own package has an interface, or there is a world, which is of it
abbrev pub has_own : ℕ → List Interface → List World → Bool
has_own own is ws = not (length ws == 0) || list_any (is_interface_of own) is

-- both have no version, or both have the same
abbrev pub is_same_version : Option (List ℕ) → Option (List ℕ) → Bool
is_same_version None None = true
is_same_version None (Some v) = false
is_same_version (Some v) None = false
is_same_version (Some v) (Some w) = bytes_eq v w

-- two packages have the same full name, the version included
abbrev pub is_same_package : PackageParts → PackageParts → Bool
is_same_package p q = bytes_eq p.namespace q.namespace && (bytes_eq p.name q.name && is_same_version p.version q.version)

-- no two of these packages have the same full name
abbrev pub are_apart : List PackageParts → Bool
are_apart [] = true
are_apart (p ∷ ps) = not (list_any (is_same_package p) ps) && are_apart ps

-- these are at most 64 packages, no two with the same full name
abbrev pub are_of_a_set : List PackageParts → Bool
are_of_a_set ps = nat_le (length ps) 64 && are_apart ps

-- The packages of these interfaces leave none out: the first is of package `next` or an earlier one, each other of a package that is at most one
-- after that of the interface before it, and each package before `last` has come. (In a table they never go back: `are_grouped`.)
abbrev pub has_each_package : ℕ → ℕ → List Interface → Bool
has_each_package last next [] = nat_le last next
has_each_package last next (i ∷ is) = nat_le i.«package».0 next && has_each_package last (i.«package».0 + 1) is

-- The packages are of a set, each but the last has an interface, and the last has an interface or a world. Worlds are of the last, and each
-- interface of another package is reached.
abbrev pub is_closed_table : List PackageParts → List Interface → List World → List Definition → Bool
is_closed_table ps is ws rows =
    has_own (own_package ps) is ws
    && (are_of_a_set ps
    && (has_each_package (own_package ps) 0 is
    && (list_all (is_world_of (own_package ps)) ws
    && are_reached (own_package ps) (reached rows ws) 0 is)))

-- the table is a closed one: its own package, its last, with the interfaces of others that it reaches
abbrev pub is_closed : Resolve → Bool
is_closed r = is_closed_table r.packages r.interfaces r.worlds r.definitions

-- a package that reaches no other
abbrev pub IsAlone : Resolve → Type 0
IsAlone r = length r.packages ≡ 1
