-- How much a package has, in lines: WIT.md, "Package Names", "Interfaces", "Worlds".
use Rattle.std.specs.Prelude.{ℕ, Bool, true, false, if◌then◌else◌, List, [], ◌++◌, length, drop, flat_map, codes}
use Rattle.std.specs.List.{count_by}
use Rattle.std.specs.Fmt.{decimal}
use Rattle.atoms.specs.FullName.{version_suffix}
use Rattle.tables.specs.PackageNames.{PackageParts}
use Rattle.tables.specs.declared.tables.Direction.{Direction}
use Rattle.tables.specs.declared.tables.Direction.TheVariants.{Import, Export}
use Rattle.tables.specs.declared.tables.WorldItem.{WorldItem}
use Rattle.tables.specs.declared.tables.Interface.{Interface}
use Rattle.tables.specs.declared.tables.World.{World}
use Rattle.tables.specs.declared.tables.Resolve.{Resolve}
use Rattle.package_form.specs.Closed.{own_package, is_world_of}
use Rattle.package_form.specs.Reached.{is_interface_of}

-- whether both are imports or both are exports
abbrev pub is_same : Direction → Direction → Bool
is_same Import Import = true
is_same Import Export = false
is_same Export Import = false
is_same Export Export = true

-- the line of a package's full name
abbrev pub package_line : PackageParts → List ℕ
package_line p = codes "package " ++ (p.namespace ++ (codes ":" ++ (p.name ++ (version_suffix p.version ++ codes "\n"))))

-- the line of an interface: its name, and how many used names, own types and functions it has
abbrev pub interface_line : Interface → List ℕ
interface_line i =
    codes "interface " ++ (i.name ++ (codes " uses " ++ (decimal (length i.uses) ++ (codes " types " ++ (decimal (length i.types)
    ++ (codes " funcs " ++ (decimal (length i.functions) ++ codes "\n")))))))

-- whether a world's item is an import, or an export
abbrev pub crosses : Direction → WorldItem → Bool
crosses way i = is_same way i.direction

-- the line of a world: its name, and how many imports and exports it has
abbrev pub world_line : World → List ℕ
world_line w =
    codes "world " ++ (w.name ++ (codes " imports " ++ (decimal (count_by (crosses Import) w.items) ++ (codes " exports "
    ++ (decimal (count_by (crosses Export) w.items) ++ codes "\n")))))

-- the line of an interface if it is of this package, or nothing
abbrev pub interface_shown : ℕ → Interface → List ℕ
interface_shown own i = if is_interface_of own i then interface_line i else []

-- the line of a world if it is of this package, or nothing
abbrev pub world_shown : ℕ → World → List ℕ
world_shown own w = if is_world_of own w then world_line w else []

-- the overview of a set: the lines of the last package, of its interfaces, and of its worlds, in order
abbrev pub shown : Resolve → List ℕ
shown r =
    let own = own_package r.packages in
    flat_map package_line (drop own r.packages) ++ (flat_map (interface_shown own) r.interfaces ++ flat_map (world_shown own) r.worlds)
