-- The names of exports, by their parts.
use Rattle.std.specs.Prelude.{◌≡◌, List, ℕ, true, false}
use Rattle.std.specs.Option.{option_map}
use Rattle.std.specs.String.{string_bytes}
use Rattle.atoms.specs.Label.{is_label}
use Rattle.atoms.specs.FullName.{NameParts as Parts, IsFullName}
use Rattle.tables.specs.PackageNames.{PackageParts}
use Rattle.component_reader.specs.declared.names.FullNameParts.{FullNameParts}
use Rattle.component_reader.specs.declared.names.NameParts.{NameParts}
use Rattle.component_reader.specs.declared.names.NameParts.TheVariants as name

-- the parts of a full name as bytes
abbrev pub parts_view : FullNameParts → Parts
parts_view p = record { namespace = p.namespace.now; package_name = p.«package».now; name = p.name.now; version = option_map string_bytes p.version.now }

-- the name of the package in a full name of these parts
abbrev pub package_parts : Parts → PackageParts
package_parts p = record { namespace = p.namespace; name = p.package_name; version = p.version }

-- the text is this label, or a full name of these parts
abbrev pub IsExternName : List ℕ → NameParts → Type 0
IsExternName text (name.Label l) = (is_label text ≡ true) × (l.now ≡ text)
IsExternName text (name.FullName p) = (is_label text ≡ false) × IsFullName text (parts_view p)
