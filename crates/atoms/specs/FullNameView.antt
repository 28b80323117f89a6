-- The parts of a `FullName`.
use Rattle.std.specs.Option.{option_map}
use Rattle.std.specs.String.{string_bytes}
use Rattle.atoms.specs.FullName.{NameParts}
use Rattle.atoms.specs.declared.full_name.FullName.{FullName}

-- the parts of a full name as bytes
abbrev pub name_parts_of : FullName → NameParts
name_parts_of n = record { namespace = n.namespace; package_name = n.«package»; name = n.name; version = option_map string_bytes n.version }
