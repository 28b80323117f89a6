-- WIT.md, "Package Names": what full names are made of.
use Rattle.std.specs.Prelude.{Bool, true, ◌&&◌}
use Rattle.std.specs.List.{list_all}
use Rattle.atoms.specs.Label.{is_label}
use Rattle.atoms.specs.FullName.{is_package_label, is_version_or_none}
use Rattle.wit_tokens.specs.Syntax.{FileEntry, AnInterface, AWorld, File}

-- the name of an interface is a label; a world's may be any
abbrev pub has_label : FileEntry → Bool
has_label (AnInterface n es) = is_label n
has_label (AWorld at n es) = true

-- the namespace and the package are labels in lower case, the version is one of SemVer, and interfaces have labels
abbrev pub file_has_full_names : File → Bool
file_has_full_names f = is_package_label f.namespace && (is_package_label f.name && (is_version_or_none f.version && list_all has_label f.entries))
