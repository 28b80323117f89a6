-- WIT.md, "Package Names": the name of a package, and the full names of its interfaces.
use Rattle.std.specs.Prelude.{ℕ, List, Option}
use Rattle.atoms.specs.FullName.{NameParts, full_name_text}

-- the full name of a package, as `namespace:name@version`; the version may be absent
pub record PackageParts : Type 0 where
  pub namespace : List ℕ
  pub name : List ℕ
  pub version : Option (List ℕ)

-- the parts of the full name of an interface of the package
abbrev pub name_parts : PackageParts → List ℕ → NameParts
name_parts p name = record { namespace = p.namespace; package_name = p.name; name = name; version = p.version }

-- the full name of an interface of the package
abbrev pub own_name : PackageParts → List ℕ → List ℕ
own_name p name = full_name_text (name_parts p name)
