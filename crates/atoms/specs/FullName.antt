-- WIT.md, "Package Names": the full name of an interface, `namespace:package/name`, and `@version` where there is one.
use Rattle.std.specs.Prelude.{◌≡◌, ◌≢◌, ◌<◌, get_or, ℕ, Bool, true, not, ◌&&◌, nat_le, List, ◌∷◌, [], ◌++◌, length, IsTrue, is_ok, Option, None, Some}
use Rattle.std.specs.List.{list_all}
use Rattle.semver.specs.Parse.{version_parts}
use Rattle.atoms.specs.Label.{is_upper, is_label}

-- the parts of a full name, in bytes: a version without its `@`, if there is one
pub record NameParts : Type 0 where
  pub namespace : List ℕ
  pub package_name : List ℕ
  pub name : List ℕ
  pub version : Option (List ℕ)

-- a label whose words are all in lower case, as namespaces and packages have them
unfoldable pub is_package_label : List ℕ → Bool
is_package_label text = is_label text && list_all (λ c. not (is_upper c)) text

-- a version of SemVer 2.0.0, of at most 255 bytes
unfoldable pub is_version : List ℕ → Bool
is_version text = nat_le (length text) 255 && is_ok (version_parts text)

-- a version of SemVer 2.0.0 of at most 255 bytes, if there is one
abbrev pub is_version_or_none : Option (List ℕ) → Bool
is_version_or_none None = true
is_version_or_none (Some text) = is_version text

-- the version behind its `@`, if there is one
abbrev pub version_suffix : Option (List ℕ) → List ℕ
version_suffix None = []
version_suffix (Some version) = 64 ∷ version

-- a full name from the interface's name on
abbrev pub name_text : NameParts → List ℕ
name_text parts = parts.name ++ version_suffix parts.version

-- a full name from the package's name on
abbrev pub package_text : NameParts → List ℕ
package_text parts = parts.package_name ++ 47 ∷ name_text parts

-- a full name whole: `namespace:package/name`, and `@version` if there is one
abbrev pub full_name_text : NameParts → List ℕ
full_name_text parts = parts.namespace ++ 58 ∷ package_text parts

-- a mark stands nowhere in the text
abbrev pub Lacks : ℕ → List ℕ → Type 0
Lacks mark text = (i : ℕ) → i < length text → get_or text i 0 ≢ mark

-- the text is this name and this version
pub record IsName (text name : List ℕ) (version : Option (List ℕ)) : Type 0 where
  pub spelt : text ≡ name ++ version_suffix version
  pub label : IsTrue (is_label name)
  pub reads : IsTrue (is_version_or_none version)

-- the text is a full name of these parts
pub record IsFullName (text : List ℕ) (parts : NameParts) : Type 0 where
  pub spelt : text ≡ full_name_text parts
  pub namespace : IsTrue (is_package_label parts.namespace)
  pub package_name : IsTrue (is_package_label parts.package_name)
  pub name : IsName (name_text parts) parts.name parts.version
