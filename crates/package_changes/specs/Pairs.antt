-- Which newer function each older one became, and what is said of it.
use Rattle.std.specs.Prelude.{◌≡◌, ◌-◌, ℕ, Bool, ◌&&◌, List, filter, length, Option, Some, None, MatchOption, slice_get}
use Rattle.std.specs.Str.{bytes_eq}
use Rattle.tables.specs.Names.{function_name, IsNamed}
use Rattle.tables.specs.PackageNames.{PackageParts, own_name}
use Rattle.tables.specs.declared.tables.FunctionId.{FunctionId}
use Rattle.tables.specs.declared.tables.Interface.{Interface}
use Rattle.tables.specs.declared.tables.Resolve.{Resolve}
use Rattle.tables.specs.declared.tables.World.{World}
use Rattle.function_index.specs.Named.{IsNamedOfWorld}
use Rattle.package_changes.specs.declared.judging.Judged.{Judged}
use Rattle.package_changes.specs.declared.places.Place.{Place}
use Rattle.package_changes.specs.declared.places.Standing.{Standing}
use Rattle.package_changes.specs.declared.places.Standing.TheVariants as standing
use Rattle.package_changes.specs.declared.verdicts.Verdict.TheVariants as verdict
use Rattle.package_changes.specs.Judging.{role_of, is_lost_by}
use Rattle.package_changes.specs.Verdicts.{labelled_function, IsVerdict}

-- the last package of a table, or none
abbrev pub last_package : Resolve → Option PackageParts
last_package r = slice_get r.packages (length r.packages - 1)

-- the last packages have one name, but for their versions
abbrev pub AreVersions : Option PackageParts → Option PackageParts → Type 0
AreVersions (Some p) (Some q) = (p.namespace ≡ q.namespace) × (p.name ≡ q.name)
AreVersions _ _ = ⊥

-- the same of two packages, as a test
abbrev pub are_of_one_name : PackageParts → PackageParts → Bool
are_of_one_name p q = bytes_eq p.namespace q.namespace && bytes_eq p.name q.name

-- the full name of an interface or a world of this label in the last package
abbrev pub new_name : Option PackageParts → List ℕ → List ℕ
new_name (Some p) label = own_name p label
new_name None label = label

-- g has this label, in the interface or world of this label in the last package, on this side
abbrev pub IsThere : Resolve → Resolve → Standing → List ℕ → FunctionId → Type 0
IsThere r s (standing.Interface i) name g = (j : Interface) × (slice_get r.interfaces i ≡ Some j) × IsNamed s (new_name (last_package s) j.name) name g
IsThere r s (standing.World w side) name g = (v : World) × (slice_get r.worlds w ≡ Some v) × IsNamedOfWorld s (new_name (last_package s) v.name) side name g

-- g is what the older function became: packages, interfaces or worlds, sides and functions have the same names, but for versions
abbrev pub IsPartner : Resolve → Resolve → Place → FunctionId → Type 0
IsPartner r s p g = AreVersions (last_package r) (last_package s) × ((name : List ℕ) × (function_name r p.function ≡ Some name) × IsThere r s p.standing name g)

-- what is said of a function of the older package is true
pub record IsJudged (r s : Resolve) (j : Judged) : Type 0 where
  pub role : j.role ≡ role_of r j.place.standing
  pub pair : MatchOption j.new ((g : FunctionId) → ¬ IsPartner r s j.place g) (IsPartner r s j.place)
  pub verdict : MatchOption j.new (j.verdict ≡ verdict.Removed) (λ g. IsVerdict j.role (labelled_function r j.place.function) (labelled_function s g) j.verdict)

-- a host does without the function as it was
abbrev pub is_lost : Judged → Bool
is_lost j = is_lost_by j.verdict j.role

-- how many functions a host that was built for the older package can't deal with any more
abbrev pub lost : List Judged → ℕ
lost js = length (filter is_lost js)
