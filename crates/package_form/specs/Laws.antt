-- What holds of every package in form whose names differ in each of their scopes.
use Rattle.std.specs.Prelude.{◌≡◌, ℕ, List, [], All}
use Rattle.atoms.specs.Label.{IsLabel}
use Rattle.tables.specs.Names.{IsNamed}
use Rattle.tables.specs.Package.{HasDistinctTypes, IsClosedByNames, interface_names}
use Rattle.tables.specs.declared.tables.FunctionId.{FunctionId}
use Rattle.tables.specs.declared.tables.Interface.{Interface}
use Rattle.tables.specs.declared.tables.Resolve.{Resolve}
use Rattle.package_form.specs.Scope.{AreDistinct}
use Rattle.package_form.specs.Form.{IsInPackageForm}
use Rattle.package_form.specs.Naming.{package_scopes}

-- the interface's name is a label of WIT.md, a name in kebab case
abbrev pub IsLabelled : Interface → Type 0
IsLabelled i = IsLabel i.name

-- no two functions have the same interface's full name and the same name
abbrev pub HasOneOfEachName : Resolve → Type 0
HasOneOfEachName r = (iface name : List ℕ) (f g : FunctionId) → IsNamed r iface name f → IsNamed r iface name g → f ≡ g

-- in a package in form with distinct names, an interface's and a function's name mean at most one function
abbrev pub NamesOneFunction : Resolve → Type 0
NamesOneFunction r = IsInPackageForm r → All AreDistinct (package_scopes r) → HasOneOfEachName r

-- in a package in form with distinct names, no two types of one interface have the same name
abbrev pub NamesTypesApart : Resolve → Type 0
NamesTypesApart r = IsInPackageForm r → All AreDistinct (package_scopes r) → HasDistinctTypes (interface_names r) r.definitions []

-- in a package in form with distinct names, the closed types are what the names of types unfold to
abbrev pub ClosesByNames : Resolve → Type 0
ClosesByNames r = IsInPackageForm r → All AreDistinct (package_scopes r) → IsClosedByNames r
