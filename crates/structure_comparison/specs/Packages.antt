-- What a package of a table is written as: a component that exports each interface, with those that it uses, and each world.
use Rattle.std.specs.Prelude.{◌≡◌, ◌==◌, ℕ, ◌+◌, ◌++◌, List, [], ◌∷◌, Bool, true, false, slice_get, All, if◌then◌else◌}
use Rattle.tables.specs.declared.tables.PackageId.{PackageId}
use Rattle.tables.specs.declared.tables.Interface.{Interface}
use Rattle.tables.specs.declared.tables.InterfaceId.{InterfaceId}
use Rattle.tables.specs.declared.tables.Direction.TheVariants.{Import, Export}
use Rattle.tables.specs.declared.tables.World.{World}
use Rattle.tables.specs.declared.tables.Resolve.{Resolve}
use Rattle.component_structure.specs.declared.structure.Exported.{Exported}
use Rattle.component_structure.specs.Parts.{Parts, ScopePart, ExternPart}
use Rattle.structure_comparison.specs.InStep.{InStep, IsThere}
use Rattle.structure_comparison.specs.Interfaces.{IsInterfaceExtern}
use Rattle.structure_comparison.specs.Worlds.{IsUsedByOne, IsWorldExport}

-- the places of those items that pass, of which the first stands at this place
abbrev pub places_where : {X : Type 0} → (X → Bool) → ℕ → List X → List ℕ
places_where passes n [] = []
places_where passes n (x ∷ xs) = if passes x then n ∷ places_where passes (n + 1) xs else places_where passes (n + 1) xs

-- the places of a package's interfaces
abbrev pub interfaces_of : Resolve → PackageId → List ℕ
interfaces_of r p = places_where (λ (i : Interface). i.«package».0 == p.0) 0 r.interfaces

-- the places of a package's worlds
abbrev pub worlds_of : Resolve → PackageId → List ℕ
worlds_of r p = places_where (λ (w : World). w.«package».0 == p.0) 0 r.worlds

-- the scope imports interfaces without their functions, each of which is used by one of the others, and exports this one whole
pub record HoldsInterface (r : Resolve) (parts : Parts) (id : InterfaceId) (scope : ScopePart) : Type 0 where
  pub used : List InterfaceId
  pub imported : List ExternPart
  pub own : ExternPart
  pub in_order : scope.externs ≡ imported ++ own ∷ []
  pub imported_are : InStep (IsInterfaceExtern r parts Import false) used imported
  pub own_is : IsInterfaceExtern r parts Export true id own
  pub needed : All (IsUsedByOne r (used ++ id ∷ [])) used

-- an export of a file, of a scope that holds the interface at this place, under the interface's label
abbrev pub IsInterfaceExport : Resolve → Parts → ℕ → Exported → Type 0
IsInterfaceExport r parts n e = IsThere (λ (i : Interface). e.name ≡ i.name) (slice_get r.interfaces n) × IsThere (HoldsInterface r parts (record { 0 = n })) (slice_get parts.scopes e.scope.0)

-- an export of a file that is the world at this place
abbrev pub IsWorldExportAt : Resolve → Parts → ℕ → Exported → Type 0
IsWorldExportAt r parts n e = IsThere (λ (w : World). IsWorldExport r parts w e) (slice_get r.worlds n)

-- what a file has is this package of the table: its interfaces, and then its worlds
pub record HasPackage (r : Resolve) (p : PackageId) (parts : Parts) : Type 0 where
  pub plain : parts.is_world ≡ false
  pub interfaces : List Exported
  pub worlds : List Exported
  pub in_order : parts.exports ≡ interfaces ++ worlds
  pub interfaces_are : InStep (IsInterfaceExport r parts) (interfaces_of r p) interfaces
  pub worlds_are : InStep (IsWorldExportAt r parts) (worlds_of r p) worlds
