-- Packages that are the same are one: what a package's table has besides its lists are facts, each of which has one proof. That they are the same is
-- a fact as well.
use Rattle.std.proofs.Common.{◌≡◌, List, length, IsTrue}
use Rattle.std.specs.Prelude.{Bool, true}
use Rattle.std.proofs.Math.Bool.{Bool-set}
use Rattle.std.proofs.Math.Path.{PathP, to_path_p}
use Rattle.std.proofs.Props.{props}
use Rattle.tables.specs.Tables.{are_earlier, name_types, are_standard, are_placed, are_grouped, are_worlds_grouped, are_placed_worlds}
use Rattle.tables.specs.Same.{IsSamePackage}
use Rattle.tables.specs.PackageNames.{PackageParts}
use Rattle.tables.specs.declared.tables.ValType.{ValType}
use Rattle.tables.specs.declared.tables.TypeDefKind.{TypeDefKind}
use Rattle.tables.specs.declared.tables.Definition.{Definition}
use Rattle.tables.specs.declared.tables.Interface.{Interface}
use Rattle.tables.specs.declared.tables.World.{World}
use Rattle.tables.specs.declared.tables.Resolve.{Resolve}

-- a test along a path is met in one way
met : (b : 𝕀 → Bool) (x : IsTrue (b 0)) (y : IsTrue (b 1)) → PathP (λ j. IsTrue (b j)) x y
met b x y = to_path_p (λ j. IsTrue (b j)) (Bool-set (b 1) true (coe 0 1 (j. IsTrue (b j)) x) y)

pub same-tables : (a b : Resolve) → IsSamePackage a b → a ≡ b
same-tables a b e = λ j. record {
  packages = e.packages j;
  interfaces = e.interfaces j;
  worlds = e.worlds j;
  definitions = e.definitions j;
  earlier = met (λ k. are_earlier 0 (e.definitions k)) a.earlier b.earlier j;
  typed = met (λ k. name_types (e.definitions k)) a.typed b.typed j;
  standard = met (λ k. are_standard (e.definitions k)) a.standard b.standard j;
  placed = met (λ k. are_placed (e.definitions k) (e.interfaces k)) a.placed b.placed j;
  grouped = met (λ k. are_grouped (length (e.packages k)) 0 (e.interfaces k)) a.grouped b.grouped j;
  worlds_grouped = met (λ k. are_worlds_grouped (length (e.packages k)) 0 (e.worlds k)) a.worlds_grouped b.worlds_grouped j;
  worlds_placed = met (λ k. are_placed_worlds (e.definitions k) (length (e.interfaces k)) 0 (e.worlds k)) a.worlds_placed b.worlds_placed j;
}

-- ---- as a fact

val-set : IsSet ValType
val-set = hlevel props

kind-set : IsSet TypeDefKind
kind-set = hlevel (props, val-set)

packages-set : IsSet (List PackageParts)
packages-set = hlevel props

rows-set : IsSet (List Definition)
rows-set = hlevel (props, val-set, kind-set)

interfaces-set : IsSet (List Interface)
interfaces-set = hlevel props

worlds-set : IsSet (List World)
worlds-set = hlevel props

pub same-is-prop : (a b : Resolve) → IsProp (IsSamePackage a b)
same-is-prop a b = hlevel (packages-set, rows-set, interfaces-set, worlds-set)
