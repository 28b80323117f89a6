-- Imports and exports of a component type that were split where interfaces and functions meet.
use Rattle.std.proofs.Common.{◌≡◌, ◌∙◌, ℕ, List, ◌++◌, map, ap, sym, true}
use Rattle.std.specs.List.{IsSplitAt}
use Rattle.std.proofs.lemmas.List.{map-append}
use Rattle.tables.specs.declared.tables.Direction.TheVariants.{Import, Export}
use Rattle.tables.specs.declared.tables.InterfaceId.{InterfaceId}
use Rattle.tables.specs.declared.tables.Resolve.{Resolve}
use Rattle.tables.specs.declared.tables.World.{World}
use Rattle.component_structure.specs.declared.structure.Extern.{Extern}
use Rattle.component_structure.specs.declared.structure.Scope.{Scope}
use Rattle.component_structure.specs.Parts.{Parts, ExternPart, extern_part, scope_view}
use Rattle.structure_comparison.specs.InStep.{InStep}
use Rattle.structure_comparison.specs.Interfaces.{IsInterfaceExtern}
use Rattle.structure_comparison.specs.Worlds.{HasFunctions, functions_that, HasItems}
use Rattle.structure_comparison.proofs.ListsInStep.{split_parts}

-- what was split, seen by a view
pub parts_seen : {A B : Type 0} (v : A → B) (xs : List A) (mid : ℕ) (front back : List A) → IsSplitAt xs mid front back → map v xs ≡ map v front ++ map v back
parts_seen v xs mid front back s = ap (map v) (split_parts xs mid front back s) ∙ map-append v front back

pub items_of_parts : (r : Resolve) (parts : Parts) (w : World) (imports exports : List InterfaceId) (scope : Scope) (read a x b y c d : List Extern) (n m k : ℕ)
    → read ≡ scope.externs.items → IsSplitAt read n a x → IsSplitAt x m b y → IsSplitAt y k c d
    → InStep (IsInterfaceExtern r parts Import true) imports (map extern_part a)
    → HasFunctions r parts Import scope.number (functions_that Import w.items) (map extern_part b)
    → HasFunctions r parts Export scope.number (functions_that Export w.items) (map extern_part c)
    → InStep (IsInterfaceExtern r parts Export true) exports (map extern_part d)
    → HasItems r parts w imports exports (scope_view scope)
items_of_parts r parts w imports exports scope read a x b y c d n m k whole one two three ia fb fc ed = record {
  imported = map extern_part a;
  imported_functions = map extern_part b;
  exported_functions = map extern_part c;
  exported = map extern_part d;
  in_order = ap (map extern_part) (sym whole) ∙ (parts_seen extern_part read n a x one
      ∙ ap (λ (es : List ExternPart). map extern_part a ++ es) (parts_seen extern_part x m b y two
      ∙ ap (λ (es : List ExternPart). map extern_part b ++ es) (parts_seen extern_part y k c d three)));
  imported_are = ia;
  imported_functions_are = fb;
  exported_functions_are = fc;
  exported_are = ed;
}
