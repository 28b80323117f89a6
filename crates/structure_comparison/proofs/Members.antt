-- Exports that were split where the used names, the types and the functions of an interface meet.
use Rattle.std.proofs.Common.{◌∙◌, ℕ, List, ◌++◌, map, ap}
use Rattle.std.specs.List.{IsSplitAt}
use Rattle.std.proofs.lemmas.List.{map-append}
use Rattle.tables.specs.declared.tables.FunctionId.{FunctionId}
use Rattle.tables.specs.declared.tables.Interface.{Interface}
use Rattle.component_structure.specs.declared.structure.Extern.{Extern}
use Rattle.component_structure.specs.Parts.{extern_part, ExternPart}
use Rattle.structure_comparison.specs.InStep.{InStep}
use Rattle.structure_comparison.specs.Types.{SitePart, IsTypeExtern, IsFunctionExtern}
use Rattle.structure_comparison.specs.Interfaces.{HasMembers}
use Rattle.structure_comparison.proofs.ListsInStep.{in_step_map, split_parts}

pub members_of_parts : (site : SitePart) (i : Interface) (functions : List FunctionId) (read uses rest types others : List Extern) (n m : ℕ)
    → IsSplitAt read n uses rest → IsSplitAt rest m types others
    → InStep (λ id e. IsTypeExtern site id (extern_part e)) i.uses uses
    → InStep (λ id e. IsTypeExtern site id (extern_part e)) i.types types
    → InStep (λ id e. IsFunctionExtern site id (extern_part e)) functions others
    → HasMembers site i functions (map extern_part read)
members_of_parts site i functions read uses rest types others n m one two a b d = record {
  uses = map extern_part uses;
  types = map extern_part types;
  others = map extern_part others;
  in_order = ap (map extern_part) (split_parts read n uses rest one)
      ∙ (map-append extern_part uses rest
      ∙ ap (λ (es : List ExternPart). map extern_part uses ++ es) (ap (map extern_part) (split_parts rest m types others two) ∙ map-append extern_part types others));
  uses_are = in_step_map extern_part (IsTypeExtern site) i.uses uses a;
  types_are = in_step_map extern_part (IsTypeExtern site) i.types types b;
  functions_are = in_step_map extern_part (IsFunctionExtern site) functions others d;
}
