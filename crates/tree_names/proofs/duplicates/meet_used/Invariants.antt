use Rattle.std.proofs.Common.{◌++◌, List, ℕ, map, take}
use Rattle.wit_tokens.specs.View.{used_view}
use Rattle.tree_meaning.specs.Declarations.{local_name}
use Rattle.package_form.specs.Distinct.{AreMet}
use Rattle.tree_names.proofs.duplicates.meet_used.Given as goal

abbrev pub invariant-loop-name : goal.invariant-loop-name
invariant-loop-name l = (ns : List (List ℕ)) → AreMet ns l.initial.scope → AreMet (ns ++ map local_name (map used_view (take l.name-index l.names))) l.scope
