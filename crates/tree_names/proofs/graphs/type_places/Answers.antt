use Rattle.std.proofs.Common.{sym, ◌∙◌, arith, refl}
use Rattle.tree_meaning.specs.Declarations.{own_types}
use Rattle.tree_scopes.specs.Sources.{declared_tree}
use Rattle.tree_names.proofs.NamesAsGraphNodes.{places-some, places-none}
use Rattle.tree_meaning.proofs.NamesFoundInLists.{none-of}
use Rattle.tree_names.proofs.graphs.type_places.Goals as goal
use Rattle.tree_names.proofs.graphs.type_places.Goals.{in-Some+in_ok-push, in_default}

pub loop-name-preserved : goal.loop-name-preserved
loop-name-preserved c =
    let names = own_types (declared_tree c.args.declared.now) in
    elim c.match-type_place.branch [
      | in-Some+in_ok-push w ↦
          let more = places-some names c.args.wanted.now c.loop-name.name-index c.name-item.result (omega arith) c.name-item.is w.in-Some.place (sym c.type_place.ensures ∙ w.in-Some.is) in
          rw (w.found-is, w.in_ok-push.ensures.items, c.loop-name.invariant, more) refl
      | in_default w ↦
          let none = none-of c.type_place.result (λ j e. w.in_default.not-Some j e) in
          let same = places-none names c.args.wanted.now c.loop-name.name-index c.name-item.result (omega arith) c.name-item.is (sym c.type_place.ensures ∙ none) in
          rw (w.found-is, c.loop-name.invariant, same) refl
    ]
