use Rattle.std.proofs.Common.{◌≡◌, ◌++◌, ◌∷◌, [], List, ℕ, Option, None, Some, map, take, ap, sym, ◌∙◌, arith, append_assoc, append-nil}
use Rattle.std.specs.List.{cons_option, filter_map}
use Rattle.std.proofs.lemmas.List.{map-append}
use Rattle.wit_tokens.specs.View.{path_view}
use Rattle.wit_tokens.specs.declared.wit_syntax.ast.Path.{Path}
use Rattle.tree_meaning.specs.Declarations.{own_use, own_interface, path_package, path_interface}
use Rattle.tree_scopes.specs.Lent.{lent_names, lent_name, used_item_of}
use Rattle.tree_meaning.proofs.FileEntries.{given-next}
use Rattle.tree_meaning.proofs.OwnUsedNames.{not-local}
use Rattle.tree_names.proofs.graphs.push_interfaces.Goals as goal
use Rattle.tree_names.proofs.graphs.push_interfaces.Goals.{in-Local+in_ok-push, in_default}

pub loop-used-preserved : goal.loop-used-preserved
loop-used-preserved c =
    let xs = c.args.uses.now in
    let k = c.loop-used.used-index in
    let x = c.used-item.result in
    let before = filter_map own_use (map used_item_of (take k xs)) in
    let next = given-next own_use used_item_of xs k x (omega arith) c.used-item.is in
    let own : Path → Option (List ℕ) = λ q. own_interface (path_package (path_view q)) (path_interface (path_view q)) in
    elim c.match-used.branch [
      | in-Local+in_ok-push w ↦
          let is : own_use (used_item_of x) ≡ Some w.in-Local.interface = ap own w.in-Local.is in
          ap (λ v. lent_names v.items) w.names-is ∙ ap lent_names w.in_ok-push.ensures.items ∙ map-append lent_name c.loop-used.names.items _
          ∙ ap (λ (ns : List (List ℕ)). ns ++ w.in-Local.interface ∷ []) c.loop-used.invariant ∙ append_assoc (lent_names c.args.names.now.items) before (w.in-Local.interface ∷ [])
          ∙ ap (λ (ns : List (List ℕ)). lent_names c.args.names.now.items ++ ns) (sym (next ∙ ap (λ (o : Option (List ℕ)). before ++ cons_option o []) is))
      | in_default w ↦
          let is : own_use (used_item_of x) ≡ None = not-local x.path.now (λ n e. w.in_default.not-Local n e) in
          ap (λ v. lent_names v.items) w.names-is ∙ c.loop-used.invariant
          ∙ ap (λ (ns : List (List ℕ)). lent_names c.args.names.now.items ++ ns) (sym (next ∙ ap (λ (o : Option (List ℕ)). before ++ cons_option o []) is ∙ append-nil before))
    ]
