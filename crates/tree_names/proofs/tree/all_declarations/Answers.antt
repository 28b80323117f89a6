use Rattle.std.proofs.Common.{◌++◌, [], Vec, Global, map, take, ap, sym, ◌∙◌, arith, append-nil}
use Rattle.std.specs.List.{cons_option, filter_map}
use Rattle.wit_tokens.specs.View.{item_view}
use Rattle.wit_tokens.specs.declared.wit_syntax.ast.Item.{Item}
use Rattle.tree_meaning.specs.Declarations.{interface_of}
use Rattle.tree_scopes.specs.Sources.{declared_tree}
use Rattle.tree_scopes.specs.declared.declared.Declarations.{Declarations}
use Rattle.tree_meaning.proofs.FileEntries.{given-next}
use Rattle.tree_scopes.proofs.DeclaredTrees.{declared-more}
use Rattle.tree_names.proofs.tree.all_declarations.Goals as goal
use Rattle.tree_names.proofs.tree.all_declarations.Goals.{in-Interface+in_ok-of+in_ok-push, in_default}

pub loop-item-preserved : goal.loop-item-preserved
loop-item-preserved c =
    let k = c.loop-item.item-index in
    let x = c.item-item.result in
    let before = filter_map interface_of (map item_view (take k c.args.items.now)) in
    let more = given-next interface_of item_view c.args.items.now k x (omega arith) c.item-item.is in
    elim c.match-item.branch [
      | in-Interface+in_ok-of+in_ok-push w ↦
          declared-more c.match-item.all.items c.loop-item.all.items _ _ before _ (ap (λ (v : Vec Declarations Global). v.items) w.all-is ∙ w.in_ok-push.ensures.items) c.loop-item.invariant w.in_ok-of.ensures
          (more ∙ ap (λ (y : Item). before ++ cons_option (interface_of (item_view y)) []) w.in-Interface.is)
      | in_default w ↦
          ap (λ (v : Vec Declarations Global). map declared_tree v.items) w.all-is ∙ c.loop-item.invariant
          ∙ sym (more ∙ ap (λ (y : Item). before ++ cons_option (interface_of (item_view y)) []) w.in_default.is ∙ append-nil before)
    ]
