use Rattle.std.proofs.Common.{◌≡◌, ◌+◌, ◌++◌, ◌∷◌, ◌∙◌, [], Option, Some, map, take, length, ap, arith, append-nil}
use Rattle.std.specs.List.{cons_option, filter_map}
use Rattle.std.proofs.lemmas.List.{map-append}
use Rattle.wit_tokens.specs.View.{item_view}
use Rattle.wit_tokens.specs.declared.wit_syntax.ast.Item.{Item}
use Rattle.tree_meaning.specs.Declarations.{WorldTree, world_of}
use Rattle.tree_meaning.specs.Resolved.{meaning_of_world}
use Rattle.tree_meaning.specs.Resolves.{IsKnownWorldOf}
use Rattle.tree_scopes.specs.Sources.{declared_world}
use Rattle.package_form.proofs.AllAndContains.{all-contained, contains-map, contains-at}
use Rattle.tree_meaning.proofs.FileEntries.{found, given-next}
use Rattle.tree_rows.proofs.DefinedWorlds.{worlds-none, worlds-more}
use Rattle.tree_rows.proofs.worlds.define_worlds.Goals as goal
use Rattle.tree_meaning.specs.Imports.{imports_of}
use Rattle.tree_rows.proofs.worlds.define_worlds.Goals.{in-World+in_ok-id+in_ok-world+in_ok-push, in_default}

pub loop-item-init : goal.loop-item-init
loop-item-init c = rw c.new-worlds.ensures.items (worlds-none (length c.args.plan.now.imports.now.packages) c.args.builder.now)

pub define_world-requires-clause-known : goal.define_world-requires-clause-known
define_world-requires-clause-known c =
    let xs = c.args.items.now in
    let x = c.item-item.result in
    let w = declared_world c.in-World.world in
    let here = contains-map item_view xs x (contains-at xs c.loop-item.item-index x (omega arith) c.item-item.is) in
    let there = found world_of (map item_view xs) (item_view x) w here (ap (λ (y : Item). world_of (item_view y)) c.in-World.is) in
    all-contained (IsKnownWorldOf (imports_of c.args.plan.now.imports.now) c.args.plan.now.names.now) (filter_map world_of (map item_view xs)) w c.requires.known there

pub loop-item-preserved : goal.loop-item-preserved
loop-item-preserved c =
    let xs = c.args.items.now in
    let k = c.loop-item.item-index in
    let x = c.item-item.result in
    let before = filter_map world_of (map item_view (take k xs)) in
    let next : filter_map world_of (map item_view (take (k + 1) xs)) ≡ before ++ cons_option (world_of (item_view x)) [] = given-next world_of item_view xs k x (omega arith) c.item-item.is in
    elim c.match-item.branch [
      | in-World+in_ok-id+in_ok-world+in_ok-push w ↦
          let tree = declared_world w.in-World.world in
          let is : world_of (item_view x) ≡ Some tree = ap (λ (y : Item). world_of (item_view y)) w.in-World.is in
          let named : map meaning_of_world (filter_map world_of (map item_view (take (k + 1) xs))) ≡ map meaning_of_world before ++ meaning_of_world tree ∷ [] =
          ap (map meaning_of_world) (next ∙ ap (λ (o : Option WorldTree). before ++ cons_option o []) is) ∙ map-append meaning_of_world before (tree ∷ []) in
          let more = worlds-more (length c.args.plan.now.imports.now.packages) c.args.builder.now c.loop-item.builder w.define_world.new.builder c.loop-item.worlds.items (map meaning_of_world before) w.in_ok-id.id.0 w.in_ok-world.world (meaning_of_world tree)
          (omega (arith, w.in_ok-id.ensures.ok, w.len.ensures, c.loop-item.worlds.ok.0)) c.loop-item.invariant w.in_ok-world.ensures in
          rw (w.builder-is, w.worlds-is, w.in_ok-push.ensures.items, named) more
      | in_default w ↦
          let none : filter_map world_of (map item_view (take (k + 1) xs)) ≡ before =
          next ∙ ap (λ (y : Item). before ++ cons_option (world_of (item_view y)) []) w.in_default.is ∙ append-nil before in
          rw (w.builder-is, w.worlds-is, none) c.loop-item.invariant
    ]
