use Rattle.std.proofs.Common.{◌≡◌, ◌+◌, ◌<◌, ◌∙◌, [], List, ℕ, Bor, All, IfSome, IfNone, map, take, length, length-append, get_or, ap, sym, subst, arith}
use Rattle.std.specs.declared.option.Option.{Option}
use Rattle.std.specs.List.{cons_option, filter_map}
use Rattle.std.proofs.lemmas.List.{length-map}
use Rattle.wit_tokens.specs.View.{item_view}
use Rattle.wit_tokens.specs.declared.wit_syntax.ast.Item.{Item}
use Rattle.tables.specs.declared.error.ResolveError.TheVariants as error
use Rattle.tree_meaning.specs.Imports.{imports_of}
use Rattle.tree_meaning.specs.Declarations.{InterfaceTree, no_interface, interface_of, world_of}
use Rattle.tree_meaning.specs.Resolves.{HasKnownNamesOf}
use Rattle.tree_scopes.specs.Sources.{declared_tree}
use Rattle.tree_meaning.specs.Knowing.{KnowsFileEntry, LacksFileEntry, RefusesUnknown}
use Rattle.package_form.proofs.AllAndContains.{contains-map, contains-at, all-append, all-cons, all-none, map-more}
use Rattle.package_form.proofs.NamesMetOneByOne.{all-taken}
use Rattle.tree_meaning.proofs.FileEntries.{given-at, given-next, interfaces-known, worlds-known, entry-lacks}
use Rattle.tree_names.proofs.unknown.known_names.Goals as goal
use Rattle.tree_names.proofs.unknown.known_names.Goals.{in-Interface, in_default-item}

pub unknown_in_entry-requires : goal.unknown_in_entry-requires
unknown_in_entry-requires c = λ i e.
    let all = c.args.all.now in
    let xs = c.args.items.now in
    let x = c.item-item.result in
    let at = given-at interface_of item_view xs c.loop-item.item-index x i no_interface (omega arith) c.item-item.is e in
    let here = c.loop-item.invariant.place_is in (
      omega (arith, at.0, here, ap length c.requires, length-map all declared_tree),
      ap (λ (ts : List InterfaceTree). get_or ts c.loop-item.place no_interface) c.requires
          ∙ ap (λ (n : ℕ). get_or (filter_map interface_of (map item_view xs)) n no_interface) here ∙ at.1,
    )

pub returns-in-Some-clause-err : goal.returns-in-Some-clause-err
returns-in-Some-clause-err c =
    let is = map declared_tree c.args.all.now in
    let xs = c.args.items.now in
    let x = c.item-item.result in
    let there = contains-map item_view xs x (contains-at xs c.loop-item.item-index x (omega arith) c.item-item.is) in
    let lacks = subst (λ (o : Option (Bor (List ℕ))). IfSome o (λ m. LacksFileEntry (imports_of c.args.imports.now.table) is (item_view x) m.now)) c.in-Some.is c.in_ok-unknown.ensures.some in
    subst (λ (n : List ℕ). RefusesUnknown (imports_of c.args.imports.now.table) is (filter_map world_of (map item_view xs)) (error.Unknown n)) (sym c.in_ok-copy.ensures)
    (entry-lacks (imports_of c.args.imports.now.table) is (map item_view xs) (item_view x) c.in-Some.name.now (sym c.requires) there lacks)

pub returns-clause-ok : goal.returns-clause-ok
returns-clause-ok c =
    let is = map declared_tree c.args.all.now in
    let known = all-taken (λ (xs : List Item). All (KnowsFileEntry (imports_of c.args.imports.now.table) is) (map item_view xs)) c.args.items.now c.loop-item.item-index (omega arith) c.loop-item.invariant.known in
    subst (All (HasKnownNamesOf (imports_of c.args.imports.now.table) is)) (sym c.requires) (interfaces-known (imports_of c.args.imports.now.table) is (map item_view c.args.items.now) known)

pub returns-clause-worlds : goal.returns-clause-worlds
returns-clause-worlds c =
    let is = map declared_tree c.args.all.now in
    let known = all-taken (λ (xs : List Item). All (KnowsFileEntry (imports_of c.args.imports.now.table) is) (map item_view xs)) c.args.items.now c.loop-item.item-index (omega arith) c.loop-item.invariant.known in
    worlds-known (imports_of c.args.imports.now.table) is (map item_view c.args.items.now) known

pub loop-item-preserved : goal.loop-item-preserved
loop-item-preserved c =
    let P = KnowsFileEntry (imports_of c.args.imports.now.table) (map declared_tree c.args.all.now) in
    let xs = c.args.items.now in
    let k = c.loop-item.item-index in
    let x = c.item-item.result in
    let here = subst (λ (o : Option (Bor (List ℕ))). IfNone o (P (item_view x))) c.in_default.is c.in_ok-unknown.ensures.none in
    let known = subst (All P) (sym (map-more item_view xs k x (omega arith) c.item-item.is)) (all-append P _ _ c.loop-item.invariant.known (all-cons P (item_view x) [] here (all-none P))) in
    let so_far = filter_map interface_of (map item_view (take k xs)) in
    let last = cons_option (interface_of (item_view x)) [] in
    let count : length (filter_map interface_of (map item_view (take (k + 1) xs))) ≡ length so_far + length last =
    ap length (given-next interface_of item_view xs k x (omega arith) c.item-item.is) ∙ length-append so_far last in
    let before = c.loop-item.invariant.place_is in
    elim c.match-item.branch [
      | in-Interface w ↦
          let one : length (cons_option (interface_of (item_view x)) []) ≡ 1 = ap (λ (y : Item). length (cons_option (interface_of (item_view y)) [])) w.in-Interface.is in
          record { place_is = omega (arith, count, before, one, w.place-is); known = known }
      | in_default-item w ↦
          let none : length (cons_option (interface_of (item_view x)) []) ≡ 0 = ap (λ (y : Item). length (cons_option (interface_of (item_view y)) [])) w.in_default-item.is in
          record { place_is = omega (arith, count, before, none, w.place-is); known = known }
    ]

pub overflow_add-place : goal.overflow_add-place
overflow_add-place c =
    let all = c.args.all.now in
    let x = c.item-item.result in
    let at = given-at interface_of item_view c.args.items.now c.loop-item.item-index x _ no_interface (omega arith) c.item-item.is (ap (λ (y : Item). interface_of (item_view y)) c.in-Interface.is) in
    let l : c.loop-item.place < length all = omega (arith, at.0, c.loop-item.invariant.place_is, ap length c.requires, length-map all declared_tree) in
    omega (arith, l)
