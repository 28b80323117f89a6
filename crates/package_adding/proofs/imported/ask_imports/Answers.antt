use Rattle.std.proofs.Common.{◌≡◌, ◌<◌, ◌∙◌, ◌+◌, ◌&&◌, ◌||◌, Bool, false, List, ℕ, length, get_or, take, ap, sym, subst, arith}
use Rattle.package_form.proofs.NamesMetOneByOne.{all-taken}
use Rattle.package_sets.specs.Joining.{imports}
use Rattle.tables.specs.declared.tables.Interface.{Interface}
use Rattle.package_adding.specs.ImportNames.{import_names, marked_names}
use Rattle.package_adding.specs.Asked.{also, AreAsked}
use Rattle.package_adding.proofs.OwnPartNamesOfSet.{any-more}
use Rattle.package_adding.proofs.NamesAskedOfSets.{asked-as, asked-then, asked-else, or-assoc}
use Rattle.package_adding.proofs.imported.ask_imports.Goals as goal
use Rattle.package_adding.proofs.imported.ask_imports.Goals.{then-reached-place+in_ok-ask_import, else-reached-place}

pub loop-place-preserved : goal.loop-place-preserved
loop-place-preserved c = λ names asks.
    let set = c.args.set.now in
    let closed = c.args.closed.now in
    let bs = c.args.reached.now in
    let xs = imports closed in
    let k = c.loop-place.place in
    let x = c.import-item.result in
    let same = c.imports-import-items.ensures in
    let l : k < length xs = omega (arith, c.loop-place-test.true, ap length same) in
    let e : x ≡ get_or xs k x = c.import-item.is ∙ ap (λ (is : List Interface). get_or is k x) same in
    let so_far = marked_names closed bs (take k xs) in
    let step : (m : List (List (List ℕ))) → AreAsked set (also (also names so_far) (λ q i. get_or bs k false && import_names closed x q i)) m → AreAsked set (also names (marked_names closed bs (take (k + 1) xs))) m =
    λ m h. asked-as set (also (also names so_far) (λ q i. get_or bs k false && import_names closed x q i)) (also names (marked_names closed bs (take (k + 1) xs))) m
    (λ q i. or-assoc (names q i) (so_far q i) (get_or bs k false && import_names closed x q i)
    ∙ ap (λ (b : Bool). names q i || b) (sym (any-more (λ (y : Interface). import_names closed y q i) bs xs k x l e))) h in
    elim c.if-reached-place.branch [
      | then-reached-place+in_ok-ask_import w ↦
          subst (AreAsked set (also names (marked_names closed bs (take (k + 1) xs)))) (sym w.asked-is)
          (step w.ask_import.new.asked (asked-then set (also names so_far) (import_names closed x) (get_or bs k false) w.ask_import.new.asked w.if-reached-place.true
          (w.in_ok-ask_import.ensures (also names so_far) (c.loop-place.invariant names asks))))
      | else-reached-place w ↦
          subst (AreAsked set (also names (marked_names closed bs (take (k + 1) xs)))) (sym w.asked-is)
          (step c.loop-place.asked (asked-else set (also names so_far) (import_names closed x) (get_or bs k false) c.loop-place.asked w.if-reached-place.false (c.loop-place.invariant names asks)))
    ]

pub returns : goal.returns
returns c = λ names asks.
    all-taken (λ (is : List Interface). AreAsked c.args.set.now (also names (marked_names c.args.closed.now c.args.reached.now is)) c.loop-place.asked) (imports c.args.closed.now) c.loop-place.place
    (omega (arith, c.loop-place-test.false, ap length c.imports-import-items.ensures)) (c.loop-place.invariant names asks)
