use Rattle.std.proofs.Common.{◌≡◌, ℕ, ◌<◌, ◌+◌, ◌-◌, List, IsTrue, map, drop, length, get_or, ap, sym, subst, ◌∙◌, arith}
use Rattle.ctype_format.specs.View.{decl_view}
use Rattle.tables.proofs.NamesEarlierTypes.{grouped-at}
use Rattle.tables.specs.declared.tables.Interface.{Interface}
use Rattle.package_form.specs.Ends.{is_parted}
use Rattle.wit_component.proofs.InterfacesPassed.{interface-passed, interface-parted, length-take-le}
use Rattle.wit_component.proofs.PartsInTurn.{behind-part, other-part}
use Rattle.wit_component.proofs.WorldsWritten.{next-of}
use Rattle.wit_component.proofs.WorldItemsStandInOrder.{parted-within}
use Rattle.wit_component.proofs.comparison.behind_interfaces.Goals as goal

pub interface_declarations-requires-clause-placed : goal.interface_declarations-requires-clause-placed
interface_declarations-requires-clause-placed c =
    let r = c.args.resolve.now in
    let i = c.interface-item.result in
    let same = c.as_slice-interface-items.ensures in
    grouped-at (length r.packages) 0 r.interfaces c.loop-interface.interface-index i r.grouped
    (omega (arith, c.loop-interface-test.true, ap length same))
    (ap (λ (is : List Interface). get_or is c.loop-interface.interface-index i) (sym same) ∙ sym c.interface-item.is)

pub returns-in_default-clause-none : goal.returns-in_default-clause-none
returns-in_default-clause-none c =
    let r = c.args.resolve.now in
    let i = c.interface-item.result in
    let k = c.loop-interface.interface-index in
    let at = c.loop-interface.place in
    let start = c.loop-interface.start in
    let same = c.as_slice-interface-items.ensures in
    let low : k < length r.interfaces = omega (arith, c.loop-interface-test.true, ap length same) in
    let here : i ≡ get_or r.interfaces k i = c.interface-item.is ∙ ap (λ (is : List Interface). get_or is k i) same in
    let next = next-of r.interfaces k i low here in
    let passed = interface-passed r at c.in_ok-part.next start c.end_of-end.result k i (map decl_view c.as_slice.result.now) c.as_slice-rows.result.now next c.as_slice-rows.ensures c.end_of-end.ensures
    (ap (map decl_view) c.as_slice.ensures.value ∙ c.in_ok-part.ensures.declarations) c.in_ok-part.ensures.place in
    other-part _ _ _ _ _ _ passed.declared c.loop-interface.invariant.left c.in_default.ensures.none

pub loop-interface-preserved : goal.loop-interface-preserved
loop-interface-preserved c =
    let r = c.args.resolve.now in
    let i = c.interface-item.result in
    let k = c.loop-interface.interface-index in
    let at = c.loop-interface.place in
    let start = c.loop-interface.start in
    let same = c.as_slice-interface-items.ensures in
    let low : k < length r.interfaces = omega (arith, c.loop-interface-test.true, ap length same) in
    let here : i ≡ get_or r.interfaces k i = c.interface-item.is ∙ ap (λ (is : List Interface). get_or is k i) same in
    let next = next-of r.interfaces k i low here in
    let passed = interface-passed r at c.in_ok-part.next start c.end_of-end.result k i (map decl_view c.as_slice.result.now) c.as_slice-rows.result.now next c.as_slice-rows.ensures c.end_of-end.ensures
    (ap (map decl_view) c.as_slice.ensures.value ∙ c.in_ok-part.ensures.declarations) c.in_ok-part.ensures.place in
    let inv = c.loop-interface.invariant in
    let parted = interface-parted (length r.definitions) start i (drop (k + 1) r.interfaces) r.worlds (subst (λ (is : List Interface). IsTrue (is_parted (length r.definitions) start is r.worlds)) next inv.parted) in
    let few = length-take-le (c.end_of-end.result - start) (drop start c.as_slice-rows.result.now) in
    record {
      left = behind-part _ _ _ _ _ _ passed.declared inv.left _ c.in-Some.ensures.some;
      front = passed.front ∙ inv.front;
      parted = ap (λ (e : ℕ). is_parted (length r.definitions) e (drop (k + 1) r.interfaces) r.worlds) c.end_of-end.ensures ∙ parted.1;
      types = omega (arith, inv.types, c.in_ok-part.ensures.few, few, parted.0, c.end_of-end.ensures);
      labelled = passed.labels c.in_ok-part.ensures.label c.in_ok-part.ensures.labelled ∙ inv.labelled;
    }

pub returns-clause-few : goal.returns-clause-few
returns-clause-few c =
    let r = c.args.resolve.now in
    let inv = c.loop-interface.invariant in
    let within = parted-within (length r.definitions) c.loop-interface.start (drop c.loop-interface.interface-index r.interfaces) r.worlds inv.parted in
    omega (arith, within, inv.types, c.requires.rows, c.requires.interfaces, c.loop-interface.auto.interface-index-end, ap length c.as_slice-interface-items.ensures)
