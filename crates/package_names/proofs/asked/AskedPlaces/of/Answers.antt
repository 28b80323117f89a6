use Rattle.std.proofs.Common.{◌<◌, ◌∙◌, ◌+◌, List, length, take, get_or, ap, sym, subst, arith}
use Rattle.tables.specs.declared.tables.Interface.{Interface}
use Rattle.package_names.specs.Asked.{IsIndexOfAsked}
use Rattle.package_names.proofs.NamesAskedOfPackages.{one-more-asked, none-more}
use Rattle.package_names.proofs.InterfacesIndexedByName.{within-packages}
use Rattle.package_names.proofs.asked.AskedPlaces.of.Goals as goal
use Rattle.package_names.proofs.asked.AskedPlaces.of.Goals.{then-has+in_ok-put_interface, else-has}

pub put_interface-requires-clause-within : goal.put_interface-requires-clause-within
put_interface-requires-clause-within c =
    let r = c.args.table.now in
    let x = c.index-interfaces-place.result in
    let k = c.loop-place.place in
    let same = c.as_slice-interfaces.ensures in
    let l : k < length r.interfaces = omega (arith, ap length same) in
    let within = within-packages r k x l (c.index-interfaces-place.is ∙ ap (λ (is : List Interface). get_or is k x) same) in
    omega (arith, within, ap length c.as_slice-packages.ensures)

pub loop-place-preserved : goal.loop-place-preserved
loop-place-preserved c =
    let ps = c.as_slice-packages.result.now in
    let is = c.as_slice-interfaces.result.now in
    let asked = c.args.asked.now in
    let k = c.loop-place.place in
    let x = c.index-interfaces-place.result in
    let old = c.loop-place.names.items in
    elim c.if-has.branch [
      | then-has+in_ok-put_interface w ↦
          subst (IsIndexOfAsked ps (take (k + 1) is) asked) (sym (ap (λ v. v.items) w.names-is))
          (one-more-asked ps is asked k x c.loop-place-test.true c.index-interfaces-place.is old w.put_interface.new.names.items (sym c.has.ensures ∙ w.if-has.true) c.loop-place.invariant
          w.in_ok-put_interface.ensures.count w.in_ok-put_interface.ensures.put)
      | else-has w ↦
          subst (IsIndexOfAsked ps (take (k + 1) is) asked) (sym (ap (λ v. v.items) w.names-is))
          (none-more ps is asked k x c.loop-place-test.true c.index-interfaces-place.is old (sym c.has.ensures ∙ w.if-has.false) c.loop-place.invariant)
    ]
