use Rattle.std.proofs.Common.{◌≡◌, ◌∙◌, ◌+◌, Some, ap, sym, subst, arith, slice_get}
use Rattle.std.proofs.lemmas.Option.{slice_get-get_or, slice_get_within}
use Rattle.package_names.specs.Indexed.{key_parts}
use Rattle.package_names.proofs.NamesAskedOfPackages.{AreAskedFor, one-asked, none-more-asked}
use Rattle.package_names.proofs.asked.Asked.ask.Goals as goal
use Rattle.package_names.proofs.asked.Asked.ask.Goals.{then-is_of+in_ok-push, else-is_of}

pub loop-place-preserved : goal.loop-place-preserved
loop-place-preserved c =
    let key = key_parts c.args.key in
    let name = c.args.name.now in
    let ps = c.args.packages.now in
    let old = c.args.self.now in
    let n = c.loop-place.place in
    let x = c.index-packages-place.result in
    let at : slice_get ps n ≡ Some x = slice_get-get_or ps n x c.loop-place-test.true ∙ ap Some (sym c.index-packages-place.is) in
    elim c.if-is_of.branch [
      | then-is_of+in_ok-push w ↦
          subst (AreAskedFor key name ps (n + 1) old) (sym (w.self-is ∙ w.in_ok-push.ensures))
          (one-asked key name ps old n x c.loop-place.self at (sym c.is_of.ensures ∙ w.if-is_of.true) c.loop-place.invariant)
      | else-is_of w ↦ subst (AreAskedFor key name ps (n + 1) old) (sym w.self-is) (none-more-asked key name ps old n x c.loop-place.self at (sym c.is_of.ensures ∙ w.if-is_of.false) c.loop-place.invariant)
    ]

pub returns-clause-each : goal.returns-clause-each
returns-clause-each c = λ k q n l e. c.loop-place.invariant.before k q n (omega (arith, slice_get_within c.args.packages.now k q e, c.loop-place-test.false)) l e
