use Rattle.std.proofs.Common.{inr, Err, refl, subst}
use Rattle.std.proofs.lemmas.Bool.{OnTrue_at}
use Rattle.ctype_bin.specs.FileView.{raw_component_view}
use Rattle.component_reader.specs.declared.unread.Unread.{Unread}
use Rattle.component_reader.specs.Component.{candidate_of, Makes}
use Rattle.wit_component.proofs.CandidateIsThePackage.{no-other-shape, in-form, written-again, is-that-package}
use Rattle.wit_component.proofs.from_component.standing.Goals as goal

pub returns-in-Err-NotThisShape-clause-err : goal.returns-in-Err-NotThisShape-clause-err
returns-in-Err-NotThisShape-clause-err c =
    let found = candidate_of (raw_component_view c.args.raw.now) in
    inr (refl, λ r s. no-other-shape c.args.raw.now r s (subst (λ (e : Unread). Makes found (Err e)) c.in-Err-NotThisShape.field-0-is c.in-Err-NotThisShape.ensures))

pub returns-then-not-branch-clause-err : goal.returns-then-not-branch-clause-err
returns-then-not-branch-clause-err c =
    inr (
      refl,
      λ r s.
          let test = c.in_ok-is_in_form.ensures.1 (in-form c.args.raw.now r s c.in-Ok.package c.in-Ok.ensures) in
          let other = c.if-not-branch.true in
          absurd (cc),
    )

pub returns-then-branch-clause-ok : goal.returns-then-branch-clause-ok
returns-then-branch-clause-ok c =
    let told = c.in_ok-is_component_of.ensures in
    ∣ record {
      component = told.same.0 c.if-branch.true;
      form = c.in_ok-is_in_form.ensures.0 c.if-not-branch.false;
      labels = OnTrue_at c.if-branch.true told.labelled;
      world_labels = OnTrue_at c.if-branch.true told.world_labels;
    } ∣₁

pub returns-then-branch-clause-same : goal.returns-then-branch-clause-same
returns-then-branch-clause-same c = λ r s d. is-that-package c.args.raw.now r s d c.in-Ok.package c.in-Ok.ensures

pub returns-else-branch-clause-err : goal.returns-else-branch-clause-err
returns-else-branch-clause-err c =
    inr (
      refl,
      λ r s.
          let again = written-again c.args.raw.now r s c.in-Ok.package c.in-Ok.ensures in
          let test = c.in_ok-is_component_of.ensures.same.1 again in
          let other = c.if-branch.false in
          absurd (cc),
    )
