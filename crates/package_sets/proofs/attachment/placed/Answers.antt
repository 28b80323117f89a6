use Rattle.std.proofs.Common.{rules, ◌≡◌, inr, refl, sym, subst, List, false, true≢false, ◌∙◌}
use Rattle.tables.specs.declared.tables.Interface.{Interface}
use Rattle.tables.specs.declared.tables.Definition.{Definition}
use Rattle.package_sets.specs.Joining.{AreRowsThere, AreIdsThere}
use Rattle.package_sets.specs.Joined.{joined_places, renaming_of}
use Rattle.package_sets.proofs.FoundImports.ImportsAreFound.{rows-as, ids-as}
use Rattle.package_sets.proofs.attachment.placed.Goals as goal

pub returns-clause-ok : goal.returns-clause-ok
returns-clause-ok c = record {
  are_joined = c.in_ok-to.ensures.ok;
  rows = subst (λ (ds : List Definition). AreRowsThere c.args.set.now (renaming_of (joined_places c.in_ok-to.to)) ds) c.import_rows.ensures (c.in_ok-are_rows_there.ensures.0 (search rules));
  ids = subst (λ (is : List Interface). AreIdsThere c.args.set.now (renaming_of (joined_places c.in_ok-to.to)) is) c.imports.ensures (c.in_ok-are_ids_there.ensures.0 (search rules));
}

pub returns-then-not-branch-clause-err : goal.returns-then-not-branch-clause-err
returns-then-not-branch-clause-err c =
    let no : c.in_ok-are_rows_there.field-0 ≡ false = search rules in
    inr (
      refl,
      λ h. true≢false (sym (c.in_ok-are_rows_there.ensures.1 (subst (λ (ds : List Definition). AreRowsThere c.args.set.now (renaming_of (joined_places c.in_ok-to.to)) ds) (sym c.import_rows.ensures)
          (rows-as c.args.set.now c.args.closed.now (joined_places c.in_ok-to.to) c.in_ok-to.ensures.ok h))) ∙ no),
    )

pub returns-then-not-branch-2-clause-err : goal.returns-then-not-branch-2-clause-err
returns-then-not-branch-2-clause-err c =
    let no : c.in_ok-are_ids_there.field-0 ≡ false = search rules in
    inr (
      refl,
      λ h. true≢false (sym (c.in_ok-are_ids_there.ensures.1 (subst (λ (is : List Interface). AreIdsThere c.args.set.now (renaming_of (joined_places c.in_ok-to.to)) is) (sym c.imports.ensures)
          (ids-as c.args.set.now c.args.closed.now (joined_places c.in_ok-to.to) c.in_ok-to.ensures.ok h))) ∙ no),
    )
