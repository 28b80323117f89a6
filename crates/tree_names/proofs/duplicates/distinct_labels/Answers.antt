use Rattle.std.proofs.Common.{List, ℕ, OnOk, IfErr, subst}
use Rattle.std.proofs.lemmas.List.{map-id}
use Rattle.package_form.specs.Scope.{AreDistinct}
use Rattle.package_form.specs.Distinct.{RefusesNames}
use Rattle.tree_names.proofs.duplicates.distinct_labels.Goals as goal

pub returns-clause-ok : goal.returns-clause-ok
returns-clause-ok c = subst (λ (ns : List (List ℕ)). OnOk c.distinct_members.result (AreDistinct ns)) (map-id c.args.labels.now) c.distinct_members.ensures.ok

pub returns-clause-err : goal.returns-clause-err
returns-clause-err c = subst (λ (ns : List (List ℕ)). IfErr c.distinct_members.result (RefusesNames ns)) (map-id c.args.labels.now) c.distinct_members.ensures.err
