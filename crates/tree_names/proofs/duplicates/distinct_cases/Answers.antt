use Rattle.std.proofs.Common.{List, ℕ, OnOk, IfErr, sym, subst}
use Rattle.std.proofs.lemmas.Simd.{map-map}
use Rattle.wit_tokens.specs.View.{case_view}
use Rattle.tree_meaning.specs.Declarations.{tree_case_name}
use Rattle.package_form.specs.Scope.{AreDistinct}
use Rattle.package_form.specs.Distinct.{RefusesNames}
use Rattle.tree_names.proofs.duplicates.distinct_cases.Goals as goal

pub returns-clause-ok : goal.returns-clause-ok
returns-clause-ok c = subst (λ (ns : List (List ℕ)). OnOk c.distinct_members.result (AreDistinct ns)) (sym (map-map tree_case_name case_view c.args.cases.now)) c.distinct_members.ensures.ok

pub returns-clause-err : goal.returns-clause-err
returns-clause-err c = subst (λ (ns : List (List ℕ)). IfErr c.distinct_members.result (RefusesNames ns)) (sym (map-map tree_case_name case_view c.args.cases.now)) c.distinct_members.ensures.err
