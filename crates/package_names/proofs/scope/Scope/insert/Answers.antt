use Rattle.std.proofs.Common.{List, ℕ, map, Contains, subst, Bor}
use Rattle.package_form.specs.Scope.{lowered, lowered_name}
use Rattle.package_names.proofs.NamesMetBefore.{kept, new-in-both}
use Rattle.package_names.proofs.scope.Scope.insert.Goals as goal

pub returns-then-not-is_empty-clause-new : goal.returns-then-not-is_empty-clause-new
returns-then-not-is_empty-clause-new c =
    let few = c.self.inside.few.items in
    let low = lowered c.args.name.now in
    let not_few : ¬ Contains (map lowered_name few) low =
    subst (λ (ns : List (Bor (List ℕ))). ¬ Contains (map lowered_name ns) low) c.as_slice.ensures.value (c.is_among.ensures.no c.if-is_among.false) in
    kept c.insert.result _ _ (λ b h t. new-in-both (map lowered_name few) c.self.inside.many c.args.self.now c.self.view_is low not_few (h t)) c.insert.ensures.new
