use Rattle.std.proofs.Common.{◌≡◌, ◌∙◌, [], List, ℕ, map, refl, sym, subst, Contains}
use Rattle.package_form.specs.Scope.{lowered}
use Rattle.package_names.proofs.NamesMetBefore.{kept, lent, new-where, met-where, is-met, is-new, none-met, met-in-front, met-in-many, new-in-both}
use Rattle.package_names.proofs.scope.LentTable.insert.Goals as goal

pub returns-then-is_empty-clause-new : goal.returns-then-is_empty-clause-new
returns-then-is_empty-clause-new c = λ is_new.
    let keys = c.self.inside.lent.keys in
    let low = lowered c.args.name.now in
    let lower : low ≡ c.args.name.now = c.is_lower.ensures c.if-is_lower.true in
    let none : c.self.inside.copied ≡ [] = c.is_empty.ensures c.if-is_empty.true in
    let not_lent = new-where lent c.args.name.now keys (map lent keys) c.in_ok-insert.field-0 c.in_ok-insert.ensures.added refl is_new in
    new-in-both (map lent keys) c.self.inside.copied c.args.self.now c.self.view_is low (subst (λ (n : List ℕ). ¬ Contains (map lent keys) n) (sym lower) not_lent)
    (subst (λ (ns : List (List ℕ)). ¬ Contains ns low) (sym none) (none-met low))

pub returns-then-is_empty-clause-met_before : goal.returns-then-is_empty-clause-met_before
returns-then-is_empty-clause-met_before c = λ is_met.
    let keys = c.self.inside.lent.keys in
    let lower : lowered c.args.name.now ≡ c.args.name.now = c.is_lower.ensures c.if-is_lower.true in
    let is_lent = met-where lent c.args.name.now keys (map lent keys) c.in_ok-insert.field-0 c.in_ok-insert.ensures.added refl is_met in
    met-in-front (map lent keys) c.self.inside.copied c.args.self.now c.self.view_is (lowered c.args.name.now) (subst (Contains (map lent keys)) (sym lower) is_lent)

pub returns-then-contains-clause-met_before : goal.returns-then-contains-clause-met_before
returns-then-contains-clause-met_before c = λ _.
    let keys = c.self.inside.lent.keys in
    let is_lent = is-met lent c.as_str.result.now keys (sym c.contains.ensures ∙ c.if-contains.true) in
    met-in-front (map lent keys) c.self.inside.copied c.args.self.now c.self.view_is (lowered c.args.name.now) (subst (Contains (map lent keys)) (c.as_str.ensures.value ∙ c.in_ok-name.ensures) is_lent)

pub returns-clause-new : goal.returns-clause-new
returns-clause-new c =
    let keys = c.self.inside.lent.keys in
    let low = lowered c.args.name.now in
    let not_lent = subst (λ (n : List ℕ). ¬ Contains (map lent keys) n) (c.as_str.ensures.value ∙ c.in_ok-name.ensures) (is-new lent c.as_str.result.now keys (sym c.contains.ensures ∙ c.if-contains.false)) in
    kept c.insert-2.result _ _
    (λ b h t. new-in-both (map lent keys) c.self.inside.copied c.args.self.now c.self.view_is low not_lent (subst (λ (n : List ℕ). ¬ Contains c.self.inside.copied n) c.in_ok-name.ensures (h t)))
    c.insert-2.ensures.new

pub returns-clause-met_before : goal.returns-clause-met_before
returns-clause-met_before c =
    kept c.insert-2.result _ _
    (λ b h f. met-in-many (map lent c.self.inside.lent.keys) c.self.inside.copied c.args.self.now c.self.view_is (lowered c.args.name.now) (subst (Contains c.self.inside.copied) c.in_ok-name.ensures (h f)))
    c.insert-2.ensures.met_before
