use Rattle.std.proofs.Common.{List, ℕ, [], Bor, All, Contains, sym, subst, arith}
use Rattle.tree_meaning.specs.Declarations.{type_names}
use Rattle.tree_scopes.specs.Lent.{lent_names, lent_name}
use Rattle.tree_scopes.specs.Sources.{declared_tree}
use Rattle.package_form.proofs.AllAndContains.{map-more, all-append, all-cons, all-none, contains-map, contains-at}
use Rattle.package_form.proofs.NamesMetOneByOne.{all-taken}
use Rattle.tree_names.proofs.unknown.first_unknown.Goals as goal

pub loop-name-preserved : goal.loop-name-preserved
loop-name-preserved c =
    let known = type_names (declared_tree c.args.declared.now) in
    let x = c.name-item.result in
    subst (All (Contains known)) (sym (map-more lent_name c.args.names.now c.loop-name.name-index x (omega arith) c.name-item.is))
    (all-append (Contains known) _ _ c.loop-name.invariant (all-cons (Contains known) x.now [] (c.has.ensures.0 c.if-not-has.false) (all-none (Contains known))))

pub returns-then-not-has-clause-some : goal.returns-then-not-has-clause-some
returns-then-not-has-clause-some c =
    let x = c.name-item.result in (
      contains-map lent_name c.args.names.now x (contains-at c.args.names.now c.loop-name.name-index x (omega arith) c.name-item.is),
      λ h. let known = c.has.ensures.1 h in absurd (cc (known, c.if-not-has.true)),
    )

pub returns-clause-none : goal.returns-clause-none
returns-clause-none c = all-taken (λ (ns : List (Bor (List ℕ))). All (Contains (type_names (declared_tree c.args.declared.now))) (lent_names ns)) c.args.names.now c.loop-name.name-index (omega arith) c.loop-name.invariant
