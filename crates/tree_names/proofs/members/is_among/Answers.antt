use Rattle.std.proofs.Common.{◌≡◌, ◌∷◌, [], List, ℕ, map, take, Contains, sym, ap, subst, ◌∙◌, arith}
use Rattle.package_form.specs.Scope.{lowered}
use Rattle.package_form.proofs.AllAndContains.{map_map-more, contains-map, contains-at}
use Rattle.package_form.proofs.NamesMetOneByOne.{all-taken}
use Rattle.package_names.proofs.NamesMetBefore.{none-met, is-other, in-neither}
use Rattle.tree_names.proofs.members.is_among.Goals as goal

pub loop-member-init : goal.loop-member-init
loop-member-init g c = none-met (lowered c.args.name.now)

pub loop-member-preserved : goal.loop-member-preserved
loop-member-preserved g c =
    let f = g.N.HasName.name_of in
    let members = c.args.members.now in
    let k = c.loop-member.member-index in
    let x = c.member-item.result in
    let low = lowered c.args.name.now in
    let named : c.as_str.result.now ≡ f x = c.as_str.ensures.is ∙ c.name.ensures in
    let other : lowered (f x) ≡ low → ⊥ = λ e.
    let yes = c.eq_ignore_ascii_case.ensures.test.1 (ap lowered named ∙ e ∙ ap lowered (sym c.as_str-wanted.ensures.is)) in
    let no = c.if-eq_ignore_ascii_case.false in
    absurd (cc) in
    subst (λ (ns : List (List ℕ)). ¬ Contains ns low) (sym (map_map-more lowered f members k x (omega arith) c.member-item.is))
    (in-neither (map lowered (map f (take k members))) (lowered (f x) ∷ []) low c.loop-member.invariant (is-other (lowered (f x)) low other))

pub returns-then-eq_ignore_ascii_case-clause-yes : goal.returns-then-eq_ignore_ascii_case-clause-yes
returns-then-eq_ignore_ascii_case-clause-yes g c = λ _.
    let f = g.N.HasName.name_of in
    let members = c.args.members.now in
    let x = c.member-item.result in
    let named : c.as_str.result.now ≡ f x = c.as_str.ensures.is ∙ c.name.ensures in
    let same : lowered (f x) ≡ lowered c.args.name.now =
    ap lowered (sym named) ∙ c.eq_ignore_ascii_case.ensures.test.0 c.if-eq_ignore_ascii_case.true ∙ ap lowered c.as_str-wanted.ensures.is in
    subst (Contains (map lowered (map f members))) same
    (contains-map lowered (map f members) (f x) (contains-map f members x (contains-at members c.loop-member.member-index x (omega arith) c.member-item.is)))

pub returns-clause-no : goal.returns-clause-no
returns-clause-no g c = λ _.
    all-taken (λ xs. ¬ Contains (map lowered (map g.N.HasName.name_of xs)) (lowered c.args.name.now)) c.args.members.now c.loop-member.member-index (omega arith) c.loop-member.invariant
