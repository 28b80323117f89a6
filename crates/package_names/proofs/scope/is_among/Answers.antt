use Rattle.std.proofs.Common.{◌≡◌, ◌+◌, ◌++◌, ◌∷◌, [], List, ℕ, map, take, get_or, Contains, sym, subst, arith, Bor}
use Rattle.std.proofs.lemmas.List.{get_or_default}
use Rattle.package_form.specs.Scope.{lowered, lowered_name}
use Rattle.package_form.proofs.AllAndContains.{map-more, contains-map, contains-at}
use Rattle.package_form.proofs.NamesMetOneByOne.{all-taken}
use Rattle.package_names.proofs.NamesMetBefore.{none-met, is-other, in-neither}
use Rattle.package_names.proofs.scope.is_among.Goals as goal

pub loop-met-init : goal.loop-met-init
loop-met-init c = none-met (lowered c.args.name.now)

pub loop-met-preserved : goal.loop-met-preserved
loop-met-preserved c =
    let names = c.args.names.now in
    let k = c.loop-met.met-index in
    let x : Bor (List ℕ) = get_or names k (record { ref_ptr = (0, 0); now = [] }) in
    let is : x ≡ get_or names k x = get_or_default names k _ x (omega arith) in
    let low = lowered c.args.name.now in
    let more : map lowered_name (take (k + 1) names) ≡ map lowered_name (take k names) ++ lowered_name x ∷ [] = map-more lowered_name names k x (omega arith) is in
    subst (λ (ns : List (List ℕ)). ¬ Contains ns low) (sym more)
    (in-neither (map lowered_name (take k names)) (lowered_name x ∷ []) low c.loop-met.invariant (is-other (lowered_name x) low (λ e.
    let yes = c.eq_ignore_ascii_case.ensures.test.1 e in
    let no = c.if-eq_ignore_ascii_case.false in
    absurd (cc))))

pub returns-then-eq_ignore_ascii_case-clause-yes : goal.returns-then-eq_ignore_ascii_case-clause-yes
returns-then-eq_ignore_ascii_case-clause-yes c = λ _.
    let names = c.args.names.now in
    let k = c.loop-met.met-index in
    let x : Bor (List ℕ) = get_or names k (record { ref_ptr = (0, 0); now = [] }) in
    let is : x ≡ get_or names k x = get_or_default names k _ x (omega arith) in
    subst (Contains (map lowered_name names)) (c.eq_ignore_ascii_case.ensures.test.0 c.if-eq_ignore_ascii_case.true)
    (contains-map lowered_name names x (contains-at names k x (omega arith) is))

pub returns-clause-no : goal.returns-clause-no
returns-clause-no c = λ _.
    all-taken (λ (ns : List (Bor (List ℕ))). ¬ Contains (map lowered_name ns) (lowered c.args.name.now)) c.args.names.now c.loop-met.met-index (omega arith) c.loop-met.invariant
