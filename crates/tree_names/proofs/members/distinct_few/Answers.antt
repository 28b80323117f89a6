use Rattle.std.proofs.Common.{◌++◌, ◌∷◌, [], List, ℕ, map, take, refl, sym, ◌∙◌, subst, arith, inr, Contains}
use Rattle.tables.specs.declared.error.ResolveError.TheVariants as error
use Rattle.package_form.specs.Scope.{lowered, AreDistinct}
use Rattle.package_form.specs.Distinct.{AreMet, RefusesNames}
use Rattle.package_form.proofs.AllAndContains.{map-more}
use Rattle.package_form.proofs.NamesMetOneByOne.{met-none, met-push, all-taken}
use Rattle.package_names.proofs.NamesOfOneScope.{refuses-named}
use Rattle.tree_names.proofs.members.distinct_few.Goals as goal

pub loop-place-init : goal.loop-place-init
loop-place-init g c = let met : AreMet [] [] = met-none [] refl in met.distinct

pub loop-place-preserved : goal.loop-place-preserved
loop-place-preserved g c =
    let f = g.N.HasName.name_of in
    let members = c.args.members.now in
    let k = c.loop-place.place in
    let x = c.index-members-place.result in
    let before = map f (take k members) in
    let met : AreMet before (map lowered before) = record { met_are = refl; distinct = c.loop-place.invariant } in
    let fresh = subst (λ (n : List ℕ). ¬ Contains (map lowered before) (lowered n)) c.name-name.ensures (c.is_among.ensures.no c.if-is_among.false) in
    let more = met-push before (f x) (map lowered before) (map lowered before ++ lowered (f x) ∷ []) met fresh refl in
    subst AreDistinct (sym (map-more f members k x (omega arith) c.index-members-place.is)) more.distinct

pub returns-then-is_among-clause-err : goal.returns-then-is_among-clause-err
returns-then-is_among-clause-err g c =
    let f = g.N.HasName.name_of in
    let members = c.args.members.now in
    let k = c.loop-place.place in
    let x = c.index-members-place.result in
    let before = map f (take k members) in
    let met : AreMet before (map lowered before) = record { met_are = refl; distinct = c.loop-place.invariant } in
    let again = subst (λ (n : List ℕ). Contains (map lowered before) (lowered n)) c.name-name.ensures (c.is_among.ensures.yes c.if-is_among.true) in
    let refused = refuses-named f members k x (omega arith) c.index-members-place.is (map lowered before) (error.Duplicate (f x)) met (inr (refl, again)) in
    subst (λ (n : List ℕ). RefusesNames (map f members) (error.Duplicate n)) (sym (c.in_ok-of.ensures ∙ c.name-name.ensures)) refused

pub returns-clause-ok : goal.returns-clause-ok
returns-clause-ok g c = all-taken (λ xs. AreDistinct (map g.N.HasName.name_of xs)) c.args.members.now c.loop-place.place (omega arith) c.loop-place.invariant
