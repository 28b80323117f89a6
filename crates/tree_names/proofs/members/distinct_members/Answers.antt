use Rattle.std.proofs.Common.{◌≡◌, ◌⊎◌, ◌++◌, ◌∷◌, [], List, ℕ, Contains, map, subst, sym, arith}
use Rattle.std.proofs.lemmas.Result.{err_from_is_err_and}
use Rattle.tables.specs.declared.error.ResolveError.TheVariants as error
use Rattle.package_form.specs.Scope.{lowered, AreDistinct}
use Rattle.package_form.specs.Distinct.{AreMet}
use Rattle.package_form.proofs.AllAndContains.{map-more}
use Rattle.package_form.proofs.NamesMetOneByOne.{met-none, met-push, all-taken}
use Rattle.package_names.proofs.NamesOfOneScope.{refuses-named}
use Rattle.tree_names.proofs.members.distinct_members.Goals as goal

pub loop-member-init : goal.loop-member-init
loop-member-init g c = met-none _ c.with_room-scope.ensures

pub loop-member-preserved : goal.loop-member-preserved
loop-member-preserved g c =
    let f = g.N.HasName.name_of in
    let x = c.member-item.result in
    let scope = c.loop-member.scope in
    let fresh = subst (λ (n : List ℕ). ¬ Contains scope (lowered n)) c.name.ensures c.in_ok-meet.ensures.new in
    let more = subst (λ (n : List ℕ). c.meet.new.self ≡ scope ++ lowered n ∷ []) c.name.ensures c.in_ok-meet.ensures.ok in
    subst (λ (ns : List (List ℕ)). AreMet ns c.meet.new.self) (sym (map-more f c.args.members.now c.loop-member.member-index x (omega arith) c.member-item.is))
    (met-push _ (f x) scope _ c.loop-member.invariant fresh more)

pub returns-in_err-meet-clause-err : goal.returns-in_err-meet-clause-err
returns-in_err-meet-clause-err g c =
    let p = err_from_is_err_and c.from_residual.result c.from_residual.ensures.1 in
    let f = g.N.HasName.name_of in
    let x = c.member-item.result in
    let e = c.in_err-meet.field-0.0 in
    let told = subst (λ (n : List ℕ). (e ≡ error.NoMemory) ⊎ ((e ≡ error.Duplicate n) × Contains c.loop-member.scope (lowered n))) c.name.ensures c.in_err-meet.ensures.err in
    rw (p.1, p.2) (refuses-named f c.args.members.now c.loop-member.member-index x (omega arith) c.member-item.is c.loop-member.scope e c.loop-member.invariant told)

pub returns-clause-ok : goal.returns-clause-ok
returns-clause-ok g c = all-taken (λ xs. AreDistinct (map g.N.HasName.name_of xs)) c.args.members.now c.loop-member.member-index (omega arith) c.loop-member.invariant.distinct
