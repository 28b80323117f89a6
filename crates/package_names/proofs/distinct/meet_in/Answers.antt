use Rattle.std.proofs.Common.{◌≡◌, ◌<◌, ◌++◌, ◌∷◌, List, [], ℕ, length, set, get_or, Contains, Result, Ok, Err, OnOk, ap, subst, sym, ◌∙◌}
use Rattle.std.proofs.lemmas.List.{get_or_default}
use Rattle.package_form.specs.Scope.{lowered}
use Rattle.package_names.proofs.distinct.meet_in.Goals as goal

on-ok-then : {T E : Type 0} (r : Result T E) (P Q : Type 0) → (P → Q) → OnOk r P → OnOk r Q
on-ok-then (Ok x) P Q f p = f p
on-ok-then (Err e) P Q f p = tt

scope-is : (scopes : List (List (List ℕ))) (k : ℕ) (scope : List (List ℕ)) → k < length scopes → scope ≡ get_or scopes k scope → scope ≡ get_or scopes k []
scope-is scopes k scope l is = is ∙ get_or_default scopes k scope [] l

pub returns-clause-new : goal.returns-clause-new
returns-clause-new c =
    let is = scope-is c.args.scopes.now.items c.args.«package».0 c.index_mut-scope.result.now c.requires c.index_mut-scope.ensures.value in
    subst (λ (ns : List (List ℕ)). OnOk c.meet.result (¬ Contains ns (lowered c.args.name.now))) is c.meet.ensures.new

pub returns-clause-ok : goal.returns-clause-ok
returns-clause-ok c =
    let is = scope-is c.args.scopes.now.items c.args.«package».0 c.index_mut-scope.result.now c.requires c.index_mut-scope.ensures.value in
    on-ok-then c.meet.result _ _ (λ e. ap (λ (ns : List (List ℕ)). set c.args.scopes.now.items c.args.«package».0 ns) (e ∙ ap (λ (ns : List (List ℕ)). ns ++ lowered c.args.name.now ∷ []) is)) c.meet.ensures.ok

pub returns-clause-err : goal.returns-clause-err
returns-clause-err c =
    let is = scope-is c.args.scopes.now.items c.args.«package».0 c.index_mut-scope.result.now c.requires c.index_mut-scope.ensures.value in
    rw (sym is) c.meet.ensures.err
