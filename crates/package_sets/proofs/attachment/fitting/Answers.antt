-- A closed table fits behind a set, or is refused for the first that is wrong.
use Rattle.std.proofs.Common.{rules, ◌≡◌, ◌∙◌, ◌⊎◌, inl, inr, ℕ, Result, Ok, Err, IfOk, IfErr, List, take, slice_get, Some, false, ap, sym, subst, arith}
use Rattle.std.proofs.lemmas.Result.{err_from_is_err_and}
use Rattle.tables.specs.PackageNames.{PackageParts}
use Rattle.tables.specs.declared.error.ResolveError.{ResolveError}
use Rattle.tables.specs.declared.error.ResolveError.TheVariants as error
use Rattle.tables.specs.declared.tables.Resolve.{Resolve}
use Rattle.package_form.specs.Closed.{own_package}
use Rattle.package_sets.specs.Attached.{HasRoom, HasAll, LacksFirst, IsOwn, IsNew, IsRefused, has_package, others}
use Rattle.package_sets.specs.Joining.{HasImports}
use Rattle.package_sets.proofs.GrowingLists.{item-get}
use Rattle.package_sets.proofs.attachment.fitting.Goals as goal

on-ok : {A E : Type 0} {P Q : A → Type 0} (r : Result A E) → IfOk r P → ((x : A) → P x → Q x) → IfOk r Q
on-ok (Ok x) h f = f x h
on-ok (Err e) h f = tt

on-err : {A E : Type 0} {P Q : E → Type 0} (r : Result A E) → IfErr r P → ((e : E) → P e → Q e) → IfErr r Q
on-err (Ok x) h f = tt
on-err (Err e) h f = f e h

own-is : (closed : Resolve) (ps : List PackageParts) (k : ℕ) (own : PackageParts) → ps ≡ closed.packages → k ≡ own_package ps → slice_get ps k ≡ Some own → IsOwn closed own
own-is closed ps k own same at there = subst (λ (xs : List PackageParts). slice_get xs (own_package xs) ≡ Some own) same (subst (λ n. slice_get ps n ≡ Some own) at there)

is-new : (s closed : Resolve) (own : PackageParts) → IsOwn closed own → has_package s own ≡ false → IsNew s closed
is-new s closed own is lacks = λ p h. let e : p ≡ own = cc in ap (has_package s) e ∙ lacks

-- ---- refusals

module _ (s closed : Resolve) (room : HasRoom s) (new : IsNew s closed) where
  lacking : (e : ResolveError) → (e ≡ error.NoMemory) ⊎ ((p : PackageParts) × (e ≡ error.NoPackage p) × LacksFirst s (others closed) p) → IsRefused s closed e
  lacking e (inl is) = subst (IsRefused s closed) (sym is) room
  lacking e (inr (p, is, lacks)) = subst (IsRefused s closed) (sym is) (room, new, lacks)

  unfitting : HasAll s (others closed) → (e : ResolveError) → (e ≡ error.NoMemory) ⊎ ((e ≡ error.NotThisShape) × (HasImports s closed → ⊥)) → IsRefused s closed e
  unfitting have e (inl is) = subst (IsRefused s closed) (sym is) room
  unfitting have e (inr (is, none)) = subst (IsRefused s closed) (sym is) (room, new, have, λ fits. none fits.imports)

-- ---- what the function ensures

pub returns-in_err-has_packages-clause-err : goal.returns-in_err-has_packages-clause-err
returns-in_err-has_packages-clause-err c =
    let s = c.args.set.now in
    let closed = c.args.closed.now in
    let own = c.in-Some.name.now in
    let ps = c.as_slice-packages.result.now in
    let k = c.own_package-own.result in
    let is = own-is closed ps k own c.as_slice-packages.ensures c.own_package-own.ensures (item-get ps k own c.in-Some.ensures.lookup.3.0 c.in-Some.ensures.lookup.1) in
    let lacks : has_package s own ≡ false = search rules in
    let room : HasRoom s = omega arith in
    let p = err_from_is_err_and c.from_residual-in_err-has_packages.result c.from_residual-in_err-has_packages.ensures.1 in
    let e = c.in_err-has_packages.field-0.0 in
    let told = subst (λ (ps : List PackageParts). (e ≡ error.NoMemory) ⊎ ((p : PackageParts) × (e ≡ error.NoPackage p) × LacksFirst s (take (own_package ps) ps) p)) c.as_slice-packages.ensures
    (subst (λ n. (e ≡ error.NoMemory) ⊎ ((p : PackageParts) × (e ≡ error.NoPackage p) × LacksFirst s (take n ps) p)) c.own_package-own.ensures c.in_err-has_packages.ensures.err) in
    rw (p.1, p.2) (lacking s closed room (is-new s closed own is lacks) e told)

pub returns-clause-err : goal.returns-clause-err
returns-clause-err c =
    let s = c.args.set.now in
    let closed = c.args.closed.now in
    let own = c.in-Some.name.now in
    let ps = c.as_slice-packages.result.now in
    let k = c.own_package-own.result in
    let is = own-is closed ps k own c.as_slice-packages.ensures c.own_package-own.ensures (item-get ps k own c.in-Some.ensures.lookup.3.0 c.in-Some.ensures.lookup.1) in
    let lacks : has_package s own ≡ false = search rules in
    let room : HasRoom s = omega arith in
    let have : HasAll s (others closed) =
    subst (λ (ps : List PackageParts). HasAll s (take (own_package ps) ps)) c.as_slice-packages.ensures
    (subst (λ n. HasAll s (take n c.as_slice-packages.result.now)) c.own_package-own.ensures c.in_ok-has_packages.ensures.ok) in
    on-err c.placed.result c.placed.ensures.err (unfitting s closed room (is-new s closed own is lacks) have)

pub returns-clause-ok : goal.returns-clause-ok
returns-clause-ok c =
    let s = c.args.set.now in
    let closed = c.args.closed.now in
    let own = c.in-Some.name.now in
    let ps = c.as_slice-packages.result.now in
    let k = c.own_package-own.result in
    let is = own-is closed ps k own c.as_slice-packages.ensures c.own_package-own.ensures (item-get ps k own c.in-Some.ensures.lookup.3.0 c.in-Some.ensures.lookup.1) in
    let lacks : has_package s own ≡ false = search rules in
    let room : HasRoom s = omega arith in
    let have : HasAll s (others closed) =
    subst (λ (ps : List PackageParts). HasAll s (take (own_package ps) ps)) c.as_slice-packages.ensures
    (subst (λ n. HasAll s (take n c.as_slice-packages.result.now)) c.own_package-own.ensures c.in_ok-has_packages.ensures.ok) in
    on-ok c.placed.result c.placed.ensures.ok (λ j q. record { room = room; new = is-new s closed own is lacks; have = have; own = own; own_is = is; joined = q })
