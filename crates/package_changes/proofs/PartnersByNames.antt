-- Functions are paired by names, and what is said of a pair is exact.
use Rattle.std.proofs.Common.{◌≡◌, ℕ, ◌+◌, ◌<◌, Bool, true, List, [], ◌∷◌, ◌++◌, map, take, get_or, All, length, IsTrue, Option, Some, None, IfSome, IfNone, MatchOption, slice_get, refl, ap, sym, subst, ◌∙◌}
use Rattle.std.specs.Option.{option_map}
use Rattle.canonical_abi.specs.Labelled.{LabelledType, labelled_record}
use Rattle.function_index.specs.Named.{IsNamedOfWorld}
use Rattle.tables.specs.Closed.{function_at, IsFunction}
use Rattle.tables.specs.Labelled.{labelled_type, labelled_types, labelled_params}
use Rattle.tables.specs.Names.{function_name, IsNamed}
use Rattle.tables.specs.PackageNames.{PackageParts}
use Rattle.tables.specs.Tables.{is_there}
use Rattle.tables.specs.declared.tables.Direction.{Direction}
use Rattle.tables.specs.declared.tables.Function.{Function}
use Rattle.tables.specs.declared.tables.FunctionId.{FunctionId}
use Rattle.tables.specs.declared.tables.Interface.{Interface}
use Rattle.tables.specs.declared.tables.Resolve.{Resolve}
use Rattle.tables.specs.declared.tables.World.{World}
use Rattle.package_changes.specs.declared.judging.Judged.{Judged}
use Rattle.package_changes.specs.declared.likeness.Likeness.{Likeness}
use Rattle.package_changes.specs.declared.places.Place.{Place}
use Rattle.package_changes.specs.declared.places.Standing.{Standing}
use Rattle.package_changes.specs.declared.places.Standing.TheVariants as standing
use Rattle.package_changes.specs.declared.verdicts.Role.{Role}
use Rattle.package_changes.specs.declared.verdicts.Verdict.{Verdict}
use Rattle.package_changes.specs.declared.verdicts.Verdict.TheVariants as verdict
use Rattle.package_changes.specs.Alike.{part_likeness}
use Rattle.package_changes.specs.Judging.{verdict_of, role_of}
use Rattle.package_changes.specs.Likeness.{likeness}
use Rattle.package_changes.specs.Pairs.{last_package, AreVersions, new_name, IsThere, IsPartner, IsJudged}
use Rattle.package_changes.specs.Verdicts.{LabelledFunction, labelled_of, labelled_function, IsVerdict}
use Rattle.package_changes.proofs.VerdictsAreExact.{verdict-exact}

some-one : {A : Type 0} {a b : A} → Some a ≡ Some b → a ≡ b
some-one e = cc

-- ---- no partner

module _ (r s : Resolve) (p : Place) where
  abbrev pub NoPartner : Type 0
  NoPartner = (g : FunctionId) → ¬ IsPartner r s p g

  pub no-older : last_package r ≡ None → NoPartner
  no-older e g pair = subst (λ x. AreVersions x (last_package s)) e pair.0

  pub no-newer : last_package s ≡ None → NoPartner
  no-newer e g pair = by (last_package r) (subst (AreVersions (last_package r)) e pair.0)
    where
      by : (o : Option PackageParts) → AreVersions o None → ⊥
      by None h = h
      by (Some x) h = h

  pub other-package : (a b : PackageParts) → last_package r ≡ Some a → last_package s ≡ Some b → ¬ ((a.namespace ≡ b.namespace) × (a.name ≡ b.name)) → NoPartner
  other-package a b ea eb differ g pair = differ (subst (AreVersions (Some a)) eb (subst (λ x. AreVersions x (last_package s)) ea pair.0))

  pub no-function : ¬ IsFunction r p.function → NoPartner
  no-function none g pair = none (by (function_at r p.function) refl pair.1.1)
    where
      by : (o : Option Function) → function_at r p.function ≡ o → option_map (λ (f : Function). f.name) (function_at r p.function) ≡ Some pair.1.0 → IsFunction r p.function
      by None e h = absurd (none-some (sym (ap (option_map (λ (f : Function). f.name)) e) ∙ h))
        where
          none-some : {A : Type 0} {a : A} → None ≡ Some a → ⊥
          none-some e = cc
      by (Some f) e h = ap is_there e

-- ---- what names stand for

-- versions of one package
pub are-versions : (r s : Resolve) (a b : PackageParts) → last_package r ≡ Some a → last_package s ≡ Some b → (a.namespace ≡ b.namespace) × (a.name ≡ b.name) → AreVersions (last_package r) (last_package s)
are-versions r s a b ea eb same = subst (λ x. AreVersions x (last_package s)) (sym ea) (subst (AreVersions (Some a)) (sym eb) same)

module _ (r s : Resolve) (p : Place) (versions : AreVersions (last_package r) (last_package s)) (name : List ℕ) (named : function_name r p.function ≡ Some name) where
  pub no-interface : (i : ℕ) → p.standing ≡ standing.Interface i → slice_get r.interfaces i ≡ None → NoPartner r s p
  no-interface i at none g pair =
      let there = subst (λ x. IsThere r s x pair.1.0 g) at pair.1.2 in
      let e : None ≡ Some there.0 = sym none ∙ there.1 in
      absurd (cc)

  pub no-world : (i : ℕ) (d : Direction) → p.standing ≡ standing.World i d → slice_get r.worlds i ≡ None → NoPartner r s p
  no-world i d at none g pair =
      let there = subst (λ x. IsThere r s x pair.1.0 g) at pair.1.2 in
      let e : None ≡ Some there.0 = sym none ∙ there.1 in
      absurd (cc)

  pub in-interface : (i : ℕ) (j : Interface) (full : List ℕ) (o : Option FunctionId) → p.standing ≡ standing.Interface i → slice_get r.interfaces i ≡ Some j
      → full ≡ new_name (last_package s) j.name → IfSome o (IsNamed s full name) → IfNone o ((f : FunctionId) → ¬ IsNamed s full name f) → MatchOption o (NoPartner r s p) (IsPartner r s p)
  in-interface i j full (Some g) at get whole some none =
      (versions, (name, named, subst (λ x. IsThere r s x name g) (sym at) (j, get, subst (λ x. IsNamed s x name g) whole some)))
  in-interface i j full None at get whole some none = λ g pair.
      let there = subst (λ x. IsThere r s x pair.1.0 g) at pair.1.2 in
      let one : there.0 ≡ j = some-one (sym there.1 ∙ get) in
      let same : pair.1.0 ≡ name = some-one (sym pair.1.1 ∙ named) in
      let by_interface = subst (λ (x : Interface). IsNamed s (new_name (last_package s) x.name) pair.1.0 g) one there.2 in
      let by_full = subst (λ x. IsNamed s x pair.1.0 g) (sym whole) by_interface in
      none g (subst (λ x. IsNamed s full x g) same by_full)

  pub in-world : (i : ℕ) (d : Direction) (j : World) (full : List ℕ) (o : Option FunctionId) → p.standing ≡ standing.World i d → slice_get r.worlds i ≡ Some j
      → full ≡ new_name (last_package s) j.name → IfSome o (IsNamedOfWorld s full d name) → IfNone o ((f : FunctionId) → ¬ IsNamedOfWorld s full d name f) → MatchOption o (NoPartner r s p) (IsPartner r s p)
  in-world i d j full (Some g) at get whole some none =
      (versions, (name, named, subst (λ x. IsThere r s x name g) (sym at) (j, get, subst (λ x. IsNamedOfWorld s x d name g) whole some)))
  in-world i d j full None at get whole some none = λ g pair.
      let there = subst (λ x. IsThere r s x pair.1.0 g) at pair.1.2 in
      let one : there.0 ≡ j = some-one (sym there.1 ∙ get) in
      let same : pair.1.0 ≡ name = some-one (sym pair.1.1 ∙ named) in
      let by_world = subst (λ (x : World). IsNamedOfWorld s (new_name (last_package s) x.name) d pair.1.0 g) one there.2 in
      let by_full = subst (λ x. IsNamedOfWorld s x d pair.1.0 g) (sym whole) by_world in
      none g (subst (λ x. IsNamedOfWorld s full d x g) same by_full)

-- ---- the verdict of a pair

pub verdict-told : (x : Role) (r s : Resolve) (f g : FunctionId) (h k : Function) (a b : Likeness) (v : Verdict) → function_at r f ≡ Some h → function_at s g ≡ Some k
    → a ≡ likeness (labelled_record (labelled_params (labelled_types r) h.params)) (labelled_record (labelled_params (labelled_types s) k.params))
    → b ≡ part_likeness (option_map (labelled_type r) h.result) (option_map (labelled_type s) k.result)
    → v ≡ verdict_of x a b → IsVerdict x (labelled_function r f) (labelled_function s g) v
verdict-told x r s f g h k a b v at at' ea eb ev =
    let one = labelled_of r (Some h) in
    let other = labelled_of s (Some k) in
    let verdict_is : v ≡ verdict_of x (likeness one.params other.params) (part_likeness one.result other.result) =
    ev ∙ ap (λ (l : Likeness). verdict_of x l b) ea ∙ ap (verdict_of x (likeness one.params other.params)) eb in
    let told = subst (IsVerdict x one other) (sym verdict_is) (verdict-exact x one other) in
    subst (λ o. IsVerdict x (labelled_of r o) (labelled_function s g) v) (sym at) (subst (λ o. IsVerdict x one (labelled_of s o) v) (sym at') told)

-- a function that is gone
pub judged-removed : (r s : Resolve) (p : Place) (x : Role) (o : Option FunctionId) → x ≡ role_of r p.standing → MatchOption o (NoPartner r s p) (IsPartner r s p) → o ≡ None
    → IsJudged r s (record { place = p; role = x; new = o; verdict = verdict.Removed })
judged-removed r s p x None is none e = record { role = is; pair = none; verdict = refl }
judged-removed r s p x (Some g) is pair e = absurd (cc)
