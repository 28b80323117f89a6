-- What is known of each pair of types is known of the one that is looked up.
use Rattle.std.proofs.Common.{◌≡◌, ℕ, Bool, true, false, ◌&&◌, nat_eq, cond, List, [], ◌∷◌, Option, Some, None, IfSome, All, refl, ap, sym, subst, ◌∙◌}
use Rattle.std.specs.Map.{lookup}
use Rattle.std.proofs.lemmas.Bool.{eqb-true, false≢true}
use Rattle.std.proofs.lemmas.List.Elements.{All-head, All-tail, All-cons, All-nil}
use Rattle.indexmap.specs.IndexMap.{insert_entry}
use Rattle.package_changes.specs.declared.known.TypePair.{TypePair}

both-true : (a b : Bool) → (a && b) ≡ true → (a ≡ true) × (b ≡ true)
both-true true b h = (refl, h)
both-true false b h = absurd (false≢true h)

pub pair-one : (a b : TypePair) → (nat_eq a.old b.old && nat_eq a.new b.new) ≡ true → a ≡ b
pair-one a b h =
    let hs = both-true (nat_eq a.old b.old) (nat_eq a.new b.new) h in
    let old = eqb-true a.old b.old hs.0 in
    let new = eqb-true a.new b.new hs.1 in
    λ i. record { old = old i; new = new i }

module _ {K V : Type 0} (P : K × V → Type 0) where
  pub found : (test : K → Bool) (key : K) → ((k : K) → test k ≡ true → k ≡ key) → (es : List (K × V)) → All P es → (v : V) → lookup test es ≡ Some v → P (key, v)
  found test key one [] all v at = absurd (cc)
  found test key one (e ∷ es) all v at = by (λ rest. found test key one es (All-tail P e es all) v rest) (test e.0) refl
    where
      by : (lookup test es ≡ Some v → P (key, v)) → (b : Bool) → test e.0 ≡ b → P (key, v)
      by later true is =
          let here : Some e.1 ≡ Some v = sym (ap (λ b. cond b (Some e.1) (lookup test es)) is) ∙ at in
          let value : e.1 ≡ v = cc in
          let same : e.0 ≡ key = one e.0 is in
          subst P (λ i. (same i, value i)) (All-head P e es all)
      by later false is = later (sym (ap (λ b. cond b (Some e.1) (lookup test es)) is) ∙ at)

  pub all-inserted : (eq : K → K → Bool) → ((a b : K) → eq a b ≡ true → a ≡ b) → (es : List (K × V)) (k : K) (v : V) → All P es → P (k, v) → All P (insert_entry eq es k v)
  all-inserted eq one [] k v all here = All-cons P (k, v) [] here (All-nil P)
  all-inserted eq one (e ∷ es) k v all here = by (all-inserted eq one es k v (All-tail P e es all) here) (eq k e.0) refl
    where
      by : All P (insert_entry eq es k v) → (b : Bool) → eq k e.0 ≡ b → All P (cond b ((e.0, v) ∷ es) (e ∷ insert_entry eq es k v))
      by later true is =
          let same = one k e.0 is in
          All-cons P (e.0, v) es (subst P (λ i. (same i, v)) here) (All-tail P e es all)
      by later false is = All-cons P e (insert_entry eq es k v) (All-head P e es all) later

pub if-some : {A : Type 0} (o : Option A) (Q : A → Type 0) → ((x : A) → o ≡ Some x → Q x) → IfSome o Q
if-some None Q f = tt
if-some (Some x) Q f = f x refl
