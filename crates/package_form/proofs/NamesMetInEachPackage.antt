-- A scope of each package, in which names are met one after the other.
use Rattle.std.proofs.Common.{◌≡◌, ◌≢◌, ◌⊎◌, ℕ, zero, suc, ◌+◌, ◌<◌, ◌==◌, Bool, true, false, cond, List, [], ◌∷◌, ◌++◌, flat_map, length, take, get_or, set, refl, ap, sym, subst, ◌∙◌, arith, append_assoc, append-nil, length-set, get_or-set_other, get_or-set_same, All, Contains, inl, inr}
use Rattle.std.proofs.lemmas.Bool.{eq-eqb, eqb-true}
use Rattle.tables.specs.PackageNames.{PackageParts}
use Rattle.tables.specs.declared.error.ResolveError.{ResolveError}
use Rattle.tables.specs.declared.error.ResolveError.TheVariants as error
use Rattle.package_form.specs.Scope.{lowered, AreDistinct, IsDuplicate}
use Rattle.package_form.specs.Distinct.{AreMet, AreMetInEach, RefusesNames, RefusesScopes}
use Rattle.package_form.specs.Naming.{of_each}
use Rattle.package_form.proofs.AllAndContains.{flat_map-append, flat_map-one, all-none, all-cons, all-contained, contains-here, contains-later, contains-left, contains-right, contains-either}
use Rattle.package_form.proofs.NamesMetOneByOne.{met-none, met-push, refuses-more, refuses-scope, refuses-within, split-at, take-more}

-- ---- the scopes of a list of packages

pub each-contained : (f : ℕ → List (List ℕ)) (n : ℕ) (ps : List PackageParts) (k : ℕ) → k < length ps → Contains (of_each f n ps) (f (n + k))
each-contained f n [] k l = absurd (omega (arith, l))
each-contained f n (p ∷ ps) zero l = let same : n ≡ n + 0 = omega arith in subst (λ (m : ℕ). Contains (f n ∷ of_each f (n + 1) ps) (f m)) same (contains-here (f n) (of_each f (n + 1) ps))
each-contained f n (p ∷ ps) (suc k) l =
    let same : n + 1 + k ≡ n + suc k = omega arith in
    contains-later (f n) (f (n + suc k)) (of_each f (n + 1) ps) (subst (λ (m : ℕ). Contains (of_each f (n + 1) ps) (f m)) same (each-contained f (n + 1) ps k (omega (arith, l))))

each-is : (f : ℕ → List (List ℕ)) (n : ℕ) (ps : List PackageParts) (ns : List (List ℕ)) → Contains (of_each f n ps) ns → (k : ℕ) × (k < length ps) × (f (n + k) ≡ ns)
each-is f n [] ns c = absurd (omega (arith, c.1))
each-is f n (p ∷ ps) ns (zero, l, e) = let same : n + 0 ≡ n = omega arith in (0, omega arith, ap f same ∙ e)
each-is f n (p ∷ ps) ns (suc k, l, e) =
    let h = each-is f (n + 1) ps ns (k, omega (arith, l), e) in
    let same : n + suc h.0 ≡ n + 1 + h.0 = omega arith in
    (suc h.0, omega (arith, h.1), ap f same ∙ h.2)

pub each-distinct : (f : ℕ → List (List ℕ)) (n : ℕ) (ps : List PackageParts) → ((k : ℕ) → k < length ps → AreDistinct (f (n + k))) → All AreDistinct (of_each f n ps)
each-distinct f n [] h = all-none AreDistinct
each-distinct f n (p ∷ ps) h =
    let same : n + 0 ≡ n = omega arith in
    all-cons AreDistinct (f n) (of_each f (n + 1) ps) (subst (λ (m : ℕ). AreDistinct (f m)) same (h 0 (omega arith)))
    (each-distinct f (n + 1) ps (λ k l. let q : n + suc k ≡ n + 1 + k = omega arith in subst (λ (m : ℕ). AreDistinct (f m)) q (h (suc k) (omega (arith, l)))))

-- the names of each package differ
pub distinct-each : (f : ℕ → List (List ℕ)) (ps : List PackageParts) → All AreDistinct (of_each f 0 ps) → (k : ℕ) → k < length ps → AreDistinct (f k)
distinct-each f ps h k l =
    let same : 0 + k ≡ k = omega arith in
    subst (λ (m : ℕ). AreDistinct (f m)) same (all-contained AreDistinct (of_each f 0 ps) (f (0 + k)) h (each-contained f 0 ps k l))

pub refuses-each : (f : ℕ → List (List ℕ)) (ps : List PackageParts) (k : ℕ) (e : ResolveError) → k < length ps → RefusesNames (f k) e → RefusesScopes (of_each f 0 ps) e
refuses-each f ps k e l h =
    let same : 0 + k ≡ k = omega arith in
    refuses-scope (f k) (of_each f 0 ps) e (subst (λ (m : ℕ). Contains (of_each f 0 ps) (f m)) same (each-contained f 0 ps k l)) h

-- .. with more names behind those of each package, and more scopes
pub refuses-wider : (f g : ℕ → List (List ℕ)) (ps : List PackageParts) (parts rest : List (List (List ℕ))) (e : ResolveError) → RefusesScopes (of_each f 0 ps ++ parts) e
    → RefusesScopes (of_each (λ k. f k ++ g k) 0 ps ++ (parts ++ rest)) e
refuses-wider f g ps parts rest (error.Duplicate n) h = by h.0 h.2 (contains-either (of_each f 0 ps) parts h.0 h.1)
  where
    by : (ns : List (List ℕ)) → IsDuplicate ns n → Contains (of_each f 0 ps) ns ⊎ Contains parts ns → RefusesScopes (of_each (λ k. f k ++ g k) 0 ps ++ (parts ++ rest)) (error.Duplicate n)
    by ns d (inl c) =
        let at = each-is f 0 ps ns c in
        let here = each-contained (λ k. f k ++ g k) 0 ps at.0 at.1 in
        refuses-scope (f (0 + at.0) ++ g (0 + at.0)) (of_each (λ k. f k ++ g k) 0 ps ++ (parts ++ rest)) (error.Duplicate n)
        (contains-left (of_each (λ k. f k ++ g k) 0 ps) (parts ++ rest) (f (0 + at.0) ++ g (0 + at.0)) here)
        (refuses-more (f (0 + at.0)) (g (0 + at.0)) (error.Duplicate n) (subst (λ (zs : List (List ℕ)). IsDuplicate zs n) (sym at.2) d))
    by ns d (inr c) = (ns, contains-right (of_each (λ k. f k ++ g k) 0 ps) (parts ++ rest) ns (contains-left parts rest ns c), d)
refuses-wider f g ps parts rest error.NoMemory h = tt
refuses-wider f g ps parts rest _ h = absurd h

-- ---- names that are met

pub met-alike : (n : ℕ) (f g : ℕ → List (List ℕ)) (scopes : List (List (List ℕ))) → ((k : ℕ) → f k ≡ g k) → AreMetInEach n f scopes → AreMetInEach n g scopes
met-alike n f g scopes same m = record { counted = m.counted; each = λ k l. subst (λ (ns : List (List ℕ)). AreMet ns (get_or scopes k [])) (same k) (m.each k l) }

abbrev pub one_of : ℕ → List ℕ → ℕ → List (List ℕ)
one_of p name k = cond (p == k) (name ∷ []) []

pub met-one : (n p : ℕ) (f : ℕ → List (List ℕ)) (name : List ℕ) (scopes new : List (List (List ℕ))) → p < n → AreMetInEach n f scopes → ¬ Contains (get_or scopes p []) (lowered name)
    → new ≡ set scopes p (get_or scopes p [] ++ lowered name ∷ []) → AreMetInEach n (λ k. f k ++ one_of p name k) new
met-one n p f name scopes new l m fresh is = record {
  counted = ap length is ∙ length-set scopes p (get_or scopes p [] ++ lowered name ∷ []) ∙ m.counted;
  each = λ k below. subst (λ (ss : List (List (List ℕ))). AreMet (f k ++ one_of p name k) (get_or ss k [])) (sym is) (by k below (p == k) refl);
}
  where
    after : List (List (List ℕ))
    after = set scopes p (get_or scopes p [] ++ lowered name ∷ [])

    by : (k : ℕ) → k < n → (b : Bool) → (p == k) ≡ b → AreMet (f k ++ cond b (name ∷ []) []) (get_or after k [])
    by k below true e =
        let same : p ≡ k = eqb-true p k e in
        let here : p < length scopes = omega (arith, l, m.counted) in
        let at : get_or after k [] ≡ get_or scopes k [] ++ lowered name ∷ [] =
        ap (λ (j : ℕ). get_or after j []) (sym same) ∙ get_or-set_same scopes p (get_or scopes p [] ++ lowered name ∷ []) [] here ∙ ap (λ (j : ℕ). get_or scopes j [] ++ lowered name ∷ []) same in
        met-push (f k) name (get_or scopes k []) (get_or after k []) (m.each k below) (subst (λ (j : ℕ). ¬ Contains (get_or scopes j []) (lowered name)) same fresh) at
    by k below false e =
        let other : k ≢ p = λ s. absurd (let q : (p == k) ≡ true = eq-eqb p k (sym s) in cc) in
        let at : get_or after k [] ≡ get_or scopes k [] = get_or-set_other scopes p k (get_or scopes p [] ++ lowered name ∷ []) [] other in
        subst (λ (ns : List (List ℕ)). AreMet ns (get_or after k [])) (sym (append-nil (f k)))
        (subst (λ (ss : List (List ℕ)). AreMet (f k) ss) (sym at) (m.each k below))

-- the things of these packages, each with a name
module _ {A : Type 0} (f : ℕ → A → List (List ℕ)) (xs : List A) (i : ℕ) (x : A) (l : i < length xs) (is : x ≡ get_or xs i x)
    (p : ℕ) (name : List ℕ) (told : (k : ℕ) → f k x ≡ one_of p name k) (front : ℕ → List (List ℕ)) where
  more : (k : ℕ) → (front k ++ flat_map (f k) (take i xs)) ++ one_of p name k ≡ front k ++ flat_map (f k) (take (i + 1) xs)
  more k =
      append_assoc (front k) (flat_map (f k) (take i xs)) (one_of p name k)
      ∙ ap (λ (ns : List (List ℕ)). front k ++ ns)
      (ap (λ (ns : List (List ℕ)). flat_map (f k) (take i xs) ++ ns) (sym (told k) ∙ sym (flat_map-one (f k) x)) ∙ sym (flat_map-append (f k) (take i xs) (x ∷ [])) ∙ ap (flat_map (f k)) (sym (take-more xs i x l is)))

  pub met-more : (n : ℕ) (scopes new : List (List (List ℕ))) → p < n → AreMetInEach n (λ k. front k ++ flat_map (f k) (take i xs)) scopes → ¬ Contains (get_or scopes p []) (lowered name)
      → new ≡ set scopes p (get_or scopes p [] ++ lowered name ∷ []) → AreMetInEach n (λ k. front k ++ flat_map (f k) (take (i + 1) xs)) new
  met-more n scopes new below m fresh set_ =
      met-alike n (λ k. (front k ++ flat_map (f k) (take i xs)) ++ one_of p name k) (λ k. front k ++ flat_map (f k) (take (i + 1) xs)) new more
      (met-one n p (λ k. front k ++ flat_map (f k) (take i xs)) name scopes new below m fresh set_)

  own-name : f p x ≡ name ∷ []
  own-name = told p ∙ ap (λ (b : Bool). cond b (name ∷ []) []) (eq-eqb p p refl)

  pub refuses-met : (n : ℕ) (scopes : List (List (List ℕ))) (e : ResolveError) → p < n → AreMetInEach n (λ k. front k ++ flat_map (f k) (take i xs)) scopes
      → (e ≡ error.NoMemory) ⊎ ((e ≡ error.Duplicate name) × Contains (get_or scopes p []) (lowered name)) → RefusesNames (front p ++ flat_map (f p) xs) e
  refuses-met n scopes e below m h =
      let r = split-at xs i x l is in
      let all : flat_map (f p) xs ≡ (flat_map (f p) (take i xs) ++ name ∷ []) ++ flat_map (f p) r.0 =
      ap (flat_map (f p)) r.1 ∙ flat_map-append (f p) (take i xs ++ x ∷ []) r.0
      ∙ ap (λ (zs : List (List ℕ)). zs ++ flat_map (f p) r.0)
      (flat_map-append (f p) (take i xs) (x ∷ []) ∙ ap (λ (zs : List (List ℕ)). flat_map (f p) (take i xs) ++ zs) (flat_map-one (f p) x ∙ own-name)) in
      refuses-within (front p) (flat_map (f p) (take i xs)) name (flat_map (f p) r.0) (flat_map (f p) xs) (get_or scopes p []) e all (m.each p below) h

pub none-met : (n : ℕ) → (scopes : List (List (List ℕ))) → length scopes ≡ n → ((k : ℕ) → get_or scopes k [] ≡ []) → AreMetInEach n (λ k. []) scopes
none-met n scopes counted none = record { counted = counted; each = λ k l. met-none (get_or scopes k []) (none k) }
