-- Names that are met one after the other.
use Rattle.std.proofs.Common.{◌≡◌, ◌⊎◌, inl, inr, ℕ, zero, suc, ◌+◌, ◌<◌, ◌≤◌, refl, ◌++◌, ◌∷◌, List, [], map, flat_map, length, take, get_or, Contains, ap, sym, subst, ◌∙◌, arith, append_assoc, Result, Ok, Err, OnOk}
use Rattle.std.proofs.lemmas.List.{length-append, get_or_append_left, get_or_at, take-append-le, take_at, take_all, map-append}
use Rattle.package_form.specs.Scope.{lowered, IsMetBefore}
use Rattle.package_form.specs.Distinct.{AreMet, RefusesNames, RefusesScopes}
use Rattle.tables.specs.declared.error.ResolveError.{ResolveError}
use Rattle.tables.specs.declared.error.ResolveError.TheVariants as error
use Rattle.package_form.proofs.AllAndContains.{flat_map-append, flat_map-one, contains-left, contains-right, contains-here, contains-later}

pub met-none : (met_names : List (List ℕ)) → met_names ≡ [] → AreMet [] met_names
met-none met_names is = record { met_are = is; distinct = record { each = λ k h. absurd (omega arith) } }

met-before : (ns rest : List (List ℕ)) (k : ℕ) → k < length ns → IsMetBefore (ns ++ rest) k → IsMetBefore ns k
met-before ns rest k l h =
    subst (λ (n : List ℕ). Contains (map lowered (take k ns)) (lowered n)) (get_or_append_left ns rest [] k l)
    (subst (λ (ms : List (List ℕ)). Contains (map lowered ms) (lowered (get_or (ns ++ rest) k []))) (take-append-le k ns rest (omega arith)) h)

met-end : (ns rest : List (List ℕ)) (n : List ℕ) (k : ℕ) → k ≡ length ns → IsMetBefore (ns ++ n ∷ rest) k → Contains (map lowered ns) (lowered n)
met-end ns rest n k is h =
    subst (λ (m : List ℕ). Contains (map lowered ns) (lowered m)) (get_or_at ns n rest [] k (sym is))
    (subst (λ (ms : List (List ℕ)). Contains (map lowered ms) (lowered (get_or (ns ++ n ∷ rest) k []))) (take_at ns (n ∷ rest) k (sym is)) h)

pub below_or_at : (k n : ℕ) → k < suc n → (k < n) ⊎ (k ≡ n)
below_or_at zero zero h = inr refl
below_or_at zero (suc n) h = inl (omega arith)
below_or_at (suc k) zero h = absurd (omega arith)
below_or_at (suc k) (suc n) h = elim (below_or_at k n (omega (arith, h))) [
  | inl l ↦ inl (omega (arith, l))
  | inr e ↦ inr (ap suc e)
]

pub met-push : (ns : List (List ℕ)) (n : List ℕ) (old new : List (List ℕ)) → AreMet ns old → ¬ Contains old (lowered n) → new ≡ old ++ lowered n ∷ [] → AreMet (ns ++ n ∷ []) new
met-push ns n old new m is_new more = record {
  met_are = more ∙ ap (λ (ms : List (List ℕ)). ms ++ lowered n ∷ []) m.met_are ∙ sym (map-append lowered ns (n ∷ []));
  distinct = record {
    each = λ k h q. by k (length-append ns (n ∷ [])) h q;
  };
}
  where
    at-end : (k : ℕ) → k ≡ length ns → IsMetBefore (ns ++ n ∷ []) k → ⊥
    at-end k is q = is_new (subst (λ (ms : List (List ℕ)). Contains ms (lowered n)) (sym m.met_are) (met-end ns [] n k is q))

    by : (k : ℕ) → length (ns ++ n ∷ []) ≡ length ns + 1 → k < length (ns ++ n ∷ []) → IsMetBefore (ns ++ n ∷ []) k → ⊥
    by k len h q = elim (below_or_at k (length ns) (omega (arith, len, h))) [
      | inl l ↦ m.distinct.each k l (met-before ns (n ∷ []) k l q)
      | inr e ↦ at-end k e q
    ]

pub refuses-end : (ns : List (List ℕ)) (n : List ℕ) (old : List (List ℕ)) (e : ResolveError) → AreMet ns old
    → (e ≡ error.NoMemory) ⊎ ((e ≡ error.Duplicate n) × Contains old (lowered n)) → RefusesNames (ns ++ n ∷ []) e
refuses-end ns n old e m (inl q) = subst (RefusesNames (ns ++ n ∷ [])) (sym q) tt
refuses-end ns n old e m (inr q) =
    let k = length ns in
    let l : k < length (ns ++ n ∷ []) = omega (arith, length-append ns (n ∷ [])) in
    let at = get_or_at ns n [] [] k refl in
    let met_it : Contains (map lowered (take k (ns ++ n ∷ []))) (lowered (get_or (ns ++ n ∷ []) k [])) =
    subst (λ (m : List ℕ). Contains (map lowered (take k (ns ++ n ∷ []))) (lowered m)) (sym at)
    (subst (λ (ms : List (List ℕ)). Contains (map lowered ms) (lowered n)) (sym (take_at ns (n ∷ []) k refl))
    (subst (λ (ms : List (List ℕ)). Contains ms (lowered n)) m.met_are q.1)) in
    subst (RefusesNames (ns ++ n ∷ [])) (sym q.0) (k, l, at, met_it)

-- .. and more names behind
pub refuses-more : (ns rest : List (List ℕ)) (e : ResolveError) → RefusesNames ns e → RefusesNames (ns ++ rest) e
refuses-more ns rest (error.Duplicate n) h = (
  h.0,
  omega (arith, h.1, length-append ns rest),
  get_or_append_left ns rest [] h.0 h.1 ∙ h.2,
  subst (λ (m : List ℕ). Contains (map lowered (take h.0 (ns ++ rest))) (lowered m)) (sym (get_or_append_left ns rest [] h.0 h.1))
      (subst (λ (ms : List (List ℕ)). Contains (map lowered ms) (lowered (get_or ns h.0 []))) (sym (take-append-le h.0 ns rest (omega (arith, h.1)))) h.3),
)
refuses-more ns rest error.NoMemory h = tt
refuses-more ns rest _ h = absurd h

pub refuses-scope : (ns : List (List ℕ)) (scopes : List (List (List ℕ))) (e : ResolveError) → Contains scopes ns → RefusesNames ns e → RefusesScopes scopes e
refuses-scope ns scopes (error.Duplicate n) c h = (ns, c, h)
refuses-scope ns scopes error.NoMemory c h = tt
refuses-scope ns scopes _ c h = absurd h

pub refuses-among : (ss ts : List (List (List ℕ))) (e : ResolveError) → ((ns : List (List ℕ)) → Contains ss ns → Contains ts ns) → RefusesScopes ss e → RefusesScopes ts e
refuses-among ss ts (error.Duplicate n) f h = (h.0, f h.0 h.1, h.2)
refuses-among ss ts error.NoMemory f h = tt
refuses-among ss ts _ f h = absurd h

pub split-at : {A : Type 0} (xs : List A) (k : ℕ) (x : A) → k < length xs → x ≡ get_or xs k x → (rest : List A) × (xs ≡ (take k xs ++ x ∷ []) ++ rest)
split-at [] k x l e = absurd (omega arith)
split-at (y ∷ xs) zero x l e = (xs, ap (λ z. z ∷ xs) (sym e))
split-at (y ∷ xs) (suc k) x l e = let r = split-at xs k x (omega arith) e in (r.0, ap (λ zs. y ∷ zs) r.1)

pub take-more : {A : Type 0} (xs : List A) (k : ℕ) (x : A) → k < length xs → x ≡ get_or xs k x → take (k + 1) xs ≡ take k xs ++ x ∷ []
take-more xs k x l e = let same : k + 1 ≡ suc k = omega arith in rw same (by xs k l e)
  where
    by : {A : Type 0} {x : A} (xs : List A) (k : ℕ) → k < length xs → x ≡ get_or xs k x → take (suc k) xs ≡ take k xs ++ x ∷ []
    by [] k l e = absurd (omega arith)
    by (y ∷ xs) zero l e = ap (λ z. z ∷ []) (sym e)
    by (y ∷ xs) (suc k) l e = ap (λ zs. y ∷ zs) (by xs k (omega arith) e)

-- a list that is made of a list of things: names that are told one by one ..
module _ {A B : Type 0} (f : B → List ℕ) (g : A → B) (xs : List A) (k : ℕ) (x : A) (l : k < length xs) (is : x ≡ get_or xs k x) where
  pub names-split : (rest : List (List ℕ)) × (map f (map g xs) ≡ (map f (map g (take k xs)) ++ f (g x) ∷ []) ++ rest)
  names-split =
      let r = split-at xs k x l is in (
        map f (map g r.0),
        ap (λ zs. map f (map g zs)) r.1
            ∙ ap (map f) (map-append g (take k xs ++ x ∷ []) r.0) ∙ map-append f (map g (take k xs ++ x ∷ [])) (map g r.0)
            ∙ ap (λ zs. map f zs ++ map f (map g r.0)) (map-append g (take k xs) (x ∷ []))
            ∙ ap (λ zs. zs ++ map f (map g r.0)) (map-append f (map g (take k xs)) (g x ∷ [])),
      )

  pub refuses-at : (old : List (List ℕ)) (e : ResolveError) → AreMet (map f (map g (take k xs))) old
      → (e ≡ error.NoMemory) ⊎ ((e ≡ error.Duplicate (f (g x))) × Contains old (lowered (f (g x)))) → RefusesNames (map f (map g xs)) e
  refuses-at old e m q =
      let r = names-split in
      subst (λ (ns : List (List ℕ)). RefusesNames ns e) (sym r.1) (refuses-more _ r.0 e (refuses-end _ (f (g x)) old e m q))

-- .. or several at once
module _ {A B C : Type 0} (f : B → List C) (g : A → B) (xs : List A) (k : ℕ) (x : A) (l : k < length xs) (is : x ≡ get_or xs k x) where
  pub parts-split : (rest : List C) × (flat_map f (map g xs) ≡ (flat_map f (map g (take k xs)) ++ f (g x)) ++ rest)
  parts-split =
      let r = split-at xs k x l is in (
        flat_map f (map g r.0),
        ap (λ zs. flat_map f (map g zs)) r.1
            ∙ ap (flat_map f) (map-append g (take k xs ++ x ∷ []) r.0) ∙ flat_map-append f (map g (take k xs ++ x ∷ [])) (map g r.0)
            ∙ ap (λ zs. flat_map f zs ++ flat_map f (map g r.0)) (map-append g (take k xs) (x ∷ []))
            ∙ ap (λ zs. zs ++ flat_map f (map g r.0)) (flat_map-append f (map g (take k xs)) (g x ∷ []) ∙ ap (λ zs. flat_map f (map g (take k xs)) ++ zs) (flat_map-one f (g x))),
      )

  pub part-contained : (y : C) → Contains (f (g x)) y → Contains (flat_map f (map g xs)) y
  part-contained y c =
      let r = parts-split in
      subst (λ zs. Contains zs y) (sym r.1) (contains-left _ r.0 y (contains-right (flat_map f (map g (take k xs))) (f (g x)) y c))

pub all-taken : {A : Type 0} (P : List A → Type 0) (xs : List A) (k : ℕ) → length xs ≤ k → P (take k xs) → P xs
all-taken P xs k l h = subst P (take_all k xs l) h

pub on-ok : {T E : Type 0} (r : Result T E) (P : Type 0) → P → OnOk r P
on-ok (Ok x) P p = p
on-ok (Err e) P p = tt

pub refuses-within : (ns front : List (List ℕ)) (n : List ℕ) (rest all old : List (List ℕ)) (e : ResolveError) → all ≡ (front ++ n ∷ []) ++ rest → AreMet (ns ++ front) old
    → (e ≡ error.NoMemory) ⊎ ((e ≡ error.Duplicate n) × Contains old (lowered n)) → RefusesNames (ns ++ all) e
refuses-within ns front n rest all old e is m q =
    let same : ((ns ++ front) ++ n ∷ []) ++ rest ≡ ns ++ all =
    ap (λ (zs : List (List ℕ)). zs ++ rest) (append_assoc ns front (n ∷ [])) ∙ append_assoc ns (front ++ n ∷ []) rest ∙ ap (λ (zs : List (List ℕ)). ns ++ zs) (sym is) in
    subst (λ (zs : List (List ℕ)). RefusesNames zs e) same (refuses-more ((ns ++ front) ++ n ∷ []) rest e (refuses-end (ns ++ front) n old e m q))

-- the names of an item, or the scopes in it
pub refuses-item : {A B : Type 0} (f : B → List (List ℕ)) (h : B → List (List (List ℕ))) (g : A → B) (xs : List A) (k : ℕ) (x : A) → k < length xs → x ≡ get_or xs k x
    → (old : List (List ℕ)) (e : ResolveError) → AreMet (flat_map f (map g (take k xs))) old
    → ((ns : List (List ℕ)) → AreMet ns old → RefusesNames (ns ++ f (g x)) e ⊎ RefusesScopes (h (g x)) e)
    → RefusesScopes (flat_map f (map g xs) ∷ flat_map h (map g xs)) e
refuses-item f h g xs k x l is old e m q = elim (q (flat_map f (map g (take k xs))) m) [
  | inl r ↦
      let s = parts-split f g xs k x l is in
      refuses-scope (flat_map f (map g xs)) (flat_map f (map g xs) ∷ flat_map h (map g xs)) e (contains-here (flat_map f (map g xs)) (flat_map h (map g xs)))
      (subst (λ (zs : List (List ℕ)). RefusesNames zs e) (sym s.1) (refuses-more (flat_map f (map g (take k xs)) ++ f (g x)) s.0 e r))
  | inr r ↦ refuses-among (h (g x)) (flat_map f (map g xs) ∷ flat_map h (map g xs)) e (λ ns c. contains-later (flat_map f (map g xs)) ns (flat_map h (map g xs)) (part-contained h g xs k x l is ns c)) r
]
