-- The places of names, as a map tells them.
use Rattle.std.proofs.Common.{◌≡◌, ℕ, zero, suc, ◌<◌, ◌≤◌, All, Bool, true, false, cond, if◌then◌else◌, List, [], ◌∷◌, ◌++◌, map, length, take, get_or, Contains, Option, Some, None, IfSome, IfNone, is_some, refl, ap, sym, subst, arith, ◌∙◌, true≢false}
use Rattle.std.specs.Map.{lookup}
use Rattle.indexmap.specs.IndexMap.{insert_entry}
use Rattle.std.proofs.lemmas.List.{map-append, length-map, length-take}
use Rattle.std.specs.Option.{option_map}
use Rattle.std.specs.Str.{bytes_eq}
use Rattle.std.proofs.lemmas.Slice.Eq.{bytes_eq-Decides}
use Rattle.tree_meaning.specs.Resolves.{place_of}
use Rattle.tree_meaning.specs.Knowing.{TellsPlaces}
use Rattle.package_form.proofs.NamesMetOneByOne.{split-at}
use Rattle.package_form.specs.Scoped.{NameEntry, mapped_entry}
use Rattle.tables.specs.declared.tables.TypeId.{TypeId}
use Rattle.package_form.proofs.AllAndContains.{all-at, contains-here, contains-later, contains-map}
use Rattle.tree_meaning.proofs.NamesFoundInLists.{same-bytes}

abbrev first_of : {A : Type 0} → Option A → Option A → Option A
first_of None o = o
first_of (Some x) o = Some x

first-none : {A : Type 0} (o : Option A) → first_of o None ≡ o
first-none None = refl
first-none (Some x) = refl

lookup-end : {K : Type 0} (test : K → Bool) (es : List (K × ℕ)) (k : K) (p : ℕ) → lookup test (es ++ (k, p) ∷ []) ≡ first_of (lookup test es) (cond (test k) (Some p) None)
lookup-end test [] k p = refl
lookup-end test (e ∷ es) k p = by (test e.0) (lookup-end test es k p)
  where
    by : (b : Bool) → lookup test (es ++ (k, p) ∷ []) ≡ first_of (lookup test es) (cond (test k) (Some p) None)
        → cond b (Some e.1) (lookup test (es ++ (k, p) ∷ [])) ≡ first_of (cond b (Some e.1) (lookup test es)) (cond (test k) (Some p) None)
    by true h = refl
    by false h = h

later : (o : Option ℕ) (b : Bool) (k : ℕ) → option_map suc (first_of o (cond b (Some k) None)) ≡ first_of (option_map suc o) (cond b (Some (suc k)) None)
later None true k = refl
later None false k = refl
later (Some j) b k = refl

place-end : (ns : List (List ℕ)) (x n : List ℕ) → place_of (ns ++ x ∷ []) n ≡ first_of (place_of ns n) (cond (bytes_eq x n) (Some (length ns)) None)
place-end [] x n = refl
place-end (m ∷ ns) x n = by (bytes_eq m n) (ap (option_map suc) (place-end ns x n) ∙ later (place_of ns n) (bytes_eq x n) (length ns))
  where
    by : (b : Bool) → option_map suc (place_of (ns ++ x ∷ []) n) ≡ first_of (option_map suc (place_of ns n)) (cond (bytes_eq x n) (Some (suc (length ns))) None)
        → cond b (Some 0) (option_map suc (place_of (ns ++ x ∷ []) n)) ≡ first_of (cond b (Some 0) (option_map suc (place_of ns n))) (cond (bytes_eq x n) (Some (suc (length ns))) None)
    by true h = refl
    by false h = h

-- ---- a name that is looked for from the front

pub not-yet : (ns : List (List ℕ)) (x n : List ℕ) → place_of ns n ≡ None → bytes_eq x n ≡ false → place_of (ns ++ x ∷ []) n ≡ None
not-yet ns x n none other =
    place-end ns x n ∙ ap (λ (o : Option ℕ). first_of o (cond (bytes_eq x n) (Some (length ns)) None)) none ∙ ap (λ (b : Bool). cond b (Some (length ns)) None) other

first-here : (ns : List (List ℕ)) (x n : List ℕ) → place_of ns n ≡ None → bytes_eq x n ≡ true → place_of (ns ++ x ∷ []) n ≡ Some (length ns)
first-here ns x n none same =
    place-end ns x n ∙ ap (λ (o : Option ℕ). first_of o (cond (bytes_eq x n) (Some (length ns)) None)) none ∙ ap (λ (b : Bool). cond b (Some (length ns)) None) same

place-front : (ns ms : List (List ℕ)) (n : List ℕ) (j : ℕ) → place_of ns n ≡ Some j → place_of (ns ++ ms) n ≡ Some j
place-front [] ms n j e = absurd (cc)
place-front (m ∷ ns) ms n j e = by (bytes_eq m n) e (λ i q. place-front ns ms n i q)
  where
    after : (o : Option ℕ) → place_of ns n ≡ o → option_map suc o ≡ Some j → ((i : ℕ) → place_of ns n ≡ Some i → place_of (ns ++ ms) n ≡ Some i) → option_map suc (place_of (ns ++ ms) n) ≡ Some j
    after None q r rest = absurd (cc)
    after (Some i) q r rest = ap (option_map suc) (rest i q) ∙ r

    by : (b : Bool) → cond b (Some 0) (option_map suc (place_of ns n)) ≡ Some j → ((i : ℕ) → place_of ns n ≡ Some i → place_of (ns ++ ms) n ≡ Some i)
        → cond b (Some 0) (option_map suc (place_of (ns ++ ms) n)) ≡ Some j
    by true r rest = r
    by false r rest = after (place_of ns n) refl r rest

pub first-found : {V : Type 0} (items : V → List ℕ) (xs : List V) (n : List ℕ) (k : ℕ) (x : V) → k < length xs → x ≡ get_or xs k x → place_of (map items (take k xs)) n ≡ None → bytes_eq (items x) n ≡ true
    → place_of (map items xs) n ≡ Some k
first-found items xs n k x l is none same =
    let r = split-at xs k x l is in
    let whole : map items xs ≡ (map items (take k xs) ++ items x ∷ []) ++ map items r.0 =
    ap (map items) r.1 ∙ map-append items (take k xs ++ x ∷ []) r.0 ∙ ap (λ (ns : List (List ℕ)). ns ++ map items r.0) (map-append items (take k xs) (x ∷ [])) in
    let at : length (map items (take k xs)) ≡ k = omega (arith, l, length-map (take k xs) items, length-take k xs) in
    ap (λ (ns : List (List ℕ)). place_of ns n) whole
    ∙ place-front (map items (take k xs) ++ items x ∷ []) (map items r.0) n k (first-here (map items (take k xs)) (items x) n none same ∙ ap Some at)

bytes-same : (x : List ℕ) → bytes_eq x x ≡ true
bytes-same x = (bytes_eq-Decides x x).1 refl

bytes_eq-sym : (x y : List ℕ) → bytes_eq x y ≡ bytes_eq y x
bytes_eq-sym x y = by (bytes_eq x y) (bytes_eq y x) refl refl
  where
    by : (a b : Bool) → bytes_eq x y ≡ a → bytes_eq y x ≡ b → a ≡ b
    by true true e f = refl
    by false false e f = refl
    by true false e f = sym (ap (λ z. bytes_eq y z) (same-bytes x y e) ∙ bytes-same y) ∙ f
    by false true e f = sym e ∙ ap (λ z. bytes_eq x z) (same-bytes y x f) ∙ bytes-same x

module _ {V : Type 0} (items : V → List ℕ) where
  pub tells-none : (es : List (V × ℕ)) → es ≡ [] → TellsPlaces items es []
  tells-none es e = λ n. rw e refl

  -- a name that the entries lack
  pub tells-more : (es all : List (V × ℕ)) (ns : List (List ℕ)) (k : V) (p : ℕ) (x : List ℕ) → TellsPlaces items es ns → all ≡ es ++ (k, p) ∷ [] → items k ≡ x → p ≡ length ns
      → TellsPlaces items all (ns ++ x ∷ [])
  tells-more es all ns k p x h made same at = λ n.
      rw (made, lookup-end (λ v. bytes_eq n (items v)) es k p, place-end ns x n, h n, same, at, bytes_eq-sym n x) refl

  -- .. and one that they have
  pub tells-same : (es : List (V × ℕ)) (ns : List (List ℕ)) (x : List ℕ) → TellsPlaces items es ns → is_some (lookup (λ v. bytes_eq x (items v)) es) ≡ true
      → TellsPlaces items es (ns ++ x ∷ [])
  tells-same es ns x h there = λ n. h n ∙ sym (place-end ns x n ∙ by n (bytes_eq x n) refl)
    where
      kept : (o : Option ℕ) (b : Bool) → is_some o ≡ true → first_of o (cond b (Some (length ns)) None) ≡ o
      kept None b e = absurd (true≢false (sym e))
      kept (Some j) b e = refl

      by : (n : List ℕ) (b : Bool) → bytes_eq x n ≡ b → first_of (place_of ns n) (cond b (Some (length ns)) None) ≡ place_of ns n
      by n false e = first-none (place_of ns n)
      by n true e = kept (place_of ns n) true (ap (λ (m : List ℕ). is_some (place_of ns m)) (sym (same-bytes x n e)) ∙ ap is_some (sym (h x)) ∙ there)

pub none-there : {A : Type 0} (o : Option A) → is_some o ≡ false → o ≡ None
none-there None e = refl
none-there (Some x) e = absurd (true≢false e)

-- ---- an entry that is put back

pub restored : {V : Type 0} (eq : V → V → Bool) (es : List (V × ℕ)) (k : V) (p first : ℕ) → lookup (eq k) es ≡ Some first → insert_entry eq (insert_entry eq es k p) k first ≡ es
restored eq [] k p first h = absurd (cc)
restored eq (e ∷ es) k p first h = by (eq k e.0) refl h (restored eq es k p first)
  where
    by : (b : Bool) → eq k e.0 ≡ b → cond b (Some e.1) (lookup (eq k) es) ≡ Some first
        → (lookup (eq k) es ≡ Some first → insert_entry eq (insert_entry eq es k p) k first ≡ es)
        → insert_entry eq (if b then (e.0, p) ∷ es else e ∷ insert_entry eq es k p) k first ≡ e ∷ es
    by true q s rest = let same : e.1 ≡ first = cc in rw (q, sym same) refl
    by false q s rest = rw q (ap (λ zs. e ∷ zs) (rest s))

-- ---- a table in front of a list

pub front-tells : {T V : Type 0} (entries : T → List (V × ℕ)) (items : V → List ℕ) (ts : List T) (t : T) (ns : List (List ℕ)) (n : List ℕ) → All (λ p. TellsPlaces items (entries p) ns) ts → 1 ≤ length ts → t ≡ get_or ts 0 t
    → lookup (λ v. bytes_eq n (items v)) (entries t) ≡ place_of ns n
front-tells entries items ts t ns n h l is = all-at (λ p. TellsPlaces items (entries p) ns) ts 0 t h (omega (arith, l)) is n

-- ---- types by their names

module _ {V : Type 0} (items : V → List ℕ) where
  found-at : (e : V × TypeId) (es : List (V × TypeId)) (n : List ℕ) (id : TypeId) (b : Bool) → bytes_eq n (items e.0) ≡ b → cond b (Some e.1) (lookup (λ v. bytes_eq n (items v)) es) ≡ Some id
      → (lookup (λ v. bytes_eq n (items v)) es ≡ Some id → Contains (map (mapped_entry items) es) (record { name = n; id = id }))
      → Contains (mapped_entry items e ∷ map (mapped_entry items) es) (record { name = n; id = id })
  found-at e es n id true q h rest =
      let same : e.1 ≡ id = cc in
      let is : mapped_entry items e ≡ record { name = n; id = id } = rw (sym (same-bytes n (items e.0) q), same) refl in
      subst (Contains (mapped_entry items e ∷ map (mapped_entry items) es)) is (contains-here (mapped_entry items e) (map (mapped_entry items) es))
  found-at e es n id false q h rest = contains-later (mapped_entry items e) (record { name = n; id = id }) (map (mapped_entry items) es) (rest h)

  pub entry-found : (es : List (V × TypeId)) (n : List ℕ) (id : TypeId) → lookup (λ v. bytes_eq n (items v)) es ≡ Some id → Contains (map (mapped_entry items) es) (record { name = n; id = id })
  entry-found [] n id h = absurd (cc)
  entry-found (e ∷ es) n id h = found-at e es n id (bytes_eq n (items e.0)) refl h (λ q. entry-found es n id q)

  pub entry-missed : (es : List (V × TypeId)) (n : List ℕ) (k : ℕ) → k < length (map (λ (e : NameEntry). e.name) (map (mapped_entry items) es))
      → get_or (map (λ (e : NameEntry). e.name) (map (mapped_entry items) es)) k n ≡ n → lookup (λ v. bytes_eq n (items v)) es ≡ None → ⊥
  entry-missed [] n k l h q = omega arith
  entry-missed (e ∷ es) n zero l h q = by (bytes_eq n (items e.0)) (ap (λ z. bytes_eq n z) h ∙ bytes-same n) q
    where
      by : (b : Bool) → b ≡ true → cond b (Some e.1) (lookup (λ v. bytes_eq n (items v)) es) ≡ None → ⊥
      by true r s = cc
      by false r s = true≢false (sym r)
  entry-missed (e ∷ es) n (suc k) l h q = by (bytes_eq n (items e.0)) q (entry-missed es n k (omega (arith, l)) h)
    where
      by : (b : Bool) → cond b (Some e.1) (lookup (λ v. bytes_eq n (items v)) es) ≡ None → (lookup (λ v. bytes_eq n (items v)) es ≡ None → ⊥) → ⊥
      by true s rest = cc
      by false s rest = rest s

  pub entry-at : (es : List (V × TypeId)) (n : List ℕ) (k : ℕ) (e : V × TypeId) → k < length es → e ≡ get_or es k e → bytes_eq n (items e.0) ≡ true
      → Contains (map (mapped_entry items) es) (record { name = n; id = e.1 })
  entry-at es n k e l is q =
      let same : mapped_entry items e ≡ record { name = n; id = e.1 } = rw (sym (same-bytes n (items e.0) q)) refl in
      subst (Contains (map (mapped_entry items) es)) same (contains-map (mapped_entry items) es e (k, l, sym is))

module _ {V : Type 0} (items : V → List ℕ) (es : List (V × TypeId)) (names : List NameEntry) (view : map (mapped_entry items) es ≡ names) (n : List ℕ) where
  pub found-among : (o : Option TypeId) → o ≡ lookup (λ v. bytes_eq n (items v)) es → IfSome o (λ id. Contains names (record { name = n; id = id }))
  found-among None e = tt
  found-among (Some id) e = subst (λ (xs : List NameEntry). Contains xs (record { name = n; id = id })) view (entry-found items es n id (sym e))

  pub found-nowhere : (o : Option TypeId) → o ≡ lookup (λ v. bytes_eq n (items v)) es → IfNone o (¬ Contains (map (λ (e : NameEntry). e.name) names) n)
  found-nowhere None e = λ h.
      let c = subst (λ (xs : List NameEntry). Contains (map (λ (e : NameEntry). e.name) xs) n) (sym view) h in
      entry-missed items es n c.0 c.1 c.2 (sym e)
  found-nowhere (Some id) e = tt
