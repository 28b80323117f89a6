-- Names of one scope that are met one after the other.
use Rattle.std.proofs.Common.{◌≡◌, ◌⊎◌, ℕ, ◌+◌, ◌<◌, ◌++◌, ◌∷◌, List, [], map, flat_map, length, take, drop, get_or, Contains, ap, sym, subst, ◌∙◌, Result, Ok, Err, OnOk, IfErr}
use Rattle.std.proofs.lemmas.List.{map-append, drop_more}
use Rattle.tables.specs.declared.error.ResolveError.{ResolveError}
use Rattle.tables.specs.declared.error.ResolveError.TheVariants as error
use Rattle.tables.specs.declared.tables.Definition.{Definition}
use Rattle.package_form.specs.Scope.{lowered}
use Rattle.package_form.specs.Distinct.{AreMet, RefusesNames, RefusesScopes}
use Rattle.package_form.proofs.AllAndContains.{flat_map-append, flat_map-one, contains-here, contains-later, contains-map, contains-at}
use Rattle.package_form.proofs.NamesMetOneByOne.{split-at, take-more, met-push, refuses-end, refuses-more, refuses-scope}
use Rattle.package_form.specs.Naming.{row_names, row_members, rows_scopes}

module _ {A : Type 0} (f : A → List ℕ) (xs : List A) (k : ℕ) (x : A) (l : k < length xs) (is : x ≡ get_or xs k x) where
  pub refuses-named : (old : List (List ℕ)) (e : ResolveError) → AreMet (map f (take k xs)) old
      → (e ≡ error.NoMemory) ⊎ ((e ≡ error.Duplicate (f x)) × Contains old (lowered (f x))) → RefusesNames (map f xs) e
  refuses-named old e m q =
      let r = split-at xs k x l is in
      let split : map f xs ≡ (map f (take k xs) ++ f x ∷ []) ++ map f r.0 =
      ap (map f) r.1 ∙ map-append f (take k xs ++ x ∷ []) r.0 ∙ ap (λ (zs : List (List ℕ)). zs ++ map f r.0) (map-append f (take k xs) (x ∷ [])) in
      subst (λ (ns : List (List ℕ)). RefusesNames ns e) (sym split) (refuses-more _ (map f r.0) e (refuses-end _ (f x) old e m q))

pub item-dropped : {A : Type 0} (xs : List A) (k : ℕ) (x : A) → k < length xs → x ≡ get_or xs k x → drop k xs ≡ x ∷ drop (k + 1) xs
item-dropped xs k x l is = drop_more xs k x l ∙ ap (λ y. y ∷ drop (k + 1) xs) (sym is)

-- ---- a name that may be met

pub on-met : {T : Type 0} (r : Result T ResolveError) (old new names : List (List ℕ)) (n : List ℕ) → names ≡ n ∷ []
    → OnOk r (¬ Contains old (lowered n)) → OnOk r (new ≡ old ++ lowered n ∷ [])
    → OnOk r ((ns : List (List ℕ)) → AreMet ns old → AreMet (ns ++ names) new)
on-met (Ok x) old new names n is p q = λ ns h. subst (λ (ms : List (List ℕ)). AreMet (ns ++ ms) new) (sym is) (met-push ns n old new h p q)
on-met (Err e) old new names n is p q = tt

pub if-refused : {T : Type 0} (r : Result T ResolveError) (old names : List (List ℕ)) (n : List ℕ) → names ≡ n ∷ []
    → IfErr r (λ e. (e ≡ error.NoMemory) ⊎ ((e ≡ error.Duplicate n) × Contains old (lowered n)))
    → IfErr r (λ e. (ns : List (List ℕ)) → AreMet ns old → RefusesNames (ns ++ names) e)
if-refused (Ok x) old names n is p = tt
if-refused (Err e) old names n is p = λ ns h. subst (λ (ms : List (List ℕ)). RefusesNames (ns ++ ms) e) (sym is) (refuses-end ns n old e h p)

-- ---- the rows of an interface

module _ (ds : List Definition) (k : ℕ) (d : Definition) (l : k < length ds) (is : d ≡ get_or ds k d) where
  pub names-more : flat_map row_names (take (k + 1) ds) ≡ flat_map row_names (take k ds) ++ row_names d
  names-more = ap (flat_map row_names) (take-more ds k d l is) ∙ flat_map-append row_names (take k ds) (d ∷ [])
      ∙ ap (λ (zs : List (List ℕ)). flat_map row_names (take k ds) ++ zs) (flat_map-one row_names d)

  pub refuses-row-name : (e : ResolveError) → RefusesNames (flat_map row_names (take k ds) ++ row_names d) e → RefusesScopes (rows_scopes ds) e
  refuses-row-name e h =
      let r = split-at ds k d l is in
      let split : flat_map row_names ds ≡ (flat_map row_names (take k ds) ++ row_names d) ++ flat_map row_names r.0 =
      ap (flat_map row_names) r.1 ∙ flat_map-append row_names (take k ds ++ d ∷ []) r.0
      ∙ ap (λ (zs : List (List ℕ)). zs ++ flat_map row_names r.0) (flat_map-append row_names (take k ds) (d ∷ []) ∙ ap (λ (zs : List (List ℕ)). flat_map row_names (take k ds) ++ zs) (flat_map-one row_names d)) in
      refuses-scope (flat_map row_names ds) (rows_scopes ds) e (contains-here (flat_map row_names ds) (map row_members ds))
      (subst (λ (ns : List (List ℕ)). RefusesNames ns e) (sym split) (refuses-more _ (flat_map row_names r.0) e h))

  pub refuses-row-members : (e : ResolveError) → RefusesNames (row_members d) e → RefusesScopes (rows_scopes ds) e
  refuses-row-members e h =
      refuses-scope (row_members d) (rows_scopes ds) e
      (contains-later (flat_map row_names ds) (row_members d) (map row_members ds) (contains-map row_members ds d (contains-at ds k d l is))) h
