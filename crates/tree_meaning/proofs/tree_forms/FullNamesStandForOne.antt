-- The full names of a package and of its imports: each stands for one interface.
use Rattle.std.proofs.Common.{◌≡◌, ◌≢◌, ◌⊎◌, ℕ, zero, suc, ◌+◌, ◌<◌, ◌≤◌, true, List, [], ◌∷◌, ◌++◌, map, length, get_or, refl, ap, sym, ◌∙◌, arith, Contains, inl, inr, subst}
use Rattle.std.proofs.lemmas.List.{length-map, get_or-map, get_or_default, get_or_append_left, get_or_past}
use Rattle.std.proofs.lemmas.Option.{slice_get-get_or}
use Rattle.atoms.specs.Label.{is_label}
use Rattle.atoms.specs.FullName.{package_text}
use Rattle.tables.specs.PackageNames.{PackageParts, name_parts, own_name}
use Rattle.tables.specs.Names.{full_name}
use Rattle.tables.specs.Package.{interface_names as names_in}
use Rattle.tables.specs.declared.tables.Resolve.{Resolve}
use Rattle.package_form.specs.Form.{is_package_name}
use Rattle.package_form.specs.Laws.{IsLabelled}
use Rattle.package_form.proofs.AllAndContains.{all-contained, all-get}
use Rattle.package_form.proofs.InterfacesOfOnePackage.{one-full-name}
use Rattle.package_form.proofs.FullNamesStandForInterfaces.{full-name-parts}
use Rattle.tree_meaning.specs.Imports.{Import, nameless, no_import, import_at, import_of, interfaces_of, imports_of, AreApart, HasImport}
use Rattle.tree_meaning.specs.ImportForms.{AreImportsInForm}
use Rattle.tree_meaning.proofs.tree_forms.InterfaceOfEachRow.{IsPlace}
use Rattle.tree_meaning.proofs.ImportsFoundByName.{get_or-append-right, imports-length, imports-at, import-named, import-within, nowhere}

pub own-some : (p : PackageParts) (n : List ℕ) → own_name p n ≢ []
own-some p n = by p.namespace
  where
    by : (ns : List ℕ) → (ns ++ 58 ∷ package_text (name_parts p n)) ≢ []
    by [] e = absurd (cc)
    by (c ∷ ns) e = absurd (cc)

-- a place in front of b, or so many behind it
before-or : (n b : ℕ) → (n < b) ⊎ ((k : ℕ) × (n ≡ b + k))
before-or n zero = inr (n, omega arith)
before-or zero (suc b) = inl (omega arith)
before-or (suc n) (suc b) = elim (before-or n b) [
  | inl q ↦ inl (omega (arith, q))
  | inr q ↦ inr (q.0, omega (arith, q.1))
]

within-or : (n b : ℕ) → (n < b) ⊎ (b ≤ n)
within-or n b = elim (before-or n b) [
  | inl q ↦ inl q
  | inr q ↦ inr (omega (arith, q.1))
]

module _ (imports : Resolve) (form : AreImportsInForm imports) (apart : AreApart (interfaces_of imports)) where
  abbrev ks : List Import
  ks = interfaces_of imports

  counted : length ks ≡ length imports.interfaces
  counted = imports-length imports.packages imports.definitions 0 imports.interfaces

  -- the package and the label behind the full name of an import
  record ImportIs (k : ℕ) : Type 0 where
    pub there : Contains imports.packages (import_at ks k).«package»
    pub full : is_package_name (import_at ks k).«package» ≡ true
    pub label : is_label (import_at ks k).name ≡ true
    pub named : get_or (names_in imports) k [] ≡ own_name (import_at ks k).«package» (import_at ks k).name

  import-is : (k : ℕ) → k < length imports.interfaces → ImportIs k
  import-is k l =
      let x = get_or imports.interfaces k nowhere in
      let is : import_at ks k ≡ import_of imports.packages imports.definitions (0 + k) x = imports-at imports.packages imports.definitions 0 imports.interfaces k no_import nowhere l in
      let of : (import_at ks k).«package» ≡ get_or imports.packages x.«package».0 nameless = ap (λ (i : Import). i.«package») is in
      let inside = import-within imports k x l (get_or_default imports.interfaces k nowhere x l) in
      let here : Contains imports.packages (import_at ks k).«package» = (x.«package».0, inside, get_or_default imports.packages x.«package».0 _ nameless inside ∙ sym of) in
      let labelled : IsLabelled x = all-contained IsLabelled imports.interfaces x form.labels (k, l, get_or_default imports.interfaces k x nowhere l) in
      record {
        there = here;
        full = ap is_package_name of
            ∙ all-get is_package_name imports.packages x.«package».0 (get_or imports.packages x.«package».0 nameless) form.names (slice_get-get_or imports.packages x.«package».0 nameless inside);
        label = ap (λ (i : Import). is_label i.name) is ∙ labelled;
        named = import-named imports k l (import_at ks k).«package» (import_at ks k).name (record { below = omega (arith, l, counted); of = refl; named = refl });
      }

  module _ (p : PackageParts) (full : is_package_name p ≡ true) (other : ¬ Contains imports.packages p) (own : List (List ℕ)) (labels : (j : ℕ) → j < length own → is_label (get_or own j []) ≡ true)
      (once : (j k : ℕ) → j < length own → k < length own → get_or own j [] ≡ get_or own k [] → j ≡ k) where
    abbrev ns : List (List ℕ)
    ns = names_in imports ++ map (own_name p) own

    abbrev before : ℕ
    before = length imports.interfaces

    long : length (names_in imports) ≡ before
    long = length-map imports.interfaces (full_name imports)

    front-at : (n : ℕ) → n < before → get_or ns n [] ≡ own_name (import_at ks n).«package» (import_at ks n).name
    front-at n l = get_or_append_left (names_in imports) (map (own_name p) own) [] n (omega (arith, l, long)) ∙ (import-is n l).named

    behind-at : (j : ℕ) → get_or ns (before + j) [] ≡ get_or (map (own_name p) own) j []
    behind-at j = get_or-append-right (names_in imports) (map (own_name p) own) [] before j (sym long)

    own-at : (j : ℕ) → j < length own → get_or ns (before + j) [] ≡ own_name p (get_or own j [])
    own-at j l = behind-at j ∙ get_or-map (own_name p) own j [] [] l

    past-at : (j : ℕ) → length own ≤ j → get_or ns (before + j) [] ≡ []
    past-at j l = behind-at j ∙ get_or_past (map (own_name p) own) j [] (omega (arith, l, length-map own (own_name p)))

    -- no import has the name of an own interface
    never-both : (n j : ℕ) → n < before → j < length own → own_name (import_at ks n).«package» (import_at ks n).name ≡ own_name p (get_or own j []) → ⊥
    never-both n j l m e =
        let i = import-is n l in
        let same = (full-name-parts (import_at ks n).«package» p (import_at ks n).name (get_or own j []) i.full full i.label (labels j m) e).0 in
        other (subst (Contains imports.packages) same i.there)

    pub own-place : (j : ℕ) → j < length own → IsPlace ns (before + j) (own_name p (get_or own j []))
    own-place j l n e = elim (before-or n before) [
      | inl q ↦ absurd (never-both n j q l (sym (front-at n q) ∙ e))
      | inr (k, at) ↦ elim (within-or k (length own)) [
        | inl q ↦
            let same = one-full-name p (get_or own k []) (get_or own j []) (sym (own-at k q) ∙ sym (ap (λ (m : ℕ). get_or ns m []) at) ∙ e) in
            omega (arith, at, once k j q l same)
        | inr q ↦ absurd (own-some p (get_or own j []) (sym e ∙ ap (λ (m : ℕ). get_or ns m []) at ∙ past-at k q))
      ]
    ]

    pub import-place : (k : ℕ) → k < before → IsPlace ns k (own_name (import_at ks k).«package» (import_at ks k).name)
    import-place k l n e = elim (before-or n before) [
      | inl q ↦
          let a = import-is n q in
          let b = import-is k l in
          let same = full-name-parts (import_at ks n).«package» (import_at ks k).«package» (import_at ks n).name (import_at ks k).name a.full b.full a.label b.label (sym (front-at n q) ∙ e) in
          apart.each n k (omega (arith, q, counted)) (omega (arith, l, counted)) same.0 same.1
      | inr (j, at) ↦ elim (within-or j (length own)) [
        | inl q ↦ absurd (never-both k j l q (sym e ∙ ap (λ (m : ℕ). get_or ns m []) at ∙ own-at j q))
        | inr q ↦ absurd (own-some (import_at ks k).«package» (import_at ks k).name (sym e ∙ ap (λ (m : ℕ). get_or ns m []) at ∙ past-at j q))
      ]
    ]

    -- an import stands at its place
    pub imported-place : (q : PackageParts) (i : List ℕ) → HasImport (imports_of imports) q i → (k : ℕ) × (k < before) × IsPlace ns k (own_name q i)
    imported-place q i (x, c, of, named) =
        let at : import_at ks c.0 ≡ x = get_or_default ks c.0 no_import x c.1 ∙ c.2 in
        let l : c.0 < before = omega (arith, c.1, counted) in
        let is : own_name (import_at ks c.0).«package» (import_at ks c.0).name ≡ own_name q i =
        ap (λ (y : Import). own_name y.«package» y.name) at ∙ ap (λ (r : PackageParts). own_name r x.name) of ∙ ap (own_name q) named in
        (c.0, l, subst (IsPlace ns c.0) is (import-place c.0 l))
